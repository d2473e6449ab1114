-- exec keeps a configuration, form by form. Assumes nothing.
use Rattle.std.specs.Prelude.{Option, None, Some, slice_get}
use Prim.Native.Nat.{ℕ, zero, suc, ◌+◌, ◌≤◌, ◌<◌}
use mathlib.Core.Bool.{Bool, true, false, true≢false}
use mathlib.Core.List.{List, [], ◌∷◌, ◌++◌, map}
use mathlib.Core.Path.{◌≡◌, refl, sym, ap, subst, ◌∙◌}
use mathlib.Core.Logic.{◌≢◌}
use native.Mathlib.Omega.{arith}
use borrow.Author.Tests.{ltb-true}
use lib.IntN.{ℤ, pos}
use lib.ListN.{length, get_or}
use Rattle.whole.specs.Plain.{whenever}
use Rattle.whole.specs.Refusals.{object_rows_full, call_rows_full, callee_no_object, reply_not_in}
use Rattle.whole.specs.Whole.{nat, is_true}
use Rattle.layout.specs.Layout.{Cells, Write, written, most_attributes, most_locals, object_rows, call_rows, of_call, line, cleared, value}
use Rattle.layout.specs.Stages.{invoked, running, taken, objects_in_use, rows_in_use, object_of, reply_for, staged}
use Rattle.terms.specs.declared.Variable.{Variable}
use Rattle.terms.specs.Values.{held}
use Rattle.terms.specs.Within.{VariableWithin}
use Rattle.code.specs.declared.Shape.{Shape}
use Rattle.code.specs.declared.Shape.TheVariants as Shape
use Rattle.code.specs.Blocks.{shape_of, shape_number}
use Rattle.code.specs.Partners.{goes_to}
use Rattle.code.specs.Reader.{last_method}
use Rattle.code.specs.Statements.{Code}
use Rattle.code.specs.Within.{CodeWithin}
use Rattle.model.specs.Accepted.{AcceptedModel}
use Rattle.model.specs.Bounds.{most_params}
use Rattle.model.specs.Model.{Model, Class, runs}
use Rattle.model.proofs.AcceptedAt.{class_accepted, method_accepted, line_accepted, jump_inside, onward_inside}
use Rattle.cells.specs.Standing.{shapes_of}
use Rattle.whole.proofs.Tested.{no_some}
use Rattle.cells.proofs.Facts.{Configured}
use Rattle.cells.proofs.CallFromTest.{counted_is}
use Rattle.cells.proofs.FromTest.{up_to_number}
use Rattle.cells.proofs.Rewritten.{call_at}
use Rattle.layout.proofs.Writes.{written_append}
use Rattle.rules.specs.Exec.{stored, next_object, next_row, object_left, row_left, class_runs, with_object, with_call, here, onward, jumped, made, created, issued, took_reply, crossed, suspended, freed, awaited, branched}
use Rattle.rules.specs.Next.{refused, moved, must}
use Rattle.rules.proofs.Adding.{object_added, both_added, call_added}
use Rattle.rules.proofs.Leaving.{suspend_keeps}
use Rattle.rules.proofs.Messaging.{writes_are}
use Rattle.rules.proofs.Moved.{refused_moved, must_moved}
use Rattle.rules.proofs.Replying.{reply_taken}
use Rattle.rules.proofs.Performing.{Performing, standing, Still, line_goes, stored_goes, still, cleared_goes}

-- an item lies within its list, and what is made of it stands there
pub item_inside : {A : Type 0} (xs : List A) (i : ℕ) (x : A) → slice_get xs i ≡ Some x → i < length xs
item_inside [] i x e = absurd (no_some e)
item_inside (y ∷ xs) zero x e = omega arith
item_inside (y ∷ xs) (suc i) x e = let h = item_inside xs i x e in omega arith

pub item_made : {A B : Type 0} (f : A → B) (d : B) (xs : List A) (i : ℕ) (x : A) → slice_get xs i ≡ Some x → get_or (map f xs) i d ≡ f x
item_made f d [] i x e = absurd (no_some e)
item_made f d (y ∷ xs) zero x e = let s : y ≡ x = cc in ap f s
item_made f d (y ∷ xs) (suc i) x e = item_made f d xs i x e

-- three parts of writes, the first by itself
pub parts : (c : Cells) (us vs ws : List Write) → written c (us ++ vs ++ ws) ≡ written (written c us) (vs ++ ws)
parts c us vs ws =
    written_append c (us ++ vs) ws ∙ ap (λ d. written d ws) (written_append c us vs) ∙ sym (written_append (written c us) vs ws)

-- a line at which a call may leave its object
abbrev pub leaves : Shape → Bool
leaves Shape.Return = true
leaves Shape.Await = true
leaves Shape.If = false
leaves Shape.Else = false
leaves Shape.Fi = false
leaves Shape.While = false
leaves Shape.Od = false
leaves Shape.Plain = false

module _ (m : Model) (accepted : AcceptedModel m) (c : Cells) (o l : ℕ) (p : Performing m c o l) where
  abbrev pub st : Code
  st = p.bound.stands.statement

  abbrev pub i : ℕ
  i = nat (of_call c l line)

  -- the line, the method and the class are as an accepted text says
  pub within : CodeWithin (record { attrs = p.bound.stands.class.attrs; locals = p.bound.stands.body.locals }) (length m) st
  within = let a = p.bound.stands in line_accepted accepted _ a.class a.exists.there _ a.body a.has _ a.statement a.inside

  pub few_attrs : p.bound.stands.class.attrs ≤ most_attributes
  few_attrs = let a = p.bound.stands in (class_accepted accepted _ a.class a.exists.there).attrs

  pub few_locals : p.bound.stands.body.locals ≤ most_locals
  few_locals = let a = p.bound.stands in (method_accepted accepted _ a.class a.exists.there _ a.body a.has).locals.1

  -- a line that is no `return` has a next one
  pub next_inside : shape_of st ≢ Shape.Return → i + 1 < length p.bound.stands.body.code
  next_inside n =
      let a = p.bound.stands in
      onward_inside accepted _ a.class a.exists.there _ a.body a.has _ (item_inside a.body.code i a.statement a.inside)
      (λ e. n (sym (item_made shape_of Shape.Plain a.body.code i a.statement a.inside) ∙ e))

  -- a line of a block goes to one of the method's
  goes_inside : goes_to (shapes_of p.bound.stands.body) i < length p.bound.stands.body.code
  unfolding shapes_of
  goes_inside = let a = p.bound.stands in jump_inside accepted _ a.class a.exists.there _ a.body a.has _ (item_inside a.body.code i a.statement a.inside)

  -- cleared is 0 at a line that is no `await`
  pub clear : shape_of st ≢ Shape.Await → of_call c l cleared ≡ pos 0
  clear n =
      let w = (call_at m c l o p.conf p.call.0 p.call.1 p.callee).cleared in
      let h : nat (of_call c l cleared) ≢ 1 = λ e. n (p.bound.cleared e).1 in
      counted_is _ 0 w.counts (omega arith)

  -- a line that is neither
  pub plain_shape : (s : Shape) → shape_of st ≡ s → leaves s ≡ false → (shape_of st ≢ Shape.Return) × (shape_of st ≢ Shape.Await)
  plain_shape s e n = (λ f. true≢false (ap leaves (sym f ∙ e) ∙ n), λ f. true≢false (ap leaves (sym f ∙ e) ∙ n))

  -- after a first part of the writes, a variable and the next line; and the next line alone, or another
  module _ (d : Cells) (s : Still m c d o l) (plain : (shape_of st ≢ Shape.Return) × (shape_of st ≢ Shape.Await)) where
    pub stores : (x : Variable) (z : ℤ) → VariableWithin (record { attrs = p.bound.stands.class.attrs; locals = p.bound.stands.body.locals }) x
        → Configured m (written d (stored c o l x z ++ onward m c o l (standing p)))
    unfolding onward
    stores x z v = stored_goes m c o l p d s (i + 1) (next_inside plain.0) (clear plain.1) c x z v few_attrs few_locals

    pub steps : Configured m (written d (onward m c o l (standing p)))
    unfolding onward
    steps = line_goes m c o l p d s (i + 1) (next_inside plain.0) (clear plain.1) c

    pub jumps : Configured m (written d (jumped m c o l (standing p)))
    unfolding jumped
    jumps = line_goes m c o l p d s _ goes_inside (clear plain.1) c

  -- what was moved was written
  module _ (ws : List Write) where
    pub wrote : (vs : List Write) → moved vs ≡ moved ws → Configured m (written c vs) → Configured m (written c ws)
    wrote vs e h = subst (λ ws. Configured m (written c ws)) (writes_are e) h

    -- a first part, then a variable and the next line
    wrote_first : (us : List Write) (x : Variable) (z : ℤ) → moved (us ++ stored c o l x z ++ onward m c o l (standing p)) ≡ moved ws
        → Still m c (written c us) o l → (shape_of st ≢ Shape.Return) × (shape_of st ≢ Shape.Await)
        → VariableWithin (record { attrs = p.bound.stands.class.attrs; locals = p.bound.stands.body.locals }) x → Configured m (written c ws)
    wrote_first us x z e s plain v =
        wrote _ e (subst (Configured m) (sym (parts c us (stored c o l x z) (onward m c o l (standing p)))) (stores _ s plain x z v))

    -- "`new` makes the next object .. and stores its number in X. Where the class has run 1 it also issues the next label"
    pub new_keeps : (x : Variable) (k : ℕ) (zs : List ℤ) (kind : Class) → slice_get m k ≡ Some kind → length zs ≤ kind.attrs
        → (shape_of st ≢ Shape.Return) × (shape_of st ≢ Shape.Await)
        → VariableWithin (record { attrs = p.bound.stands.class.attrs; locals = p.bound.stands.body.locals }) x
        → created m c o l (standing p) x k zs ≡ moved ws → Configured m (written c ws)
    unfolding created made object_left row_left class_runs next_row next_object
    new_keeps x k zs kind there few plain v e =
        let (left, f) = must_moved (object_left c) object_rows_full _ ws e in
        let (left-calls, g) = must_moved (whenever (class_runs m k) (row_left c)) call_rows_full _ ws f in
        go (class_runs m k) refl (ltb-true (objects_in_use c) object_rows left) left-calls g
      where
        run_is : class_runs m k ≡ runs kind
        run_is = rw (there, class_runs)

        go : (b : Bool) → class_runs m k ≡ b → objects_in_use c < object_rows → whenever b (row_left c) ≡ true
            → moved ((elim b [
              | true ↦ with_object c k (next_row c) zs ++ with_call c running 0 (next_object c) 0 []
              | false ↦ with_object c k 0 zs
            ]) ++ stored c o l x (pos (next_object c)) ++ onward m c o l (standing p)) ≡ moved ws → Configured m (written c ws)
        go true f left left-calls e =
            wrote_first _ x _ e (both_added m c o l p accepted k zs kind there (sym run_is ∙ f) few left (ltb-true (rows_in_use c) call_rows left-calls)) plain v
        go false f left left-calls e = wrote_first _ x _ e (object_added m c o l p k zs kind there few left) plain v

    -- "`call` issues the next label: caller this object, callee the value of E, method J, arguments in v0 on, stage 1. X gets the label."
    pub call_keeps : (x : Variable) (z : ℤ) (j : ℕ) (zs : List ℤ) → j ≤ last_method → length zs ≤ most_params
        → (shape_of st ≢ Shape.Return) × (shape_of st ≢ Shape.Await)
        → VariableWithin (record { attrs = p.bound.stands.class.attrs; locals = p.bound.stands.body.locals }) x
        → issued m c o l (standing p) x z j zs ≡ moved ws → Configured m (written c ws)
    unfolding issued object_of row_left
    call_keeps x z j zs known few plain v e = go (object_of c z) refl e
      where
        go : (f : Option ℕ) → object_of c z ≡ f
            → (elim f [
              | None ↦ refused callee_no_object
              | Some to ↦ must (row_left c) call_rows_full (moved (with_call c invoked o to j zs ++ stored c o l x (pos (next_row c)) ++ onward m c o l (standing p)))
            ]) ≡ moved ws → Configured m (written c ws)
        go None f e = absurd (refused_moved e)
        go (Some to) f e =
            let (n, s) = up_to_number (objects_in_use c) z to f in
            let (left, g) = must_moved (row_left c) call_rows_full _ ws e in
            wrote_first _ x _ g (call_added m c o l p to j zs (omega arith) (omega arith) known few (ltb-true (rows_in_use c) call_rows left)) plain v

    -- "`get`: if X's value is a label of stage 6 whose caller is this object, Y gets its value and it goes to stage 7."
    pub get_keeps : (x y : Variable) → (shape_of st ≢ Shape.Return) × (shape_of st ≢ Shape.Await)
        → VariableWithin (record { attrs = p.bound.stands.class.attrs; locals = p.bound.stands.body.locals }) y
        → took_reply m c o l (standing p) x y ≡ moved ws → Configured m (written c ws)
    unfolding took_reply
    get_keeps x y plain v e = go (reply_for c o (held (here c o l) x)) refl e
      where
        go : (f : Option ℕ) → reply_for c o (held (here c o l) x) ≡ f
            → (elim f [
              | None ↦ refused reply_not_in
              | Some from ↦ moved (staged c from taken ++ stored c o l y (of_call c from value) ++ onward m c o l (standing p))
            ]) ≡ moved ws → Configured m (written c ws)
        go None f e = absurd (refused_moved e)
        go (Some from) f e = wrote_first _ y _ e (reply_taken m c o l p _ from f) plain v

    -- a branch goes on or jumps
    pub branch_keeps : (z : ℤ) → (shape_of st ≢ Shape.Return) × (shape_of st ≢ Shape.Await)
        → branched m c o l (standing p) z ≡ moved ws → Configured m (written c ws)
    unfolding branched
    branch_keeps z plain e = go (is_true z) e
      where
        go : (b : Bool) → (elim b [ true ↦ moved (onward m c o l (standing p)) | false ↦ moved (jumped m c o l (standing p)) ]) ≡ moved ws
            → Configured m (written c ws)
        go true e = wrote _ e (steps c (still p) plain)
        go false e = wrote _ e (jumps c (still p) plain)

    -- "`await`: guard enabled, go on and set cleared 0. Otherwise stage 3, cleared 1, object idle, line kept."
    pub await_keeps : (z : ℤ) → shape_of st ≡ Shape.Await → awaited m c o l (standing p) z ≡ moved ws → Configured m (written c ws)
    unfolding awaited crossed suspended freed onward shape_number
    await_keeps z e f = go (is_true z) f
      where
        no_return : shape_of st ≢ Shape.Return
        no_return g = let n = ap shape_number (sym e ∙ g) in omega arith

        go : (b : Bool) → (elim b [ true ↦ moved (crossed m c o l (standing p)) | false ↦ moved (suspended m c o l (standing p)) ]) ≡ moved ws
            → Configured m (written c ws)
        go true f = wrote _ f (cleared_goes m c o l p c (still p) _ (next_inside no_return) c)
        go false f = wrote _ f (suspend_keeps m c o l p e)
