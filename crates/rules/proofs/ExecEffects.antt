-- What an accepted exec does to the calls, form by form: the running call's line or stage is another. Assumes nothing.
use Rattle.std.specs.Prelude.{Option, None, Some}
use Prim.Native.Nat.{ℕ, ◌+◌, ◌≤◌, ◌<◌}
use mathlib.Core.Bool.{Bool, true, false, false≢true}
use mathlib.Core.List.{List, [], ◌++◌, map}
use mathlib.Core.Path.{◌≡◌, refl, sym, ap, subst, ◌∙◌}
use mathlib.Core.Logic.{◌≢◌}
use native.Mathlib.Omega.{arith}
use lib.IntN.{ℤ, pos}
use lib.ListN.{length, get_or, length-map}
use Rattle.whole.specs.Refusals.{object_rows_full, call_rows_full, callee_no_object, reply_not_in}
use Rattle.whole.specs.Plain.{whenever}
use Rattle.whole.specs.Whole.{is_true, nat}
use Rattle.layout.specs.Layout.{Cells, Write, written, call_rows, of_call, to_object, to_call, running_label, stage, line, cleared, value}
use Rattle.layout.specs.Stages.{invoked, bound, running, replied, taken, rows_in_use, object_of, reply_for, staged}
use Rattle.terms.specs.declared.Variable.{Variable}
use Rattle.terms.specs.Values.{held, value_of, guard_of}
use Rattle.code.specs.declared.Shape.{Shape}
use Rattle.code.specs.declared.Shape.TheVariants as Shape
use Rattle.code.specs.Blocks.{Block, until_else, until_fi, until_od, shape_of, opening, closing, through_all}
use Rattle.code.specs.Partners.{ahead, goes_from, goes_to}
use Rattle.code.specs.Statements.{Code, skip, set, new, call, get, await, if, else, fi, while, od, return, map_statement}
use Rattle.code.proofs.Jumps.{partner_ahead, partner_behind}
use Rattle.layout.proofs.Writes.{Fields}
use Rattle.model.specs.Accepted.{AcceptedModel}
use Rattle.model.specs.Model.{Model}
use Rattle.model.proofs.AcceptedAt.{method_accepted}
use Rattle.cells.specs.Standing.{shapes_of}
use Rattle.whole.proofs.Tested.{nat_of}
use Rattle.cells.proofs.FromTest.{stage_is}
use Rattle.rules.specs.Exec.{stored, next_row, next_object, object_left, row_left, class_runs, with_object, with_call, here, worked_out, onward, jumped, assigned, made, created, issued, took_reply, freed, crossed, suspended, awaited, branched, stage_returned, returned, performed}
use Rattle.rules.specs.declared.Kind.TheVariants as Kind
use Rattle.rules.specs.Next.{refused, moved, must}
use Rattle.rules.proofs.Effects.{Moves}
use Rattle.rules.proofs.Executing.{item_inside, item_made}
use Rattle.rules.proofs.Leaving.{stage_after}
use Rattle.rules.proofs.Messaging.{writes_are, label_row}
use Rattle.rules.proofs.Moved.{refused_moved, must_moved, working_moved, all_moved}
use Rattle.rules.proofs.Performing.{Performing, standing}
use Rattle.rules.proofs.Replying.{reply_is}
use Rattle.layout.proofs.Sparing.{Spares, spared, spares_both, spares_call, spares_stage, spares_object, last_in_row, other_in_row, spared_after}
use Rattle.rules.proofs.Spared.{spares_stored, spares_new_object, spares_new_call}

-- a line that goes elsewhere than to the next one, or may
abbrev turns : Shape → Bool
turns Shape.If = true
turns Shape.Else = true
turns Shape.While = true
turns Shape.Od = true
turns Shape.Fi = false
turns Shape.Return = false
turns Shape.Await = false
turns Shape.Plain = false

-- it goes to another line
jump_moves : (ls : List Shape) → through_all ls [] ≡ Some [] → (i : ℕ) → i < length ls → (s : Shape) → get_or ls i Shape.Plain ≡ s → turns s ≡ true → goes_to ls i ≢ i
unfolding goes_to goes_from opening closing
jump_moves ls closes i inside s e t f = go s e t (ap (λ s. goes_from s ls i) (sym e) ∙ f)
  where
    over : (b : Block) → opening (get_or ls i Shape.Plain) ≡ Some b → ahead ls i + 1 ≡ i → ⊥
    over b e f = let h = (partner_ahead ls closes i inside b e).0 in omega arith

    go : (s : Shape) → get_or ls i Shape.Plain ≡ s → turns s ≡ true → goes_from s ls i ≡ i → ⊥
    go Shape.If e t f = over until_else (ap opening e) f
    go Shape.Else e t f = over until_fi (ap opening e) f
    go Shape.While e t f = over until_od (ap opening e) f
    go Shape.Od e t f = let h = partner_behind ls closes i inside until_od (ap closing e) in omega arith
    go Shape.Fi e t f = false≢true t
    go Shape.Return e t f = false≢true t
    go Shape.Await e t f = false≢true t
    go Shape.Plain e t f = false≢true t

module _ (m : Model) (accepted : AcceptedModel m) (c : Cells) (o l : ℕ) (p : Performing m c o l) where
  -- writes that spare every other call, save one in stage 6
  abbrev SparesOthers : List Write → Type 0
  SparesOthers ws = (l' : ℕ) → l' ≤ rows_in_use c → l' ≢ l → nat (of_call c l' stage) ≢ replied → Spares ws l'

  few : l ≤ call_rows
  few = label_row m c p.conf l p.call.0 p.call.1

  -- the running call moves
  moves : (ws : List Write) → (of_call (written c ws) l stage ≡ of_call c l stage → of_call (written c ws) l line ≡ of_call c l line → ⊥) → SparesOthers ws
      → Moves c (written c ws) Kind.Exec o l
  moves ws changes spare =
      record {
        low = p.call.0;
        high = p.call.1;
        before = nat_of p.stage;
        number = sym (nat_of p.callee);
        changes = changes;
        others = λ l' h n w. spared c ws l' (spare l' h n w);
      }

  -- by its line, written last
  by_line : (us : List Write) (j : ℕ) → j ≢ nat (of_call c l line) → SparesOthers us → Moves c (written c (us ++ to_call c l line (pos j))) Kind.Exec o l
  by_line us j n spare =
      moves _ (λ f g. n (sym (nat_of (last_in_row c p.conf.length l p.call.0 few c us line (pos j) (omega arith))) ∙ ap nat g))
      (λ l' h k w. spares_both us _ l' (spare l' h k w) (spares_call l' c l line (pos j) k))

  by_onward : (us : List Write) → SparesOthers us → Moves c (written c (us ++ onward m c o l (standing p))) Kind.Exec o l
  unfolding onward
  by_onward us spare = by_line us _ (λ e. omega arith) spare

  by_jump : (s : Shape) → shape_of p.bound.stands.statement ≡ s → turns s ≡ true → Moves c (written c (jumped m c o l (standing p))) Kind.Exec o l
  unfolding jumped shapes_of
  by_jump s e t =
      let a = p.bound.stands in
      let i = nat (of_call c l line) in
      let blocks = (method_accepted accepted _ a.class a.exists.there _ a.body a.has).blocks in
      let ls = map shape_of a.body.code in
      let inside : i < length ls = let h = item_inside a.body.code i a.statement a.inside in let n = length-map a.body.code shape_of in omega arith in
      by_line [] _ (jump_moves ls blocks.close i inside s (item_made shape_of Shape.Plain a.body.code i a.statement a.inside ∙ e) t) (λ l' h k w. tt)

  -- by its stage
  suspended_moves : Moves c (written c (suspended m c o l (standing p))) Kind.Exec o l
  unfolding suspended staged freed
  suspended_moves =
      let first = staged c l bound in
      let second = to_call c l cleared (pos 1) in
      let last = to_object o running_label (pos 0) in
      let low = p.call.0 in
      let full = p.conf.length in
      let three : of_call (written c (first ++ second ++ last)) l stage ≡ pos bound =
      ap (λ (row : Fields). row stage) (spared_after c full l low few (first ++ second) last (spares_object l o running_label (pos 0)))
      ∙ other_in_row c full l low few c first cleared stage (pos 1) (omega arith) (λ e. omega arith)
      ∙ last_in_row c full l low few c [] stage (pos bound) (omega arith) in
      moves _ (λ f g. let x = nat_of three in let y = ap nat f in let z = nat_of p.stage in omega arith)
      (λ l' h k w. spares_both (first ++ second) last l'
      (spares_both first second l' (spares_stage l' c l bound k) (spares_call l' c l cleared (pos 1) k)) (spares_object l' o running_label (pos 0)))

  returned_moves : (z : ℤ) → Moves c (written c (to_call c l value z ++ staged c l (stage_returned m c o l (standing p)) ++ freed m c o l (standing p))) Kind.Exec o l
  unfolding staged freed
  returned_moves z =
      let t = stage_returned m c o l (standing p) in
      let first = to_call c l value z in
      let second = staged c l t in
      let last = to_object o running_label (pos 0) in
      let low = p.call.0 in
      let full = p.conf.length in
      let after = (stage_after m c o l p (standing p)).0 in
      let stage_is : of_call (written c (first ++ second ++ last)) l stage ≡ pos t =
      ap (λ (row : Fields). row stage) (spared_after c full l low few (first ++ second) last (spares_object l o running_label (pos 0)))
      ∙ last_in_row c full l low few c first stage (pos t) (omega arith) in
      moves _ (λ f g. let x = nat_of stage_is in let y = ap nat f in let z = nat_of p.stage in omega arith)
      (λ l' h k w. spares_both (first ++ second) last l'
      (spares_both first second l' (spares_call l' c l value z k) (spares_stage l' c l t k)) (spares_object l' o running_label (pos 0)))

  -- what was moved was written
  module _ (ws : List Write) where
    wrote : (vs : List Write) → moved vs ≡ moved ws → Moves c (written c vs) Kind.Exec o l → Moves c (written c ws) Kind.Exec o l
    wrote vs e h = subst (λ ws. Moves c (written c ws) Kind.Exec o l) (writes_are e) h

    -- a first part that spares the others, a variable, and the next line
    by_stored : (us : List Write) (x : Variable) (z : ℤ) → moved (us ++ stored c o l x z ++ onward m c o l (standing p)) ≡ moved ws → SparesOthers us
        → Moves c (written c ws) Kind.Exec o l
    by_stored us x z e spare =
        wrote _ e (by_onward (us ++ stored c o l x z) (λ l' h n w. spares_both us _ l' (spare l' h n w) (spares_stored l' c o l x z n)))

    new_moves : (x : Variable) (k : ℕ) (zs : List ℤ) → created m c o l (standing p) x k zs ≡ moved ws → Moves c (written c ws) Kind.Exec o l
    unfolding created made next_row
    new_moves x k zs e =
        let (left, f) = must_moved (object_left c) object_rows_full _ ws e in
        let (left-calls, g) = must_moved (whenever (class_runs m k) (row_left c)) call_rows_full _ ws f in
        by_stored (made m c o l (standing p) k zs) x _ g (λ l' h n w. go l' h (class_runs m k))
      where
        go : (l' : ℕ) → l' ≤ rows_in_use c → (b : Bool) → Spares (elim b as (λ _. List Write) [
          | true ↦ with_object c k (next_row c) zs ++ with_call c running 0 (next_object c) 0 []
          | false ↦ with_object c k 0 zs
        ]) l'
        go l' h true =
            spares_both (with_object c k (next_row c) zs) _ l' (spares_new_object l' c k (next_row c) zs)
            (spares_new_call l' c running 0 (next_object c) 0 [] (λ e. omega arith))
        go l' h false = spares_new_object l' c k 0 zs

    call_moves : (x : Variable) (z : ℤ) (j : ℕ) (zs : List ℤ) → issued m c o l (standing p) x z j zs ≡ moved ws → Moves c (written c ws) Kind.Exec o l
    unfolding issued next_row
    call_moves x z j zs e = go (object_of c z) e
      where
        go : (f : Option ℕ) → (elim f [
          | None ↦ refused callee_no_object
          | Some to ↦ must (row_left c) call_rows_full (moved (with_call c invoked o to j zs ++ stored c o l x (pos (next_row c)) ++ onward m c o l (standing p)))
        ]) ≡ moved ws → Moves c (written c ws) Kind.Exec o l
        go None e = absurd (refused_moved e)
        go (Some to) e =
            let (left, g) = must_moved (row_left c) call_rows_full _ ws e in
            by_stored (with_call c invoked o to j zs) x _ g (λ l' h n w. spares_new_call l' c invoked o to j zs (λ e. omega arith))

    get_moves : (x y : Variable) → took_reply m c o l (standing p) x y ≡ moved ws → Moves c (written c ws) Kind.Exec o l
    unfolding took_reply
    get_moves x y e = go (reply_for c o (held (here c o l) x)) refl e
      where
        go : (f : Option ℕ) → reply_for c o (held (here c o l) x) ≡ f → (elim f [
          | None ↦ refused reply_not_in
          | Some from ↦ moved (staged c from taken ++ stored c o l y (of_call c from value) ++ onward m c o l (standing p))
        ]) ≡ moved ws → Moves c (written c ws) Kind.Exec o l
        go None f e = absurd (refused_moved e)
        go (Some from) f e =
            let six = nat_of (stage_is m c from replied (reply_is c o _ from f).2) in
            by_stored (staged c from taken) y _ e (λ l' h n w. spares_stage l' c from taken (λ s. w (ap (λ l. nat (of_call c l stage)) s ∙ six)))

    branch_moves : (s : Shape) → shape_of p.bound.stands.statement ≡ s → turns s ≡ true → (z : ℤ) → branched m c o l (standing p) z ≡ moved ws
        → Moves c (written c ws) Kind.Exec o l
    unfolding branched
    branch_moves s e t z f = go (is_true z) f
      where
        go : (b : Bool) → (elim b [ true ↦ moved (onward m c o l (standing p)) | false ↦ moved (jumped m c o l (standing p)) ]) ≡ moved ws
            → Moves c (written c ws) Kind.Exec o l
        go true f = wrote _ f (by_onward [] (λ l' h n w. tt))
        go false f = wrote _ f (by_jump s e t)

    await_moves : (z : ℤ) → awaited m c o l (standing p) z ≡ moved ws → Moves c (written c ws) Kind.Exec o l
    unfolding awaited crossed
    await_moves z f = go (is_true z) f
      where
        go : (b : Bool) → (elim b [ true ↦ moved (crossed m c o l (standing p)) | false ↦ moved (suspended m c o l (standing p)) ]) ≡ moved ws
            → Moves c (written c ws) Kind.Exec o l
        go true f = wrote _ f (by_onward (to_call c l cleared (pos 0)) (λ l' h n w. spares_call l' c l cleared (pos 0) n))
        go false f = wrote _ f suspended_moves

    -- a line performed, by its form
    pub performed_moves : (s : Code) → p.bound.stands.statement ≡ s → performed m c o l (standing p) (worked_out (here c o l) s) ≡ moved ws
        → Moves c (written c ws) Kind.Exec o l
    unfolding performed worked_out map_statement shape_of assigned returned
    performed_moves skip e f = wrote _ f (by_onward [] (λ l' h n w. tt))
    performed_moves (set x a) e f =
        let (z, w, g) = working_moved (value_of (here c o l) a) (assigned m c o l (standing p) x) ws f in
        by_stored [] x z g (λ l' h n w. tt)
    performed_moves (new x k es) e f =
        let (zs, n, g) = all_moved (map (value_of (here c o l)) es) (created m c o l (standing p) x k) ws f in
        new_moves x k zs g
    performed_moves (call x a j es) e f =
        let (z, w, g) = working_moved (value_of (here c o l) a) _ ws f in
        let (zs, n, h) = all_moved (map (value_of (here c o l)) es) (issued m c o l (standing p) x z j) ws g in
        call_moves x z j zs h
    performed_moves (get x y) e f = get_moves x y f
    performed_moves (await g) e f =
        let (z, w, h) = working_moved (guard_of (here c o l) g) (awaited m c o l (standing p)) ws f in
        await_moves z h
    performed_moves (if a) e f =
        let (z, w, h) = working_moved (value_of (here c o l) a) (branched m c o l (standing p)) ws f in
        branch_moves _ (ap shape_of e) refl z h
    performed_moves else e f = wrote _ f (by_jump _ (ap shape_of e) refl)
    performed_moves fi e f = wrote _ f (by_onward [] (λ l' h n w. tt))
    performed_moves (while a) e f =
        let (z, w, h) = working_moved (value_of (here c o l) a) (branched m c o l (standing p)) ws f in
        branch_moves _ (ap shape_of e) refl z h
    performed_moves od e f = wrote _ f (by_jump _ (ap shape_of e) refl)
    performed_moves (return a) e f =
        let (z, w, h) = working_moved (value_of (here c o l) a) (returned m c o l (standing p)) ws f in
        wrote _ h (returned_moves z)
