-- What `new` and `call` write, one part after the other as the code writes them: each part's law. Assumes nothing.
use Rattle.std.specs.Prelude.{Option, None, Some, Err}
use Prim.Native.Nat.{ℕ, ◌+◌, ◌≤◌, ◌<◌}
use mathlib.Core.Bool.{true, false}
use mathlib.Core.List.{List, [], ◌∷◌, ◌++◌}
use mathlib.Core.Path.{◌≡◌, refl, sym, ap, ap₂, subst, ◌∙◌}
use native.Mathlib.Omega.{arith}
use borrow.Author.Tests.{lt-ltb, le-ltb}
use lib.IntN.{ℤ, pos, ◌+ℤ◌}
use lib.ListN.{length}
use lib.Seq.{take_at}
use mir.Syntax.{w32}
use mir.Val.{SFits, to_z, of_z}
use mir.ValLaws.{to_z_pos, to_z-of_z}
use Rattle.whole.specs.Plain.{whenever}
use Rattle.whole.specs.declared.refusals.Refusal.{Refusal}
use Rattle.whole.specs.Vocabulary.Refusing.{Answer, number_of}
use Rattle.whole.specs.Refusals.{object_rows_full, call_rows_full, callee_no_object}
use Rattle.whole.specs.Whole.{nat}
use Rattle.layout.specs.Layout.{Cells, Write, written, object, call, objects, calls, object_rows, call_rows, all_cells, most_attributes, most_locals, class, stage, padded, row_from, new_object, new_call}
use Rattle.layout.specs.Stages.{invoked, running, objects_in_use, rows_in_use, object_of}
use Rattle.layout.specs.Vocabulary.Found.{as_object}
use Rattle.layout.specs.declared.ObjectNumber.{ObjectNumber}
use Rattle.layout.proofs.Writes.{written_append}
use Rattle.layout.proofs.Rows.{unwritten, counts_objects}
use Rattle.layout.proofs.NewRows.{wrote_new_object}
use Rattle.terms.specs.declared.Variable.{Variable}
use Rattle.model.specs.Model.{Model}
use Rattle.cells.specs.Standing.{Standing}
use Rattle.rules.specs.Exec.{stored, next_object, next_row, object_left, row_left, class_runs, with_object, with_call, onward, assigned, made, created, issued}
use Rattle.rules.specs.Next.{Next, refused, moved, must}
use Rattle.forms.specs.Vocabulary.Done.{Done}
use Rattle.forms.proofs.Written.{not_performed, assigned_then, done_with}

-- what a rule gives, in other words
pub same_done : (c : Cells) (n k : Next) (r : Answer) (e : Cells) → n ≡ k → Done c k r e → Done c n r e
same_done c n k r e h = subst (λ n. Done c n r e) (sym h)

-- a rule that refuses
pub refused_done : (c : Cells) (n : Next) (k : Refusal) → n ≡ refused (number_of k) → Done c n (Err k) c
refused_done c n k e = same_done c n (refused (number_of k)) (Err k) c e (not_performed c k)

-- values of the full number are padded
pub padded_whole : (n : ℕ) (vs : List ℤ) → length vs ≡ n → vs ≡ padded n vs
unfolding padded
padded_whole n vs h = sym (take_at vs _ n h)

-- the number after a count, as the code stores it
module _ (n : ℕ) (few : n < 256) where
  pub number_fits : SFits w32 (to_z w32 n +ℤ pos 1)
  number_fits = rw (to_z_pos w32 n (omega arith)) (record { sfits = omega arith })

  pub number_after : (k : ℕ) → n ≡ k → to_z w32 (of_z w32 (to_z w32 n +ℤ pos 1)) ≡ pos (k + 1)
  number_after k e = to_z-of_z w32 _ number_fits ∙ ap (◌+ℤ pos 1) (to_z_pos w32 n (omega arith)) ∙ ap (λ n. pos (n + 1)) e

-- the object that was found, by what the code's enum says of it
object_in : Option ObjectNumber → ℕ
object_in (Some o) = o.0
object_in None = 0

pub object_some : (f : Option ℕ) (o : ObjectNumber) → as_object f ≡ Some o → f ≡ Some o.0
unfolding as_object
object_some None o e = cc
object_some (Some n) o e = ap Some (unfold object_in in ap object_in e)

pub object_none : (f : Option ℕ) → as_object f ≡ None → f ≡ None
unfolding as_object
object_none None e = refl
object_none (Some n) e = cc

-- some writes, and after them a value stored and the next line
pub assigned_after : (m : Model) (c d : Cells) (o l : ℕ) (st : Standing) (ws : List Write) (x : Variable) (y z : ℤ) (r : Answer) (e : Cells)
    → d ≡ written c ws → y ≡ z → Done d (assigned m d o l st x y) r e → Done c (moved (ws ++ stored c o l x z ++ onward m c o l st)) r e
assigned_after m c d o l st ws x y z r e f h done =
    assigned_then c d e ws f m o l st r x z (done_with d e (assigned m d o l st x) r y z h done)

-- the count of objects and the row of the next one
pub object_added : (c d e : Cells) (k l n : ℕ) (vs zs : List ℤ) → n ≡ objects_in_use c + 1 → vs ≡ padded most_attributes zs
    → d ≡ written c ((objects, pos n) ∷ []) → e ≡ written d (row_from (object n) class (pos k ∷ pos l ∷ vs)) → e ≡ written c (with_object c k l zs)
unfolding with_object new_object next_object written
object_added c d e k l n vs zs h v f g = rw (g, f, h, v)

-- the count of calls and the row of the next one
pub call_added : (c d e : Cells) (s by to j a n : ℕ) (vs zs : List ℤ) → n ≡ rows_in_use c + 1 → vs ≡ padded most_locals zs → a ≡ length zs
    → d ≡ written c ((calls, pos n) ∷ [])
    → e ≡ written d (row_from (call n) stage (pos s ∷ pos by ∷ pos to ∷ pos j ∷ pos a ∷ pos 0 ∷ pos 0 ∷ pos 0 ∷ vs))
    → e ≡ written c (with_call c s by to j zs)
unfolding with_call new_call next_row written
call_added c d e s by to j a n vs zs h v w f g = rw (g, f, h, v, w)

-- a new object leaves the calls as many as they were
pub rows_kept : (c : Cells) (k l : ℕ) (zs : List ℤ) → length c ≡ all_cells → objects_in_use c < object_rows
    → rows_in_use (written c (with_object c k l zs)) ≡ rows_in_use c
unfolding with_object next_object written rows_in_use
rows_kept c k l zs full left =
    let n = objects_in_use c + 1 in
    let a = counts_objects c c _ _ 1 n _ _ (unwritten c 1 n full) (pos n) in
    ap nat (wrote_new_object c _ _ _ 1 n _ _ a (omega arith) (omega arith) k l zs).calls

-- an object of a class that runs, and the call that runs there
call_same : (c d : Cells) (s by to j : ℕ) (zs : List ℤ) → rows_in_use d ≡ rows_in_use c → with_call d s by to j zs ≡ with_call c s by to j zs
unfolding with_call next_row
call_same c d s by to j zs h = ap (λ n. (calls, pos (n + 1)) ∷ new_call (n + 1) s by to j zs) h

module _ (m : Model) (c : Cells) (o l : ℕ) (st : Standing) (k : ℕ) (zs : List ℤ) where
  pub running_made : (d e : Cells) → class_runs m k ≡ true → rows_in_use d ≡ rows_in_use c
      → d ≡ written c (with_object c k (next_row c) zs) → e ≡ written d (with_call d running 0 (next_object c) 0 []) → e ≡ written c (made m c o l st k zs)
  unfolding made
  running_made d e runs same f g =
      rw (runs, made) (g ∙ ap₂ written f (call_same c d running 0 (next_object c) 0 [] same) ∙ sym (written_append c (with_object c k (next_row c) zs) _))

  pub idle_made : (d : Cells) → class_runs m k ≡ false → d ≡ written c (with_object c k 0 zs) → d ≡ written c (made m c o l st k zs)
  unfolding made
  idle_made d runs f = rw (runs, made) f

  -- what `new` gives: no row for the object, no row for its call, or both made
  pub no_object_row : (x : Variable) → object_rows ≤ objects_in_use c → created m c o l st x k zs ≡ refused object_rows_full
  unfolding created must object_left
  no_object_row x h = rw (le-ltb (objects_in_use c) object_rows h, created, must)

  pub no_call_row : (x : Variable) → objects_in_use c < object_rows → class_runs m k ≡ true → call_rows ≤ rows_in_use c → created m c o l st x k zs ≡ refused call_rows_full
  unfolding created must object_left row_left
  no_call_row x h runs full = rw (lt-ltb (objects_in_use c) object_rows h, runs, le-ltb (rows_in_use c) call_rows full)

  pub created_done : (x : Variable) (d : Cells) (y : ℤ) (r : Answer) (e : Cells) → objects_in_use c < object_rows → whenever (class_runs m k) (row_left c) ≡ true
      → d ≡ written c (made m c o l st k zs) → y ≡ pos (objects_in_use c + 1) → Done d (assigned m d o l st x y) r e → Done c (created m c o l st x k zs) r e
  unfolding created must object_left next_object
  created_done x d y r e h left f number done =
      rw (lt-ltb (objects_in_use c) object_rows h, left) (assigned_after m c d o l st (made m c o l st k zs) x y _ r e f number done)

-- what `call` gives: no callee, no row, or the call issued
module _ (m : Model) (c : Cells) (o l : ℕ) (st : Standing) (x : Variable) (z : ℤ) (j : ℕ) (zs : List ℤ) where
  pub no_callee : object_of c z ≡ None → issued m c o l st x z j zs ≡ refused callee_no_object
  unfolding issued
  no_callee h = rw (h, issued)

  module _ (to : ℕ) (is : object_of c z ≡ Some to) where
    pub no_row : call_rows ≤ rows_in_use c → issued m c o l st x z j zs ≡ refused call_rows_full
    unfolding issued must row_left
    no_row full = rw (is, issued, le-ltb (rows_in_use c) call_rows full)

    pub issued_done : (d : Cells) (y : ℤ) (r : Answer) (e : Cells) → rows_in_use c < call_rows → d ≡ written c (with_call c invoked o to j zs)
        → y ≡ pos (rows_in_use c + 1) → Done d (assigned m d o l st x y) r e → Done c (issued m c o l st x z j zs) r e
    unfolding issued must row_left next_row
    issued_done d y r e left f number done =
        rw (is, issued, lt-ltb (rows_in_use c) call_rows left) (assigned_after m c d o l st (with_call c invoked o to j zs) x y _ r e f number done)
