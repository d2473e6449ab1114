-- What a step writes reads back: a new call's row, a new object's running label, a stored variable, a line, and the stage of the call that moves.
-- Assumes nothing.
use Prim.Native.Nat.{ℕ, ◌+◌, ◌≤◌, ◌<◌}
use mathlib.Core.Bool.{Bool, true, false}
use mathlib.Core.List.{List, [], ◌++◌}
use mathlib.Core.Path.{◌≡◌, refl, ap, ◌∙◌}
use native.Mathlib.Omega.{arith}
use borrow.Author.Tests.{ltb-true}
use lib.Dec.{leb, eqb}
use lib.IntN.{ℤ, pos}
use lib.ListN.{length}
use Rattle.whole.specs.Whole.{nat}
use Rattle.layout.specs.Layout.{Cells, Place, header, object, call, all_cells, object_rows, call_rows, call_cells, most_attributes, most_locals, read, Write, written, objects, calls, of_object, to_object, of_call, to_call, running_label, attribute, stage, caller, callee, method, args, line, local}
use Rattle.layout.specs.Stages.{rows_in_use, objects_in_use, stage_of}
use Rattle.terms.specs.declared.Variable.{Variable}
use Rattle.terms.specs.declared.Variable.TheVariants.{Attribute, Local}
use Rattle.terms.specs.Values.{held}
use Rattle.model.specs.Model.{Model}
use Rattle.cells.specs.Standing.{Standing}
use Rattle.layout.proofs.Writes.{Fields, put_same, written_append}
use Rattle.layout.proofs.NewRows.{object_values, call_values, wrote_new_object, wrote_new_call}
use Rattle.layout.proofs.Rows.{Rows, unwritten, valued, counts_objects, counts_calls, wrote_call, wrote_object}
use Rattle.rules.specs.Exec.{here, stored, next_object, next_row, object_left, row_left, with_object, with_call, onward}
use Rattle.layout.proofs.Sparing.{last_in_row, other_in_row}
use Rattle.promises.proofs.Spared.{scratch, own_field}
use Rattle.promises.proofs.Untouched.{AtOnly, untouched, field_kept}

-- places other than stages
unfoldable pub unstaged : Place → Bool
unstaged (header i) = true
unstaged (object o f) = true
unstaged (call r f) = leb 1 f

-- places other than values
unfoldable pub valueless : Place → Bool
valueless (header i) = true
valueless (object o f) = true
valueless (call r f) = eqb f stage

-- a variable that a row has
abbrev pub Fits : Variable → Type 0
Fits (Attribute i) = i < most_attributes
Fits (Local i) = i < most_locals

-- the next object, where a row of objects is left
pub object_rows_lem : (c : Cells) → length c ≡ all_cells → object_left c ≡ true → (r k l : ℕ) (zs : List ℤ)
    → Rows c (written c (with_object c k l zs)) (pos (next_object c)) (read c calls) r (next_object c) (of_call c r) (valued (object_values k l zs))
unfolding with_object next_object object_left written
object_rows_lem c long left r k l zs =
    let o = objects_in_use c + 1 in
    wrote_new_object c _ _ _ r o _ _ (counts_objects c c _ _ r o _ _ (unwritten c r o long) (pos o))
    (omega arith) (omega (arith, ltb-true (objects_in_use c) object_rows left)) k l zs

-- the next call, where a row of calls is left, in cells that already hold something else of the step
pub call_rows_lem : (c d : Cells) → length d ≡ all_cells → row_left c ≡ true → (o st by to j : ℕ) (zs : List ℤ)
    → Rows d (written d (with_call c st by to j zs)) (read d objects) (pos (next_row c)) (next_row c) o (valued (call_values st by to j zs)) (of_object d o)
unfolding with_call next_row row_left written
call_rows_lem c d long left o st by to j zs =
    let r = rows_in_use c + 1 in
    wrote_new_call d _ _ _ r o _ _ (counts_calls d d _ _ r o _ _ (unwritten d r o long) (pos r))
    (omega arith) (omega (arith, ltb-true (rows_in_use c) call_rows left)) st by to j zs

-- the row of a new call
pub record NewCall (d : Cells) (r st by to j n : ℕ) : Type 0 where
  pub stage_is : stage_of d r ≡ pos st
  pub caller_is : of_call d r caller ≡ pos by
  pub callee_is : of_call d r callee ≡ pos to
  pub method_is : of_call d r method ≡ pos j
  pub args_is : of_call d r args ≡ pos n

module _ (c d : Cells) (long : length d ≡ all_cells) (left : row_left c ≡ true) (st by to j : ℕ) (zs : List ℤ)
    (tail : List Write) (only : AtOnly scratch tail) where
  -- each of its fields that no line changes
  field_new : (f : ℕ) → own_field f ≡ false
      → of_call (written (written d (with_call c st by to j zs)) tail) (next_row c) f ≡ valued (call_values st by to j zs) f
  unfolding scratch
  field_new f own =
      field_kept scratch (written d (with_call c st by to j zs)) tail (next_row c) f only own
      ∙ ap (λ (row : Fields). row f) (call_rows_lem c d long left 0 st by to j zs).call

  -- so the whole of what is asked of it
  pub new_call_lem : NewCall (written (written d (with_call c st by to j zs)) tail) (next_row c) st by to j (length zs)
  unfolding stage_of own_field
  new_call_lem = record {
    stage_is = field_new stage refl;
    caller_is = field_new caller refl;
    callee_is = field_new callee refl;
    method_is = field_new method refl;
    args_is = field_new args refl;
  }

-- a new object that runs a new call, behind what its maker stores
module _ (c : Cells) (long : length c ≡ all_cells) (left : object_left c ≡ true) (left-calls : row_left c ≡ true) (k l st by to j : ℕ) (zs : List ℤ)
    (tail : List Write) (only : AtOnly scratch tail) where
  -- the object
  first : Rows c (written c (with_object c k l zs)) (pos (next_object c)) (read c calls) 0 (next_object c) (of_call c 0) (valued (object_values k l zs))
  first = object_rows_lem c long left 0 k l zs

  -- and behind it the call
  second : (let d = written c (with_object c k l zs) in
      Rows d (written d (with_call c st by to j [])) (read d objects) (pos (next_row c)) (next_row c) (next_object c) (valued (call_values st by to j [])) (of_object d (next_object c)))
  second = call_rows_lem c (written c (with_object c k l zs)) first.length left-calls (next_object c) st by to j []

  -- the count is the new object
  pub new_count : objects_in_use (written (written (written c (with_object c k l zs)) (with_call c st by to j [])) tail) ≡ next_object c
  unfolding objects_in_use scratch nat
  new_count = ap nat (untouched scratch _ tail objects only refl ∙ second.objects ∙ first.objects)

  -- and the new object runs its call
  pub new_running : of_object (written (written (written c (with_object c k l zs)) (with_call c st by to j [])) tail) (next_object c) running_label ≡ pos l
  unfolding of_object scratch
  new_running =
      untouched scratch _ tail (object (next_object c) running_label) only refl ∙ ap (λ (row : Fields). row running_label) (second.object ∙ first.object)

-- a variable that a line stores, and the line that it goes on to
module _ (m : Model) (c : Cells) (o l : ℕ) (at : Standing) (e : Cells) (long : length e ≡ all_cells) (low : 1 ≤ l) (high : l ≤ call_rows) where
  -- the line after
  pub line_reads : (ws : List Write) → of_call (written e (ws ++ onward m c o l at)) l line ≡ pos (at.at + 1)
  unfolding onward
  line_reads ws = last_in_row e long l low high c ws line (pos (at.at + 1)) (omega arith)

  -- the variable
  pub stored_reads : 1 ≤ o → o ≤ object_rows → (x : Variable) → Fits x → (z : ℤ) → held (here (written e (stored c o l x z ++ onward m c o l at)) o l) x ≡ z
  unfolding held here stored onward
  stored_reads first last (Attribute i) h z =
      let a = wrote_object e e _ _ l o _ _ (unwritten e l o long) (attribute i) z first last (omega arith) in
      let b = wrote_call e _ _ _ l o _ _ a c line (pos (at.at + 1)) low high (omega arith) in
      ap (λ d. of_object d o (attribute i)) (written_append e (to_object o (attribute i) z) (to_call c l line (pos (at.at + 1))))
      ∙ ap (λ (row : Fields). row (attribute i)) b.object
      ∙ put_same (attribute i) z (of_object e o)
  stored_reads first last (Local i) h z =
      other_in_row e long l low high c (to_call c l (local i) z) line (local i) (pos (at.at + 1)) (omega arith) (λ s. omega arith)
      ∙ last_in_row e long l low high c [] (local i) z (omega arith)

-- a field of a call, last written in some writes, and behind them other places alone
pub field_reads : (c e : Cells) → length e ≡ all_cells → (l : ℕ) → 1 ≤ l → l ≤ call_rows → (us : List Write) (f : ℕ) (z : ℤ) → f < call_cells
    → (sort : Place → Bool) (tail : List Write) → AtOnly sort tail → sort (call l f) ≡ false → of_call (written e ((us ++ to_call c l f z) ++ tail)) l f ≡ z
field_reads c e long l low high us f z h sort tail only free =
    ap (λ d. of_call d l f) (written_append e (us ++ to_call c l f z) tail)
    ∙ field_kept sort (written e (us ++ to_call c l f z)) tail l f only free
    ∙ last_in_row e long l low high c us f z h
