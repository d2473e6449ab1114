-- `model::code_lines::code_line`: where the value stands, and what its row leaves.
use Prim.Native.Nat.{◌+◌, ◌-◌, ◌≤◌, ◌<◌}
use mathlib.Core.Bool.{true}
use mathlib.Core.Path.{◌≡◌, refl, ap, subst, ◌∙◌}
use native.Mathlib.Omega.{arith}
use borrow.Author.Rules.{rules}
use lib.ListN.{length, drop, length-take, length-drop}
use Rattle.std.proofs.Common.{Ok, Err}
use Rattle.terms.specs.Bytes.{bytes}
use Rattle.text.specs.InOrder.{right}
use Rattle.text.specs.Lines.{plain_byte, plain_bytes, longest_line}
use Rattle.text.specs.Vocabulary.Readings.{Tells}
use Rattle.text.proofs.KeyLines.{value_stands, value_refused, value_read, value_placed}
use Rattle.model.specs.ModelText.{code_line}
use Rattle.model.specs.Vocabulary.Standing.{CodeSaid}
use Rattle.model.specs.Vocabulary.Table.{Sized}
use Rattle.model.proofs.CodeRows.{line_taken, line_left}
use Rattle.whole.proofs.Tested.{passed_on}
use Rattle.model.proofs.Passing.{kept, refused}
use Rattle.model.proofs.code_lines.code_line.Goals as goal
use Rattle.model.proofs.code_lines.code_line.Goals.{In_ok-place}

-- the key is plain
code_plain : plain_bytes (bytes "code=") ≡ true
unfolding plain_byte plain_bytes
code_plain = refl

-- the value that was found
found : (c : In_ok-place) → c.key_line.result ≡ Ok (c.in_ok-place.place, c.in_ok-place.end)
found c = kept _ _ _ c.map_err.ensures.cases _ c.in_ok-place.was

stands : (c : In_ok-place) → (c.args.at.place ≤ c.in_ok-place.place) × (c.in_ok-place.place ≤ c.in_ok-place.end) × (c.in_ok-place.end < length c.args.text.now) × (c.in_ok-place.end ≤ c.args.at.place + longest_line)
stands c = value_stands c.args.text.now _ c.args.at (λ _ v. right v) code_plain _ c.key_line.ensures _ _ (found c)

pub slice_bounds-code_value-count : goal.slice_bounds-code_value-count
slice_bounds-code_value-count c = (stands (goal.at.slice_bounds-code_value-count c).In_ok-place).1

pub slice_bounds-code_value-start : goal.slice_bounds-code_value-start
slice_bounds-code_value-start c = let h = stands (goal.at.slice_bounds-code_value-start c).In_ok-place in search rules

pub slice_bounds-code_value-end : goal.slice_bounds-code_value-end
slice_bounds-code_value-end c = let h = stands (goal.at.slice_bounds-code_value-end c).In_ok-place in search rules

pub code_value-requires-clause-value_len_bound : goal.code_value-requires-clause-value_len_bound
code_value-requires-clause-value_len_bound c =
    let h = stands (goal.at.code_value-requires-clause-value_len_bound c).In_ok-place in
    omega (arith, h, length-take (c.in_ok-place.end - c.in_ok-place.place) (drop c.in_ok-place.place c.args.text.now), length-drop c.in_ok-place.place c.args.text.now)

pub overflow_sub-row : goal.overflow_sub-row
overflow_sub-row c = (stands (goal.at.overflow_sub-row c).In_ok-place).1

pub overflow_cast-row : goal.overflow_cast-row
overflow_cast-row c = record { fits = omega (arith, stands (goal.at.overflow_cast-row c).In_ok-place, c.requires.placed) }

pub put-requires-clause-small : goal.put-requires-clause-small
put-requires-clause-small c =
    let h = stands (goal.at.put-requires-clause-small c).In_ok-place in
    let q = c.requires.placed in
    (omega (arith, h, q), omega (arith, h, q), omega (arith, q), search rules)

pub overflow_add-next : goal.overflow_add-next
overflow_add-next c = record { fits = omega (arith, stands (goal.at.overflow_add-next c).In_ok-place, c.requires.placed) }

pub returns-in_err-stated : goal.returns-in_err-stated
unfolding Tells code_line CodeSaid
returns-in_err-stated c total bs e =
    let r = refused _ _ _ c.map_err-2.ensures.cases _ c.in_err-stated.was in
    let made : c.in_err-stated.field-0.0 ≡ record { refusal = r.0; at = c.args.at } = let h = r.2 in search rules in
    let wrong = passed_on c.from_residual-in_err-stated.ensures.1 ∙ ap Err made in
    rw wrong (value_refused _ _ c.args.at _ code_plain _ c.key_line.ensures _ _ (found (goal.at.returns-in_err-stated c).In_ok-place) _
    (subst (CodeSaid _ _ _ bs) r.1 (c.code_value.ensures bs e) c.args.at.line total _))

pub returns : goal.returns
unfolding Tells code_line CodeSaid
returns c total bs e =
    let a = c.args in
    let p = (goal.at.returns c).In_ok-place in
    let key = c.key_line.ensures in
    let h = stands p in
    let sized : Sized a.table.now a.shapes.now = (search rules, search rules) in
    let is = subst (CodeSaid _ _ _ bs) (kept _ _ _ c.map_err-2.ensures.cases _ c.in_ok-stated.was) (c.code_value.ensures bs e) in
    let room : a.method.first + a.i < 512 = omega arith in
    let to : c.in_ok-place.end ≤ length a.text.now = omega arith in (
      _,
      value_read _ _ a.at _ code_plain _ key _ _ (found p) _ (line_taken a.text.now a.table.now a.shapes.now sized a.method a.i total a.at.line _ _ bs _ room h.1 to is),
      value_placed _ _ a.at (λ _ v. right v) code_plain _ key _ _ (found p) c.requires.placed,
      line_left a.text.now a.table.now a.shapes.now sized a.method a.i total a.at.line _ _ bs _ room h.1 to is _ (rw c.from.ensures at c.put.ensures),
    )
