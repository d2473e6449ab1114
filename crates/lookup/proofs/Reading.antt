-- What a text that was judged tells of the line that a call stands at: its shape and those of its body, and its statement, read where the table
-- leads. Assumes nothing.
use Rattle.std.specs.Prelude.{Some, Result, Ok}
use Prim.Native.Nat.{ℕ, ◌+◌, ◌≤◌, ◌<◌}
use mathlib.Core.List.{List, []}
use mathlib.Core.Path.{◌≡◌, refl, sym, ap, ap₂, subst, ◌∙◌}
use native.Mathlib.Omega.{arith}
use lib.ListN.{length, get_or, take, drop, length-map, length-take, length-drop}
use Rattle.whole.specs.Whole.{Worked}
use Rattle.layout.specs.Layout.{Cells}
use Rattle.terms.specs.declared.Here.{Here}
use Rattle.terms.specs.declared.Limits.{Limits}
use Rattle.terms.specs.Bytes.{Text}
use Rattle.terms.specs.Parsed.{got, mapped}
use Rattle.terms.specs.Trees.{trees, guard_trees}
use Rattle.terms.specs.Values.{Surroundings, values, guard_values, value_of, guard_of}
use Rattle.terms.specs.Vocabulary.Answers.{surroundings}
use Rattle.terms.proofs.Following.{mapped_got}
use Rattle.code.specs.declared.Arguments.{Arguments}
use Rattle.code.specs.declared.Statement as Declared
use Rattle.code.specs.declared.Shape.{Shape}
use Rattle.code.specs.Blocks.{shape_of, shape_number, until_else, until_fi, until_od, opening, closing, through_all}
use Rattle.code.specs.Partners.{goes_from, goes_to}
use Rattle.code.specs.Reader.{statement}
use Rattle.code.specs.Statements.{Statement, Code, skip, set, new, call, get, await, if, else, fi, while, od, return, map_statement}
use Rattle.code.specs.Vocabulary.Answers.{as_statement, arguments_of, as_code}
use Rattle.code.specs.Vocabulary.Readers.{statement_read}
use Rattle.code.specs.Vocabulary.Shapes.{shapes_in}
use Rattle.code.specs.Within.{CodeWithin}
use Rattle.code.proofs.Jumps.{partner_ahead, partner_behind}
use Rattle.code.proofs.Respect.{statement_of_tree}
use Rattle.code.proofs.Shapes.{shapes_length}
use Rattle.model.specs.Accepted.{AcceptedModel, AcceptedMethod}
use Rattle.model.specs.Vocabulary.Belonging.{value_in}
use Rattle.model.specs.Vocabulary.Known.{model_of, Known}
use Rattle.model.specs.Vocabulary.Table.{Table, row_at, code_row, classes_in}
use Rattle.model.proofs.AcceptedAt.{method_accepted, line_accepted}
use Rattle.model.proofs.AcceptedJudged.{model_accepted}
use Rattle.model.proofs.Lookup.{classes_at, method_at, line_at, shape_at_lem, method_shapes}
use Rattle.cells.specs.Standing.{shapes_of}
use Rattle.rules.specs.Exec.{here, worked_out}
use Rattle.rules.proofs.Executing.{item_inside}
use Rattle.lookup.specs.declared.Standing.{Standing}
use Rattle.lookup.specs.Vocabulary.Found.{StandingIs, Lined, Inside, shapes_at, around}
use Rattle.lookup.specs.Vocabulary.Programs.{Told}

-- what a line goes to is a line, or the place after the last
goes_most : (ls : List Shape) → through_all ls [] ≡ Some [] → (i : ℕ) → i < length ls → goes_to ls i ≤ length ls
unfolding goes_to goes_from opening closing
goes_most ls closes i inside = go (get_or ls i Shape.Plain) refl
  where
    go : (l : Shape) → get_or ls i Shape.Plain ≡ l → goes_from l ls i ≤ length ls
    go Shape.If e = omega (arith, (partner_ahead ls closes i inside until_else (ap opening e)).1)
    go Shape.Else e = omega (arith, (partner_ahead ls closes i inside until_fi (ap opening e)).1)
    go Shape.While e = omega (arith, (partner_ahead ls closes i inside until_od (ap opening e)).1)
    go Shape.Od e = omega (arith, partner_behind ls closes i inside until_od (ap closing e))
    go Shape.Fi e = omega arith
    go Shape.Return e = omega arith
    go Shape.Await e = omega arith
    go Shape.Plain e = omega arith

-- so the line that a line of a body goes to has a small number
pub goes_few : (x : List ℕ) (at : Standing) → Lined x at → goes_to (shapes_at x at.body) at.line ≤ 64
unfolding shapes_at
goes_few x at h =
    let d = at.body in
    let l = take d.count (drop d.first x) in
    let n : length (shapes_in l) ≡ d.count = omega (arith, shapes_length l, length-take d.count (drop d.first x), length-drop d.first x, h.inside) in
    omega (arith, goes_most (shapes_in l) h.close at.line (omega (arith, h.line)), h.few)

-- a statement of trees, read with its values worked out
read_worked : (e : Surroundings) (lim : Limits) (n : ℕ) (v : Text) (p : ℕ) (st : Code) → statement trees guard_trees lim n v ≡ got p st
    → statement (values e) (guard_values e) lim n v ≡ got p (worked_out e st)
unfolding worked_out
read_worked e lim n v p st f = sym (statement_of_tree e lim n v) ∙ ap (mapped (map_statement (value_of e) (guard_of e))) f ∙ mapped_got _ p st

-- the numbers of a worked-out statement, where there are so many classes
unfoldable pub Small : ℕ → Statement Worked Worked → Type 0
Small n skip = Unit {0}
Small n (set x w) = Unit {0}
Small n (new x k ws) = k < n
Small n (call x w j ws) = (j < 8) × (length ws ≤ 4)
Small n (get x y) = Unit {0}
Small n (await w) = Unit {0}
Small n (if w) = Unit {0}
Small n else = Unit {0}
Small n fi = Unit {0}
Small n (while w) = Unit {0}
Small n od = Unit {0}
Small n (return w) = Unit {0}

-- a code line of an accepted text has such
small_worked : (e : Surroundings) (lim : Limits) (n : ℕ) (st : Code) → CodeWithin lim n st → Small n (worked_out e st)
unfolding worked_out map_statement CodeWithin Small
small_worked e lim n skip h = tt
small_worked e lim n (set x a) h = tt
small_worked e lim n (new x k es) h = h.1
small_worked e lim n (call x a j es) h = (omega (arith, h.2), omega (arith, h.3, length-map es (value_of e)))
small_worked e lim n (get x y) h = tt
small_worked e lim n (await g) h = tt
small_worked e lim n (if a) h = tt
small_worked e lim n else h = tt
small_worked e lim n fi h = tt
small_worked e lim n (while a) h = tt
small_worked e lim n od h = tt
small_worked e lim n (return a) h = tt

-- a text that was judged and found accepted
module _ (s : Text) (t : Table) (x : List ℕ) (k : Known s t x) where
  -- its model is as the document says
  pub accepted : AcceptedModel (model_of s)
  accepted = model_accepted s (model_of s) k.accepted

  -- what the lookups ask of its table
  pub told : Told t
  told = record { sized = k.sized.0; text = s; model = model_of s; rows = k.rows; accepted = accepted }

  -- how many classes it has
  pub some_classes : 0 < classes_in t
  some_classes = omega (arith, classes_at s t (model_of s) k.rows, accepted.count.0)

  pub few_classes : length (model_of s) ≤ 16
  few_classes = accepted.count.1

  -- and a call that stands at a line of it
  module _ (c : Cells) (l : ℕ) (d : Standing) (is : StandingIs t (model_of s) c l d) where
    -- its method
    method : AcceptedMethod (length (model_of s)) is.of.class.attrs is.of.class.run is.of.method is.of.body
    method = method_accepted accepted is.of.index is.of.class is.of.class_there is.of.method is.of.body is.of.body_there

    -- the shapes of its lines
    pub line_shapes : shapes_of is.of.body ≡ shapes_at x d.body
    unfolding shapes_of shapes_at
    line_shapes =
        let o = is.of in
        sym (ap₂ (λ n i. shapes_in (take n (drop i x))) o.count o.first
        ∙ method_shapes t x (model_of s) k.shapes o.index o.class o.class_there o.method o.body o.body_there)

    -- what `goes_to` asks of it
    pub lined : Lined x d
    unfolding shapes_of
    lined =
        let o = is.of in
        let n = item_inside o.body.code d.line is.statement is.there in
        record {
          line = omega (arith, o.count);
          few = omega (arith, method.lines.1, o.count);
          inside =
              omega
              (arith, o.first, o.count, k.sized.1, (method_at s t (model_of s) k.rows o.index o.class o.class_there o.method o.body o.body_there).few);
          all = k.sized.1;
          close = ap (λ ls. through_all ls []) (sym line_shapes) ∙ method.blocks.close;
        }

    -- the line is one of all lines
    pub line_below : d.body.first + d.line < 512
    line_below = let h = lined in omega (arith, h.line, h.inside, h.all)

    pub line_stands : d.body.first + d.line < length x
    line_stands = let h = lined in omega (arith, h.line, h.inside)

    -- its shape
    pub line_shape : get_or x (d.body.first + d.line) 0 ≡ shape_number (shape_of is.statement)
    line_shape =
        let o = is.of in
        ap (λ n. get_or x (n + d.line) 0) o.first
        ∙ shape_at_lem t x (model_of s) k.shapes o.index o.class o.class_there o.method o.body o.body_there d.line is.statement is.there

    -- its bytes lie within the text
    pub line_inside : Inside s (row_at t (code_row (d.body.first + d.line)))
    line_inside =
        let o = is.of in
        subst (λ n. Inside s (row_at t (code_row (n + d.line)))) (sym o.first)
        (line_at s t (model_of s) k.rows o.index o.class o.class_there o.method o.body o.body_there d.line is.statement is.there).0

    -- its statement, as a tree
    line_tree : (let r = row_at t (code_row (d.body.first + d.line)) in
        statement trees guard_trees (record { attrs = d.body.attrs; locals = d.body.locals }) (classes_in t) (value_in s r) ≡ got r.1 is.statement)
    line_tree =
        let o = is.of in
        rw (o.attrs, o.locals, classes_at s t (model_of s) k.rows, o.first)
        (line_at s t (model_of s) k.rows o.index o.class o.class_there o.method o.body o.body_there d.line is.statement is.there).1

    -- and read with its values worked out
    module _ (h : Here) where
      pub line_read : (let r = row_at t (code_row (d.body.first + d.line)) in
          statement_read c (around h d.body) (classes_in t) (value_in s r) ≡ as_code (got r.1 (worked_out (here c h.object.0 h.label.0) is.statement)))
      unfolding around surroundings here
      line_read = ap as_code (read_worked (surroundings c h) _ (classes_in t) _ _ is.statement line_tree)

      -- what the code finds there: the statement and its arguments
      pub line_said : (r : Result (Declared.Statement × Arguments) ℕ) → r ≡ statement_read c (around h d.body) (classes_in t) (value_in s (row_at t (code_row (d.body.first + d.line))))
          → r ≡ Ok (as_statement (worked_out (here c h.object.0 h.label.0) is.statement), arguments_of (worked_out (here c h.object.0 h.label.0) is.statement))
      unfolding as_code
      line_said r e = e ∙ line_read

    -- the numbers of it, worked out
    module _ (e : Surroundings) where
      pub line_small : Small (length (model_of s)) (worked_out e is.statement)
      line_small =
          let o = is.of in
          small_worked e _ _ is.statement
          (line_accepted accepted o.index o.class o.class_there o.method o.body o.body_there d.line is.statement is.there)
