-- "Run. A lent list of choices, each a kind with its number, and an answers slice of the same length; each choice is one step, a refused one
-- writes its answer and the run goes on." Assumes nothing.
use Rattle.std.specs.Prelude.{List, [], ◌∷◌, ℤ, pos}
use Rattle.layout.specs.Layout.{Cells}
use Rattle.model.specs.Model.{Model}
use Rattle.rules.specs.declared.Choice.{Choice}
use Rattle.rules.specs.Next.{answer_of, cells_after}
use Rattle.rules.specs.Step.{next}

-- the cells after a list of choices, and the answers to them
unfoldable pub run_cells : Model → Cells → List Choice → Cells
run_cells m c [] = c
run_cells m c (choice ∷ choices) = run_cells m (cells_after c (next m c choice)) choices

unfoldable pub run_answers : Model → Cells → List Choice → List ℤ
run_answers m c [] = []
run_answers m c (choice ∷ choices) =
    let n = next m c choice in
    pos (answer_of n) ∷ run_answers m (cells_after c n) choices
