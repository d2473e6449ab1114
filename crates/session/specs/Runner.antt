-- The bytes that the runner writes, of a model's bytes and its input's. Assumes nothing.
use Rattle.std.specs.Prelude.{ℕ, ◌+◌, true, false, List, [], ◌∷◌, ◌++◌, ℤ, pos}
use Rattle.whole.specs.Whole.{eq_z, nat}
use Rattle.layout.specs.Layout.{Cells, read, objects, calls}
use Rattle.terms.specs.Bytes.{Text, bytes}
use Rattle.model.specs.Judge.{refusal, model, judged}
use Rattle.model.specs.Model.{Model}
use Rattle.rules.specs.declared.Choice.{Choice}
use Rattle.cells.specs.Fresh.{fresh}
use Rattle.engine.specs.Run.{run_cells, run_answers}
use Rattle.session.specs.Choices.{choices_from}
use Rattle.session.specs.Shown.{shown_line}

-- "It writes an `answer=` line for each choice"
unfoldable pub answer_lines : List ℤ → Text
answer_lines [] = []
answer_lines (z ∷ zs) = shown_line (bytes "answer=") (nat z) ++ answer_lines zs

-- how many choices were accepted, and how many refused
unfoldable pub accepted_in : List ℤ → ℕ
accepted_in [] = 0
accepted_in (z ∷ zs) = elim (eq_z z (pos 0)) [ true ↦ 1 + accepted_in zs | false ↦ accepted_in zs ]

unfoldable pub refused_in : List ℤ → ℕ
refused_in [] = 0
refused_in (z ∷ zs) = elim (eq_z z (pos 0)) [ true ↦ refused_in zs | false ↦ 1 + refused_in zs ]

-- "then `accepted=13`, `refused=3`, `objects=2`, `calls=2`"
unfoldable pub report : List ℤ → Cells → Text
report answers c =
    answer_lines answers
    ++ shown_line (bytes "accepted=") (accepted_in answers)
    ++ shown_line (bytes "refused=") (refused_in answers)
    ++ shown_line (bytes "objects=") (nat (read c objects))
    ++ shown_line (bytes "calls=") (nat (read c calls))

-- a model that was accepted is started, and the choices are run
unfoldable pub ran : Model → List Choice → Text
ran m choices = report (run_answers m fresh choices) (run_cells m fresh choices)

-- "A refused model gives only `refused=` and `line=`."
unfoldable pub runner : Text → Text → Text
runner s input = elim (judged s) [
  | refusal v ↦ shown_line (bytes "refused=") v.number ++ shown_line (bytes "line=") v.line
  | model m ↦ ran m (choices_from input)
]
