-- The entries start, step, run and drive: their whole result and every lent cell afterwards, on all inputs. "Every entry judges the text
-- first, then 10, then (start excepted) 11, then 13 or 14, then the choice". Assumes nothing.
use Rattle.std.specs.Prelude.{ℕ, Bool, true, false, List, [], ◌∷◌, leb, eqb, ℤ, length}
use Rattle.whole.specs.Refusals.{accepted, cells_not_all, no_configuration, answers_differ, budget_too_large}
use Rattle.layout.specs.Layout.{Cells, all_cells}
use Rattle.terms.specs.Bytes.{Text}
use Rattle.text.specs.declared.Verdict.{Verdict}
use Rattle.model.specs.Judge.{refusal, model, judged}
use Rattle.model.specs.Model.{Model}
use Rattle.cells.specs.Configuration.{is_configuration}
use Rattle.cells.specs.Fresh.{fresh}
use Rattle.rules.specs.declared.Choice.{Choice}
use Rattle.rules.specs.declared.Kind.{Kind}
use Rattle.rules.specs.Next.{answer_of}
use Rattle.rules.specs.Step.{next}
use Rattle.engine.specs.Run.{run_cells, run_answers}
use Rattle.engine.specs.Drive.{most_steps, exec_first, Driven, driven, is_quiet}

-- what an entry gives, and what it leaves in the memory that was lent: `steps` and `quiet` are drive's, and `answers` run's
pub record Outcome : Type 0 where
  pub verdict : Verdict
  pub cells : Cells
  pub answers : List ℤ
  pub steps : ℕ
  pub quiet : Bool

-- "an acceptance and every number from 10 on give line 0"
unfoldable pub at_no_line : ℕ → Verdict
at_no_line n = record { number = n; line = 0 }

-- a verdict, with the cells and the answers afterwards: every outcome but that of an accepted drive. "A refused drive gives 0 steps, not
-- quiet."
unfoldable pub outcome : Verdict → Cells → List ℤ → Outcome
outcome v c answers = record { verdict = v; cells = c; answers = answers; steps = 0; quiet = false }

-- the text, then 10: what an entry does with the model of an accepted text and cells of the right number. "A refusal writes no cell and no
-- answer": here and below, a refusal gives back those that were lent
unfoldable pub on_model : Text → Cells → List ℤ → (Model → Outcome) → Outcome
on_model s c answers go = elim (judged s) [
  | refusal v ↦ outcome v c answers
  | model m ↦ elim (eqb (length c) all_cells) [ true ↦ go m | false ↦ outcome (at_no_line cells_not_all) c answers ]
]

-- then 11
unfoldable pub on_configuration : Text → Cells → List ℤ → (Model → Outcome) → Outcome
on_configuration s c answers go = on_model s c answers (λ m. elim (is_configuration m c) [
  | true ↦ go m
  | false ↦ outcome (at_no_line no_configuration) c answers
])

-- start: every cell is written, whatever it held
unfoldable pub start : Text → Cells → Outcome
start s c = on_model s c [] (λ m. outcome (at_no_line accepted) fresh [])

-- step: a run of one choice, whose answer is the entry's own
unfoldable pub step : Text → Cells → Choice → Outcome
step s c choice = on_configuration s c [] (λ m. outcome (at_no_line (answer_of (next m c choice))) (run_cells m c (choice ∷ [])) [])

-- run: "12 and 20 to 33 inside a run fill only their own place in the answers"
unfoldable pub run : Text → Cells → List Choice → List ℤ → Outcome
run s c choices answers = on_configuration s c answers (λ m. elim (eqb (length answers) (length choices)) [
  | true ↦ outcome (at_no_line accepted) (run_cells m c choices) (run_answers m c choices)
  | false ↦ outcome (at_no_line answers_differ) c answers
])

-- drive: "It gives the steps taken, and quiet"
unfoldable pub drove_to : Model → Driven → Outcome
drove_to m d = record {
  verdict = at_no_line accepted;
  cells = d.cells;
  answers = [];
  steps = d.steps;
  quiet = is_quiet m d.cells;
}

unfoldable pub drive_in : List Kind → Text → Cells → ℕ → Outcome
drive_in order s c budget = on_configuration s c [] (λ m. elim (leb budget most_steps) [
  | true ↦ drove_to m (driven m order budget 0 c)
  | false ↦ outcome (at_no_line budget_too_large) c []
])

unfoldable pub drive : Text → Cells → ℕ → Outcome
drive = drive_in exec_first
