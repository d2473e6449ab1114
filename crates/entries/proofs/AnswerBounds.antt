-- An entry's verdict is small, whatever the text, the cells and the choice: its number is at most 33, and its line at most 32,769. Assumes nothing.
use Rattle.std.specs.Prelude.{Option, None, Some}
use Prim.Native.Nat.{ℕ, zero, suc, ◌+◌, ◌≤◌}
use mathlib.Core.Bool.{Bool, true, false}
use mathlib.Core.List.{List, []}
use mathlib.Core.Path.{◌≡◌, refl, ap, subst, ◌∙◌}
use native.Mathlib.Omega.{arith}
use borrow.Author.Tests.{leb-true}
use lib.Dec.{leb, eqb}
use lib.IntN.{ℤ}
use lib.ListN.{length}
use Rattle.whole.specs.Refusals.{accepted, cells_not_all, no_configuration, answers_differ, budget_too_large}
use Rattle.layout.specs.Layout.{Cells, all_cells}
use Rattle.terms.specs.Bytes.{Text}
use Rattle.text.specs.declared.Verdict.{Verdict}
use Rattle.model.specs.Judge.{Judged, refusal, model, judged, verdict_of, judge}
use Rattle.model.specs.Model.{Model}
use Rattle.model.proofs.CountsOfNew.{verdict_refusal}
use Rattle.model.proofs.VerdictBounds.{judge_small}
use Rattle.model.proofs.Verdicts.{judge_verdict}
use Rattle.cells.specs.Configuration.{is_configuration}
use Rattle.rules.specs.declared.Choice.{Choice}
use Rattle.rules.specs.declared.Kind.{Kind}
use Rattle.engine.specs.Drive.{most_steps, exec_first, Driven, driven, first_accepted, choices_in}
use Rattle.engine.specs.Run.{run_cells, run_answers}
use Rattle.engine.specs.Entries as Entries
use Rattle.engine.specs.Entries.{Outcome, outcome, at_no_line, on_model, on_configuration}
use Rattle.entries.proofs.Refusing.{answer_small}

-- the verdict of an outcome
abbrev pub SmallVerdict : Verdict → Type 0
SmallVerdict v = (v.number ≤ 33) × (v.line ≤ 32769)

abbrev Gave : Outcome → Type 0
Gave o = SmallVerdict o.verdict

no_line_small : (n : ℕ) → n ≤ 33 → SmallVerdict (at_no_line n)
unfolding at_no_line
no_line_small n h = (h, omega arith)

-- a verdict on a text
pub judge_small_verdict : (s : Text) → SmallVerdict (judge s)
judge_small_verdict s = let h = judge_small s in (omega (arith, h.0), h.1)

-- the text, then 10, then 11: what holds of every refusal with a small verdict, and of what an entry does with the model, holds of the entry
module _ (s : Text) (c : Cells) (answers : List ℤ) (P : Outcome → Type 0) (refused : (v : Verdict) → SmallVerdict v → P (outcome v c answers)) where
  at_no_line_lem : (n : ℕ) → n ≤ 33 → P (outcome (at_no_line n) c answers)
  at_no_line_lem n h = refused _ (no_line_small n h)

  on_model_lem : (go : Model → Outcome) → ((m : Model) → P (go m)) → P (on_model s c answers go)
  unfolding on_model
  on_model_lem go h = by (judged s) refl
    where
      counted : (m : Model) (b : Bool) → P (elim b [ true ↦ go m | false ↦ outcome (at_no_line cells_not_all) c answers ])
      counted m true = h m
      counted m false = at_no_line_lem cells_not_all (omega arith)

      by : (j : Judged) → judged s ≡ j
          → P (elim j [ refusal v ↦ outcome v c answers | model m ↦ elim (eqb (length c) all_cells) [ true ↦ go m | false ↦ outcome (at_no_line cells_not_all) c answers ] ])
      by (refusal v) e = refused v (subst SmallVerdict (judge_verdict s ∙ ap verdict_of e ∙ verdict_refusal v) (judge_small_verdict s))
      by (model m) e = counted m (eqb (length c) all_cells)

  on_configuration_lem : (go : Model → Outcome) → ((m : Model) → P (go m)) → P (on_configuration s c answers go)
  unfolding on_configuration
  on_configuration_lem go h = on_model_lem _ (λ m. by m (is_configuration m c))
    where
      by : (m : Model) (b : Bool) → P (elim b [ true ↦ go m | false ↦ outcome (at_no_line no_configuration) c answers ])
      by m true = h m
      by m false = at_no_line_lem no_configuration (omega arith)

gave : (c : Cells) (answers : List ℤ) (v : Verdict) → SmallVerdict v → Gave (outcome v c answers)
unfolding outcome
gave c answers v h = h

module _ (s : Text) (c : Cells) where
  -- start, step and run
  pub start_small : SmallVerdict (Entries.start s c).verdict
  unfolding Entries.start
  start_small = on_model_lem s c [] Gave (gave c []) _ (λ m. gave _ [] _ (no_line_small accepted (omega arith)))

  pub step_small : (choice : Choice) → SmallVerdict (Entries.step s c choice).verdict
  unfolding Entries.step
  step_small choice = on_configuration_lem s c [] Gave (gave c []) _ (λ m. gave _ [] _ (no_line_small _ (answer_small m c choice)))

  pub run_small : (choices : List Choice) (answers : List ℤ) → SmallVerdict (Entries.run s c choices answers).verdict
  unfolding Entries.run
  run_small choices answers = on_configuration_lem s c answers Gave (gave c answers) _ (λ m. by m (eqb (length answers) (length choices)))
    where
      by : (m : Model) (b : Bool)
          → Gave (elim b [ true ↦ outcome (at_no_line accepted) (run_cells m c choices) (run_answers m c choices) | false ↦ outcome (at_no_line answers_differ) c answers ])
      by m true = gave _ _ _ (no_line_small accepted (omega arith))
      by m false = gave c answers _ (no_line_small answers_differ (omega arith))

-- a drive takes at most its budget of steps
abbrev steps_of : Driven → ℕ
steps_of d = d.steps

driven_most : (m : Model) (order : List Kind) (budget steps : ℕ) (c : Cells) → (driven m order budget steps c).steps ≤ steps + budget
unfolding driven
driven_most m order zero steps c = omega arith
driven_most m order (suc budget) steps c = by (driven_most m order budget (steps + 1)) (first_accepted m c (choices_in order c))
  where
    by : ((d : Cells) → (driven m order budget (steps + 1) d).steps ≤ steps + 1 + budget) → (f : Option (Choice × Cells))
        → steps_of (elim f [ None ↦ record { cells = c; steps = steps } | Some found ↦ driven m order budget (steps + 1) found.1 ]) ≤ steps + suc budget
    by again None = omega arith
    by again (Some found) = omega (arith, again found.1)

-- so its outcome has a small verdict and at most 10,000 steps
abbrev Drove : Outcome → Type 0
Drove o = SmallVerdict o.verdict × (o.steps ≤ most_steps)

not_driven : (c : Cells) (v : Verdict) → SmallVerdict v → Drove (outcome v c [])
unfolding outcome
not_driven c v h = (h, omega arith)

pub drive_small : (s : Text) (c : Cells) (budget : ℕ) → Drove (Entries.drive s c budget)
unfolding Entries.drive Entries.drive_in Entries.drove_to
drive_small s c budget = on_configuration_lem s c [] Drove (not_driven c) _ (λ m. by m (leb budget most_steps) refl)
  where
    by : (m : Model) (b : Bool) → leb budget most_steps ≡ b
        → Drove (elim b [ true ↦ Entries.drove_to m (driven m exec_first budget 0 c) | false ↦ outcome (at_no_line budget_too_large) c [] ])
    by m true e = (no_line_small accepted (omega arith), omega (arith, driven_most m exec_first budget 0 c, leb-true budget most_steps e))
    by m false e = not_driven c _ (no_line_small budget_too_large (omega arith))
