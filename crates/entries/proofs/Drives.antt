-- What a drive gives, by what the tests before it said and by the steps that it took. Assumes nothing.
use Prim.Native.Nat.{ℕ, ◌≤◌, ◌<◌}
use mathlib.Core.Bool.{Bool, true, false}
use mathlib.Core.List.{List, []}
use mathlib.Core.Path.{◌≡◌, sym, ap, ◌∙◌}
use borrow.Author.Tests.{le-leb, lt-leb}
use lib.Dec.{leb}
use Rattle.whole.specs.Refusals.{accepted, budget_too_large}
use Rattle.layout.specs.Layout.{Cells}
use Rattle.terms.specs.Bytes.{Text}
use Rattle.text.specs.declared.Verdict.{Verdict}
use Rattle.model.specs.Model.{Model}
use Rattle.rules.specs.declared.Kind.{Kind}
use Rattle.engine.specs.Drive.{most_steps, driven, is_quiet}
use Rattle.engine.specs.Entries.{Outcome, outcome, at_no_line, on_configuration, drove_to, drive_in}
use Rattle.entries.specs.Vocabulary.Checked.{Refuses, GoesOn}
use Rattle.entries.proofs.Outcomes.{gives}

-- a verdict, steps, quiet and the cells afterwards, as an outcome has them
abbrev Gave : Outcome → Verdict → ℕ → Bool → Cells → Type 0
Gave o v n q d = (v ≡ o.verdict) × ((n ≡ o.steps) × ((q ≡ o.quiet) × (d ≡ o.cells)))

gave_refused : (o : Outcome) (v : Verdict) (c : Cells) → o ≡ outcome v c [] → Gave o v 0 false c
gave_refused o v c e = let g = gives o v c [] e in (g.verdict, (g.steps, (g.quiet, g.cells)))

module _ (s : Text) (c : Cells) (order : List Kind) (budget : ℕ) where
  -- refused before the budget, and for it
  pub drive_stopped : (v : Verdict) → Refuses (on_configuration s c) c v → Gave (drive_in order s c budget) v 0 false c
  unfolding drive_in
  drive_stopped v h = gave_refused _ v c (h.gives [] _)

  module _ (m : Model) (h : GoesOn (on_configuration s c) m) where
    -- by the test of the budget
    by_budget : (b : Bool) → leb budget most_steps ≡ b
        → drive_in order s c budget ≡ elim b [ true ↦ drove_to m (driven m order budget 0 c) | false ↦ outcome (at_no_line budget_too_large) c [] ]
    unfolding drive_in
    by_budget b e =
        h.gives [] _
        ∙ ap (λ b. elim b [ true ↦ drove_to m (driven m order budget 0 c) | false ↦ outcome (at_no_line budget_too_large) c [] ]) e

    pub drive_over : most_steps < budget → Gave (drive_in order s c budget) (at_no_line budget_too_large) 0 false c
    drive_over over = gave_refused _ _ c (by_budget false (lt-leb budget most_steps over))

    -- the steps that it took, and quiet of the cells that they led to
    pub drive_done : budget ≤ most_steps → (n : ℕ) (q : Bool) (d : Cells)
        → (n ≡ (driven m order budget 0 c).steps) × (d ≡ (driven m order budget 0 c).cells) → q ≡ is_quiet m d
        → Gave (drive_in order s c budget) (at_no_line accepted) n q d
    unfolding drove_to
    drive_done within n q d took still =
        let e = sym (by_budget true (le-leb budget most_steps within)) in (
          ap (λ (p : Outcome). p.verdict) e,
          (took.0 ∙ ap (λ (p : Outcome). p.steps) e, (still ∙ ap (is_quiet m) took.1 ∙ ap (λ (p : Outcome). p.quiet) e, took.1 ∙ ap (λ (p : Outcome). p.cells) e)),
        )
