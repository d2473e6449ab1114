-- What run gives, by what the tests before it said. Assumes nothing.
use mathlib.Core.Bool.{Bool, true, false}
use mathlib.Core.List.{List}
use mathlib.Core.Logic.{◌≢◌}
use mathlib.Core.Path.{◌≡◌, sym, ap, ap₂, ◌∙◌}
use borrow.Author.Tests.{eq-eqb, ne_eqb}
use lib.Dec.{eqb}
use lib.IntN.{ℤ}
use lib.ListN.{length}
use Rattle.whole.specs.Refusals.{accepted, answers_differ}
use Rattle.layout.specs.Layout.{Cells}
use Rattle.terms.specs.Bytes.{Text}
use Rattle.text.specs.declared.Verdict.{Verdict}
use Rattle.model.specs.Model.{Model}
use Rattle.rules.specs.declared.Choice.{Choice}
use Rattle.engine.specs.Run.{run_cells, run_answers}
use Rattle.engine.specs.Entries.{Outcome, outcome, at_no_line, on_configuration, run}
use Rattle.entries.specs.Vocabulary.Checked.{Refuses, GoesOn}
use Rattle.entries.proofs.Outcomes.{gives}

-- a verdict with the cells and the answers afterwards, as run has them
abbrev GivesAll : Outcome → Verdict → Cells → List ℤ → Type 0
GivesAll o v c b = (v ≡ o.verdict) × ((c ≡ o.cells) × (b ≡ o.answers))

gives_all : (o : Outcome) (v : Verdict) (c : Cells) (b : List ℤ) → o ≡ outcome v c b → GivesAll o v c b
gives_all o v c b e = let g = gives o v c b e in (g.verdict, (g.cells, g.answers))

module _ (s : Text) (c : Cells) (choices : List Choice) (b : List ℤ) where
  -- refused before 13
  pub run_stopped : (v : Verdict) → Refuses (on_configuration s c) c v → GivesAll (run s c choices b) v c b
  unfolding run
  run_stopped v h = gives_all _ v c b (h.gives b _)

  module _ (m : Model) (h : GoesOn (on_configuration s c) m) where
    -- with the test of the lengths
    with_lengths : (test : Bool) → eqb (length b) (length choices) ≡ test → run s c choices b ≡ elim test [
      | true ↦ outcome (at_no_line accepted) (run_cells m c choices) (run_answers m c choices)
      | false ↦ outcome (at_no_line answers_differ) c b
    ]
    unfolding run
    with_lengths test e =
        h.gives b _
        ∙ ap
        (λ test. elim test [
          | true ↦ outcome (at_no_line accepted) (run_cells m c choices) (run_answers m c choices)
          | false ↦ outcome (at_no_line answers_differ) c b
        ])
        e

    -- 13
    pub lengths_differ : length b ≢ length choices → GivesAll (run s c choices b) (at_no_line answers_differ) c b
    lengths_differ n = gives_all _ _ c b (with_lengths false (ne_eqb _ _ n))

    -- as many, and the choices performed
    pub run_done : length b ≡ length choices → (d : Cells) (a : List ℤ) → (d ≡ run_cells m c choices) × (a ≡ run_answers m c choices)
        → GivesAll (run s c choices b) (at_no_line accepted) d a
    run_done same d a done = gives_all _ _ d a (with_lengths true (eq-eqb _ _ same) ∙ ap₂ (outcome (at_no_line accepted)) (sym done.0) (sym done.1))
