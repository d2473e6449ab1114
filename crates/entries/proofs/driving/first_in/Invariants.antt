-- `entries::driving::first_in`: what the loop keeps. The cells are as they were, and a search over the kinds left finds what one over all of them
-- finds.
use lib.ListN.{drop}
use mathlib.Core.Path.{◌≡◌}
use Rattle.model.specs.Vocabulary.Known.{model_of}
use Rattle.engine.specs.Drive.{first_accepted, choices_in}
use Rattle.entries.proofs.driving.first_in.Given as goal

abbrev pub invariant-loop-kind : goal.invariant-loop-kind
invariant-loop-kind l =
    let m = model_of l.program.text in
    (l.cells ≡ l.initial.cells)
    × (first_accepted m l.initial.cells (choices_in (drop l.kind-index l.order) l.initial.cells) ≡ first_accepted m l.initial.cells (choices_in l.order l.initial.cells))
