-- `model::creations::counts_judged`: what the loop keeps. What was passed fits, so that the rest decides.
use Prim.Native.Nat.{◌-◌}
use mathlib.Core.Path.{◌≡◌}
use lib.ListN.{length}
use Rattle.model.specs.Judge.{counts_judged}
use Rattle.model.specs.Model.{Model}
use Rattle.model.specs.Vocabulary.Creations.{creations_from, creations_in, GivenTold}
use Rattle.model.proofs.creations.counts_judged.Given as goal

abbrev pub invariant-loop-i : goal.invariant-loop-i
invariant-loop-i l =
    (m : Model) → GivenTold l.table m → length m ≡ l.classes
    → counts_judged m (creations_in l.table l.total) ≡ counts_judged m (creations_from l.table l.i (l.total - l.i))
