-- `entries::driving::first_of`: what the loop keeps. The cells are as they were, and a search over the choices left finds what one over all of them
-- finds.
use Prim.Native.Nat.{◌+◌, ◌-◌, ◌≤◌}
use mathlib.Core.Path.{◌≡◌}
use Rattle.model.specs.Vocabulary.Known.{model_of}
use Rattle.engine.specs.Drive.{first_accepted, choices_of}
use Rattle.entries.proofs.driving.first_of.Given as goal

abbrev pub invariant-loop-n : goal.invariant-loop-n
invariant-loop-n l =
    let m = model_of l.program.text in
    (1 ≤ l.n) × (l.cells ≡ l.initial.cells)
    × (first_accepted m l.initial.cells (choices_of l.kind (l.count + 1 - l.n) l.n) ≡ first_accepted m l.initial.cells (choices_of l.kind l.count 1))
