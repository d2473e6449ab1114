-- `entries::driving::steps`: what the loop keeps. The cells are a configuration, and the drive from here on is the whole drive.
use Prim.Native.Nat.{◌-◌}
use mathlib.Core.Bool.{true}
use mathlib.Core.Path.{◌≡◌}
use Rattle.model.specs.Vocabulary.Known.{model_of}
use Rattle.cells.specs.Configuration.{is_configuration}
use Rattle.engine.specs.Drive.{driven}
use Rattle.entries.proofs.driving.steps.Given as goal

abbrev pub invariant-loop-taken : goal.invariant-loop-taken
invariant-loop-taken l =
    let m = model_of l.program.text in
    (is_configuration m l.cells ≡ true)
    × (driven m l.order (l.budget - l.taken) l.taken l.cells ≡ driven m l.order l.budget 0 l.initial.cells)
