-- `runner::play`: the choices from here on, played, give the whole.
use Rattle.std.proofs.Common.{◌-◌, length}
use Rattle.model.specs.Vocabulary.Known.{model_of}
use Rattle.runner.proofs.Playing.{Played}
use Rattle.runner.proofs.play.Given as goal

abbrev pub invariant-loop-at : goal.invariant-loop-at
invariant-loop-at l = Played (model_of l.program.text) l.initial.cells l.input l.initial.answers l.read l.at l.count l.cells l.answers

abbrev pub decreases-loop-at : goal.decreases-loop-at
decreases-loop-at l = length l.read - l.at
