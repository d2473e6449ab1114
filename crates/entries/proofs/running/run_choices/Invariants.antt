-- `entries::running::run_choices`: what the loop keeps. The answers so far, then the answers to what is left, are the answers to all.
use Rattle.model.specs.Vocabulary.Known.{model_of}
use Rattle.entries.proofs.Turns.{Reached}
use Rattle.entries.proofs.running.run_choices.Given as goal

abbrev pub invariant-loop-i : goal.invariant-loop-i
invariant-loop-i l = Reached (model_of l.program.text) l.initial.cells l.choices l.cells l.answers l.i
