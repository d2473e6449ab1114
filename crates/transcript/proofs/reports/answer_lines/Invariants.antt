-- `transcript::reports::answer_lines`: what the loop keeps. The lines from here on, put behind those before, give the whole. Each has twenty bytes
-- at most. Assumes nothing.
use Prim.Native.Nat.{◌+◌, ◌*◌, ◌≤◌}
use lib.ListN.{take}
use Rattle.session.specs.Runner.{answer_lines}
use Rattle.transcript.specs.Vocabulary.Front.{Adds}
use Rattle.transcript.proofs.reports.answer_lines.Given as goal

abbrev pub invariant-loop-answer : goal.invariant-loop-answer
invariant-loop-answer l =
    record {
      added : Adds (answer_lines (take l.answer-index l.answers)) l.initial.front l.front;
      upper_bound : l.front.at ≤ l.initial.front.at + l.answer-index * 20;
    }
