-- `runner::play`: no choice is played, one more, and all.
use Rattle.std.proofs.Common.{rules}
use native.Mathlib.Omega.{arith}
use Rattle.runner.proofs.Playing.{none_played, one_played, all_played}
use Rattle.runner.proofs.play.Goals as goal

pub loop-at-init : goal.loop-at-init
loop-at-init c = none_played _ _ _ _ _ c.part_read-read.ensures c.requires.configuration

pub loop-at-preserved : goal.loop-at-preserved
loop-at-preserved c =
    one_played _ _ _ _ _ _ _ _ _ c.loop-at.invariant c.loop-at-test.true (omega arith) c.line_end-end.result c.line_end-end.ensures c.choice_of-choice.result
    c.choice_of-choice.ensures c.perform.new.cells c.perform.new.answers c.perform.ensures.configuration c.perform.auto.answers c.perform.ensures.cells_after
    (search rules) _ _ (omega arith) (omega arith)

pub returns : goal.returns
returns c =
    let all = all_played _ _ _ _ _ _ _ _ _ c.loop-at.invariant c.loop-at-test.false (omega arith) in
    let few = c.loop-at.invariant in
    record { value = all.0; cells_after = all.1.0; answers_after = all.1.1; upper_bound = omega (arith, few.short, few.read) }
