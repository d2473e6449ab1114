-- `entries::running::run_choices`: one turn more.
use Rattle.entries.proofs.Turns.{turned}
use Rattle.entries.proofs.running.run_choices.Goals as goal

pub loop-i-preserved : goal.loop-i-preserved
loop-i-preserved c =
    turned _ _ _ _ _ _ c.loop-i.invariant c.loop-i-test.true _ _ c.perform.ensures.configuration c.perform.auto.answers c.perform.ensures.cells_after
    c.perform.ensures.answers_after
