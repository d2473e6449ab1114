-- `entries::stepped`: what its tests refuse, and the choice's own answer.
use Rattle.std.specs.Prelude.{Ok, Err}
use Rattle.whole.specs.Vocabulary.Refusing.{number_given}
use Rattle.engine.specs.Entries.{at_no_line}
use Rattle.whole.proofs.Tested.{passed_on}
use Rattle.entries.proofs.Outcomes.{step_stopped, step_goes}
use Rattle.entries.proofs.stepped.Goals as goal

pub returns-in_err-program : goal.returns-in_err-program
returns-in_err-program c =
    let g = step_stopped _ _ c.args.choice _ c.in_err-program.ensures.refused in
    rw (passed_on c.from_residual.ensures.1) record { value = g.0; cells_after = g.1 }

pub returns-in_err-next : goal.returns-in_err-next
unfolding at_no_line number_given
returns-in_err-next c =
    let g = step_goes _ _ _ _ c.in_ok-program.ensures.goes_on (Err c.in_err-next.field-0.0) _ c.in_err-next.ensures.done in
    rw (passed_on c.from_residual-in_err-next.ensures.1) record { value = g.0; cells_after = g.1 }

pub returns : goal.returns
unfolding number_given
returns c =
    let g = step_goes _ _ _ _ c.in_ok-program.ensures.goes_on (Ok c.in_ok-next.field-0) _ c.in_ok-next.ensures.done in
    record { value = g.0; cells_after = g.1 }
