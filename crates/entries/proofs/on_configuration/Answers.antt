-- `entries::on_configuration`: what stopped before it.
use Rattle.whole.proofs.Tested.{passed_on}
use Rattle.entries.proofs.Outcomes.{stopped}
use Rattle.entries.proofs.on_configuration.Goals as goal

pub returns-in_err-on_model-clause-refused : goal.returns-in_err-on_model-clause-refused
returns-in_err-on_model-clause-refused c = rw (passed_on c.from_residual.ensures.1) (stopped _ _ _ c.in_err-on_model.ensures.refused)
