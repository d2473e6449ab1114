-- `entries::start_in`: what its tests refuse, and what it writes.
use mathlib.Core.Path.{ap, ◌∙◌}
use Rattle.model.specs.Vocabulary.Known.{model_of}
use Rattle.model.proofs.AcceptedJudged.{model_accepted}
use Rattle.cells.specs.Configuration.{is_configuration}
use Rattle.cells.proofs.Freshly.{fresh_is}
use Rattle.whole.proofs.Tested.{passed_on}
use Rattle.entries.proofs.Outcomes.{start_stopped, start_goes}
use Rattle.entries.proofs.start_in.Goals as goal

pub returns-in_err-on_model-clause-value : goal.returns-in_err-on_model-clause-value
returns-in_err-on_model-clause-value c = rw (passed_on c.from_residual.ensures.1) ((start_stopped _ _ _ c.in_err-on_model.ensures.refused).0)

pub returns-in_err-on_model-clause-cells_after : goal.returns-in_err-on_model-clause-cells_after
returns-in_err-on_model-clause-cells_after c = (start_stopped _ _ _ c.in_err-on_model.ensures.refused).1

pub returns-clause-value : goal.returns-clause-value
returns-clause-value c = (start_goes _ _ _ c.in_ok-on_model.ensures.goes_on).0

pub returns-clause-cells_after : goal.returns-clause-cells_after
returns-clause-cells_after c = c.write_fresh.ensures ∙ (start_goes _ _ _ c.in_ok-on_model.ensures.goes_on).1

pub returns-clause-configuration : goal.returns-clause-configuration
returns-clause-configuration c =
    let s = c.args.text.now in
    ap (is_configuration (model_of s)) c.write_fresh.ensures ∙ fresh_is (model_of s) (model_accepted s (model_of s) c.in_ok-on_model.ensures.known.accepted)
