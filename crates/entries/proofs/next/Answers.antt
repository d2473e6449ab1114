-- `entries::next`: of an accepted text.
use mathlib.Core.Path.{subst, ap, ◌∙◌}
use Rattle.model.specs.Accepted.{AcceptedModel}
use Rattle.model.specs.Vocabulary.Known.{model_of}
use Rattle.cells.specs.Configuration.{is_configuration}
use Rattle.lookup.specs.Vocabulary.Programs.{Kept}
use Rattle.lookup.proofs.Reading.{accepted}
use Rattle.entries.proofs.RunOnward.{after_keeps}
use Rattle.entries.proofs.next.Goals as goal

pub returns-clause-configuration : goal.returns-clause-configuration
returns-clause-configuration c =
    let ok = subst (λ (k : Kept). AcceptedModel (model_of k.text)) c.program.view_is (accepted _ _ _ c.program.invariant) in
    ap (is_configuration (model_of c.args.program.now.text)) c.next.ensures.1 ∙ after_keeps _ ok _ c.requires.configuration _
