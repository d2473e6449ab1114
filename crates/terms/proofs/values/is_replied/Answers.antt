-- `terms::values::is_replied`: a reply is there for the code where it is there.
use Rattle.std.specs.Prelude.{Option, None, Some}
use Rattle.std.specs.Option.{is_some}
use Rattle.std.proofs.Common.{◌≡◌, ℕ, true, false, refl, ap, ◌∙◌}
use Rattle.whole.proofs.Ranges.{handed}
use Rattle.layout.specs.Stages.{reply_for}
use Rattle.layout.specs.Vocabulary.Found.{as_label}
use Rattle.terms.specs.Values.{is_replied}
use Rattle.terms.specs.Vocabulary.Answers.{surroundings}
use Rattle.terms.proofs.values.is_replied.Goals as goal

is_some-as_label : (f : Option ℕ) → is_some (as_label f) ≡ elim f [ None ↦ false | Some l ↦ true ]
unfolding as_label
is_some-as_label None = refl
is_some-as_label (Some l) = refl

pub returns : goal.returns
unfolding is_replied surroundings
returns c =
    c.is_some.ensures
    ∙ ap is_some c.reply_for.ensures
    ∙ ap (λ z. is_some (as_label (reply_for c.args.cells.now c.args.here.object.0 z))) (handed _ _ c.held.type_inv c.held.ensures)
    ∙ is_some-as_label _
