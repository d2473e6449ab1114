-- `text::ends::are_plain`: what the fold gives is whether the bytes are plain.
use Rattle.std.specs.Prelude.{true, ◌&&◌}
use Rattle.std.proofs.Common.{rules, tests, ◌∙◌}
use Rattle.std.proofs.lemmas.Iterator.{YieldsList-from_slice}
use Rattle.std.proofs.lemmas.Iterator.Consumers.{fold_from_yields_List}
use Rattle.text.specs.Lines.{plain_byte}
use Rattle.text.proofs.Plain.{plain_folded}
use Rattle.text.proofs.ends.are_plain.Goals as goal

pub returns : goal.returns
returns c =
    fold_from_yields_List _ (λ plain b. plain && plain_byte b) true _ c.fold.ensures.ran (YieldsList-from_slice c.args.group.now cc) (λ a x b q k. search (rules, tests))
    ∙ plain_folded c.args.group.now
