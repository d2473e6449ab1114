-- `text::numbers::fed_number`: a decimal that is at least its lowest, with an LF behind it, is what the definition gives.
use Rattle.std.proofs.Common.{sym, ap, ◌∙◌, arith}
use Rattle.terms.specs.Vocabulary.Answers.{as_result}
use Rattle.terms.proofs.Answers.{result_got}
use Rattle.text.proofs.NumberLines.{fed_within}
use Rattle.text.proofs.numbers.fed_number.Goals as goal

pub returns : goal.returns
unfolding as_result
returns c =
    let fed = sym c.byte_at.ensures ∙ c.if-byte_at-ne10.false in
    sym (ap as_result (fed_within _ _ _ _ _ _ (result_got c.decimal.ensures c.in_ok-end.was) fed (omega arith)))
