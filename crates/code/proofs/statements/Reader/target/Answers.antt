-- `code::statements::Reader::target`: the variable, and the space behind it.
use mathlib.Core.Path.{sym, ap, ◌∙◌}
use Rattle.whole.proofs.Tested.{passed_on}
use Rattle.code.proofs.Ending.{closed_read, closed_refused}
use Rattle.terms.proofs.Answers.{result_got, result_bad, word_got, word_bad}
use Rattle.terms.proofs.Nesting.{closed_fail}
use Rattle.terms.specs.Vocabulary.Answers.{as_result}
use Rattle.code.proofs.statements.Reader.target.Goals as goal

pub returns-in_err-at : goal.returns-in_err-at
unfolding as_result
returns-in_err-at c = passed_on c.from_residual.ensures.1 ∙ sym (ap as_result (closed_fail _ _ _ _ (result_bad c.variable.ensures c.in_err-at.was)))

pub returns-in_err-at-2 : goal.returns-in_err-at-2
unfolding as_result
returns-in_err-at-2 c =
    passed_on c.from_residual-in_err-at-2.ensures.1
    ∙ sym (ap as_result (closed_refused _ _ (result_got c.variable.ensures c.in_ok-at.was) (word_bad _ _ (sym c.space.ensures ∙ c.in_err-at-2.was))))

pub returns : goal.returns
unfolding as_result
returns c = sym (ap as_result (closed_read _ _ (result_got c.variable.ensures c.in_ok-at.was) (word_got _ _ (sym c.space.ensures ∙ c.in_ok-at-2.was))))
