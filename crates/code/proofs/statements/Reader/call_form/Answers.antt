-- `code::statements::Reader::call_form`: each part after the one before it, and the arguments put as those of a `call`.
use mathlib.Core.Path.{refl, sym, ◌∙◌}
use Rattle.code.proofs.Ending.{next_refused, next_read, closed_read, closed_refused, listed_refused, listed_read}
use Rattle.code.specs.Reader as Grammar
use Rattle.code.specs.Vocabulary.Answers.{as_statement, arguments_of}
use Rattle.code.specs.Statements.{call}
use Rattle.terms.proofs.Answers.{result_got, result_bad, word_got, word_bad}
use Rattle.terms.proofs.Nesting.{closed_fail}
use Rattle.code.proofs.statements.Reader.call_form.Goals as goal

pub returns-in_err-at : goal.returns-in_err-at
unfolding Grammar.rest Grammar.target Grammar.operand
returns-in_err-at c = next_refused _ (result_bad c.target.ensures c.in_err-at.was) c.from_residual.ensures.1

pub returns-in_err-at-2 : goal.returns-in_err-at-2
unfolding Grammar.rest Grammar.target Grammar.operand
returns-in_err-at-2 c =
    next_read _ (result_got c.target.ensures c.in_ok-at.was)
    (next_refused _ (closed_fail _ _ _ _ (result_bad c.expression.ensures c.in_err-at-2.was)) c.from_residual-in_err-at-2.ensures.1)

pub returns-in_err-at-3 : goal.returns-in_err-at-3
unfolding Grammar.rest Grammar.target Grammar.operand
returns-in_err-at-3 c =
    next_read _ (result_got c.target.ensures c.in_ok-at.was)
    (next_refused _ (closed_refused _ _ (result_got c.expression.ensures c.in_ok-at-2.was) (word_bad _ _ (sym c.space.ensures ∙ c.in_err-at-3.was))) c.from_residual-in_err-at-3.ensures.1)

pub returns-in_err-at-4 : goal.returns-in_err-at-4
unfolding Grammar.rest Grammar.target Grammar.operand
returns-in_err-at-4 c =
    next_read _ (result_got c.target.ensures c.in_ok-at.was)
    (next_read _ (closed_read _ _ (result_got c.expression.ensures c.in_ok-at-2.was) (word_got _ _ (sym c.space.ensures ∙ c.in_ok-at-3.was)))
    (next_refused _ (result_bad c.decimal.ensures c.in_err-at-4.was) c.from_residual-in_err-at-4.ensures.1))

pub returns-in_err-at-5 : goal.returns-in_err-at-5
unfolding Grammar.rest Grammar.target Grammar.operand
returns-in_err-at-5 c =
    next_read _ (result_got c.target.ensures c.in_ok-at.was)
    (next_read _ (closed_read _ _ (result_got c.expression.ensures c.in_ok-at-2.was) (word_got _ _ (sym c.space.ensures ∙ c.in_ok-at-3.was)))
    (next_read _ (result_got c.decimal.ensures c.in_ok-at-4.was)
    (listed_refused _ _ (result_bad c.arguments.ensures c.in_err-at-5.was) c.from_residual-in_err-at-5.ensures.1)))

pub returns : goal.returns
unfolding Grammar.rest Grammar.target Grammar.operand as_statement arguments_of
returns c =
    next_read _ (result_got c.target.ensures c.in_ok-at.was)
    (next_read _ (closed_read _ _ (result_got c.expression.ensures c.in_ok-at-2.was) (word_got _ _ (sym c.space.ensures ∙ c.in_ok-at-3.was)))
    (next_read _ (result_got c.decimal.ensures c.in_ok-at-4.was)
    (listed_read (call c.in_ok-at.x c.in_ok-at-2.callee c.in_ok-at-4.method) _ (λ es. refl) (result_got c.arguments.ensures c.in_ok-at-5.was) refl)))
