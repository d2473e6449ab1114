-- `code::statements::Reader::set_form`: the expression after the variable, put as a statement.
use Rattle.code.proofs.Ending.{next_refused, next_read, put_refused, put_read}
use Rattle.code.specs.Reader as Grammar
use Rattle.code.specs.Vocabulary.Answers.{as_statement, arguments_of}
use Rattle.code.specs.Statements.{set}
use Rattle.terms.proofs.Answers.{result_got, result_bad}
use Rattle.code.proofs.statements.Reader.set_form.Goals as goal

pub returns-in_err-at : goal.returns-in_err-at
unfolding Grammar.rest Grammar.target Grammar.operand
returns-in_err-at c = next_refused _ (result_bad c.target.ensures c.in_err-at.was) c.from_residual.ensures.1

pub returns-in_err-at-2 : goal.returns-in_err-at-2
unfolding Grammar.rest Grammar.target Grammar.operand
returns-in_err-at-2 c = next_read _ (result_got c.target.ensures c.in_ok-at.was) (put_refused _ (result_bad c.expression.ensures c.in_err-at-2.was) c.from_residual-in_err-at-2.ensures.1)

pub returns : goal.returns
unfolding Grammar.rest Grammar.target Grammar.operand as_statement arguments_of
returns c = next_read _ (result_got c.target.ensures c.in_ok-at.was) (put_read (set c.in_ok-at.x) (result_got c.expression.ensures c.in_ok-at-2.was) c.alone.ensures)
