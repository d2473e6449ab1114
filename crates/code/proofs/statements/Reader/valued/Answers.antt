-- `code::statements::Reader::valued`: the expression, put as a statement by its form.
use Rattle.code.proofs.Ending.{put_refused, put_read}
use Rattle.code.specs.Vocabulary.Answers.{as_statement, arguments_of}
use Rattle.code.specs.Statements.{if, while, return}
use Rattle.terms.proofs.Answers.{result_got, result_bad}
use Rattle.code.proofs.statements.Reader.valued.Goals as goal

pub returns-in_err-at : goal.returns-in_err-at
returns-in_err-at c = put_refused _ (result_bad c.expression.ensures c.in_err-at.was) c.from_residual.ensures.1

pub returns-in-If : goal.returns-in-If
unfolding as_statement arguments_of
returns-in-If c = rw c.in-If.is (put_read if (result_got c.expression.ensures c.in_ok-at.was) c.alone.ensures)

pub returns-in-While : goal.returns-in-While
unfolding as_statement arguments_of
returns-in-While c = rw c.in-While.is (put_read while (result_got c.expression.ensures c.in_ok-at.was) c.alone-in-While.ensures)

pub returns-in-Return : goal.returns-in-Return
unfolding as_statement arguments_of
returns-in-Return c = rw c.in-Return.is (put_read return (result_got c.expression.ensures c.in_ok-at.was) c.alone-in-Return.ensures)
