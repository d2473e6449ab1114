-- `code::statements::Reader::await_form`: the guard, put as a statement.
use Rattle.code.proofs.Ending.{put_refused, put_read}
use Rattle.code.specs.Reader as Grammar
use Rattle.code.specs.Vocabulary.Answers.{as_statement, arguments_of}
use Rattle.code.specs.Statements.{await}
use Rattle.terms.proofs.Answers.{result_got, result_bad}
use Rattle.code.proofs.statements.Reader.await_form.Goals as goal

pub returns-in_err-at : goal.returns-in_err-at
unfolding Grammar.rest
returns-in_err-at c = put_refused _ (result_bad c.guard.ensures c.in_err-at.was) c.from_residual.ensures.1

pub returns : goal.returns
unfolding Grammar.rest as_statement arguments_of
returns c = put_read await (result_got c.guard.ensures c.in_ok-at.was) c.alone.ensures
