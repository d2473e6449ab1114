-- `code::statements::Reader::rest`: the forms that are a word alone, and those that are a word and an expression.
use Rattle.code.proofs.Ending.{read_alone}
use Rattle.code.specs.Vocabulary.Answers.{as_statement, arguments_of}
use Rattle.code.specs.Reader as Grammar
use Rattle.code.specs.Statements.{skip, else, fi, od}
use Rattle.code.proofs.statements.Reader.rest.Goals as goal

pub returns-in-Skip : goal.returns-in-Skip
unfolding Grammar.rest as_statement arguments_of
returns-in-Skip c = rw c.in-Skip.is (read_alone _ skip c.alone.ensures)

pub returns-in-Else : goal.returns-in-Else
unfolding Grammar.rest as_statement arguments_of
returns-in-Else c = rw c.in-Else.is (read_alone _ else c.alone-in-Else.ensures)

pub returns-in-Fi : goal.returns-in-Fi
unfolding Grammar.rest as_statement arguments_of
returns-in-Fi c = rw c.in-Fi.is (read_alone _ fi c.alone-in-Fi.ensures)

pub returns-in-Od : goal.returns-in-Od
unfolding Grammar.rest as_statement arguments_of
returns-in-Od c = rw c.in-Od.is (read_alone _ od c.alone-in-Od.ensures)

pub returns-in-If : goal.returns-in-If
unfolding Grammar.rest Grammar.operand
returns-in-If c = rw c.in-If.is c.valued.ensures

pub returns-in-While : goal.returns-in-While
unfolding Grammar.rest Grammar.operand
returns-in-While c = rw c.in-While.is c.valued-in-While.ensures

pub returns-in-Return : goal.returns-in-Return
unfolding Grammar.rest Grammar.operand
returns-in-Return c = rw c.in-Return.is c.valued-in-Return.ensures
