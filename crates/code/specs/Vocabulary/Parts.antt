-- Vocabulary of the code: what each part of the statement reader is to give, by what it reads in: the grammar at the reading *values*. Assumes nothing.
use Rattle.std.specs.Prelude.{ℕ}
use Rattle.whole.specs.Whole.{Worked}
use Rattle.terms.specs.Vocabulary.Answers.{surroundings}
use Rattle.terms.specs.declared.Variable.{Variable}
use Rattle.terms.specs.Parsed.{Parsed, closed, mapped, repeated, joining}
use Rattle.terms.specs.Leaves as Leaves
use Rattle.terms.specs.Vocabulary.Readers.{expression_read, guard_read}
use Rattle.terms.specs.Expressions.{brackets}
use Rattle.terms.specs.Values.{values, guard_values}
use Rattle.code.specs.declared.Arguments.{Arguments}
use Rattle.code.specs.declared.Form.{Form}
use Rattle.code.specs.declared.Statement as Declared
use Rattle.code.specs.declared.statements.Reader.{Reader}
use Rattle.code.specs.Vocabulary.Answers.{no_arguments, with_one, gathered, said}
use Rattle.code.specs.Reader as Grammar

module _ (r : Reader) where
  -- an expression and a guard that begin with no bracket open
  abbrev pub expression : ℕ → Parsed Worked
  expression = expression_read r.cells.now r.around r.text.now brackets

  abbrev pub guard : ℕ → Parsed Worked
  guard = guard_read r.cells.now r.around r.text.now brackets

  -- a variable, and one with a space behind it
  abbrev pub variable : ℕ → Parsed Variable
  variable = Leaves.variable r.around.limits r.text.now

  abbrev pub target : ℕ → Parsed Variable
  target at = closed 32 r.text.now (variable at)

  -- the arguments after some, at most so many
  abbrev pub more_arguments : ℕ → ℕ → Arguments → Parsed Arguments
  more_arguments = repeated (joining Grammar.comma (λ _. with_one) r.text.now expression)

  -- a space and a list of arguments, or neither
  abbrev pub arguments : ℕ → ℕ → Parsed Arguments
  arguments most at =
      mapped (gathered no_arguments) (Grammar.arguments (values (surroundings r.cells.now r.around.here)) (guard_values (surroundings r.cells.now r.around.here)) r.around.limits r.classes r.text.now most at)

  -- what follows the word of a form
  abbrev pub rest : Form → ℕ → Parsed (Declared.Statement × Arguments)
  rest f at =
      mapped said (Grammar.rest (values (surroundings r.cells.now r.around.here)) (guard_values (surroundings r.cells.now r.around.here)) r.around.limits r.classes r.text.now f at)
