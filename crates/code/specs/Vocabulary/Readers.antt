-- Vocabulary of the code: what a code value is to give: the grammar at the reading *values*, as the code's enums and structs. Assumes nothing.
use Rattle.std.specs.Prelude.{ℕ, Result}
use Rattle.layout.specs.Layout.{Cells}
use Rattle.terms.specs.declared.Around.{Around}
use Rattle.terms.specs.Vocabulary.Answers.{surroundings}
use Rattle.terms.specs.Bytes.{Text}
use Rattle.terms.specs.Values.{values, guard_values}
use Rattle.code.specs.declared.Arguments.{Arguments}
use Rattle.code.specs.declared.Statement as Declared
use Rattle.code.specs.Vocabulary.Answers.{as_code}
use Rattle.code.specs.Reader.{statement}

-- a whole code value
abbrev pub statement_read : Cells → Around → ℕ → Text → Result (Declared.Statement × Arguments) ℕ
statement_read c a classes s = as_code (statement (values (surroundings c a.here)) (guard_values (surroundings c a.here)) a.limits classes s)
