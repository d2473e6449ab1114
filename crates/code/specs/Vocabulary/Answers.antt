-- Vocabulary of the code: what the definitions read of a code value, as the structs and enums that the code gives. Assumes nothing.
use Rattle.std.specs.Prelude.{ℕ, ◌+◌, List, [], ◌∷◌, ℤ, pos, replicate, set as set_at, None, Some, Result, Ok, Err}
use Rattle.std.specs.Result.{result_map_both}
use Rattle.whole.specs.Whole.{Worked}
use Rattle.terms.specs.Parsed.{Parsed, got, bad}
use Rattle.code.specs.declared.Arguments.{Arguments}
use Rattle.code.specs.declared.Statement as Declared
use Rattle.code.specs.declared.Statement.TheVariants as Said
use Rattle.code.specs.Statements.{Statement, skip, set, new, call, get, await, if, else, fi, while, od, return}

-- the first eight arguments, whether each of all is a value or one is none
unfoldable pub eight : Result (List ℤ) (List ℤ) → List ℤ
eight (Ok zs) = zs
eight (Err zs) = zs

-- no arguments, and one more; in the place of one that is no value the 0 stays
unfoldable pub no_arguments : Arguments
no_arguments = record { values = Ok (replicate 8 (pos 0)); count = 0 }

unfoldable pub with_one : Arguments → Worked → Arguments
with_one a (Some z) = record { values = result_map_both (λ zs. set_at zs a.count z) (λ zs. set_at zs a.count z) a.values; count = a.count + 1 }
with_one a None = record { values = Err (eight a.values); count = a.count + 1 }

-- a list of arguments, gathered from the left
unfoldable pub gathered : Arguments → List Worked → Arguments
gathered a [] = a
gathered a (w ∷ ws) = gathered (with_one a w) ws

-- a statement, and the arguments beside it
unfoldable pub as_statement : Statement Worked Worked → Declared.Statement
as_statement skip = Said.Skip
as_statement (set x a) = Said.Set x a
as_statement (new x k es) = Said.New x k
as_statement (call x a j es) = Said.Call x a j
as_statement (get x y) = Said.Get x y
as_statement (await g) = Said.Await g
as_statement (if a) = Said.If a
as_statement else = Said.Else
as_statement fi = Said.Fi
as_statement (while a) = Said.While a
as_statement od = Said.Od
as_statement (return a) = Said.Return a

unfoldable pub arguments_of : Statement Worked Worked → Arguments
arguments_of skip = no_arguments
arguments_of (set x a) = no_arguments
arguments_of (new x k es) = gathered no_arguments es
arguments_of (call x a j es) = gathered no_arguments es
arguments_of (get x y) = no_arguments
arguments_of (await g) = no_arguments
arguments_of (if a) = no_arguments
arguments_of else = no_arguments
arguments_of fi = no_arguments
arguments_of (while a) = no_arguments
arguments_of od = no_arguments
arguments_of (return a) = no_arguments

-- a statement that was read, and the arguments beside it
abbrev pub said : Statement Worked Worked → Declared.Statement × Arguments
said st = (as_statement st, arguments_of st)

-- a code value that was read, or the place of its refusal
unfoldable pub as_code : Parsed (Statement Worked Worked) → Result (Declared.Statement × Arguments) ℕ
as_code (got at st) = Ok (said st)
as_code (bad at) = Err at
