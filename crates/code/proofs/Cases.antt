-- Where the lines of blocks go to, where refused code values are placed, and what is gathered of arguments, computed. Assumes nothing.
use Rattle.std.specs.Prelude.{None, Some, Ok, Err}
use Prim.Native.Nat.{ℕ}
use mathlib.Core.List.{List, [], ◌∷◌}
use mathlib.Core.Path.{refl}
use lib.IntN.{ℤ, pos}
use Rattle.whole.specs.Whole.{Worked}
use Rattle.whole.proofs.Tables.{Row, ◌is◌, Holds}
use Rattle.terms.specs.Bytes.{Text, bytes}
use Rattle.terms.specs.Vocabulary.Nothing.{nothing, guard_nothing}
use Rattle.terms.specs.Parsed.{Parsed, got, bad, mapped}
use Rattle.code.specs.declared.Arguments.{Arguments}
use Rattle.code.specs.declared.Shape.{Shape}
use Rattle.code.specs.Vocabulary.Answers.{no_arguments, gathered}
use Rattle.code.specs.Partners.{goes_to}
use Rattle.code.specs.Reader.{statement}
use Rattle.code.proofs.Open.{code_open}

-- 0 while, 1 if, 2 if, 3 plain, 4 else, 5 fi, 6 else, 7 plain, 8 fi, 9 od, 10 return
shapes : List Shape
shapes = Shape.While ∷ Shape.If ∷ Shape.If ∷ Shape.Plain ∷ Shape.Else ∷ Shape.Fi ∷ Shape.Else ∷ Shape.Plain ∷ Shape.Fi ∷ Shape.Od ∷ Shape.Return ∷ []

going_table : List (Row ℕ)
going_table =
    -- "`while` false to the line after its `od`; `od` back to its `while`"
    (goes_to shapes 0 is 10)
    ∷ (goes_to shapes 9 is 0)
    -- "`if` false goes to the line after its `else`; `else` goes to the line after its `fi`"
    ∷ (goes_to shapes 1 is 7)
    ∷ (goes_to shapes 6 is 9)
    ∷ (goes_to shapes 2 is 5)
    ∷ (goes_to shapes 4 is 6)
    ∷ []

-- a method with a0 and v0, in a model of two classes: what a code value is accepted or refused at
read : Text → Parsed (Unit {0})
read s = mapped (λ _. tt) (statement nothing guard_nothing (record { attrs = 1; locals = 1 }) 2 s)

reading_table : List (Row (Parsed (Unit {0})))
reading_table =
    (read (bytes "skip") is got 4 tt)
    ∷ (read (bytes "skip ") is bad 4)
    ∷ (read (bytes "sip") is bad 1)
    ∷ (read (bytes "set a0 1<2") is got 10 tt)
    ∷ (read (bytes "set a0 1<2<3") is bad 10)
    ∷ (read (bytes "set a1 1") is bad 4)
    -- "`new X K` or `new X K E,..`": any number of arguments here, and a class below `classes`
    ∷ (read (bytes "new v0 1") is got 8 tt)
    ∷ (read (bytes "new v0 1 1,2,3,4,5,6") is got 20 tt)
    ∷ (read (bytes "new v0 2") is bad 7)
    ∷ (read (bytes "new v0 1 ") is bad 9)
    ∷ (read (bytes "new v0 1 1,") is bad 11)
    -- "(0 to 4 arguments, J 0..7)"
    ∷ (read (bytes "call v0 self 7 1,2,3,4") is got 22 tt)
    ∷ (read (bytes "call v0 self 7 1,2,3,4,5") is bad 22)
    ∷ (read (bytes "call v0 self 8") is bad 13)
    ∷ (read (bytes "get v0 a0") is got 9 tt)
    ∷ (read (bytes "await v0?&wait") is got 14 tt)
    ∷ (read (bytes "await v0") is bad 8)
    ∷ (read (bytes "return") is bad 6)
    ∷ (read [] is bad 0)
    ∷ []

-- a value, and arguments of which each is one, or one is none: their first eight, and how many there are
value : ℕ → Worked
value n = Some (pos n)

each : ℕ → List ℤ → Arguments
each n zs = record { values = Ok zs; count = n }

not_each : ℕ → List ℤ → Arguments
not_each n zs = record { values = Err zs; count = n }

numbers : ℕ → ℕ → ℕ → ℕ → ℕ → ℕ → ℕ → ℕ → List ℤ
numbers a b c d e f g h = pos a ∷ pos b ∷ pos c ∷ pos d ∷ pos e ∷ pos f ∷ pos g ∷ pos h ∷ []

gathered_table : List (Row Arguments)
gathered_table =
    (gathered no_arguments [] is each 0 (numbers 0 0 0 0 0 0 0 0))
    ∷ (gathered no_arguments (value 1 ∷ value 3 ∷ []) is each 2 (numbers 1 3 0 0 0 0 0 0))
    -- one that is none leaves those before it and after it
    ∷ (gathered no_arguments (value 3 ∷ None ∷ value 5 ∷ []) is not_each 3 (numbers 3 0 5 0 0 0 0 0))
    ∷ (gathered no_arguments (None ∷ []) is not_each 1 (numbers 0 0 0 0 0 0 0 0))
    -- past the eighth only the count goes on, and one that is none is told
    ∷ (gathered no_arguments (value 1 ∷ value 2 ∷ value 3 ∷ value 4 ∷ value 5 ∷ value 6 ∷ value 7 ∷ value 8 ∷ value 9 ∷ []) is each 9 (numbers 1 2 3 4 5 6 7 8))
    ∷ (gathered no_arguments (value 1 ∷ value 2 ∷ value 3 ∷ value 4 ∷ value 5 ∷ value 6 ∷ value 7 ∷ value 8 ∷ None ∷ []) is not_each 9 (numbers 1 2 3 4 5 6 7 8))
    ∷ []

going_holds : Holds going_table
unfolding code_open going_table shapes
going_holds = (refl, (refl, (refl, (refl, (refl, (refl, tt))))))

reading_holds : Holds reading_table
unfolding code_open reading_table read
reading_holds =
    (refl, (refl, (refl, (refl, (refl, (refl, (refl, (refl, (refl, (refl, (refl, (refl, (refl, (refl, (refl, (refl, (refl, (refl, (refl, tt)))))))))))))))))))

gathered_holds : Holds gathered_table
unfolding code_open gathered_table value each not_each numbers
gathered_holds = (refl, (refl, (refl, (refl, (refl, (refl, tt))))))
