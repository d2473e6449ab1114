-- Choices from bytes, computed: the nine digits and the 4,096 bytes from both sides. Assumes nothing.
use Prim.Native.Nat.{ℕ, ◌*◌}
use mathlib.Core.List.{List, [], ◌∷◌, ◌++◌, map}
use mathlib.Core.Path.{refl}
use lib.IntN.{ℤ, pos}
use lib.ListN.{length, replicate, drop}
use Rattle.whole.proofs.Tables.{Row, ◌is◌, Holds}
use Rattle.terms.specs.Bytes.{Text, bytes}
use Rattle.rules.specs.declared.Choice.{Choice}
use Rattle.session.specs.Choices.{choices_from}
use Rattle.session.proofs.Open.{session_open}

-- each choice as its kind and its number
numbers : Text → List ℤ
numbers input = go (choices_from input)
  where
    go : List Choice → List ℤ
    go [] = []
    go (k ∷ ks) = k.kind ∷ k.number ∷ go ks

table : List (Row (List ℤ))
table =
    (numbers (bytes "exec=1\narrive=2\nbind=3\nstart=4\ndeliver=5\n") is map pos (1 ∷ 1 ∷ 2 ∷ 2 ∷ 3 ∷ 3 ∷ 4 ∷ 4 ∷ 5 ∷ 5 ∷ []))
    -- "a number not 1 to 9 digits"
    ∷ (numbers (bytes "exec=123456789\n") is map pos (1 ∷ 123456789 ∷ []))
    ∷ (numbers (bytes "exec=1234567890\n") is map pos (0 ∷ 0 ∷ []))
    ∷ (numbers (bytes "exec=\n") is map pos (0 ∷ 0 ∷ []))
    ∷ (numbers (bytes "exec=01\n") is map pos (1 ∷ 1 ∷ []))
    -- "A line of another form"
    ∷ (numbers (bytes "Exec=1\n") is map pos (0 ∷ 0 ∷ []))
    ∷ (numbers (bytes "exec=1 \n") is map pos (0 ∷ 0 ∷ []))
    ∷ (numbers (bytes "exec=-1\n") is map pos (0 ∷ 0 ∷ []))
    ∷ (numbers (bytes "\n") is map pos (0 ∷ 0 ∷ []))
    -- "a last line needs no LF"; empty input has no choice
    ∷ (numbers (bytes "exec=1\nbind=2") is map pos (1 ∷ 1 ∷ 3 ∷ 2 ∷ []))
    ∷ (numbers [] is [])
    ∷ []

holds : Holds table
unfolding session_open numbers table
holds = (refl, (refl, (refl, (refl, (refl, (refl, (refl, (refl, (refl, (refl, (refl, tt)))))))))))

-- how many choices an input has, and the last of them
many : Text → ℕ
many input = length (choices_from input)

long_table : List (Row ℕ)
long_table =
    -- "Input past 4,096 bytes is not read"
    (many (replicate 4095 10) is 4095)
    ∷ (many (replicate 4096 10) is 4096)
    ∷ (many (replicate 4097 10) is 4096)
    ∷ []

long : Holds long_table
unfolding session_open many long_table
long = (refl, (refl, (refl, tt)))

cut_table : List (Row (List ℤ))
cut_table =
    -- the cut may fall inside a line: what stands before it is the last line
    (drop (2 * 4089) (numbers (replicate 4089 10 ++ bytes "exec=12")) is map pos (1 ∷ 12 ∷ []))
    ∷ (drop (2 * 4090) (numbers (replicate 4090 10 ++ bytes "exec=12")) is map pos (1 ∷ 1 ∷ []))
    ∷ []

cut : Holds cut_table
unfolding session_open numbers cut_table
cut = (refl, (refl, tt))
