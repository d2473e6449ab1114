-- The partner of a line that opens or closes a block, by what it is: the lines between the two are balanced. Assumes nothing.
use Rattle.std.specs.Prelude.{ℕ, zero, suc, ◌+◌, ◌-◌, Bool, true, false, ◌&&◌, List, eqb, length, get_or, take, drop, Option, None, Some}
use Rattle.code.specs.declared.Shape.{Shape}
use Rattle.code.specs.Blocks.{Block, rank, opening, closing, balanced}

-- one line opens the block that another closes: an `else` fits an `if`, a `fi` an `else`, an `od` a `while`
unfoldable pub same_block : Option Block → Option Block → Bool
same_block None c = false
same_block (Some b) None = false
same_block (Some b) (Some c) = eqb (rank b) (rank c)

unfoldable pub fits : Shape → Shape → Bool
fits l m = same_block (opening l) (closing m)

-- the lines strictly between two
unfoldable pub lines_between : List Shape → ℕ → ℕ → List Shape
lines_between ls i j = take (j - (i + 1)) (drop (i + 1) ls)

-- the line at j is the partner of the line at i before it
unfoldable pub partners : List Shape → ℕ → ℕ → Bool
partners ls i j = fits (get_or ls i Shape.Plain) (get_or ls j Shape.Plain) && balanced (lines_between ls i j)

-- the first number from j on that passes a test, of so many
unfoldable pub first_from : (ℕ → Bool) → ℕ → ℕ → Option ℕ
first_from test zero j = None
first_from test (suc more) j = elim (test j) [ true ↦ Some j | false ↦ first_from test more (j + 1) ]

-- the last number below j that passes a test
unfoldable pub last_below : (ℕ → Bool) → ℕ → Option ℕ
last_below test zero = None
last_below test (suc j) = elim (test j) [ true ↦ Some j | false ↦ last_below test j ]

-- a line past the end, where there is no partner: no accepted model asks for it
unfoldable pub or_end : List Shape → Option ℕ → ℕ
or_end ls None = length ls
or_end ls (Some j) = j

-- the partner of a line that opens a block
unfoldable pub ahead : List Shape → ℕ → ℕ
ahead ls i = or_end ls (first_from (partners ls i) (length ls) (i + 1))

-- the partner of a line that closes a block
unfoldable pub behind : List Shape → ℕ → ℕ
behind ls i = or_end ls (last_below (λ j. partners ls j i) i)

-- the line that a line goes to: "`if` false goes to the line after its `else`; `else` goes to the line after its `fi`; `while` false to the
-- line after its `od`; `od` back to its `while`"
unfoldable pub goes_from : Shape → List Shape → ℕ → ℕ
goes_from Shape.If ls i = ahead ls i + 1
goes_from Shape.Else ls i = ahead ls i + 1
goes_from Shape.While ls i = ahead ls i + 1
goes_from Shape.Od ls i = behind ls i
goes_from Shape.Fi ls i = i + 1
goes_from Shape.Return ls i = i
goes_from Shape.Await ls i = i + 1
goes_from Shape.Plain ls i = i + 1

unfoldable pub goes_to : List Shape → ℕ → ℕ
goes_to ls i = goes_from (get_or ls i Shape.Plain) ls i
