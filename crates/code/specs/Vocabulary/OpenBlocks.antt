-- Vocabulary of the code: the open blocks of a method as one number: a digit from 1 to 3 for each, the innermost lowest, base 4. No digit is 0, so that the number
-- tells how many blocks are open. Assumes nothing.
use Rattle.std.specs.Prelude.{ℕ, ◌+◌, ◌*◌, List, [], ◌∷◌, Option, None, Some}
use Rattle.code.specs.declared.Shape.{Shape}
use Rattle.code.specs.declared.Statement as Declared
use Rattle.code.specs.declared.Statement.TheVariants as Said
use Rattle.code.specs.Blocks.{Block, rank}

-- the digit of a block
unfoldable pub block_digit : Block → ℕ
block_digit b = rank b + 1

unfoldable pub packed_blocks : List Block → ℕ
packed_blocks [] = 0
packed_blocks (b ∷ bs) = block_digit b + 4 * packed_blocks bs

-- what the code gives for the open blocks after a line
unfoldable pub as_blocks : Option (List Block) → Option ℕ
as_blocks (Some bs) = Some (packed_blocks bs)
as_blocks None = None

-- what a line is, by what the code read of it
unfoldable pub shape_said : Declared.Statement → Shape
shape_said Said.Skip = Shape.Plain
shape_said (Said.Set x a) = Shape.Plain
shape_said (Said.New x k) = Shape.Plain
shape_said (Said.Call x a j) = Shape.Plain
shape_said (Said.Get x y) = Shape.Plain
shape_said (Said.Await g) = Shape.Await
shape_said (Said.If a) = Shape.If
shape_said Said.Else = Shape.Else
shape_said Said.Fi = Shape.Fi
shape_said (Said.While a) = Shape.While
shape_said Said.Od = Shape.Od
shape_said (Said.Return a) = Shape.Return
