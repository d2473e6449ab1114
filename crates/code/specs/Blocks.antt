-- How the lines of a method open and close blocks. Assumes nothing.
use Rattle.std.specs.Prelude.{ℕ, Bool, true, false, List, [], ◌∷◌, eqb, Option, None, Some}
use Rattle.code.specs.declared.Shape.{Shape}
use Rattle.code.specs.Statements.{Statement, skip, set, new, call, get, await, if, else, fi, while, od, return}

-- what a line is, as far as blocks, returns and awaits go
unfoldable pub shape_of : {A G : Type 0} → Statement A G → Shape
shape_of skip = Shape.Plain
shape_of (set x a) = Shape.Plain
shape_of (new x class es) = Shape.Plain
shape_of (call x a method es) = Shape.Plain
shape_of (get x y) = Shape.Plain
shape_of (await g) = Shape.Await
shape_of (if a) = Shape.If
shape_of else = Shape.Else
shape_of fi = Shape.Fi
shape_of (while a) = Shape.While
shape_of od = Shape.Od
shape_of (return a) = Shape.Return

-- whether a line is of a shape, by numbers that tell the shapes apart
unfoldable pub shape_number : Shape → ℕ
shape_number Shape.If = 0
shape_number Shape.Else = 1
shape_number Shape.Fi = 2
shape_number Shape.While = 3
shape_number Shape.Od = 4
shape_number Shape.Return = 5
shape_number Shape.Await = 6
shape_number Shape.Plain = 7

unfoldable pub is_shape : Shape → Shape → Bool
is_shape l m = eqb (shape_number l) (shape_number m)

-- an open block: an `if` that waits for its `else`, one that waits for its `fi`, a `while` that waits for its `od`
pub data Block : Type 0 where
  until_else until_fi until_od : Block

-- what tells blocks apart
unfoldable pub rank : Block → ℕ
rank until_else = 0
rank until_fi = 1
rank until_od = 2

-- the block that a line closes, and the one that it opens: "Every `if` has one `else` and one `fi`"
unfoldable pub closing : Shape → Option Block
closing Shape.If = None
closing Shape.Else = Some until_else
closing Shape.Fi = Some until_fi
closing Shape.While = None
closing Shape.Od = Some until_od
closing Shape.Return = None
closing Shape.Await = None
closing Shape.Plain = None

unfoldable pub opening : Shape → Option Block
opening Shape.If = Some until_else
opening Shape.Else = Some until_fi
opening Shape.Fi = None
opening Shape.While = Some until_od
opening Shape.Od = None
opening Shape.Return = None
opening Shape.Await = None
opening Shape.Plain = None

-- the open blocks, innermost first, without the one that a line closes: it must be the innermost
unfoldable pub without : Option Block → List Block → Option (List Block)
without None bs = Some bs
without (Some b) [] = None
without (Some b) (c ∷ bs) = elim (eqb (rank b) (rank c)) [ true ↦ Some bs | false ↦ None ]

unfoldable pub with : Option Block → List Block → List Block
with None bs = bs
with (Some b) bs = b ∷ bs

-- the open blocks after a line, or none where the line cannot stand there
unfoldable pub through : Shape → List Block → Option (List Block)
through l bs = elim (without (closing l) bs) [ None ↦ None | Some after ↦ Some (with (opening l) after) ]

-- the open blocks after several lines
unfoldable pub through_all : List Shape → List Block → Option (List Block)
through_all [] bs = Some bs
through_all (l ∷ ls) bs = elim (through l bs) [ None ↦ None | Some after ↦ through_all ls after ]

-- no block is open
unfoldable pub all_closed : Option (List Block) → Bool
all_closed None = false
all_closed (Some []) = true
all_closed (Some (b ∷ bs)) = false

-- lines that open what they close and close what they open
unfoldable pub balanced : List Shape → Bool
balanced ls = all_closed (through_all ls [])
