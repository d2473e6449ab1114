-- Vocabulary of the code: the shapes of a method's lines as numbers. Assumes nothing.
use Rattle.std.specs.Prelude.{ℕ, List, [], ◌∷◌, map, get_or}
use Rattle.code.specs.declared.Shape.{Shape}

-- the shape of a number, as a method's lines are handed to the code; a number of no shape is a plain line
abbrev pub in_order : List Shape
in_order = Shape.If ∷ Shape.Else ∷ Shape.Fi ∷ Shape.While ∷ Shape.Od ∷ Shape.Return ∷ Shape.Await ∷ []

unfoldable pub shape_at : ℕ → Shape
shape_at n = get_or in_order n Shape.Plain

unfoldable pub shapes_in : List ℕ → List Shape
shapes_in = map shape_at
