-- Shapes and their numbers, by which the code tells them apart. Assumes nothing.
use Prim.Native.Nat.{ℕ, zero, suc, ◌≤◌, ◌<◌}
use mathlib.Core.List.{List, [], ◌∷◌, map}
use mathlib.Core.Logic.{inl, inr}
use mathlib.Core.Path.{◌≡◌, refl, sym, ap, subst, ◌∙◌}
use native.Mathlib.Omega.{arith}
use denote.Enum.Declared.{tag_of}
use types.Run.{OneOf}
use lib.ListN.{length, get_or, length-map, get_or-eq_default}
use Rattle.code.specs.declared.Shape.{Shape}
use Rattle.code.specs.Blocks.{shape_number}
use Rattle.code.specs.Vocabulary.Shapes.{in_order, shape_at, shapes_in}
use Rattle.code.specs.contracts.Shape.{the_type}

-- a shape is that of its number
pub shape_of_number : (s : Shape) → shape_at (shape_number s) ≡ s
unfolding shape_at shape_number
shape_of_number Shape.If = refl
shape_of_number Shape.Else = refl
shape_of_number Shape.Fi = refl
shape_of_number Shape.While = refl
shape_of_number Shape.Od = refl
shape_of_number Shape.Return = refl
shape_of_number Shape.Await = refl
shape_of_number Shape.Plain = refl

-- lines are told by the numbers of their shapes
pub shapes_of_numbers : (ls : List Shape) → shapes_in (map shape_number ls) ≡ ls
unfolding shapes_in
shapes_of_numbers [] = refl
shapes_of_numbers (l ∷ ls) = ap (◌∷ map shape_at (map shape_number ls)) (shape_of_number l) ∙ ap (l ∷◌) (shapes_of_numbers ls)

-- the code tells a shape by its number
tag_number : (s : Shape) → tag_of the_type s ≡ shape_number s
unfolding shape_number
tag_number Shape.If = refl
tag_number Shape.Else = refl
tag_number Shape.Fi = refl
tag_number Shape.While = refl
tag_number Shape.Od = refl
tag_number Shape.Return = refl
tag_number Shape.Await = refl
tag_number Shape.Plain = refl

-- what holds of the shape of each of some numbers
abbrev pub OfEach : List ℕ → (Shape → Type 0) → Type 0
OfEach [] P = Unit {0}
OfEach (k ∷ ks) P = P (shape_at k) × OfEach ks P

module _ (P : Shape → Type 0) (s : Shape) where
  of_one : (k : ℕ) → P (shape_at k) → tag_of the_type s ≡ k → P s
  of_one k p e = subst P (ap shape_at (sym e ∙ tag_number s) ∙ shape_of_number s) p

  -- holds of the shape that an arm of the code finds
  pub of_each : (ks : List ℕ) → OfEach ks P → OneOf ks (tag_of the_type s) → P s
  of_each [] ps h = absurd h
  of_each (k ∷ []) ps h = of_one k ps.0 h
  of_each (k ∷ j ∷ ks) ps (inl e) = of_one k ps.0 e
  of_each (k ∷ j ∷ ks) ps (inr h) = of_each (j ∷ ks) ps.1 h

-- from 7 on a number is a plain line's
pub shape_plain : (n : ℕ) → 7 ≤ n → shape_at n ≡ Shape.Plain
unfolding shape_at
shape_plain n h = get_or-eq_default in_order Shape.Plain h

pub shapes_length : (ns : List ℕ) → length (shapes_in ns) ≡ length ns
unfolding shapes_in
shapes_length ns = length-map ns shape_at

-- the shape at a line is that of the number there
pub shapes_at_lem : (ns : List ℕ) (i : ℕ) → i < length ns → get_or (shapes_in ns) i Shape.Plain ≡ shape_at (get_or ns i 0)
unfolding shapes_in
shapes_at_lem [] i h = absurd (omega arith)
shapes_at_lem (n ∷ ns) zero h = refl
shapes_at_lem (n ∷ ns) (suc i) h = shapes_at_lem ns i (omega arith)
