-- A table of cases: what is computed beside what is said, under one statement. Assumes nothing.
use mathlib.Core.List.{List, [], ◌∷◌}
use mathlib.Core.Path.{◌≡◌}

infix 5 ◌is◌
pub record Row (A : Type 0) : Type 0 where
  pub computed : A
  pub said : A

abbrev pub ◌is◌ : {A : Type 0} → A → A → Row A
a is b = record { computed = a; said = b }

-- each row of a table computes what is said
abbrev pub Holds : {A : Type 0} → List (Row A) → Type 0
Holds [] = Unit {0}
Holds (r ∷ rs) = (r.computed ≡ r.said) × Holds rs
