-- Plain helpers that the definitions of every layer use: tests that join, and tests over a range of numbers. Assumes nothing.
use Rattle.std.specs.Prelude.{ℕ, zero, suc, Bool, true, false, ◌&&◌, List, [], ◌∷◌, Option, None, Some}

infixl 10 ◌>>=◌
-- the test holds of each number from 1 to n
unfoldable pub all_to : ℕ → (ℕ → Bool) → Bool
all_to zero test = true
all_to (suc n) test = elim (test (suc n)) [ true ↦ all_to n test | false ↦ false ]

-- the test holds of each number below n
unfoldable pub all_below : ℕ → (ℕ → Bool) → Bool
all_below zero test = true
all_below (suc n) test = elim (test n) [ true ↦ all_below n test | false ↦ false ]

-- the tests of a list hold together
abbrev pub all : List Bool → Bool
all [] = true
all (b ∷ bs) = b && all bs

-- a test that is asked only under a condition: where the condition does not hold, nothing is asked
abbrev pub whenever : Bool → Bool → Bool
whenever true b = b
whenever false b = true

-- a number that passed a test, or none
unfoldable pub only_if : Bool → ℕ → Option ℕ
only_if true n = Some n
only_if false n = None

-- what may be missing, used where it is there: `do` joins several
abbrev pub ◌>>=◌ : {A B : Type 0} → Option A → (A → Option B) → Option B
◌>>=◌ None k = None
◌>>=◌ (Some a) k = k a
