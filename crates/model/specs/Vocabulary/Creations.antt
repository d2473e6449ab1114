-- Vocabulary of the code: the `new`s of a text, by the rows of its code lines. Assumes nothing.
use Rattle.std.specs.Prelude.{ℕ, zero, suc, ◌+◌, ◌*◌, ◌/◌, ◌%◌, Bool, true, List, [], ◌∷◌, ◌++◌, ◌≡◌, eqb, Option, None, Some}
use Rattle.whole.specs.Lists.{EachFrom}
use Rattle.model.specs.Bounds.{most_classes}
use Rattle.model.specs.Judge.{given_to}
use Rattle.model.specs.Model.{Model}
use Rattle.model.specs.ModelText.{Creation}
use Rattle.model.specs.Vocabulary.Table.{Table, row_at, class_row, code_row}

-- a `new` as one number, of its class and of how many arguments there are; 0 for a line that is none
unfoldable pub new_number : Option (ℕ × ℕ) → ℕ
new_number None = 0
new_number (Some n) = 1 + n.0 + most_classes * n.1

-- the creation that such a number tells, at a line of the text
unfoldable pub creation_told : ℕ → ℕ → List Creation
creation_told at zero = []
creation_told at (suc n) = record { at = at; class = n % most_classes; count = n / most_classes } ∷ []

-- and the creations that code rows tell, so many from one on
unfoldable pub creations_from : Table → ℕ → ℕ → List Creation
creations_from t i zero = []
creations_from t i (suc n) = let r = row_at t (code_row i) in creation_told r.2 r.3 ++ creations_from t (suc i) n

-- those of the first rows
abbrev pub creations_in : Table → ℕ → List Creation
creations_in t n = creations_from t 0 n

-- such a number fits a model: it tells no creation, or as many arguments as its class is to be given
unfoldable pub new_fits : Model → ℕ → Bool
new_fits m zero = true
new_fits m (suc n) = eqb (n / most_classes) (given_to m (n % most_classes))

-- a table tells what each class of a model is to be given
abbrev pub GivenTold : Table → Model → Type 0
GivenTold t m = EachFrom (λ k c. (row_at t (class_row k)).1 ≡ c.given) 0 m
