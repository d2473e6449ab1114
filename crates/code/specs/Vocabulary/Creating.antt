-- Vocabulary of the code: the class that a `new` names and how many arguments it has, by the statement and by what the code read of it. Assumes nothing.
use Rattle.std.specs.Prelude.{ℕ, Option, None, Some}
use Rattle.code.specs.declared.Statement as Declared
use Rattle.code.specs.declared.Statement.TheVariants as Said

-- the same of a statement beside which so many arguments stand
unfoldable pub new_said : Declared.Statement → ℕ → Option (ℕ × ℕ)
new_said Said.Skip n = None
new_said (Said.Set x a) n = None
new_said (Said.New x k) n = Some (k, n)
new_said (Said.Call x a j) n = None
new_said (Said.Get x y) n = None
new_said (Said.Await g) n = None
new_said (Said.If a) n = None
new_said Said.Else n = None
new_said Said.Fi n = None
new_said (Said.While a) n = None
new_said Said.Od n = None
new_said (Said.Return a) n = None
