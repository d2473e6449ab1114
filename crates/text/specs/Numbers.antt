-- "A decimal has no leading zero, except 0 itself.": the whole value, in its range. Assumes nothing.
use Rattle.std.specs.Prelude.{ℕ, true, false, leb, Option, None, Some}
use Rattle.terms.specs.Bytes.{Text}
use Rattle.terms.specs.Leaves.{decimal}
use Rattle.terms.specs.Parsed.{got, bad, ended}

-- the number that a value is, from its lowest to its highest
unfoldable pub number_in : ℕ → ℕ → Text → Option ℕ
number_in least most value = elim (ended value (decimal most value 0)) [
  | got at n ↦ elim (leb least n) [ true ↦ Some n | false ↦ None ]
  | bad at ↦ None
]
