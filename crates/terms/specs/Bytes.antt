-- Bytes of a text: what stands at a place, a text literal as its bytes, digits. Assumes nothing.
use Rattle.std.specs.Prelude.{ℕ, ◌-◌, true, false, ◌&&◌, List, [], ◌∷◌, leb, eqb, get_or, Option, None, Some}
use Prim.Native.Char.{code}
use Prim.Native.String as Literal

abbrev pub Text : Type 0
Text = List ℕ

-- a literal as its bytes
abbrev pub bytes : Literal.String → Text
bytes Literal.[] = []
bytes (Literal.◌∷◌ c s) = code c ∷ bytes s

-- what stands at a place; past the end 0, which begins and continues nothing
abbrev pub byte_at : Text → ℕ → ℕ
byte_at s at = get_or s at 0

-- what a table says of a byte; of one that it does not have, something else
unfoldable pub told : {A : Type 0} → List (ℕ × A) → A → ℕ → A
told [] other b = other
told (row ∷ rows) other b = elim (eqb b row.0) [ true ↦ row.1 | false ↦ told rows other b ]

-- a byte as a digit, or none
unfoldable pub digit : ℕ → Option ℕ
digit b = elim (leb (code "0") b && leb b (code "9")) [ true ↦ Some (b - code "0") | false ↦ None ]
