-- A number as a decimal, and a line that names it. Assumes nothing.
use Rattle.std.specs.Prelude.{ℕ, zero, suc, ◌+◌, ◌/◌, ◌%◌, true, false, [], ◌∷◌, ◌++◌, ltb}
use Prim.Native.Char.{code}
use Rattle.terms.specs.Bytes.{Text}
use Rattle.text.specs.Lines.{line_feed}

-- the digits of a number before some bytes; each turn leaves a tenth, so that there are more turns than digits
unfoldable pub shown_from : ℕ → ℕ → Text → Text
shown_from zero n s = s
shown_from (suc more) n s = elim (ltb n 10) [
  | true ↦ (code "0" + n) ∷ s
  | false ↦ shown_from more (n / 10) ((code "0" + n % 10) ∷ s)
]

unfoldable pub shown : ℕ → Text
shown n = shown_from (suc n) n []

-- a name with its `=`, a number, and an LF
unfoldable pub shown_line : Text → ℕ → Text
shown_line name n = name ++ shown n ++ (line_feed ∷ [])
