-- Vocabulary of the code: where a line of the input ends. Assumes nothing.
use Rattle.std.specs.Prelude.{ℕ, suc, true, false, [], ◌∷◌, eqb}
use Rattle.terms.specs.Bytes.{Text}
use Rattle.text.specs.Lines.{line_feed}

-- the bytes before the first LF, or before the end
unfoldable pub line_length : Text → ℕ
line_length [] = 0
line_length (b ∷ s) = elim (eqb b line_feed) [ true ↦ 0 | false ↦ suc (line_length s) ]
