-- Vocabulary of the code: where the line that begins at a place ends, if it is sound. Assumes nothing.
use Rattle.std.specs.Prelude.{ℕ, ◌+◌, true, false, List, [], ◌∷◌, length, drop, Option, Some, None}
use Rattle.terms.specs.Bytes.{Text}
use Rattle.text.specs.Lines.{Line, lines, sound, content}

-- the end of the first of some lines, which begins at a place: where its LF stands, if the line is sound
unfoldable pub first_end : ℕ → List Line → Option ℕ
first_end at [] = None
first_end at (l ∷ ls) = elim (sound l) [ true ↦ Some (at + length (content l)) | false ↦ None ]

-- the end of the line that begins at a place
unfoldable pub sound_end : Text → ℕ → Option ℕ
sound_end s at = first_end at (lines (drop at s))
