-- Vocabulary of the code: how it reads a line by its key, and a number. Assumes nothing.
use Rattle.std.specs.Prelude.{ℕ, true, false, ◌&&◌, ◌≡◌, leb, eqb, Some, Result, Ok, Err}
use Rattle.whole.specs.Refusals.{wrong_key}
use Rattle.terms.specs.Bytes.{Text, byte_at}
use Rattle.terms.specs.Leaves.{decimal}
use Rattle.terms.specs.Parsed.{Parsed, got, bad, next, word}
use Rattle.whole.specs.declared.refusals.Refusal.{Refusal}
use Rattle.whole.specs.Vocabulary.Refusing.{number_of}
use Rattle.text.specs.Lines.{line_feed}
use Rattle.text.specs.Vocabulary.LineEnds.{sound_end}

-- what the code gives of the line at a place: where its value begins, behind the key, and where the LF stands; or, if the line is sound, it has
-- another key
unfoldable pub KeyTold : Text → Text → ℕ → Result (ℕ × ℕ) Refusal → Type 0
KeyTold key s at (Err r) = (e : ℕ) → sound_end s at ≡ Some e → (number_of r ≡ wrong_key) × (p : ℕ) × (word key s at ≡ bad p)
KeyTold key s at (Ok v) = (word key s at ≡ got v.0 tt) × (sound_end s at ≡ Some v.1)

-- a decimal in its range, with an LF behind it
unfoldable pub fed_number : ℕ → ℕ → Text → ℕ → Parsed ℕ
fed_number lowest highest s at = next (decimal highest s at) (λ end n. elim (eqb (byte_at s end) line_feed && leb lowest n) [ true ↦ got end n | false ↦ bad end ])
