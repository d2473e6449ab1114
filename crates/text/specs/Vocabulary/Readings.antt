-- Vocabulary of the code: what the code gives of a reading of lines: what refuses one of them, or the same place and what was read. Assumes nothing.
use Rattle.std.specs.Prelude.{ℕ, ◌+◌, ◌≤◌, true, false, List, [], ◌∷◌, ◌≡◌, length, drop, Result, Ok, Err}
use Rattle.whole.specs.Refusals.{broken_line, wrong_key}
use Rattle.whole.specs.Vocabulary.Refusing.{number_of}
use Rattle.terms.specs.Bytes.{Text}
use Rattle.text.specs.declared.At.{At}
use Rattle.text.specs.declared.Failed.{Failed}
use Rattle.text.specs.declared.Verdict.{Verdict}
use Rattle.text.specs.InOrder.{LinesRead, failed, after, Reader}
use Rattle.text.specs.Lines.{Line, lines, sound, longest_text}

-- a place in a text that is not too long, where no more lines were passed than bytes
abbrev pub Placed : Text → At → Type 0
Placed s p = (p.place ≤ length s) × (p.line ≤ p.place + 1) × (length s ≤ longest_text)

-- the first line
abbrev pub begin : At
begin = record { place = 0; line = 1 }

-- reading the lines that begin at a place
abbrev pub read_at : {A : Type 0} → Reader A → Text → At → LinesRead A
read_at r s p = r p.line (lines (drop p.place s))

-- a line that a number refuses: "the lowest number that applies there" is that of a broken line. "a text ended early names the line after its
-- last", which has no key
unfoldable pub lowest_of : ℕ → List Line → ℕ
lowest_of n [] = wrong_key
lowest_of n (l ∷ ls) = elim (sound l) [ true ↦ n | false ↦ broken_line ]

-- the verdict on it, where it begins at a place
abbrev pub fault : Text → ℕ → At → Verdict
fault s n p = record { number = lowest_of n (lines (drop p.place s)); line = p.line }

-- what the code gives of a reading: what refuses a line, or a number that fits what was read, and where the lines that are left begin
unfoldable pub Tells : {A : Type 0} → Text → (A → ℕ → Type 0) → Result (ℕ × At) Failed → LinesRead A → Type 0
Tells s P (Err f) x = x ≡ failed (fault s (number_of f.refusal) f.at)
Tells {A} s P (Ok r) x = (a : A) × (x ≡ after a r.1.line (lines (drop r.1.place s))) × Placed s r.1 × P a r.0

-- a number in its range
abbrev pub InRange : ℕ → ℕ → ℕ → ℕ → Type 0
InRange lowest highest a n = (a ≡ n) × (lowest ≤ n) × (n ≤ highest)
