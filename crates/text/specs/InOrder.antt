-- "Every line is key=value, in this order": lines read one after another, each by what it is to be. Assumes nothing.
use Rattle.std.specs.Prelude.{ℕ, zero, suc, ◌+◌, true, false, List, [], ◌∷◌, drop, None, Some}
use Rattle.whole.specs.Refusals.{broken_line, wrong_key, wrong_number}
use Rattle.terms.specs.Bytes.{Text}
use Rattle.terms.specs.Parsed.{got, bad, word}
use Rattle.text.specs.declared.Verdict.{Verdict}
use Rattle.text.specs.Lines.{Line, sound, content}
use Rattle.text.specs.Numbers.{number_in}

infixl 10 ◌>>=◌
-- what reading lines gives: the verdict that refuses one of them, or what was read, the number of the next line, and the lines left
pub data LinesRead (A : Type 0) : Type 0 where
  failed : Verdict → LinesRead A
  after : A → ℕ → List Line → LinesRead A

-- reading from a line on, by its number, "counted from 1", and the lines left
abbrev pub Reader : Type 0 → Type 0
Reader A = ℕ → List Line → LinesRead A

-- nothing more to read
unfoldable pub done : {A : Type 0} → A → Reader A
done a at ls = after a at ls

-- one reading after another: "A text refusal names the first failing line"
unfoldable pub ◌>>=◌ : {A B : Type 0} → Reader A → (A → Reader B) → Reader B
◌>>=◌ r k at ls = elim (r at ls) [ failed v ↦ failed v | after a next rest ↦ k a next rest ]

-- what a line's value is taken for: the number that refuses it, or what was read
pub data Taken (A : Type 0) : Type 0 where
  wrong : ℕ → Taken A
  right : A → Taken A

-- the line is passed, or refused
unfoldable pub passed : {A : Type 0} → Taken A → Reader A
passed (wrong n) at ls = failed (record { number = n; line = at })
passed (right a) at ls = after a (at + 1) ls

-- a line whose key is the expected one, by what its value is taken for: "the lowest number that applies there". "a text ended early names
-- the line after its last"
unfoldable pub key_line : {A : Type 0} → Text → (ℕ → Text → Taken A) → Reader A
key_line key value at [] = failed (record { number = wrong_key; line = at })
key_line key value at (l ∷ ls) = elim (sound l) [
  | false ↦ passed (wrong broken_line) at ls
  | true ↦ elim (word key (content l) 0) [
    | bad p ↦ passed (wrong wrong_key) at ls
    | got p u ↦ passed (value at (drop p (content l))) at ls
  ]
]

-- a line with a number in a range
unfoldable pub number_line : Text → ℕ → ℕ → Reader ℕ
number_line key lowest highest = key_line key (λ at value. elim (number_in lowest highest value) [ None ↦ wrong wrong_number | Some n ↦ right n ])

-- so many of a thing, each by its index, and with what is carried from one to the next
unfoldable pub each : {A S : Type 0} → ℕ → ℕ → S → (ℕ → S → Reader (A × S)) → Reader (List A × S)
each zero i s one = done ([], s)
each (suc n) i s one = do
  a ← one i s
  rest ← each n (i + 1) a.1 one
  done (a.0 ∷ rest.0, rest.1)
