-- What reading at a place gives, and how readings follow one another. A refusal carries its place: the first byte from which no
-- continuation is valid. Assumes nothing.
use Rattle.std.specs.Prelude.{ℕ, zero, suc, ◌+◌, true, false, [], ◌∷◌, eqb, length, Option, None, Some}
use Rattle.terms.specs.Bytes.{Text, byte_at}

-- `got at a`: a was read, and the reading ended at a place. `bad at`: nothing valid goes on from a place
pub data Parsed (A : Type 0) : Type 0 where
  got : ℕ → A → Parsed A
  bad : ℕ → Parsed A

-- one reading after another
unfoldable pub next : {A B : Type 0} → Parsed A → (ℕ → A → Parsed B) → Parsed B
next (got at a) k = k at a
next (bad at) k = bad at

-- what was read, put another way
unfoldable pub mapped : {A B : Type 0} → (A → B) → Parsed A → Parsed B
mapped h (got at a) = got at (h a)
mapped h (bad at) = bad at

-- the very bytes of a word; the place of a refusal is the first that differs
unfoldable pub word : Text → Text → ℕ → Parsed (Unit {0})
word [] s at = got at tt
word (b ∷ w) s at = elim (eqb (byte_at s at) b) [ true ↦ word w s (at + 1) | false ↦ bad at ]

-- what was read must reach the end of the text
unfoldable pub ended : {A : Type 0} → Text → Parsed A → Parsed A
ended s (got at a) = elim (eqb at (length s)) [ true ↦ got at a | false ↦ bad at ]
ended s (bad at) = bad at

-- a closing byte after what was read
unfoldable pub closed : {A : Type 0} → ℕ → Text → Parsed A → Parsed A
closed b s p = next p (λ at a. mapped (λ _. a) (word (b ∷ []) s at))

-- what stands at an opening bracket: an item with a bracket less, and a closing byte. With none left no bracket may be opened
unfoldable pub opened : {A : Type 0} → ℕ → Text → (ℕ → ℕ → Parsed A) → ℕ → ℕ → Parsed A
opened b s item zero at = bad at
opened b s item (suc left) at = closed b s (item left (at + 1))

-- as long as a step goes on from a place, at most so many times: what the step makes of what was read so far
unfoldable pub repeated : {A : Type 0} → (ℕ → A → Option (Parsed A)) → ℕ → ℕ → A → Parsed A
repeated step zero at a = got at a
repeated step (suc more) at a = elim (step at a) [ None ↦ got at a | Some p ↦ next p (repeated step more) ]

-- one item more, behind a byte that is an operator, "grouped from the left"
unfoldable pub joining : {O A B : Type 0} → (ℕ → Option O) → (O → B → A → B) → Text → (ℕ → Parsed A) → ℕ → B → Option (Parsed B)
joining operator apply s item at b = elim (operator (byte_at s at)) [
  | None ↦ None
  | Some o ↦ Some (mapped (apply o b) (item (at + 1)))
]

-- items joined by operators, with at most so many after the first
unfoldable pub series : {O A : Type 0} → (ℕ → Option O) → (O → A → A → A) → Text → (ℕ → Parsed A) → ℕ → ℕ → Parsed A
series operator apply s item more at = next (item at) (repeated (joining operator apply s item) more)
