-- From the code's enums back to what the definitions read. Assumes nothing.
use Rattle.std.specs.Prelude.{Result, Ok, Err, IsErrAnd}
use Prim.Native.Nat.{ℕ}
use mathlib.Core.Path.{◌≡◌, sym, ap, ◌∙◌}
use Rattle.terms.specs.Vocabulary.Answers.{as_place, as_result}
use Rattle.terms.specs.Parsed.{Parsed, got, bad, mapped}

pub word_got : (q : Parsed (Unit {0})) (p : ℕ) → as_place q ≡ Ok p → q ≡ got p tt
unfolding as_place
word_got (got at u) p e = let f : at ≡ p = cc in ap (λ n. got n tt) f
word_got (bad at) p e = cc

pub word_bad : (q : Parsed (Unit {0})) (p : ℕ) → as_place q ≡ Err p → q ≡ bad p
unfolding as_place
word_bad (got at b) p e = cc
word_bad (bad at) p e = cc

module _ {A : Type 0} where
  pub parsed_got : (q : Parsed A) (p : ℕ) (a : A) → as_result q ≡ Ok (p, a) → q ≡ got p a
  unfolding as_result
  parsed_got (got at b) p a e =
      let f : ◌≡◌ {A = ℕ × A} (at, b) (p, a) = cc in
      let place : at ≡ p = ap (λ z. z.0) f in
      let what : b ≡ a = ap (λ z. z.1) f in
      cc
  parsed_got (bad at) p a e = cc

  pub parsed_bad : (q : Parsed A) (p : ℕ) → as_result q ≡ Err p → q ≡ bad p
  unfolding as_result
  parsed_bad (got at b) p e = cc
  parsed_bad (bad at) p e = cc

  -- the same by two equations: what a reader says, and the case that the code found
  pub result_got : {q : Parsed A} {r : Result (ℕ × A) ℕ} {p : ℕ} {a : A} → r ≡ as_result q → r ≡ Ok (p, a) → q ≡ got p a
  result_got {q} e f = parsed_got q _ _ (sym e ∙ f)

  pub result_bad : {q : Parsed A} {r : Result (ℕ × A) ℕ} {p : ℕ} → r ≡ as_result q → r ≡ Err p → q ≡ bad p
  result_bad {q} e f = parsed_bad q _ (sym e ∙ f)

-- what was read as one thing, answered as another
module _ {A B : Type 0} (f : A → B) (q : Parsed A) where
  pub answer_got : (p : ℕ) (a : A) → q ≡ got p a → Ok (p, f a) ≡ as_result (mapped f q)
  unfolding as_result mapped
  answer_got p a e = sym (ap (λ r. as_result (mapped f r)) e)

  pub answer_bad : (p : ℕ) → q ≡ bad p → Err p ≡ as_result (mapped f q)
  unfolding as_result mapped
  answer_bad p e = sym (ap (λ r. as_result (mapped f r)) e)

-- what the exit of a `?` gives: the same refusal
pub refused : {A : Type 0} (r : Result A ℕ) {p : ℕ} → IsErrAnd r (λ q. q ≡ p) → r ≡ Err p
refused (Ok a) h = absurd h
refused (Err q) h = ap (λ n. Err n) h
