-- What closes a bracket, what stands in one, and the number that falls at each call of a reader. Assumes nothing.
use Rattle.std.specs.Prelude.{Result}
use Prim.Native.Nat.{ℕ, zero, suc, ◌+◌, ◌-◌, ◌*◌, ◌≤◌, ◌<◌}
use mathlib.Core.List.{[], ◌∷◌}
use mathlib.Core.Path.{◌≡◌, refl, sym, ap, ◌∙◌}
use native.Mathlib.Nat.{suc-mul}
use native.Mathlib.Omega.{arith}
use borrow.Author.Tests.{eq-eqb, ne_eqb}
use Rattle.terms.specs.declared.Limits.{Limits}
use Rattle.terms.specs.declared.Start.{Start}
use Rattle.terms.specs.Vocabulary.Answers.{as_result}
use Rattle.terms.specs.Bytes.{Text, byte_at}
use Rattle.terms.specs.Expressions.{Reading, start_of, factor_by, factor}
use Rattle.terms.specs.Parsed.{Parsed, got, bad, next, mapped, word, closed, opened}
use Rattle.terms.proofs.Following.{mapped_got, mapped_bad, next_of_got, next_of_bad}
use Rattle.terms.proofs.Moving.{word_yes, word_no, word_none}

-- a closing byte: after a refusal, where it stands, where it does not
module _ {A : Type 0} (b : ℕ) (s : Text) (q : Parsed A) (p : ℕ) where
  pub closed_fail : q ≡ bad p → closed b s q ≡ bad p
  unfolding closed
  closed_fail e = ap (λ r. next r (λ at a. mapped (λ _. a) (word (b ∷ []) s at))) e ∙ next_of_bad p _

  module _ (a : A) (e : q ≡ got p a) where
    at_closing : closed b s q ≡ mapped (λ _. a) (word (b ∷ []) s p)
    unfolding closed
    at_closing = ap (λ r. next r (λ at a. mapped (λ _. a) (word (b ∷ []) s at))) e ∙ next_of_got p a _

    pub closed_go : byte_at s p ≡ b → closed b s q ≡ got (p + 1) a
    closed_go f =
        at_closing
        ∙ ap (mapped (λ _. a)) (word_yes b [] s p (eq-eqb _ b f) ∙ word_none s (p + 1))
        ∙ mapped_got (λ _. a) (p + 1) tt

    pub closed_none : (byte_at s p ≡ b → ⊥) → closed b s q ≡ bad p
    closed_none n = at_closing ∙ ap (mapped (λ _. a)) (word_no b [] s p (ne_eqb _ b n)) ∙ mapped_bad (λ _. a) p

-- what a reader with a closing byte answers: its item was refused, the byte stands behind it, or another one does
module _ {A B : Type 0} (answer : Parsed A → B) (b : ℕ) (s : Text) {w q : Parsed A} {p : ℕ} (c : w ≡ closed b s q) where
  pub closing_bad : q ≡ bad p → answer (bad p) ≡ answer w
  closing_bad e = sym (ap answer (c ∙ closed_fail b s q p e))

  module _ {a : A} (e : q ≡ got p a) {x : ℕ} (f : x ≡ byte_at s p) where
    pub closing_got : x ≡ b → answer (got (p + 1) a) ≡ answer w
    closing_got g = sym (ap answer (c ∙ closed_go b s q p a e (sym f ∙ g)))

    pub closing_none : (x ≡ b → ⊥) → answer (bad p) ≡ answer w
    closing_none n = sym (ap answer (c ∙ closed_none b s q p a e (λ g. n (f ∙ g))))

-- a factor, by what it begins with
pub factor_by_lem : {A : Type 0} (R : Reading A) (lim : Limits) (s : Text) (within : ℕ → Parsed A) (at : ℕ) {b b' : Start} {r : Result (ℕ × A) ℕ} → b ≡ start_of (byte_at s at) → b ≡ b'
    → r ≡ as_result (factor_by R lim s b' within at) → r ≡ as_result (factor R lim s within at)
unfolding factor
factor_by_lem R lim s within at e f g = g ∙ ap (λ x. as_result (factor_by R lim s x within at)) (sym f ∙ e)

-- no bracket is allowed, or one more is
module _ {A : Type 0} (b : ℕ) (s : Text) (item : ℕ → ℕ → Parsed A) where
  pub opened_none : (left at : ℕ) → left ≡ 0 → opened b s item left at ≡ bad at
  opened_none zero at e = unfold opened in refl
  opened_none (suc left) at e = absurd (omega arith)

  opened_more : (left at : ℕ) → opened b s item (suc left) at ≡ closed b s (item left (at + 1))
  unfolding opened
  opened_more left at = refl

  pub opened_some : (left at : ℕ) → (left ≡ 0 → ⊥) → opened b s item left at ≡ closed b s (item (left - 1) (at + 1))
  opened_some zero at n = absurd (n refl)
  opened_some (suc left) at n =
      let e : left ≡ suc left - 1 = omega arith in
      opened_more left at ∙ ap (λ k. closed b s (item k (at + 1))) e

-- a number that is not 0
pub positive : (n : ℕ) → (n ≡ 0 → ⊥) → 1 ≤ n
positive zero h = absurd (h refl)
positive (suc n) h = omega arith

-- the number that falls: the count of brackets still allowed, then the length left, then a rank among the readers
unfoldable pub weight : ℕ → ℕ → ℕ → ℕ → ℕ
weight end left at rank = (left * (end + 1) + (end - at)) * 8 + rank

-- a reader of a lower rank, at the same place or after it
pub weight_rank : (end left at p rank rank' : ℕ) {n : ℕ} → weight end left at rank' ≡ n → at ≤ p → rank < rank' → weight end left p rank < n
unfolding weight
weight_rank end left at p rank rank' e h k = omega arith

-- any reader, after the place
pub weight_on : (end left at p rank rank' : ℕ) {n : ℕ} → weight end left at rank' ≡ n → at < end → at < p → rank < 8 → weight end left p rank < n
unfolding weight
weight_on end left at p rank rank' e h k r = omega arith

weight_less : (end left k at p rank rank' : ℕ) → k ≡ left → rank < 8 → weight end k p rank < weight end (suc left) at rank'
unfolding weight
weight_less end left k at p rank rank' e r = rw (e, suc-mul left (end + 1)) (omega arith)

-- any reader, with a bracket less
pub weight_inside : (end left at p rank rank' : ℕ) {n : ℕ} → weight end left at rank' ≡ n → (left ≡ 0 → ⊥) → rank < 8 → weight end (left - 1) p rank < n
weight_inside end zero at p rank rank' e z r = absurd (z refl)
weight_inside end (suc left) at p rank rank' e z r =
    let l = weight_less end left (suc left - 1) at p rank rank' (omega arith) r in
    omega arith
