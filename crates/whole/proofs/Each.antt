-- A test that holds of all numbers of a range holds of each of them, and the converse. Assumes nothing.
use Prim.Native.Nat.{ℕ, zero, suc, ◌≤◌, ◌<◌}
use mathlib.Core.Bool.{Bool, true, false, false≢true}
use mathlib.Core.Path.{◌≡◌, refl, sym, subst}
use native.Mathlib.Omega.{arith}
use lib.Dec.{eqb}
use borrow.Author.Tests.{eqb-true, eqb-false}
use Rattle.whole.specs.Plain.{all_to}

-- a number up to the next one is that one, or up to this one
module _ (P : ℕ → Type 0) (n : ℕ) (below : (i : ℕ) → i < n → P i) (at : P n) where
  up_to : (i : ℕ) → i ≤ n → P i
  up_to i h = go (eqb i n) refl
    where
      go : (b : Bool) → eqb i n ≡ b → P i
      go true e = subst P (sym (eqb-true i n e)) at
      go false e = let ne = eqb-false i n e in below i (omega arith)

module _ (test : ℕ → Bool) where
  -- the two halves of one number more
  all_to_more : (n : ℕ) → all_to (suc n) test ≡ true → (test (suc n) ≡ true) × (all_to n test ≡ true)
  unfolding all_to
  all_to_more n e = go (test (suc n)) refl e
    where
      go : (b : Bool) → test (suc n) ≡ b → (elim b [ true ↦ all_to n test | false ↦ false ]) ≡ true → (test (suc n) ≡ true) × (all_to n test ≡ true)
      go true f e = (f, e)
      go false f e = absurd (false≢true e)

  pub each_to : (n : ℕ) → all_to n test ≡ true → (i : ℕ) → 1 ≤ i → i ≤ n → test i ≡ true
  each_to zero e i l h = absurd (omega arith)
  each_to (suc n) e i l h =
      let both = all_to_more n e in
      up_to (λ i. 1 ≤ i → test i ≡ true) (suc n) (λ i k l. each_to n both.1 i l (omega arith)) (λ l. both.0) i h l

  pub to_each : (n : ℕ) → ((i : ℕ) → 1 ≤ i → i ≤ n → test i ≡ true) → all_to n test ≡ true
  unfolding all_to
  to_each zero h = refl
  to_each (suc n) h = rw (h (suc n) (omega arith) (omega arith), all_to) (to_each n (λ i l k. h i l (omega arith)))
