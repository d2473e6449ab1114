-- What tests say: a number lies between bounds, a test is asked under a condition, of each number of a range.
-- Each law is stated both ways. Assumes nothing.
use Rattle.std.specs.Prelude.{Option, None, Some, Result, Err, IsErrAnd}
use Rattle.std.proofs.lemmas.Result.{err_from_is_err_and}
use Prim.Native.Nat.{ℕ, zero, suc, ◌≤◌, ◌<◌}
use mathlib.Core.Bool.{Bool, true, false, ◌||◌, false≢true}
use mathlib.Core.Path.{◌≡◌, refl, sym, ap, subst, ◌∙◌}
use native.Mathlib.Omega.{arith}
use borrow.Author.Tests.{leb-true, le-leb, eqb-true, eqb-false, eq-eqb}
use lib.Dec.{eqb, leb}
use lib.IntN.{ℤ, pos, negsuc}
use Rattle.whole.specs.Plain.{all_below, whenever, ◌>>=◌}
use Rattle.whole.specs.Whole.{between, eq_z, nat, natural}
use Rattle.whole.proofs.Both.{both_left, both_right, both}

-- what the exit of a `?` gives: the refusal that it met
pub passed_on : {T E : Type 0} {r : Result T E} {e : E} → IsErrAnd r (λ y. y ≡ e) → r ≡ Err e
passed_on {r = r} h = let w = err_from_is_err_and r h in w.1 ∙ ap Err w.2

-- nothing is something
pub no_some : {A : Type 0} {a : A} → ◌≡◌ {A = Option A} None (Some a) → ⊥
no_some e = let z : ◌≡◌ {A = ℕ} 0 1 = cc in omega arith

-- a test does not pass and fail
pub passed_failed : {b : Bool} → b ≡ true → b ≡ false → ⊥
passed_failed e f = false≢true (sym f ∙ e)

-- a cell is a natural number
abbrev pub Counts : ℤ → Type 0
Counts z = z ≡ pos (nat z)

-- a cell is a number from one bound to another
pub record Number (low high : ℕ) (z : ℤ) : Type 0 where
  pub counts : Counts z
  pub least : low ≤ nat z
  pub most : nat z ≤ high

module _ (low high : ℕ) where
  -- "1..32", "0..objects" and the like, as the test and as what it says
  pub number : (z : ℤ) → between (pos low) (pos high) z ≡ true → Number low high z
  unfolding between nat
  number (pos n) e = record { counts = refl; least = leb-true low n (both_left (leb low n) _ e); most = leb-true n high (both_right (leb low n) _ e) }
  number (negsuc n) e = absurd (false≢true e)

  pub numbered : (z : ℤ) → Number low high z → between (pos low) (pos high) z ≡ true
  unfolding between nat
  numbered (pos n) h = both (leb low n) _ (le-leb low n h.least) (le-leb n high h.most)
  numbered (negsuc n) h = absurd (let z : ◌≡◌ {A = ℤ} (negsuc n) (pos 0) = h.counts in let y : ◌≡◌ {A = ℕ} 0 1 = cc in omega arith)

-- a cell is a number
pub equals : (z : ℤ) (n : ℕ) → eq_z z (pos n) ≡ true → z ≡ pos n
unfolding eq_z
equals (pos k) n e = ap pos (eqb-true k n e)
equals (negsuc k) n e = absurd (false≢true e)

pub equalled : (z : ℤ) (n : ℕ) → z ≡ pos n → eq_z z (pos n) ≡ true
unfolding eq_z
equalled z n e = subst (λ y. eq_z y (pos n) ≡ true) (sym e) (eq-eqb n n refl)

-- a cell that counts, by its number
pub natural_of : (z : ℤ) → Counts z → natural z ≡ Some (nat z)
unfolding natural nat
natural_of z e = ap natural e

pub of_natural : (z : ℤ) (n : ℕ) → natural z ≡ Some n → z ≡ pos n
unfolding natural
of_natural (pos k) n e = cc
of_natural (negsuc k) n e = absurd (no_some e)

pub nat_of : {z : ℤ} {n : ℕ} → z ≡ pos n → nat z ≡ n
unfolding nat
nat_of e = ap nat e

pub counts_of : {z : ℤ} {n : ℕ} → z ≡ pos n → Counts z
counts_of e = e ∙ ap pos (sym (nat_of e))

-- a test asked under a condition
pub asked : (a b : Bool) → whenever a b ≡ true → a ≡ true → b ≡ true
asked true b e f = e
asked false b e f = absurd (false≢true f)

pub asking : (a b : Bool) → (a ≡ true → b ≡ true) → whenever a b ≡ true
asking true b h = h refl
asking false b h = refl

-- one of two tests
pub otherwise : (a b : Bool) → a || b ≡ true → (a ≡ true → ⊥) → b ≡ true
otherwise true b e n = absurd (n refl)
otherwise false b e n = e

pub one_of : (a b : Bool) → (a ≡ false → b ≡ true) → a || b ≡ true
one_of true b h = refl
one_of false b h = h refl

-- a test of each number below another
module _ (test : ℕ → Bool) where
  pub each_below : (n : ℕ) → all_below n test ≡ true → (i : ℕ) → i < n → test i ≡ true
  unfolding all_below
  each_below zero e i h = absurd (omega arith)
  each_below (suc n) e i h = go (test n) refl e (each_below n)
    where
      at : (b : Bool) → eqb i n ≡ b → test n ≡ true → all_below n test ≡ true → (all_below n test ≡ true → (i : ℕ) → i < n → test i ≡ true) → test i ≡ true
      at true f g e later = subst (λ k. test k ≡ true) (sym (eqb-true i n f)) g
      at false f g e later = let ne = eqb-false i n f in later e i (omega arith)

      go : (b : Bool) → test n ≡ b → (elim b [ true ↦ all_below n test | false ↦ false ]) ≡ true
          → (all_below n test ≡ true → (i : ℕ) → i < n → test i ≡ true) → test i ≡ true
      go true g e later = at (eqb i n) refl g e later
      go false g e later = absurd (false≢true e)

  pub below_each : (n : ℕ) → ((i : ℕ) → i < n → test i ≡ true) → all_below n test ≡ true
  unfolding all_below
  below_each zero h = refl
  below_each (suc n) h = rw (h n (omega arith), all_below) (below_each n (λ i k. h i (omega arith)))

-- what may be missing was there
pub found : {A B : Type 0} (x : Option A) (k : A → Option B) (b : B) → (x >>= k) ≡ Some b → (a : A) × (x ≡ Some a) × (k a ≡ Some b)
found None k b e = absurd (no_some e)
found (Some a) k b e = (a, refl, e)
