-- A test of each number up to another, and of each field of a family from one on, by what one pass over them answers. Assumes nothing.
use Prim.Native.Nat.{ℕ, ◌+◌, ◌≤◌, ◌<◌}
use mathlib.Core.Bool.{Bool, true, false}
use mathlib.Core.Path.{◌≡◌, refl, sym, ap, ◌∙◌}
use native.Mathlib.Omega.{arith}
use borrow.Author.Tests.{le-leb, leb-true}
use lib.Dec.{leb}
use lib.IntN.{ℤ, pos}
use Rattle.whole.specs.Plain.{all_to, all_below, whenever}
use Rattle.whole.specs.Whole.{eq_z}
use Rattle.whole.proofs.Each.{each_to, to_each}
use Rattle.whole.proofs.Tested.{each_below, below_each}
use Rattle.cells.specs.Configuration.{zero_from}

-- an answer that is true only if a test holds everywhere, and false only if it fails somewhere
module _ (holds : ℕ → Bool) (n : ℕ) where
  answer_to : (r : Bool) → (r ≡ true → (i : ℕ) → 1 ≤ i → i < n + 1 → holds i ≡ true) → (r ≡ false → (i : ℕ) × (1 ≤ i) × (i < n + 1) × (holds i ≡ false))
      → (b : Bool) → all_to n holds ≡ b → r ≡ b
  answer_to true every some true e = refl
  answer_to true every some false e = sym (to_each holds n (λ i l h. every refl i l (omega arith))) ∙ e
  answer_to false every some false e = refl
  answer_to false every some true e = let f = some refl in sym f.3 ∙ each_to holds n e f.0 f.1 (omega (arith, f.2))

  pub all_to_is : (r : Bool) → (r ≡ true → (i : ℕ) → 1 ≤ i → i < n + 1 → holds i ≡ true) → (r ≡ false → (i : ℕ) × (1 ≤ i) × (i < n + 1) × (holds i ≡ false))
      → r ≡ all_to n holds
  all_to_is r every some = answer_to r every some (all_to n holds) refl

-- the same of the fields from one on
module _ (value : ℕ → ℤ) (family from : ℕ) where
  abbrev asked : ℕ → Bool
  asked i = whenever (leb from i) (eq_z (value i) (pos 0))

  asked_from : (i : ℕ) → from ≤ i → asked i ≡ eq_z (value i) (pos 0)
  asked_from i h = ap (λ b. whenever b (eq_z (value i) (pos 0))) (le-leb from i h)

  asked_all : ((i : ℕ) → from ≤ i → i < family → eq_z (value i) (pos 0) ≡ true) → all_below family asked ≡ true
  asked_all every = below_each asked family (λ i h. go i h (leb from i) refl)
    where
      go : (i : ℕ) → i < family → (b : Bool) → leb from i ≡ b → whenever b (eq_z (value i) (pos 0)) ≡ true
      go i h true e = every i (leb-true from i e) h
      go i h false e = refl

  answer_from : (r : Bool) → (r ≡ true → (i : ℕ) → from ≤ i → i < family → eq_z (value i) (pos 0) ≡ true)
      → (r ≡ false → (i : ℕ) × (from ≤ i) × (i < family) × (eq_z (value i) (pos 0) ≡ false)) → (b : Bool) → all_below family asked ≡ b → r ≡ b
  answer_from true every some true e = refl
  answer_from true every some false e = sym (asked_all (every refl)) ∙ e
  answer_from false every some false e = refl
  answer_from false every some true e =
      let f = some refl in
      sym f.3 ∙ sym (asked_from f.0 f.1) ∙ each_below asked family e f.0 f.2

  pub zero_from_is : (r : Bool) → (r ≡ true → (i : ℕ) → from ≤ i → i < family → eq_z (value i) (pos 0) ≡ true)
      → (r ≡ false → (i : ℕ) × (from ≤ i) × (i < family) × (eq_z (value i) (pos 0) ≡ false)) → r ≡ zero_from family from value
  unfolding zero_from
  zero_from_is r every some = answer_from r every some (all_below family asked) refl
