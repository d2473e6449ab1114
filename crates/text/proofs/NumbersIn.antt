-- A number by the tests of its definition, and what it is if it passes them. Assumes nothing.
use Rattle.std.specs.Prelude.{None, Some}
use Prim.Native.Nat.{ℕ, ◌≤◌, ◌<◌}
use mathlib.Core.Bool.{Bool, true, false}
use mathlib.Core.Path.{◌≡◌, refl, ap₂, ◌∙◌}
use native.Mathlib.Omega.{arith}
use borrow.Author.Tests.{eq-eqb, ne_eqb, le-leb, lt-leb, leb-true, leb-false, eqb-true, eqb-false}
use lib.Dec.{leb, eqb}
use lib.ListN.{length}
use Rattle.terms.specs.Bytes.{Text}
use Rattle.terms.specs.Leaves.{decimal}
use Rattle.terms.specs.Parsed.{Parsed, got, bad, ended}
use Rattle.terms.proofs.Digits.{decimal_below}
use Rattle.text.specs.Numbers.{number_in}

module _ (least most : ℕ) (value : Text) where
  -- no decimal; bytes left over; below the lowest; within
  number_none : (at : ℕ) → decimal most value 0 ≡ bad at → number_in least most value ≡ None
  unfolding number_in ended
  number_none at e = rw (e, number_in)

  module _ (at n : ℕ) (e : decimal most value 0 ≡ got at n) where
    number_longer : (at ≡ length value → ⊥) → number_in least most value ≡ None
    unfolding number_in ended
    number_longer h = rw (e, ne_eqb at (length value) h, number_in)

    module _ (w : at ≡ length value) where
      number_below : n < least → number_in least most value ≡ None
      unfolding number_in ended
      number_below h = rw (e, eq-eqb at (length value) w, lt-leb least n h, number_in)

      pub number_within : least ≤ n → number_in least most value ≡ Some n
      unfolding number_in ended
      number_within h = rw (e, eq-eqb at (length value) w, le-leb least n h, number_in)

-- a number of a line: a whole decimal, from its lowest to its highest
pub number_is : (least most : ℕ) (value : Text) (n : ℕ) → number_in least most value ≡ Some n → (decimal most value 0 ≡ got (length value) n) × (least ≤ n) × (n ≤ most)
number_is least most value n e = go (decimal most value 0) refl
  where
    go : (q : Parsed ℕ) → decimal most value 0 ≡ q → (decimal most value 0 ≡ got (length value) n) × (least ≤ n) × (n ≤ most)
    go (bad at) f = let c = number_none least most value at f in absurd (let z : ◌≡◌ {A = ℕ} 0 1 = cc in omega arith)
    go (got at k) f = test (eqb at (length value)) refl (leb least k) refl
      where
        test : (t : Bool) → eqb at (length value) ≡ t → (u : Bool) → leb least k ≡ u → (decimal most value 0 ≡ got (length value) n) × (least ≤ n) × (n ≤ most)
        test true t true u =
            let l = leb-true _ _ u in
            let c = number_within least most value at k f (eqb-true _ _ t) l in
            let g : k ≡ n = cc in
            let m = decimal_below most value 0 at k f in
            (f ∙ ap₂ got (eqb-true _ _ t) g, omega arith, omega arith)
        test true t false u =
            let c = number_below least most value at k f (eqb-true _ _ t) (leb-false _ _ u) in
            absurd (let z : ◌≡◌ {A = ℕ} 0 1 = cc in omega arith)
        test false t u v =
            let c = number_longer least most value at k f (eqb-false _ _ t) in
            absurd (let z : ◌≡◌ {A = ℕ} 0 1 = cc in omega arith)
