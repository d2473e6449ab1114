-- What a byte is as a digit, by the tests that the code makes. Assumes nothing.
use Rattle.std.specs.Prelude.{None, Some}
use Prim.Native.Nat.{ℕ, ◌-◌, ◌≤◌, ◌<◌}
use mathlib.Core.Bool.{Bool, true, false}
use mathlib.Core.Path.{◌≡◌, refl}
use native.Mathlib.Omega.{arith}
use borrow.Author.Tests.{leb-true, leb-false, le-leb, lt-leb}
use lib.Dec.{leb}
use Rattle.terms.specs.Bytes.{digit}

module _ (b : ℕ) where
  pub below_digits : b < 48 → digit b ≡ None
  unfolding digit
  below_digits h = rw (lt-leb 48 b h, digit)

  pub above_digits : 57 < b → digit b ≡ None
  unfolding digit
  above_digits h = rw (le-leb 48 b (omega arith), lt-leb b 57 h, digit)

  pub among_digits : 48 ≤ b → b ≤ 57 → digit b ≡ Some (b - 48)
  unfolding digit
  among_digits h k = rw (le-leb 48 b h, le-leb b 57 k, digit)

  -- a digit is one of ten, and no digit is 0
  pub digit_is : (d : ℕ) → digit b ≡ Some d → (0 < b) × (d < 10)
  digit_is d e = go (leb 48 b) refl (leb b 57) refl
    where
      go : (t : Bool) → leb 48 b ≡ t → (u : Bool) → leb b 57 ≡ u → (0 < b) × (d < 10)
      go true t true u =
          let h = leb-true 48 b t in
          let k = leb-true b 57 u in
          let f = among_digits h k in
          let g : b - 48 ≡ d = cc in
          (omega arith, omega arith)
      go true t false u = let f = above_digits (leb-false b 57 u) in absurd (let z : ◌≡◌ {A = ℕ} 0 1 = cc in omega arith)
      go false t true u = let f = below_digits (leb-false 48 b t) in absurd (let z : ◌≡◌ {A = ℕ} 0 1 = cc in omega arith)
      go false t false u = let f = below_digits (leb-false 48 b t) in absurd (let z : ◌≡◌ {A = ℕ} 0 1 = cc in omega arith)
