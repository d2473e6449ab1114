-- Digits alone, byte by byte as the code goes through them, and how large a number they write. Assumes nothing.
use Rattle.std.specs.Prelude.{Option, None, Some}
use Prim.Native.Nat.{ℕ, zero, suc, ◌+◌, ◌-◌, ◌*◌, ◌^◌, ◌≤◌, ◌<◌}
use mathlib.Core.Bool.{Bool, true, false}
use mathlib.Core.List.{[], ◌∷◌}
use mathlib.Core.Path.{◌≡◌, refl, sym, ap, subst, ◌∙◌}
use native.Mathlib.Nat.{pow-suc, pow-le-pow_right, add-zero}
use native.Mathlib.Numerals.{add-one}
use native.Mathlib.Omega.{arith}
use borrow.Author.Tests.{le-leb, lt-leb, leb-true, leb-false}
use lib.Dec.{leb}
use lib.ListN.{length, take, drop, drop_of_length-le}
use lib.Seq.{drop-cons}
use Rattle.terms.specs.Bytes.{Text, byte_at, digit}
use Rattle.terms.specs.Leaves.{decimal}
use Rattle.terms.specs.Parsed.{got, bad}
use Rattle.terms.proofs.Bytes.{digit_is}
use Rattle.terms.proofs.Digits.{digits_none, decimal_none, decimal_zero, decimal_more}
use Rattle.terms.proofs.Moving.{no_got, same_read}
use Rattle.session.specs.Choices.{most_digits, digits_from, digits_alone}

-- one byte that is a decimal is a digit, and one that is none is not
module _ (b : ℕ) where
  byte_none : digit b ≡ None → decimal 9 (b ∷ []) 0 ≡ bad 0
  byte_none e = decimal_none 9 (b ∷ []) 0 e

  byte_some : (d : ℕ) → digit b ≡ Some d → decimal 9 (b ∷ []) 0 ≡ got 1 d
  byte_some zero e = decimal_zero 9 (b ∷ []) 0 e
  byte_some (suc d) e =
      let k = digit_is b (suc d) e in
      decimal_more 9 (b ∷ []) 0 (suc d) e (omega arith) (λ z. omega arith) ∙ digits_none 9 (b ∷ []) 1 (suc d) (unfold digit in refl)

  pub digit_got : (p d : ℕ) → decimal 9 (b ∷ []) 0 ≡ got p d → digit b ≡ Some d
  digit_got p d e = go (digit b) refl
    where
      go : (o : Option ℕ) → digit b ≡ o → digit b ≡ Some d
      go None f = absurd (no_got _ _ _ (sym (byte_none f) ∙ e))
      go (Some k) f = f ∙ ap Some (same_read _ _ _ _ (sym (byte_some k f) ∙ e))

  pub digit_bad : (p : ℕ) → decimal 9 (b ∷ []) 0 ≡ bad p → digit b ≡ None
  digit_bad p e = go (digit b) refl
    where
      go : (o : Option ℕ) → digit b ≡ o → digit b ≡ None
      go None f = f
      go (Some k) f = absurd (no_got _ _ _ (sym e ∙ byte_some k f))

-- the byte at a place, as a text of its own
pub one_byte : (s : Text) (at : ℕ) → at < length s → take (at + 1 - at) (drop at s) ≡ byte_at s at ∷ []
one_byte s at h =
    let n : at + 1 - at ≡ 1 = omega arith in
    ap (λ k. take k (drop at s)) n ∙ ap (take 1) (drop-cons s at 0 h)

-- a digit more, and a byte that is none
module _ (n b : ℕ) (s : Text) where
  from_more : (d : ℕ) → digit b ≡ Some d → digits_from n (b ∷ s) ≡ digits_from (n * 10 + d) s
  unfolding digits_from
  from_more d e = rw (e, digits_from)

  from_other : digit b ≡ None → digits_from n (b ∷ s) ≡ None
  unfolding digits_from
  from_other e = rw (e, digits_from)

from_none : (n : ℕ) → digits_from n [] ≡ Some n
unfolding digits_from
from_none n = refl

-- the same by the byte at a place
module _ (s : Text) (n i : ℕ) where
  pub digits_more : (d : ℕ) → i < length s → digit (byte_at s i) ≡ Some d → digits_from n (drop i s) ≡ digits_from (n * 10 + d) (drop (i + 1) s)
  digits_more d h e = rw (add-one i, drop-cons s i 0 h) (from_more n (byte_at s i) (drop (suc i) s) d e)

  pub digits_other : i < length s → digit (byte_at s i) ≡ None → digits_from n (drop i s) ≡ None
  digits_other h e = rw (drop-cons s i 0 h) (from_other n (byte_at s i) (drop (suc i) s) e)

  pub digits_ended : length s ≤ i → digits_from n (drop i s) ≡ Some n
  digits_ended h = ap (digits_from n) (drop_of_length-le s h) ∙ from_none n

-- "a number not 1 to 9 digits"
module _ (s : Text) where
  pub alone_empty : length s ≡ 0 → digits_alone s ≡ None
  unfolding digits_alone
  alone_empty e = rw (e, digits_alone)

  pub alone_long : most_digits < length s → digits_alone s ≡ None
  unfolding digits_alone
  alone_long h = rw (le-leb 1 (length s) (omega arith), lt-leb (length s) most_digits h, digits_alone)

  pub alone_within : (length s ≡ 0 → ⊥) → length s ≤ most_digits → digits_alone s ≡ digits_from 0 s
  unfolding digits_alone
  alone_within z h = rw (le-leb 1 (length s) (omega arith), le-leb (length s) most_digits h, digits_alone)

-- a digit more is ten times as large at most
pub tens : (n i d : ℕ) → n < 10 ^ i → d < 10 → n * 10 + d < 10 ^ (i + 1)
tens n i d h k = rw (add-one i, pow-suc 10 i) (omega arith)

-- nine digits write less than a billion
pub nine : (n i : ℕ) → n < 10 ^ i → i ≤ 9 → n < 1000000000
nine n i h k = let p : 10 ^ i ≤ 10 ^ 9 = pow-le-pow_right (omega arith) k in omega arith

from_below : (s : Text) (n m i : ℕ) → n < 10 ^ i → digits_from n s ≡ Some m → m < 10 ^ (i + length s)
from_below [] n m i h e = let k : n ≡ m = cc (from_none n) in rw (add-zero i) (omega arith)
from_below (b ∷ s) n m i h e = go (digit b) refl (from_below s)
  where
    go : (o : Option ℕ) → digit b ≡ o → ((n m i : ℕ) → n < 10 ^ i → digits_from n s ≡ Some m → m < 10 ^ (i + length s)) → m < 10 ^ (i + suc (length s))
    go None f rest = absurd (let z : ◌≡◌ {A = ℕ} 0 1 = cc (from_other n b s f) in omega arith)
    go (Some d) f rest =
        let k : i + 1 + length s ≡ i + suc (length s) = omega arith in
        subst (λ j. m < 10 ^ j) k (rest (n * 10 + d) m (i + 1) (tens n i d h (digit_is b d f).1) (sym (from_more n b s d f) ∙ e))

pub alone_below : (s : Text) (n : ℕ) → digits_alone s ≡ Some n → n < 1000000000
alone_below s n e = go (leb 1 (length s)) refl (leb (length s) most_digits) refl
  where
    go : (t : Bool) → leb 1 (length s) ≡ t → (u : Bool) → leb (length s) most_digits ≡ u → n < 1000000000
    go false f u g = absurd (let z : ◌≡◌ {A = ℕ} 0 1 = cc (alone_empty s (omega (arith, leb-false 1 (length s) f))) in omega arith)
    go true f false g = absurd (let z : ◌≡◌ {A = ℕ} 0 1 = cc (alone_long s (leb-false (length s) most_digits g)) in omega arith)
    go true f true g =
        let w = alone_within s (λ z. omega (arith, leb-true 1 (length s) f)) (leb-true (length s) most_digits g) in
        nine n (0 + length s) (from_below s 0 n 0 (omega arith) (sym w ∙ e)) (omega (arith, leb-true (length s) most_digits g))
