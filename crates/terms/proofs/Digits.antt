-- One digit more of a decimal: by the tests that the code makes, and that it moves on. Assumes nothing.
use Rattle.std.specs.Prelude.{Option, None, Some}
use Prim.Native.Nat.{ℕ, ◌+◌, ◌*◌, ◌≤◌, ◌<◌}
use mathlib.Core.Bool.{Bool, true, false}
use mathlib.Core.Path.{◌≡◌, refl, sym, ap, ◌∙◌}
use native.Mathlib.Omega.{arith}
use borrow.Author.Tests.{le-leb, lt-leb, leb-true, leb-false, eqb-true, eqb-false, ne_eqb}
use lib.Dec.{leb, eqb}
use lib.ListN.{length}
use Rattle.terms.specs.Bytes.{Text, byte_at, digit}
use Rattle.terms.specs.Leaves.{counting, decimal}
use Rattle.terms.specs.Parsed.{got, bad, repeated}
use Rattle.terms.proofs.Bytes.{digit_is}
use Rattle.terms.proofs.Moving.{Moves, past_end, within_text, same_place, same_read, no_got, repeated_goes, repeated_fails, repeated_stops, repeated_on, repeated_keeps}

module _ (most : ℕ) (s : Text) (at n : ℕ) where
  -- no digit; a digit more; a digit too many
  pub counting_none : digit (byte_at s at) ≡ None → counting most s at n ≡ None
  unfolding counting
  counting_none e = rw (e, counting)

  pub counting_more : (d : ℕ) → digit (byte_at s at) ≡ Some d → n * 10 + d ≤ most → counting most s at n ≡ Some (got (at + 1) (n * 10 + d))
  unfolding counting
  counting_more d e h = rw (e, le-leb (n * 10 + d) most h, counting)

  pub counting_past : (d : ℕ) → digit (byte_at s at) ≡ Some d → most < n * 10 + d → counting most s at n ≡ Some (bad at)
  unfolding counting
  counting_past d e h = rw (e, lt-leb (n * 10 + d) most h, counting)

-- a digit more moves on, and none stands past the end
pub counting_moves : (most : ℕ) (s : Text) (at p n k : ℕ) → counting most s at n ≡ Some (got p k) → at < p
counting_moves most s at p n k e = go (digit (byte_at s at)) refl
  where
    go : (o : Option ℕ) → digit (byte_at s at) ≡ o → at < p
    go None f = let c = counting_none most s at n f in absurd (let z : ◌≡◌ {A = ℕ} 0 1 = cc in omega arith)
    go (Some d) f = test (leb (n * 10 + d) most) refl
      where
        test : (t : Bool) → leb (n * 10 + d) most ≡ t → at < p
        test true g =
            let c = counting_more most s at n d f (leb-true _ _ g) in
            let q : got (at + 1) (n * 10 + d) ≡ got p k = cc in
            let l = same_place _ _ _ _ q in
            omega arith
        test false g =
            let c = counting_past most s at n d f (leb-false _ _ g) in
            let q : bad at ≡ got p k = cc in
            absurd (no_got _ _ _ q)

pub counting_stops : (most : ℕ) (s : Text) (at n : ℕ) → length s ≤ at → counting most s at n ≡ None
counting_stops most s at n h = counting_none most s at n (ap digit (past_end s at h) ∙ (unfold digit in refl))

-- a digit stands within the text
pub digit_within : (s : Text) (at d : ℕ) → digit (byte_at s at) ≡ Some d → at < length s
digit_within s at d e = within_text s at (byte_at s at) refl (digit_is (byte_at s at) d e).0

-- the digits from a place on, over a whole text
module _ (most : ℕ) (s : Text) (at n : ℕ) where
  pub digits_none : digit (byte_at s at) ≡ None → repeated (counting most s) (length s) at n ≡ got at n
  digits_none e = repeated_stops (counting most s) (length s) at n (counting_none most s at n e)

  module _ (d : ℕ) (e : digit (byte_at s at) ≡ Some d) where
    pub digits_more : n * 10 + d ≤ most
        → repeated (counting most s) (length s) at n ≡ repeated (counting most s) (length s) (at + 1) (n * 10 + d)
    digits_more h =
        repeated_goes (counting most s) (counting_moves most s) (length s) (counting_stops most s) at (at + 1) n (n * 10 + d)
        (digit_within s at d e) (counting_more most s at n d e h)

    pub digits_past : most < n * 10 + d → repeated (counting most s) (length s) at n ≡ bad at
    digits_past h =
        repeated_fails (counting most s) (counting_moves most s) (length s) (counting_stops most s) at at n
        (digit_within s at d e) (counting_past most s at n d e h)

-- a decimal, by its first digit
module _ (most : ℕ) (s : Text) (at : ℕ) where
  pub decimal_none : digit (byte_at s at) ≡ None → decimal most s at ≡ bad at
  unfolding decimal
  decimal_none e = rw (e, decimal)

  pub decimal_past : (d : ℕ) → digit (byte_at s at) ≡ Some d → most < d → decimal most s at ≡ bad at
  unfolding decimal
  decimal_past d e h = rw (e, lt-leb d most h, decimal)

  pub decimal_zero : digit (byte_at s at) ≡ Some 0 → decimal most s at ≡ got (at + 1) 0
  unfolding decimal
  decimal_zero e = rw (e, le-leb 0 most (omega arith), decimal)

  pub decimal_more : (d : ℕ) → digit (byte_at s at) ≡ Some d → d ≤ most → (d ≡ 0 → ⊥)
      → decimal most s at ≡ repeated (counting most s) (length s) (at + 1) d
  unfolding decimal
  decimal_more d e h n = rw (e, le-leb d most h, ne_eqb d 0 n, decimal)

-- a decimal moves on
pub decimal_moves : (most : ℕ) (s : Text) → Moves (decimal most s)
decimal_moves most s at p n e = go (digit (byte_at s at)) refl
  where
    go : (o : Option ℕ) → digit (byte_at s at) ≡ o → at < p
    go None f = absurd (no_got _ _ _ (sym (decimal_none most s at f) ∙ e))
    go (Some d) f = test (leb d most) refl (eqb d 0) refl
      where
        test : (t : Bool) → leb d most ≡ t → (u : Bool) → eqb d 0 ≡ u → at < p
        test false t u g = absurd (no_got _ _ _ (sym (decimal_past most s at d f (leb-false _ _ t)) ∙ e))
        test true t true g =
            let z = eqb-true d 0 g in
            let l = same_place _ _ _ _ (sym (decimal_zero most s at (f ∙ ap Some z)) ∙ e) in
            omega arith
        test true t false g =
            let l =
            repeated_on (counting most s) (counting_moves most s) (length s) (at + 1) p d n
            (sym (decimal_more most s at d f (leb-true _ _ t) (eqb-false d 0 g)) ∙ e) in
            omega arith

-- a decimal is at most what it may be
counting_below : (most : ℕ) (s : Text) (at p n k : ℕ) → n ≤ most → counting most s at n ≡ Some (got p k) → k ≤ most
counting_below most s at p n k h e = go (digit (byte_at s at)) refl
  where
    go : (o : Option ℕ) → digit (byte_at s at) ≡ o → k ≤ most
    go None f = let c = counting_none most s at n f in absurd (let z : ◌≡◌ {A = ℕ} 0 1 = cc in omega arith)
    go (Some d) f = test (leb (n * 10 + d) most) refl
      where
        test : (t : Bool) → leb (n * 10 + d) most ≡ t → k ≤ most
        test true g =
            let l = leb-true _ _ g in
            let c = counting_more most s at n d f l in
            let q : n * 10 + d ≡ k = cc in
            omega arith
        test false g =
            let c = counting_past most s at n d f (leb-false _ _ g) in
            let q : bad at ≡ got p k = cc in
            absurd (no_got _ _ _ q)

pub decimal_below : (most : ℕ) (s : Text) (at p n : ℕ) → decimal most s at ≡ got p n → n ≤ most
decimal_below most s at p n e = go (digit (byte_at s at)) refl
  where
    go : (o : Option ℕ) → digit (byte_at s at) ≡ o → n ≤ most
    go None f = absurd (no_got _ _ _ (sym (decimal_none most s at f) ∙ e))
    go (Some d) f = test (leb d most) refl (eqb d 0) refl
      where
        test : (t : Bool) → leb d most ≡ t → (u : Bool) → eqb d 0 ≡ u → n ≤ most
        test false t u g = absurd (no_got _ _ _ (sym (decimal_past most s at d f (leb-false _ _ t)) ∙ e))
        test true t true g =
            let z = eqb-true d 0 g in
            let l = same_read _ _ _ _ (sym (decimal_zero most s at (f ∙ ap Some z)) ∙ e) in
            omega arith
        test true t false g =
            repeated_keeps (counting most s) (λ k. k ≤ most) (counting_below most s) (length s) (at + 1) p d n (leb-true _ _ t)
            (sym (decimal_more most s at d f (leb-true _ _ t) (eqb-false d 0 g)) ∙ e)
