-- What a test of a signed number says of its range, and the sizes of sums and products. Assumes nothing.
use Rattle.std.specs.Prelude.{Option, None, Some, Result, Ok, Err, OkIff}
use Rattle.std.specs.Result.{result_ok}
use Prim.Native.Nat.{ℕ, zero, suc, ◌+◌, ◌-◌, ◌*◌, ◌^◌, ◌≤◌, ◌<◌}
use mathlib.Core.Bool.{Bool, true, false, cond, false≢true}
use mathlib.Core.Path.{◌≡◌, refl, sym, ap, ◌∙◌}
use native.Mathlib.Omega.{arith}
use borrow.Author.Tests.{ltb-true, ltb-false, lt-ltb, le-ltb, eqb-true, eqb-false, eq-eqb, ne_eqb}
use lib.Dec.{ltb, eqb}
use lib.IntN.{ℤ, pos, negsuc, neg_ℤ, sub_ℕ, ◌+ℤ◌, ◌-ℤ◌, ◌*ℤ◌}
use lib.Signed.{mag, lt_z}
use mir.Syntax.{w32, w64}
use mir.Val.{SFits, of_z, to_z}
use mir.ValLaws.{to_z-of_z}
use native.Mathlib.Nat.{zero-add, mul-le-mul}
use Rattle.whole.specs.declared.Operator.{Operator}
use Rattle.whole.specs.declared.Operator.TheVariants.{Plus, Minus, Times, Less, Equal}
use Rattle.whole.specs.Whole.{in_range, within, eq_z, apply, natural, nat}
use Rattle.whole.specs.Vocabulary.Summands.{summand}

-- below the least, above the largest, and neither
pub below_range : (z : ℤ) → lt_z z (negsuc 2147483647) ≡ true → None ≡ within z
unfolding within in_range
below_range (pos n) h = absurd (false≢true h)
below_range (negsuc n) h = rw (le-ltb n 2147483648 (omega (arith, ltb-true 2147483647 n h)), within)

pub above_range : (z : ℤ) → lt_z (pos 2147483647) z ≡ true → None ≡ within z
unfolding within in_range
above_range (pos n) h = rw (le-ltb n 2147483648 (omega (arith, ltb-true 2147483647 n h)), within)
above_range (negsuc n) h = absurd (false≢true h)

pub in_range_lem : (z : ℤ) → lt_z z (negsuc 2147483647) ≡ false → lt_z (pos 2147483647) z ≡ false → mag z < 2147483648
in_range_lem (pos n) h k = omega (arith, ltb-false 2147483647 n k)
in_range_lem (negsuc n) h k = omega (arith, ltb-false 2147483647 n h)

pub within_range : (z : ℤ) → mag z < 2147483648 → Some z ≡ within z
unfolding within in_range
within_range z h = rw (lt-ltb (mag z) 2147483648 h, within)

-- what a conversion to 32 bits tells is whether a result is in range
tried_within : {E : Type 0} (z : ℤ) (tried : Result ℤ E) → OkIff tried (SFits w32 z) z → result_ok tried ≡ within z
unfolding within in_range
tried_within z (Ok x) h = rw (lt-ltb (mag z) 2147483648 (omega (arith, h.0.sfits)), within) (ap Some h.1)
tried_within z (Err e) h = go (ltb (mag z) 2147483648) refl
  where
    go : (t : Bool) → ltb (mag z) 2147483648 ≡ t → ◌≡◌ {A = Option ℤ} None (elim t [ true ↦ Some z | false ↦ None ])
    go true f = absurd (h (record { sfits = omega (arith, ltb-true (mag z) 2147483648 f) }))
    go false f = refl

-- and of a result that a call was handed
pub within_tried : {E : Type 0} (z y : ℤ) (tried : Result ℤ E) → SFits w64 z → y ≡ to_z w64 (of_z w64 z) → OkIff tried (SFits w32 y) y → result_ok tried ≡ within z
within_tried z y tried h e f = tried_within y tried f ∙ ap within (e ∙ to_z-of_z w64 z h)

-- how large a negative, a second summand, a difference of naturals, a sum and a product can be
mag_neg : (z : ℤ) → mag (neg_ℤ z) ≤ mag z + 1
mag_neg (pos zero) = omega arith
mag_neg (pos (suc n)) = omega arith
mag_neg (negsuc n) = omega arith

mag_summand : (o : Operator) (y : ℤ) → mag (summand o y) ≤ mag y + 1
unfolding summand
mag_summand Minus y = mag_neg y
mag_summand Plus y = omega arith
mag_summand Times y = omega arith
mag_summand Less y = omega arith
mag_summand Equal y = omega arith

mag_sub : (a b : ℕ) → mag (sub_ℕ a b) ≤ a + b
mag_sub a b = go (ltb a b)
  where
    go : (t : Bool) → mag (cond t (negsuc (b - suc a)) (pos (a - b))) ≤ a + b
    go true = omega arith
    go false = omega arith

mag_sum : (x y : ℤ) → mag (x +ℤ y) ≤ mag x + mag y + 1
mag_sum (pos a) (pos b) = omega arith
mag_sum (pos a) (negsuc b) = omega (arith, mag_sub a (suc b))
mag_sum (negsuc a) (pos b) = omega (arith, mag_sub b (suc a))
mag_sum (negsuc a) (negsuc b) = omega arith

times_le : (a b c d : ℕ) → a ≤ c → b ≤ d → a * b ≤ c * d
times_le a b c d h k = mul-le-mul h k

mag_product : (x y : ℤ) → mag (x *ℤ y) ≤ (mag x + 1) * (mag y + 1) + 1
mag_product (pos a) (pos b) = omega (arith, times_le a b (a + 1) (b + 1) (omega arith) (omega arith))
mag_product (pos a) (negsuc b) =
    omega (arith, mag_neg (pos (a * suc b)), times_le a (suc b) (a + 1) (b + 1) (omega arith) (omega arith))
mag_product (negsuc a) (pos b) =
    omega (arith, mag_neg (pos (suc a * b)), times_le (suc a) b (a + 1) (b + 1) (omega arith) (omega arith))
mag_product (negsuc a) (negsuc b) = omega (arith, times_le (suc a) (suc b) (a + 1) (b + 1) (omega arith) (omega arith))

-- so what 32 bits hold can be added, subtracted and multiplied in 64
module _ (x y : ℤ) (fits-x : SFits w32 x) (fits-y : SFits w32 y) where
  -- the second with its sign
  pub total_fits : (o : Operator) → SFits w64 (x +ℤ summand o y)
  total_fits o = record { sfits = omega (arith, fits-x.sfits, fits-y.sfits, mag_sum x (summand o y), mag_summand o y) }

  pub product_fits : SFits w64 (x *ℤ y)
  product_fits =
      let a : mag x + 1 ≤ 2 ^ 31 = omega (arith, fits-x.sfits) in
      let b : mag y + 1 ≤ 2 ^ 31 = omega (arith, fits-y.sfits) in
      record { sfits = omega (arith, mag_product x y, times_le _ _ _ _ a b) }

-- and what 32 bits hold, 64 do
pub wide_fits : (x : ℤ) → SFits w32 x → SFits w64 x
wide_fits x h = record { sfits = omega (arith, h.sfits) }

-- what a call was handed, widened, reads back
pub read_back : (x r : ℤ) → SFits w32 x → r ≡ to_z w32 (of_z w32 x) → to_z w64 (of_z w64 r) ≡ x
read_back x r h e = ap (λ z. to_z w64 (of_z w64 z)) (e ∙ to_z-of_z w32 x h) ∙ to_z-of_z w64 x (wide_fits x h)

-- and so does a second summand
pub negative : (y : ℤ) → pos 0 -ℤ y ≡ neg_ℤ y
negative y = go (neg_ℤ y)
  where
    go : (z : ℤ) → pos 0 +ℤ z ≡ z
    go (pos n) = ap pos (zero-add n)
    go (negsuc n) = let m : suc n - 1 ≡ n = omega arith in rw (lt-ltb 0 (suc n) (omega arith)) (ap negsuc m)

pub negative_fits : (y : ℤ) → SFits w32 y → SFits w64 (pos 0 -ℤ y)
negative_fits y h = record { sfits = omega (arith, h.sfits, mag_sum (pos 0) (neg_ℤ y), mag_neg y) }

summand_fits : (o : Operator) (y : ℤ) → SFits w32 y → SFits w64 (summand o y)
summand_fits o y h = record { sfits = omega (arith, h.sfits, mag_summand o y) }

pub summand_back : (o : Operator) (y r : ℤ) → SFits w32 y → r ≡ summand o (to_z w32 (of_z w32 y)) → to_z w64 (of_z w64 r) ≡ summand o y
summand_back o y r h e = ap (λ z. to_z w64 (of_z w64 z)) (e ∙ ap (summand o) (to_z-of_z w32 y h)) ∙ to_z-of_z w64 _ (summand_fits o y h)

-- two numbers are equal where their bits are
pub same_bits : (x y : ℤ) → SFits w32 x → SFits w32 y → eqb (of_z w32 x) (of_z w32 y) ≡ eq_z x y
unfolding eq_z
same_bits (pos a) (pos b) hx hy = refl
same_bits (pos a) (negsuc b) hx hy = ne_eqb a (2 ^ 32 - suc b) (λ e. omega (arith, hx.sfits, hy.sfits))
same_bits (negsuc a) (pos b) hx hy = ne_eqb (2 ^ 32 - suc a) b (λ e. omega (arith, hx.sfits, hy.sfits))
same_bits (negsuc a) (negsuc b) hx hy = go (eqb a b) refl
  where
    go : (t : Bool) → eqb a b ≡ t → eqb (2 ^ 32 - suc a) (2 ^ 32 - suc b) ≡ eqb a b
    go true e = eq-eqb (2 ^ 32 - suc a) (2 ^ 32 - suc b) (ap (λ n. 2 ^ 32 - suc n) (eqb-true a b e)) ∙ sym e
    go false e = ne_eqb (2 ^ 32 - suc a) (2 ^ 32 - suc b) (λ f. eqb-false a b e (omega (arith, hx.sfits, hy.sfits))) ∙ sym e

-- and in 64 bits, where both were widened and the second is counted from 0
wide_bits : (x : ℤ) (n : ℕ) → SFits w32 x → n < 2 ^ 32 → eqb (of_z w64 x) n ≡ eq_z x (pos n)
unfolding eq_z
wide_bits (pos a) n hx hn = refl
wide_bits (negsuc a) n hx hn = ne_eqb (2 ^ 64 - suc a) n (λ e. omega (arith, hx.sfits, hn))

pub same_wide : (x r s : ℤ) (n : ℕ) → SFits w32 x → n < 2 ^ 32 → r ≡ to_z w32 (of_z w32 x) → s ≡ pos n → eqb (of_z w64 r) (of_z w64 s) ≡ eq_z x (pos n)
same_wide x r s n hx hn e f =
    ap (λ z. eqb (of_z w64 z) (of_z w64 s)) (e ∙ to_z-of_z w32 x hx) ∙ ap (λ z. eqb (of_z w64 x) (of_z w64 z)) f ∙ wide_bits x n hx hn

-- what a call of an operator was handed reads back
pub apply_handed : (o p : Operator) (x y : ℤ) → SFits w32 x → SFits w32 y → p ≡ o
    → apply o (to_z w32 (of_z w32 x)) (to_z w32 (of_z w32 y)) ≡ apply p x y
apply_handed o p x y hx hy e = rw (to_z-of_z w32 x hx, to_z-of_z w32 y hy, e)

-- a cell that is a natural number is that number, and one that is none is below 0
pub natural_is : (z : ℤ) (m : ℕ) → natural z ≡ Some m → z ≡ pos m
unfolding natural
natural_is (pos n) m e = cc
natural_is (negsuc n) m e = cc

pub natural_not : (z : ℤ) (n : ℕ) → natural z ≡ None → eq_z z (pos n) ≡ false
unfolding natural eq_z
natural_not (pos k) n e = cc
natural_not (negsuc k) n e = refl

pub nat_not : (z : ℤ) → natural z ≡ None → nat z ≡ 0
unfolding natural nat
nat_not (pos k) e = cc
nat_not (negsuc k) e = refl

-- a result that was handed on reads back as what it is known to be
pub handed : (r z : ℤ) → mag r < 2147483648 → r ≡ z → to_z w32 (of_z w32 r) ≡ z
handed r z h e = to_z-of_z w32 r (record { sfits = h }) ∙ e
