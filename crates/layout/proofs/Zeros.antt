-- Cells that are all 0: read one by one; and from one on and before another, what stands in each of them. Assumes nothing.
use Prim.Native.Nat.{ℕ, zero, suc, ◌+◌, ◌-◌, ◌≤◌, ◌<◌}
use mathlib.Core.Bool.{Bool, true, false, false≢true}
use mathlib.Core.List.{[], ◌∷◌}
use mathlib.Core.Path.{◌≡◌, refl, sym, ap, ap₂, ◌∙◌}
use mathlib.Core.Logic.{◌≢◌}
use native.Mathlib.Numerals.{add-one}
use native.Mathlib.Omega.{arith}
use borrow.Author.Tests.{eq-eqb, ne_eqb}
use lib.Dec.{eqb}
use lib.IntN.{ℤ, pos}
use lib.ListN.{length, get_or, take, drop, length-take, drop_of_length-le}
use lib.Seq.{drop-cons, get_or-take, get_or-drop}
use mir.Syntax.{w32}
use mir.Val.{SFits, of_z}
use Rattle.whole.specs.Whole.{eq_z}
use Rattle.whole.proofs.Ranges.{same_bits}
use Rattle.whole.proofs.Tested.{equals, equalled}
use Rattle.layout.specs.Layout.{Cells}
use Rattle.layout.specs.Vocabulary.Found.{zeros, zeros_in}

-- a test of bits for 0 is one of the number
zero_bits : (z : ℤ) → SFits w32 z → eqb (of_z w32 z) 0 ≡ eq_z z (pos 0)
zero_bits z f = same_bits z (pos 0) f (record { sfits = omega arith })

-- a list, by its first
module _ (z : ℤ) (zs : Cells) where
  zeros_cons : eq_z z (pos 0) ≡ true → zeros (z ∷ zs) ≡ zeros zs
  unfolding zeros
  zeros_cons e = rw (e, zeros)

  zeros_not : eq_z z (pos 0) ≡ false → zeros (z ∷ zs) ≡ false
  unfolding zeros
  zeros_not e = rw (e, zeros)

-- what is left of a list, by its first: that one, and those behind it
module _ (c : Cells) (i : ℕ) where
  pub zeros_more : i < length c → SFits w32 (get_or c i (pos 0)) → of_z w32 (get_or c i (pos 0)) ≡ 0 → zeros (drop (i + 1) c) ≡ zeros (drop i c)
  zeros_more h f e =
      ap (λ n. zeros (drop n c)) (add-one i)
      ∙ sym (ap zeros (drop-cons c i (pos 0) h) ∙ zeros_cons _ _ (sym (zero_bits _ f) ∙ eq-eqb _ 0 e))

  pub zeros_stop : i < length c → SFits w32 (get_or c i (pos 0)) → of_z w32 (get_or c i (pos 0)) ≢ 0 → zeros (drop i c) ≡ false
  zeros_stop h f e = ap zeros (drop-cons c i (pos 0) h) ∙ zeros_not _ _ (sym (zero_bits _ f) ∙ ne_eqb _ 0 e)

  -- and from the end on there is none
  pub zeros_done : length c ≤ i → zeros (drop i c) ≡ true
  unfolding zeros
  zeros_done h = ap zeros (drop_of_length-le c h)

-- cells from one on that is before the end: that one, and those behind it
module _ (c : Cells) (i to : ℕ) where
  opened : i < to → to ≤ length c → zeros_in c i to ≡ zeros (get_or c i (pos 0) ∷ take (to - suc i) (drop (suc i) c))
  unfolding zeros_in
  opened h k =
      let n : to - i ≡ suc (to - suc i) = omega arith in
      ap zeros (ap₂ take n (drop-cons c i (pos 0) (omega arith)))

  pub zeros_in_more : i < to → to ≤ length c → eq_z (get_or c i (pos 0)) (pos 0) ≡ true → zeros_in c (i + 1) to ≡ zeros_in c i to
  unfolding zeros_in
  zeros_in_more h k e = ap (λ n. zeros_in c n to) (add-one i) ∙ sym (opened h k ∙ zeros_cons _ _ e)

  pub zeros_in_stop : i < to → to ≤ length c → eq_z (get_or c i (pos 0)) (pos 0) ≡ false → zeros_in c i to ≡ false
  zeros_in_stop h k e = opened h k ∙ zeros_not _ _ e

  -- and from the end on there is none
  pub zeros_in_done : to ≤ i → zeros_in c i to ≡ true
  unfolding zeros_in zeros
  zeros_in_done h = let n : to - i ≡ 0 = omega arith in ap (λ k. zeros (take k (drop i c))) n

-- each of a list that is all 0, and a list each of which is 0
zeros_each : (zs : Cells) → zeros zs ≡ true → (i : ℕ) → get_or zs i (pos 0) ≡ pos 0
unfolding zeros
zeros_each [] h i = refl
zeros_each (z ∷ zs) h i = go (eq_z z (pos 0)) refl (zeros_each zs) i
  where
    go : (b : Bool) → eq_z z (pos 0) ≡ b → (zeros zs ≡ true → (j : ℕ) → get_or zs j (pos 0) ≡ pos 0) → (j : ℕ) → get_or (z ∷ zs) j (pos 0) ≡ pos 0
    go true e more zero = equals z 0 e
    go true e more (suc j) = more (sym (zeros_cons z zs e) ∙ h) j
    go false e more j = absurd (false≢true (sym (zeros_not z zs e) ∙ h))

each_zeros : (zs : Cells) → ((i : ℕ) → i < length zs → get_or zs i (pos 0) ≡ pos 0) → zeros zs ≡ true
unfolding zeros
each_zeros [] h = refl
each_zeros (z ∷ zs) h = zeros_cons z zs (equalled z 0 (h 0 (omega arith))) ∙ each_zeros zs (λ i k. h (suc i) (omega arith))

-- the same of cells from one on and before another
module _ (c : Cells) (from to : ℕ) where
  pub zeros_in_lem : zeros_in c from to ≡ true → (i : ℕ) → from ≤ i → i < to → get_or c i (pos 0) ≡ pos 0
  unfolding zeros_in
  zeros_in_lem h i low high =
      let n : i ≡ from + (i - from) = omega arith in
      ap (λ k. get_or c k (pos 0)) n
      ∙ sym (get_or-take (to - from) (drop from c) (i - from) (pos 0) (omega arith) ∙ get_or-drop from c (i - from) (pos 0))
      ∙ zeros_each (take (to - from) (drop from c)) h (i - from)

  pub in_zeros : ((i : ℕ) → from ≤ i → i < to → get_or c i (pos 0) ≡ pos 0) → zeros_in c from to ≡ true
  unfolding zeros_in
  in_zeros h =
      each_zeros (take (to - from) (drop from c)) (λ i k.
      let b : i < to - from = omega (arith, length-take (to - from) (drop from c)) in
      get_or-take (to - from) (drop from c) i (pos 0) b ∙ get_or-drop from c i (pos 0) ∙ h (from + i) (omega arith) (omega arith))
