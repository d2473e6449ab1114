-- Reading in a part of a text: a word and a decimal are read there as in the whole, by other places, where what stands behind the part
-- continues neither. Assumes nothing.
use Rattle.std.specs.Prelude.{Option, None, Some}
use Prim.Native.Nat.{ℕ, zero, suc, ◌+◌, ◌-◌, ◌*◌, ◌≤◌, ◌<◌}
use mathlib.Core.Bool.{Bool, true, false}
use mathlib.Core.List.{[], ◌∷◌}
use mathlib.Core.Path.{◌≡◌, refl, sym, ap, ap₂, ◌∙◌}
use native.Mathlib.Nat.{add-zero}
use native.Mathlib.Omega.{arith}
use borrow.Author.Tests.{leb-true, leb-false, ltb-true, ltb-false, eqb-true, eqb-false, ne_eqb}
use lib.Dec.{leb, ltb, eqb}
use lib.ListN.{length, take, drop, length-take, length-drop}
use lib.Seq.{get_or-take, get_or-drop}
use Rattle.terms.specs.Bytes.{Text, byte_at, digit}
use Rattle.terms.specs.Leaves.{counting, decimal}
use Rattle.terms.specs.Parsed.{Parsed, got, bad, word, repeated}
use Rattle.terms.proofs.Bytes.{digit_is}
use Rattle.terms.proofs.Digits.{counting_none, counting_more, counting_past, counting_moves, counting_stops, decimal_none, decimal_past, decimal_zero, decimal_more}
use Rattle.terms.proofs.Following.{next_of_got, next_of_bad, repeated_none, repeated_some}
use Rattle.terms.proofs.Moving.{enough, no_got, past_end, within_text, word_yes, word_no, word_none}
use Rattle.terms.proofs.Nesting.{positive}

-- what was read in a part of a text, by the places of the whole
unfoldable pub shifted : {A : Type 0} → ℕ → Parsed A → Parsed A
shifted b (got p a) = got (b + p) a
shifted b (bad p) = bad (b + p)

-- no byte of a word is 0 or another byte
unfoldable pub Free : ℕ → Text → Type 0
Free stop [] = Unit {0}
Free stop (c ∷ w) = (0 ≡ c → ⊥) × (stop ≡ c → ⊥) × Free stop w

-- a part of a text, and the byte behind it
module _ (s : Text) (b e stop : ℕ) (from : b ≤ e) (within : e < length s) (behind : byte_at s e ≡ stop) where
  abbrev part : Text
  part = take (e - b) (drop b s)

  pub part_length : length part ≡ e - b
  part_length = omega (arith, length-take (e - b) (drop b s), length-drop b s)

  -- a byte of it, or the one behind, by whatever takes that for what stands past an end
  same_at : {X : Type 0} (f : ℕ → X) → f 0 ≡ f stop → (i : ℕ) → b + i ≤ e → f (byte_at s (b + i)) ≡ f (byte_at part i)
  same_at f h i k = go (ltb (b + i) e) refl
    where
      go : (t : Bool) → ltb (b + i) e ≡ t → f (byte_at s (b + i)) ≡ f (byte_at part i)
      go true u =
          let l : b + i < e = ltb-true _ _ u in
          ap f (sym (get_or-take (e - b) (drop b s) i 0 (omega arith) ∙ get_or-drop b s i 0))
      go false u =
          let l : e ≤ b + i = ltb-false _ _ u in
          let n : b + i ≡ e = omega arith in
          ap f (ap (byte_at s) n ∙ behind) ∙ sym h ∙ ap f (sym (past_end part i (omega (arith, part_length))))

  -- a byte that is found there stands in the part
  found_at : (i : ℕ) → b + i ≤ e → 0 < byte_at part i → b + (i + 1) ≤ e
  found_at i k h = omega (arith, within_text part i (byte_at part i) refl h, part_length)

  -- a word that the byte behind does not continue
  pub word_part : (w : Text) → Free stop w → (i : ℕ) → b + i ≤ e → word w s (b + i) ≡ shifted b (word w part i)
  unfolding shifted Free
  word_part [] h i k = word_none s (b + i) ∙ sym (ap (shifted b) (word_none part i))
  word_part (c ∷ w) h i k = go (eqb (byte_at part i) c) refl (word_part w h.2 (i + 1))
    where
      same : eqb (byte_at s (b + i)) c ≡ eqb (byte_at part i) c
      same = same_at (λ x. eqb x c) (ne_eqb 0 c h.0 ∙ sym (ne_eqb stop c h.1)) i k

      go : (t : Bool) → eqb (byte_at part i) c ≡ t → (b + (i + 1) ≤ e → word w s (b + (i + 1)) ≡ shifted b (word w part (i + 1)))
          → word (c ∷ w) s (b + i) ≡ shifted b (word (c ∷ w) part i)
      go false f rest = word_no c w s (b + i) (same ∙ f) ∙ sym (ap (shifted b) (word_no c w part i f))
      go true f rest =
          let n : (b + i) + 1 ≡ b + (i + 1) = omega arith in
          word_yes c w s (b + i) (same ∙ f)
          ∙ ap (word w s) n
          ∙ rest (found_at i k (positive (byte_at part i) (λ z. h.0 (sym z ∙ eqb-true _ _ f))))
          ∙ sym (ap (shifted b) (word_yes c w part i f))

  -- where it is no digit: a digit, digits and a decimal
  module _ (ends : digit stop ≡ None) where
    digit_part : (i : ℕ) → b + i ≤ e → digit (byte_at s (b + i)) ≡ digit (byte_at part i)
    unfolding digit
    digit_part = same_at digit (sym ends)

    digits_part : (most n : ℕ) (i k : ℕ) → b + i ≤ e → repeated (counting most s) n (b + i) k ≡ shifted b (repeated (counting most part) n i k)
    unfolding shifted
    digits_part most zero i k h = unfold repeated in refl
    digits_part most (suc n) i k h = go (digit (byte_at part i)) refl (digits_part most n (i + 1))
      where
        Rest : Type 0
        Rest = (k : ℕ) → b + (i + 1) ≤ e → repeated (counting most s) n (b + (i + 1)) k ≡ shifted b (repeated (counting most part) n (i + 1) k)

        go : (o : Option ℕ) → digit (byte_at part i) ≡ o → Rest → repeated (counting most s) (suc n) (b + i) k ≡ shifted b (repeated (counting most part) (suc n) i k)
        go None f rest =
            repeated_none (counting most s) n (b + i) k (counting_none most s (b + i) k (digit_part i h ∙ f))
            ∙ sym (ap (shifted b) (repeated_none (counting most part) n i k (counting_none most part i k f)))
        go (Some d) f rest = test (leb (k * 10 + d) most) refl
          where
            test : (t : Bool) → leb (k * 10 + d) most ≡ t → repeated (counting most s) (suc n) (b + i) k ≡ shifted b (repeated (counting most part) (suc n) i k)
            test true u =
                let m : (b + i) + 1 ≡ b + (i + 1) = omega arith in
                repeated_some (counting most s) n (b + i) k _ (counting_more most s (b + i) k d (digit_part i h ∙ f) (leb-true _ _ u))
                ∙ next_of_got _ _ _
                ∙ ap (λ j. repeated (counting most s) n j (k * 10 + d)) m
                ∙ rest (k * 10 + d) (found_at i h (digit_is (byte_at part i) d f).0)
                ∙ sym (ap (shifted b) (repeated_some (counting most part) n i k _ (counting_more most part i k d f (leb-true _ _ u)) ∙ next_of_got _ _ _))
            test false u =
                repeated_some (counting most s) n (b + i) k _ (counting_past most s (b + i) k d (digit_part i h ∙ f) (leb-false _ _ u))
                ∙ next_of_bad _ _
                ∙ sym (ap (shifted b) (repeated_some (counting most part) n i k _ (counting_past most part i k d f (leb-false _ _ u)) ∙ next_of_bad _ _))

    pub decimal_part : (most : ℕ) → decimal most s b ≡ shifted b (decimal most part 0)
    unfolding shifted
    decimal_part most = go (digit (byte_at part 0)) refl
      where
        here : digit (byte_at s b) ≡ digit (byte_at part 0)
        here = ap (λ i. digit (byte_at s i)) (sym (add-zero b)) ∙ digit_part 0 (omega arith)

        go : (o : Option ℕ) → digit (byte_at part 0) ≡ o → decimal most s b ≡ shifted b (decimal most part 0)
        go None f = decimal_none most s b (here ∙ f) ∙ ap bad (sym (add-zero b)) ∙ sym (ap (shifted b) (decimal_none most part 0 f))
        go (Some d) f = test (leb d most) refl (eqb d 0) refl
          where
            test : (t : Bool) → leb d most ≡ t → (u : Bool) → eqb d 0 ≡ u → decimal most s b ≡ shifted b (decimal most part 0)
            test false t u v =
                decimal_past most s b d (here ∙ f) (leb-false _ _ t) ∙ ap bad (sym (add-zero b)) ∙ sym (ap (shifted b) (decimal_past most part 0 d f (leb-false _ _ t)))
            test true t true v =
                let z = eqb-true d 0 v in
                decimal_zero most s b (here ∙ f ∙ ap Some z) ∙ sym (ap (shifted b) (decimal_zero most part 0 (f ∙ ap Some z)))
            test true t false v =
                decimal_more most s b d (here ∙ f) (leb-true _ _ t) (eqb-false _ _ v)
                ∙ digits_part most (length s) 1 d (found_at 0 (omega arith) (digit_is (byte_at part 0) d f).0)
                ∙ ap (shifted b)
                (enough (counting most part) (counting_moves most part) (length part) (counting_stops most part) (length s) (length part) 1 d (omega (arith, part_length)) (omega arith)
                ∙ sym (decimal_more most part 0 d f (leb-true _ _ t) (eqb-false _ _ v)))

-- by the places of the part
pub unshifted : {A : Type 0} (b : ℕ) (x : Parsed A) (p : ℕ) (a : A) → shifted b x ≡ got (b + p) a → x ≡ got p a
unfolding shifted
unshifted b (got q c) p a e = let l : b + q ≡ b + p = cc in let m : q ≡ p = omega arith in let d : c ≡ a = cc in ap₂ got m d
unshifted b (bad q) p a e = absurd (no_got _ _ _ e)
