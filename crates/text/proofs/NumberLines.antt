-- A line with a number: what the code reads behind its key is what the definition gives of the line. Assumes nothing.
use Rattle.std.specs.Prelude.{Option, None, Some}
use Prim.Native.Nat.{ℕ, zero, suc, ◌+◌, ◌-◌, ◌*◌, ◌≤◌, ◌<◌}
use mathlib.Core.Bool.{Bool, true, false, ◌&&◌}
use mathlib.Core.List.{[]}
use mathlib.Core.Path.{◌≡◌, refl, sym, ap, ap₂, subst, ◌∙◌}
use native.Mathlib.Nat.{le_of_lt}
use native.Mathlib.Numerals.{add-one}
use native.Mathlib.Omega.{arith}
use borrow.Author.Tests.{le-leb, lt-leb, leb-true, leb-false, eqb-true, eqb-false, ne_eqb, eq-eqb}
use lib.Dec.{leb, eqb}
use lib.ListN.{length, take, drop}
use lib.Seq.{drop-cons, drop-length}
use Rattle.whole.specs.Refusals.{wrong_number}
use Rattle.whole.proofs.Both.{both_left, both_right}
use Rattle.terms.specs.Bytes.{Text, byte_at, digit}
use Rattle.terms.specs.Leaves.{counting, decimal}
use Rattle.terms.specs.Parsed.{Parsed, got, bad, next, word, repeated}
use Rattle.terms.proofs.Bytes.{below_digits, above_digits}
use Rattle.terms.proofs.Digits.{counting_none, counting_more, counting_past, decimal_none, decimal_past, decimal_zero, decimal_more, decimal_moves, decimal_below, digit_within}
use Rattle.terms.proofs.Following.{next_of_got, next_of_bad, repeated_none, repeated_some}
use Rattle.terms.proofs.Moving.{no_got, same_place, same_read, within_text, word_on}
use Rattle.terms.proofs.Parts.{shifted, unshifted, part_length, decimal_part}
use Rattle.text.specs.declared.At.{At}
use Rattle.text.specs.InOrder.{failed, after, Taken, wrong, right, passed, number_line}
use Rattle.text.specs.Lines.{lines, line_feed, longest_line, plain_byte, plain_bytes}
use Rattle.text.specs.Numbers.{number_in}
use Rattle.text.specs.Vocabulary.KeyLines.{fed_number}
use Rattle.text.specs.Vocabulary.Readings.{read_at, fault}
use Rattle.text.proofs.KeyLines.{word_front, refused_as, value_inside, value_taken_lem}
use Rattle.text.proofs.NumbersIn.{number_within, number_is}
use Rattle.text.proofs.Plain.{plain_from, plain_first, plain_past, plain_start}
use Rattle.text.proofs.SoundEnds.{SoundLine, sound_found, end_from_plain, end_here}

-- an LF is no digit
no_digit : digit line_feed ≡ None
no_digit = below_digits line_feed (omega arith)

-- a digit is plain, and so are those of a decimal
digit_plain : (b d : ℕ) → digit b ≡ Some d → plain_byte b ≡ true
digit_plain b d e = go (leb 48 b) refl (leb b 57) refl
  where
    go : (t : Bool) → leb 48 b ≡ t → (u : Bool) → leb b 57 ≡ u → plain_byte b ≡ true
    go true t true u = let l : 48 ≤ b = leb-true _ _ t in let m : b ≤ 57 = leb-true _ _ u in sym (plain_from b (omega arith)) ∙ le-leb b 126 (omega arith)
    go true t false u = let f = above_digits b (leb-false b 57 u) in absurd (let z : ◌≡◌ {A = ℕ} 0 1 = cc in omega arith)
    go false t u v = let f = below_digits b (leb-false 48 b t) in absurd (let z : ◌≡◌ {A = ℕ} 0 1 = cc in omega arith)

-- one before bytes that are plain
plain_before : (s : Text) (at d : ℕ) → digit (byte_at s at) ≡ Some d → plain_bytes (drop (at + 1) s) ≡ true → plain_bytes (drop at s) ≡ true
plain_before s at d e h = ap plain_bytes (drop-cons s at 0 (digit_within s at d e)) ∙ plain_first _ _ (digit_plain _ d e) ∙ ap (λ i. plain_bytes (drop i s)) (sym (add-one at)) ∙ h

digits_plain : (most : ℕ) (s : Text) (n at p k m : ℕ) → repeated (counting most s) n at k ≡ got p m → plain_bytes (drop p s) ≡ true → plain_bytes (drop at s) ≡ true
digits_plain most s zero at p k m e h = subst (λ i. plain_bytes (drop i s) ≡ true) (sym (same_place at p k m (unfold repeated in e))) h
digits_plain most s (suc n) at p k m e h = go (digit (byte_at s at)) refl (digits_plain most s n (at + 1) p)
  where
    go : (o : Option ℕ) → digit (byte_at s at) ≡ o
        → ((k m : ℕ) → repeated (counting most s) n (at + 1) k ≡ got p m → plain_bytes (drop p s) ≡ true → plain_bytes (drop (at + 1) s) ≡ true) → plain_bytes (drop at s) ≡ true
    go None f rest = subst (λ i. plain_bytes (drop i s) ≡ true) (sym (same_place at p k m (sym (repeated_none _ n at k (counting_none most s at k f)) ∙ e))) h
    go (Some d) f rest = test (leb (k * 10 + d) most) refl
      where
        test : (t : Bool) → leb (k * 10 + d) most ≡ t → plain_bytes (drop at s) ≡ true
        test true u =
            plain_before s at d f (rest _ m (sym (repeated_some _ n at k _ (counting_more most s at k d f (leb-true _ _ u)) ∙ next_of_got _ _ _) ∙ e) h)
        test false u = absurd (no_got _ _ _ (sym (repeated_some _ n at k _ (counting_past most s at k d f (leb-false _ _ u)) ∙ next_of_bad _ _) ∙ e))

decimal_plain : (most : ℕ) (s : Text) (at p n : ℕ) → decimal most s at ≡ got p n → plain_bytes (drop p s) ≡ true → plain_bytes (drop at s) ≡ true
decimal_plain most s at p n e h = go (digit (byte_at s at)) refl
  where
    go : (o : Option ℕ) → digit (byte_at s at) ≡ o → plain_bytes (drop at s) ≡ true
    go None f = absurd (no_got _ _ _ (sym (decimal_none most s at f) ∙ e))
    go (Some d) f = test (leb d most) refl (eqb d 0) refl
      where
        test : (t : Bool) → leb d most ≡ t → (u : Bool) → eqb d 0 ≡ u → plain_bytes (drop at s) ≡ true
        test false t u v = absurd (no_got _ _ _ (sym (decimal_past most s at d f (leb-false _ _ t)) ∙ e))
        test true t true v =
            let z = eqb-true d 0 v in
            plain_before s at d f (subst (λ i. plain_bytes (drop i s) ≡ true) (sym (same_place _ _ _ _ (sym (decimal_zero most s at (f ∙ ap Some z)) ∙ e))) h)
        test true t false v =
            plain_before s at d f (digits_plain most s (length s) (at + 1) p d n (sym (decimal_more most s at d f (leb-true _ _ t) (eqb-false _ _ v)) ∙ e) h)

-- a number by the tests that the code makes
module _ (s : Text) (low most at : ℕ) where
  pub fed_none : (r : ℕ) → decimal most s at ≡ bad r → fed_number low most s at ≡ bad r
  unfolding fed_number next
  fed_none r e = rw (e, fed_number)

  module _ (end n : ℕ) (e : decimal most s at ≡ got end n) where
    fed_tested : (t : Bool) → eqb (byte_at s end) line_feed && leb low n ≡ t → fed_number low most s at ≡ elim t [ true ↦ got end n | false ↦ bad end ]
    unfolding fed_number next
    fed_tested t f = rw (e, fed_number) (ap (λ t. elim t [ true ↦ got end n | false ↦ bad end ]) f)

    -- no LF; a number below its lowest; none of these
    pub fed_unfed : (byte_at s end ≡ line_feed → ⊥) → fed_number low most s at ≡ bad end
    fed_unfed h = fed_tested false (rw (ne_eqb (byte_at s end) line_feed h))

    module _ (fed : byte_at s end ≡ line_feed) where
      pub fed_below : n < low → fed_number low most s at ≡ bad end
      fed_below h = fed_tested false (rw (eq-eqb (byte_at s end) line_feed fed, lt-leb low n h))

      pub fed_within : low ≤ n → fed_number low most s at ≡ got end n
      fed_within h = fed_tested true (rw (eq-eqb (byte_at s end) line_feed fed, le-leb low n h))

  -- what was read so
  fed_is : (end n : ℕ) → fed_number low most s at ≡ got end n → (decimal most s at ≡ got end n) × (byte_at s end ≡ line_feed) × (low ≤ n)
  fed_is end n e = go (decimal most s at) refl
    where
      go : (d : Parsed ℕ) → decimal most s at ≡ d → (decimal most s at ≡ got end n) × (byte_at s end ≡ line_feed) × (low ≤ n)
      go (bad r) f = absurd (no_got _ _ _ (sym (fed_none r f) ∙ e))
      go (got q m) f = test (eqb (byte_at s q) line_feed && leb low m) refl
        where
          test : (t : Bool) → eqb (byte_at s q) line_feed && leb low m ≡ t → (decimal most s at ≡ got end n) × (byte_at s end ≡ line_feed) × (low ≤ n)
          test false t = absurd (no_got _ _ _ (sym (fed_tested q m f false t) ∙ e))
          test true t =
              let g = sym (fed_tested q m f true t) ∙ e in
              let i : q ≡ end = same_place _ _ _ _ g in
              let j : m ≡ n = same_read _ _ _ _ g in
              (f ∙ ap₂ got i j, ap (byte_at s) (sym i) ∙ eqb-true _ _ (both_left _ (leb low m) t), subst (low ≤◌) j (leb-true _ _ (both_right (eqb (byte_at s q) line_feed) _ t)))

-- what a line's number is taken for
abbrev taken : Option ℕ → Taken ℕ
taken o = elim o [ None ↦ wrong wrong_number | Some n ↦ right n ]

-- a line whose key was read
module _ (key s : Text) (low most : ℕ) (p : At) (plain : plain_bytes key ≡ true) (v : ℕ) (keyed : word key s p.place ≡ got v tt) where
  -- as the definition reads it, if it is sound
  by_value : (e : ℕ) → SoundLine s p.place e → (o : Option ℕ) → number_in low most (take (e - v) (drop v s)) ≡ o
      → read_at (number_line key low most) s p ≡ passed (taken o) p.line (lines (drop (e + 1) s))
  unfolding number_line
  by_value e l o f = value_taken_lem s key p _ plain e l v keyed ∙ ap (λ o. passed (taken o) p.line (lines (drop (e + 1) s))) f

  -- a number with an LF behind it, not too far on: the line is sound, and the number is that of the line
  module _ (e n : ℕ) (f : fed_number low most s v ≡ got e n) (short : e ≤ p.place + longest_line) where
    abbrev is : (decimal most s v ≡ got e n) × (byte_at s e ≡ line_feed) × (low ≤ n)
    is = fed_is s low most v e n f

    ordered : (p.place ≤ v) × (v ≤ e) × (e < length s)
    ordered = (omega (arith, word_on key s p.place v keyed), le_of_lt (decimal_moves most s v e n is.0), within_text s e line_feed is.1 (omega arith))

    abbrev number : Text
    number = take (e - v) (drop v s)

    number_length : length number ≡ e - v
    number_length = part_length s v e line_feed ordered.1 ordered.2 is.1

    number_decimal : decimal most number 0 ≡ got (length number) n
    number_decimal =
        let m : e ≡ v + length number = omega (arith, number_length, ordered) in
        unshifted v _ _ _ (sym (decimal_part s v e line_feed ordered.1 ordered.2 is.1 no_digit most) ∙ is.0 ∙ ap (λ i. got i n) m)

    number_plain : plain_bytes number ≡ true
    number_plain = decimal_plain most number 0 _ n number_decimal (ap plain_bytes (drop-length number) ∙ plain_start [] 0)

    key_plain : plain_bytes (take (v - p.place) (drop p.place s)) ≡ true
    key_plain =
        let m : v - p.place ≡ length key = omega (arith, word_on key s p.place v keyed) in
        ap (λ i. plain_bytes (take i (drop p.place s))) m ∙ ap plain_bytes (word_front key s p.place v plain keyed) ∙ plain

    line_sound : SoundLine s p.place e
    line_sound =
        let m : v + (e - v) ≡ e = omega (arith, ordered) in
        let all = subst (λ i. plain_bytes (take (i - p.place) (drop p.place s)) ≡ true) m (plain_past s p.place v _ ordered.0 key_plain number_plain) in
        sound_found s p.place e (end_from_plain s p.place e (omega (arith, ordered)) (omega (arith, ordered)) all ∙ end_here s p.place e ordered.2 is.1 short)

    pub number_read : read_at (number_line key low most) s p ≡ after n (p.line + 1) (lines (drop (e + 1) s))
    unfolding passed
    number_read = by_value e line_sound (Some n) (number_within low most number _ n number_decimal refl is.2)

    -- where it ends, and its range
    pub number_behind : (p.place ≤ e) × (e < length s) × (low ≤ n) × (n ≤ most)
    number_behind = (omega (arith, ordered), ordered.2, is.2, decimal_below most s v e n is.0)

  -- a sound line of which the definition reads a number has one so
  number_stands : (e : ℕ) → SoundLine s p.place e → (n : ℕ) → number_in low most (take (e - v) (drop v s)) ≡ Some n → (fed_number low most s v ≡ got e n) × (e ≤ p.place + longest_line)
  unfolding shifted
  number_stands e l n f =
      let h = value_inside {A = ℕ} s key p (λ _ _. wrong 0) plain e l v keyed in
      let number = number_is low most (take (e - v) (drop v s)) n f in
      let m : v + length (take (e - v) (drop v s)) ≡ e = omega (arith, part_length s v e line_feed h.1 l.within l.fed, h) in
      let d : decimal most s v ≡ got e n = decimal_part s v e line_feed h.1 l.within l.fed no_digit most ∙ ap (shifted v) number.0 ∙ ap (λ i. got i n) m in
      (fed_within s low most v e n d l.fed number.1, h.3)

  -- so one without such a number is refused
  pub number_missed : ((e n : ℕ) → fed_number low most s v ≡ got e n → e ≤ p.place + longest_line → ⊥) → read_at (number_line key low most) s p ≡ failed (fault s wrong_number p)
  unfolding number_line passed
  number_missed never = refused_as s key p _ wrong_number (λ e g. let l = sound_found s p.place e g in go e l (number_in low most (take (e - v) (drop v s))) refl)
    where
      go : (e : ℕ) → SoundLine s p.place e → (o : Option ℕ) → number_in low most (take (e - v) (drop v s)) ≡ o → read_at (number_line key low most) s p ≡ failed (record { number = wrong_number; line = p.line })
      go e l None f = by_value e l None f
      go e l (Some n) f = let h = number_stands e l n f in absurd (never e n h.0 h.1)

  -- one with no number, or whose LF stands too far on
  pub no_number : (r : ℕ) → fed_number low most s v ≡ bad r → read_at (number_line key low most) s p ≡ failed (fault s wrong_number p)
  no_number r f = number_missed (λ e n g _. no_got r e n (sym f ∙ g))

  pub number_far : (e n : ℕ) → fed_number low most s v ≡ got e n → p.place + longest_line < e → read_at (number_line key low most) s p ≡ failed (fault s wrong_number p)
  number_far e n f far = number_missed (λ d m g short. let same : d ≡ e = same_place _ _ _ _ (sym g ∙ f) in omega arith)
