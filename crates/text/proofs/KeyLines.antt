-- A line by its key: what refuses it, and where its value stands. Assumes nothing.
use Rattle.std.specs.Prelude.{Option, Some, None, Result, Ok, Err}
use Prim.Native.Nat.{ℕ, zero, suc, ◌+◌, ◌-◌, ◌≤◌, ◌<◌}
use mathlib.Core.Bool.{Bool, true, false}
use mathlib.Core.List.{List, [], ◌∷◌}
use mathlib.Core.Path.{◌≡◌, refl, sym, ap, ap₂, subst, ◌∙◌}
use native.Mathlib.Nat.{add-zero, zero-add, suc-add}
use native.Mathlib.Numerals.{add-one}
use native.Mathlib.Omega.{arith}
use borrow.Author.Tests.{leb-true, leb-false, eqb-true}
use lib.Dec.{leb, eqb}
use lib.ListN.{length, take, drop, length-take, length-drop}
use lib.Seq.{drop-cons, drop-drop, take-nil}
use Rattle.whole.specs.Refusals.{broken_line, wrong_key}
use Rattle.whole.specs.declared.refusals.Refusal.{Refusal}
use Rattle.whole.specs.Vocabulary.Refusing.{number_of}
use Rattle.whole.proofs.Both.{both_left}
use Rattle.terms.specs.Bytes.{Text, byte_at}
use Rattle.terms.specs.Parsed.{Parsed, got, bad, word}
use Rattle.terms.proofs.Moving.{within_text, no_got, word_yes, word_no, word_on}
use Rattle.terms.proofs.Parts.{Free, shifted, unshifted, part_length, word_part}
use Rattle.text.specs.declared.At.{At}
use Rattle.text.specs.declared.Verdict.{Verdict}
use Rattle.text.specs.InOrder.{LinesRead, failed, after, Taken, wrong, right, passed, key_line}
use Rattle.text.specs.Lines.{Line, lines, line_feed, longest_line, plain_bytes, sound, content}
use Rattle.text.specs.Vocabulary.KeyLines.{KeyTold}
use Rattle.text.specs.Vocabulary.LineEnds.{sound_end}
use Rattle.text.specs.Vocabulary.Readings.{Placed, read_at, lowest_of, fault}
use Rattle.text.proofs.Cutting.{line_none}
use Rattle.text.proofs.Plain.{first_plain, plain_bounds}
use Rattle.text.proofs.SoundEnds.{SoundLine, BrokenLine, sound_found, broken_found}

-- a part of a part
drop_take : (p m : ℕ) (l : Text) → drop p (take (p + m) l) ≡ take m (drop p l)
drop_take zero m l = ap (λ n. take n l) (zero-add m)
drop_take (suc p) m [] = ap (drop (suc p)) (take-nil (suc p + m)) ∙ sym (take-nil m)
drop_take (suc p) m (b ∷ l) = ap (λ n. drop (suc p) (take n (b ∷ l))) (suc-add p m) ∙ drop_take p m l

value_part : (s : Text) (place v end : ℕ) → place ≤ v → v ≤ end → drop (v - place) (take (end - place) (drop place s)) ≡ take (end - v) (drop v s)
value_part s place v end h k =
    let n : end - place ≡ (v - place) + (end - v) = omega arith in
    let m : place + (v - place) ≡ v = omega arith in
    ap (λ m. drop (v - place) (take m (drop place s))) n ∙ drop_take (v - place) (end - v) (drop place s) ∙ ap (take (end - v)) (drop-drop (v - place) place s ∙ ap (λ i. drop i s) m)

-- a plain word has neither 0 nor an LF
plain_free : (w : Text) → plain_bytes w ≡ true → Free line_feed w
unfolding Free
plain_free [] h = tt
plain_free (c ∷ w) h =
    let p = first_plain c w h in
    let l = plain_bounds c p.0 in
    (λ e. omega (arith, l), λ e. omega (arith, l), plain_free w p.1)

-- a word that was read is what stands there
pub word_front : (w s : Text) (at p : ℕ) → plain_bytes w ≡ true → word w s at ≡ got p tt → take (length w) (drop at s) ≡ w
word_front [] s at p h e = refl
word_front (c ∷ w) s at p h e = go (eqb (byte_at s at) c) refl (word_front w s (at + 1) p (first_plain c w h).1)
  where
    go : (t : Bool) → eqb (byte_at s at) c ≡ t → (word w s (at + 1) ≡ got p tt → take (length w) (drop (at + 1) s) ≡ w) → take (length (c ∷ w)) (drop at s) ≡ c ∷ w
    go false f rest = absurd (no_got at p tt (sym (word_no c w s at f) ∙ e))
    go true f rest =
        let z : byte_at s at ≡ c = eqb-true _ _ f in
        let l = within_text s at c z (omega (arith, plain_bounds c (first_plain c w h).0)) in
        ap (take (suc (length w))) (drop-cons s at 0 l)
        ∙ ap₂ ◌∷◌ z (ap (λ i. take (length w) (drop i s)) (sym (add-one at)) ∙ rest (sym (word_yes c w s at f) ∙ e))

-- and so it ends within the text
pub word_within : (w s : Text) (at p : ℕ) → plain_bytes w ≡ true → at ≤ length s → word w s at ≡ got p tt → p ≤ length s
word_within w s at p h l e =
    let n : length (take (length w) (drop at s)) ≡ length w = ap length (word_front w s at p h e) in
    omega (arith, n, length-take (length w) (drop at s), length-drop at s, word_on w s at p e)

-- what a number refuses: where no line is left, and where one is broken or sound
module _ (s : Text) (n : ℕ) (p : At) where
  abbrev refusal : List Line → Verdict
  refusal ls = record { number = lowest_of n ls; line = p.line }

  pub fault_ended : length s ≤ p.place → fault s n p ≡ record { number = wrong_key; line = p.line }
  unfolding lowest_of
  fault_ended h = ap refusal (line_none s p.place h)

  pub fault_broken : BrokenLine s p.place → fault s n p ≡ record { number = broken_line; line = p.line }
  unfolding lowest_of
  fault_broken b = ap refusal b.cut ∙ rw (b.broken, lowest_of) refl

  pub fault_sound : (e : ℕ) → SoundLine s p.place e → fault s n p ≡ record { number = n; line = p.line }
  unfolding lowest_of
  fault_sound e l = ap refusal l.cut ∙ rw (l.plain, lowest_of) refl

-- the first of some lines, by its key
module _ {A : Type 0} (key : Text) (value : ℕ → Text → Taken A) (at : ℕ) (l : Line) (ls : List Line) where
  first_broken : sound l ≡ false → key_line key value at (l ∷ ls) ≡ failed (record { number = broken_line; line = at })
  unfolding key_line passed
  first_broken e = rw (e, key_line) refl

  module _ (e : sound l ≡ true) where
    first_wrong : (p : ℕ) → word key (content l) 0 ≡ bad p → key_line key value at (l ∷ ls) ≡ failed (record { number = wrong_key; line = at })
    unfolding key_line passed
    first_wrong p f = rw (e, key_line, f) refl

    first_right : (p : ℕ) (u : Unit {0}) → word key (content l) 0 ≡ got p u → key_line key value at (l ∷ ls) ≡ passed (value at (drop p (content l))) at ls
    unfolding key_line
    first_right p u f = rw (e, key_line, f) refl

-- the line at a place of the text, whatever its value is taken for
module _ {A : Type 0} (s key : Text) (p : At) (value : ℕ → Text → Taken A) where
  abbrev x : LinesRead A
  x = read_at (key_line key value) s p

  line_ended : length s ≤ p.place → x ≡ failed (record { number = wrong_key; line = p.line })
  unfolding key_line
  line_ended h = ap (key_line key value p.line) (line_none s p.place h)

  -- a number that refuses it if it is sound refuses it unless it is broken
  pub refused_as : (n : ℕ) → ((e : ℕ) → sound_end s p.place ≡ Some e → x ≡ failed (record { number = n; line = p.line })) → x ≡ failed (fault s n p)
  refused_as n h = go (leb (length s) p.place) refl (sound_end s p.place) refl
    where
      go : (t : Bool) → leb (length s) p.place ≡ t → (f : Option ℕ) → sound_end s p.place ≡ f → x ≡ failed (fault s n p)
      go true t f g = let l = leb-true _ _ t in line_ended l ∙ sym (ap failed (fault_ended s n p l))
      go false t (Some e) g = h e g ∙ sym (ap failed (fault_sound s n p e (sound_found s p.place e g)))
      go false t None g =
          let b = broken_found s p.place g (leb-false _ _ t) in
          ap (key_line key value p.line) b.cut ∙ first_broken key value p.line b.first b.others b.broken ∙ sym (ap failed (fault_broken s n p b))

  module _ (plain : plain_bytes key ≡ true) where
    module _ (e : ℕ) (l : SoundLine s p.place e) where
      abbrev line : Text
      line = take (e - p.place) (drop p.place s)

      -- its key, by the text, is its key by the line
      by_line : word key s p.place ≡ shifted p.place (word key line 0)
      by_line = ap (word key s) (sym (add-zero p.place)) ∙ word_part s p.place e line_feed l.from l.within l.fed key (plain_free key plain) 0 (omega (arith, l.from))

      line_missed : (q : ℕ) → word key s p.place ≡ bad q → x ≡ failed (record { number = wrong_key; line = p.line })
      unfolding shifted content
      line_missed q f = go (word key line 0) refl
        where
          go : (w : Parsed (Unit {0})) → word key line 0 ≡ w → x ≡ failed (record { number = wrong_key; line = p.line })
          go (bad r) g = ap (key_line key value p.line) l.cut ∙ first_wrong key value p.line _ _ l.plain r g
          go (got r u) g = absurd (no_got q _ u (sym f ∙ by_line ∙ ap (shifted p.place) g))

      -- the value stands between the key and the LF
      module _ (v : ℕ) (f : word key s p.place ≡ got v tt) where
        by_part : word key line 0 ≡ got (v - p.place) tt
        by_part = let m : v ≡ p.place + (v - p.place) = omega (arith, word_on key s p.place v f) in unshifted p.place _ _ tt (sym by_line ∙ f ∙ ap (λ i. got i tt) m)

        pub value_inside : (p.place ≤ v) × (v ≤ e) × (e < length s) × (e ≤ p.place + longest_line)
        unfolding sound
        value_inside =
            let n = part_length s p.place e line_feed l.from l.within l.fed in
            let m = word_on key s p.place v f in
            let k = word_within key line 0 (v - p.place) plain (omega arith) by_part in
            let h : length line ≤ longest_line = leb-true _ _ (both_left _ (plain_bytes line) l.plain) in
            (omega arith, omega (arith, l.from), l.within, omega arith)

        pub value_taken_lem : x ≡ passed (value p.line (take (e - v) (drop v s))) p.line (lines (drop (e + 1) s))
        unfolding content
        value_taken_lem =
            ap (key_line key value p.line) l.cut
            ∙ first_right key value p.line _ _ l.plain (v - p.place) tt by_part
            ∙ ap (λ c. passed (value p.line c) p.line (lines (drop (e + 1) s))) (value_part s p.place v e value_inside.0 value_inside.1)

    -- another key
    pub key_missed : (q : ℕ) → word key s p.place ≡ bad q → x ≡ failed (fault s wrong_key p)
    key_missed q f = refused_as wrong_key (λ e g. line_missed e (sound_found s p.place e g) q f)

    -- the same by what the code gives of the key
    module _ (r : Result (ℕ × ℕ) Refusal) (t : KeyTold key s p.place r) where
      pub value_failed : (n : Refusal) → r ≡ Err n → x ≡ failed (fault s (number_of n) p)
      unfolding KeyTold
      value_failed n f = refused_as (number_of n) (λ e g.
          let h = subst (KeyTold key s p.place) f t e g in
          line_missed e (sound_found s p.place e g) h.1 h.2 ∙ ap (λ m. failed (record { number = m; line = p.line })) (sym h.0))

      module _ (v e : ℕ) (f : r ≡ Ok (v, e)) where
        told : (word key s p.place ≡ got v tt) × (sound_end s p.place ≡ Some e)
        unfolding KeyTold
        told = subst (KeyTold key s p.place) f t

        abbrev l : SoundLine s p.place e
        l = sound_found s p.place e told.1

        pub value_stands : (p.place ≤ v) × (v ≤ e) × (e < length s) × (e ≤ p.place + longest_line)
        value_stands = value_inside e l v told.0

        pub value_refused : (n : ℕ) → value p.line (take (e - v) (drop v s)) ≡ wrong n → x ≡ failed (fault s n p)
        unfolding passed
        value_refused n g = value_taken_lem e l v told.0 ∙ ap (λ y. passed y p.line (lines (drop (e + 1) s))) g ∙ sym (ap failed (fault_sound s n p e l))

        pub value_read : (a : A) → value p.line (take (e - v) (drop v s)) ≡ right a → x ≡ after a (p.line + 1) (lines (drop (e + 1) s))
        unfolding passed
        value_read a g = value_taken_lem e l v told.0 ∙ ap (λ y. passed y p.line (lines (drop (e + 1) s))) g

        -- where the next line begins
        pub value_placed : Placed s p → Placed s (record { place = e + 1; line = p.line + 1 })
        value_placed h = (omega (arith, l.within), omega (arith, h, l.from), h.2)
