-- The end of a sound line, byte by byte as the code goes through it, and what lines begin where it was looked for. Assumes nothing.
use Rattle.std.specs.Prelude.{Option, Some, None}
use Rattle.std.specs.Bool.{then_some}
use Prim.Native.Nat.{ℕ, zero, suc, ◌+◌, ◌-◌, ◌≤◌, ◌<◌, min}
use mathlib.Core.Bool.{Bool, true, false, ◌&&◌}
use mathlib.Core.List.{List, [], ◌∷◌}
use mathlib.Core.Path.{◌≡◌, refl, sym, ap, subst, ◌∙◌}
use native.Mathlib.Nat.{add-zero}
use native.Mathlib.Numerals.{add-one}
use native.Mathlib.Omega.{arith}
use borrow.Author.Tests.{le-leb, lt-leb, eq-eqb, ne_eqb, leb-true, leb-false, eqb-true, eqb-false}
use lib.Dec.{leb, eqb}
use lib.ListN.{length, take, drop, length-drop}
use lib.Seq.{drop-cons, drop-drop, get_or-drop}
use Rattle.terms.specs.Bytes.{Text, byte_at}
use Rattle.text.specs.Lines.{Line, terminated, unterminated, grown, lines, line_feed, longest_line, plain_byte, plain_bytes, sound, content}
use Rattle.text.specs.Vocabulary.LineEnds.{first_end, sound_end}
use Rattle.text.proofs.Cutting.{lines_first, lines_later, grown_none, grown_whole, grown_unended, lines_some, cut_whole, line_none}
use Rattle.text.proofs.Plain.{plain_first, outside_first, plain_unfed, first_plain, both_false}

-- the end of a line that begins at a place, where its bytes before another place are plain: by the lines from there
unfoldable pub end_from : ℕ → ℕ → List Line → Option ℕ
end_from at i [] = None
end_from at i (terminated l ∷ ls) = elim (leb (i + length l) (at + longest_line) && plain_bytes l) [ true ↦ Some (i + length l) | false ↦ None ]
end_from at i (unterminated l ∷ ls) = None

-- a length is within the longest wherever the line begins
leb_shift : (at n : ℕ) → leb n longest_line ≡ leb (at + n) (at + longest_line)
leb_shift at n = go (leb n longest_line) refl
  where
    go : (t : Bool) → leb n longest_line ≡ t → leb n longest_line ≡ leb (at + n) (at + longest_line)
    go true e = e ∙ sym (le-leb (at + n) (at + longest_line) (omega (arith, leb-true n longest_line e)))
    go false e = e ∙ sym (lt-leb (at + n) (at + longest_line) (omega (arith, leb-false n longest_line e)))

from_start : (at : ℕ) (ls : List Line) → first_end at ls ≡ end_from at at ls
unfolding first_end end_from sound content
from_start at [] = refl
from_start at (terminated l ∷ ls) = rw (leb_shift at (length l), first_end, end_from) refl
from_start at (unterminated l ∷ ls) = refl

-- a first line whose rest is plain or not
module _ (at i : ℕ) where
  from_none : end_from at i [] ≡ None
  unfolding end_from
  from_none = refl

  from_unended : (l : Text) (ls : List Line) → end_from at i (unterminated l ∷ ls) ≡ None
  unfolding end_from
  from_unended l ls = refl

  from_outside : (l : Text) (ls : List Line) → plain_bytes l ≡ false → end_from at i (terminated l ∷ ls) ≡ None
  unfolding end_from
  from_outside l ls e = rw (both_false (leb (i + length l) (at + longest_line)) (plain_bytes l) e, end_from) refl

  -- too long
  from_long : at + longest_line < i → (ls : List Line) → end_from at i ls ≡ None
  from_long h [] = from_none
  from_long h (terminated l ∷ ls) = unfold end_from in rw (lt-leb (i + length l) (at + longest_line) (omega arith), end_from) refl
  from_long h (unterminated l ∷ ls) = from_unended l ls

  -- an LF
  from_feed : i ≤ at + longest_line → (ls : List Line) → end_from at i (terminated [] ∷ ls) ≡ Some i
  unfolding end_from plain_bytes
  from_feed h ls = rw (le-leb (i + 0) (at + longest_line) (omega arith), end_from) (ap Some (add-zero i))

  -- a byte before some lines, outside or plain
  from_grown_outside : (b : ℕ) → ((s : Text) → plain_bytes (b ∷ s) ≡ false) → (ls : List Line) → end_from at i (grown b ls) ≡ None
  from_grown_outside b h [] = ap (end_from at i) (grown_none b) ∙ from_unended _ _
  from_grown_outside b h (terminated l ∷ ls) = ap (end_from at i) (grown_whole b l ls) ∙ from_outside _ _ (h l)
  from_grown_outside b h (unterminated l ∷ ls) = ap (end_from at i) (grown_unended b l ls) ∙ from_unended _ _

  from_more : (b : ℕ) (l : Text) (ls : List Line) → plain_byte b ≡ true → end_from at i (terminated (b ∷ l) ∷ ls) ≡ end_from at (i + 1) (terminated l ∷ ls)
  unfolding end_from
  from_more b l ls h =
      let n : i + suc (length l) ≡ (i + 1) + length l = omega arith in
      let f : Bool → ℕ → Option ℕ = λ t m. elim (leb m (at + longest_line) && t) [ true ↦ Some m | false ↦ None ] in
      ap (λ t. f t (i + suc (length l))) (plain_first b l h) ∙ ap (f (plain_bytes l)) n

module _ (at i b : ℕ) (h : plain_byte b ≡ true) where
  from_grown : (ls : List Line) → end_from at i (grown b ls) ≡ end_from at (i + 1) ls
  from_grown [] = ap (end_from at i) (grown_none b) ∙ from_unended at i _ _ ∙ sym (from_none at (i + 1))
  from_grown (terminated l ∷ ls) = ap (end_from at i) (grown_whole b l ls) ∙ from_more at i b l ls h
  from_grown (unterminated l ∷ ls) = ap (end_from at i) (grown_unended b l ls) ∙ from_unended at i _ _ ∙ sym (from_unended at (i + 1) l ls)

-- the same by the byte at a place of the text
module _ (s : Text) (at : ℕ) where
  end_begun : sound_end s at ≡ end_from at at (lines (drop at s))
  unfolding sound_end
  end_begun = from_start at (lines (drop at s))

  module _ (i : ℕ) where
    end_past : length s ≤ i → end_from at i (lines (drop i s)) ≡ None
    end_past h = ap (end_from at i) (line_none s i h) ∙ from_none at i

    end_long : at + longest_line < i → end_from at i (lines (drop i s)) ≡ None
    end_long h = from_long at i h _

    -- the search has stopped, at the end of the text or behind the longest line
    pub end_stopped : min (length s) (at + suc longest_line) ≤ i → end_from at i (lines (drop i s)) ≡ None
    end_stopped h = go (leb (length s) i) refl
      where
        go : (t : Bool) → leb (length s) i ≡ t → end_from at i (lines (drop i s)) ≡ None
        go true e = end_past (leb-true _ _ e)
        go false e = end_long (omega (arith, leb-false (length s) i e))

    module _ (z : i < length s) where
      lines_at : (byte_at s i ≡ line_feed → ⊥) → lines (drop i s) ≡ grown (byte_at s i) (lines (drop (i + 1) s))
      lines_at n = rw (add-one i, drop-cons s i 0 z) (lines_later (byte_at s i) (drop (suc i) s) (ne_eqb _ _ n))

      pub end_here : byte_at s i ≡ line_feed → i ≤ at + longest_line → end_from at i (lines (drop i s)) ≡ Some i
      end_here e h = rw (drop-cons s i 0 z, lines_first (byte_at s i) (drop (suc i) s) (eq-eqb _ _ e)) (from_feed at i h _)

      pub end_outside : plain_byte (byte_at s i) ≡ false → (byte_at s i ≡ line_feed → ⊥) → end_from at i (lines (drop i s)) ≡ None
      end_outside h n = ap (end_from at i) (lines_at n) ∙ from_grown_outside at i (byte_at s i) (λ t. outside_first (byte_at s i) t h) _

      -- a byte that is not plain ends the line, if it is an LF
      pub end_tested : plain_byte (byte_at s i) ≡ false → i ≤ at + longest_line → end_from at i (lines (drop i s)) ≡ then_some (eqb (byte_at s i) line_feed) i
      end_tested h k = go (eqb (byte_at s i) line_feed) refl
        where
          go : (t : Bool) → eqb (byte_at s i) line_feed ≡ t → end_from at i (lines (drop i s)) ≡ then_some t i
          go true e = end_here (eqb-true _ _ e) k
          go false e = end_outside h (eqb-false _ _ e)

      pub end_onward : plain_byte (byte_at s i) ≡ true → end_from at i (lines (drop i s)) ≡ end_from at (i + 1) (lines (drop (i + 1) s))
      end_onward h = ap (end_from at i) (lines_at (plain_unfed (byte_at s i) h)) ∙ from_grown at i (byte_at s i) h _

  -- past some plain bytes
  end_past_plain : (n i : ℕ) → i + n ≤ length s → plain_bytes (take n (drop i s)) ≡ true → end_from at i (lines (drop i s)) ≡ end_from at (i + n) (lines (drop (i + n) s))
  end_past_plain zero i h e = ap (λ k. end_from at k (lines (drop k s))) (sym (add-zero i))
  end_past_plain (suc n) i h e =
      let z : i < length s = omega arith in
      let f = first_plain (byte_at s i) (take n (drop (suc i) s)) (rw (drop-cons s i 0 z) at e) in
      let rest : plain_bytes (take n (drop (i + 1) s)) ≡ true = rw (add-one i) f.1 in
      let k : (i + 1) + n ≡ i + suc n = omega arith in
      end_onward i z f.0 ∙ end_past_plain n (i + 1) (omega arith) rest ∙ ap (λ k. end_from at k (lines (drop k s))) k

  pub end_from_plain : (i : ℕ) → at ≤ i → i ≤ length s → plain_bytes (take (i - at) (drop at s)) ≡ true → sound_end s at ≡ end_from at i (lines (drop i s))
  end_from_plain i h k e =
      let n : at + (i - at) ≡ i = omega arith in
      end_begun ∙ end_past_plain (i - at) at (omega arith) e ∙ ap (λ k. end_from at k (lines (drop k s))) n

-- a sound line: where it ends, and the lines behind it
pub record SoundLine (s : Text) (at end : ℕ) : Type 0 where
  pub cut : lines (drop at s) ≡ terminated (take (end - at) (drop at s)) ∷ lines (drop (end + 1) s)
  pub plain : sound (terminated (take (end - at) (drop at s))) ≡ true
  pub from : at ≤ end
  pub within : end < length s
  pub fed : byte_at s end ≡ line_feed

-- a broken line, and those behind it
pub record BrokenLine (s : Text) (at : ℕ) : Type 0 where
  pub first : Line
  pub others : List Line
  pub cut : lines (drop at s) ≡ first ∷ others
  pub broken : sound first ≡ false

-- the end of a first line, if it is sound or not
module _ (at : ℕ) (l : Line) (ls : List Line) where
  first_sound : sound l ≡ true → first_end at (l ∷ ls) ≡ Some (at + length (content l))
  unfolding first_end
  first_sound e = rw (e, first_end) refl

  first_broken : sound l ≡ false → first_end at (l ∷ ls) ≡ None
  unfolding first_end
  first_broken e = rw (e, first_end) refl

content_whole : (l : Text) → content (terminated l) ≡ l
unfolding content
content_whole l = refl

sound_unended : (l : Text) → sound (unterminated l) ≡ false
unfolding sound
sound_unended l = refl

first_none : (at : ℕ) → first_end at [] ≡ None
unfolding first_end
first_none at = refl

module _ (s : Text) (at : ℕ) where
  -- a whole line from a place on
  whole_line : (l : Text) (ls : List Line) → lines (drop at s) ≡ terminated l ∷ ls → sound (terminated l) ≡ true → SoundLine s at (at + length l)
  whole_line l ls e f =
      let c = cut_whole (drop at s) l ls e in
      let n : (at + length l) - at ≡ length l = omega arith in
      let k : (at + length l) + 1 ≡ at + suc (length l) = omega arith in
      let front : take ((at + length l) - at) (drop at s) ≡ l = ap (λ m. take m (drop at s)) n ∙ sym c.front in
      let rest : lines (drop ((at + length l) + 1) s) ≡ ls = ap (λ m. lines (drop m s)) k ∙ sym (ap lines (drop-drop (suc (length l)) at s)) ∙ sym c.rest in
      record {
        cut = e ∙ ap (λ t. terminated t ∷ ls) (sym front) ∙ ap (λ ms. terminated (take ((at + length l) - at) (drop at s)) ∷ ms) (sym rest);
        plain = ap (λ t. sound (terminated t)) front ∙ f;
        from = omega arith;
        within = omega (arith, c.within, length-drop at s);
        fed = sym (get_or-drop at s (length l) 0) ∙ c.fed;
      }

  pub sound_found : (end : ℕ) → sound_end s at ≡ Some end → SoundLine s at end
  unfolding sound_end
  sound_found end e = go (lines (drop at s)) refl e
    where
      tested : (t : Bool) (l : Text) (ls : List Line) → sound (terminated l) ≡ t → lines (drop at s) ≡ terminated l ∷ ls → first_end at (terminated l ∷ ls) ≡ Some end → SoundLine s at end
      tested true l ls h f g =
          let n : at + length l ≡ end = cc (first_sound at (terminated l) ls h, content_whole l) in
          subst (SoundLine s at) n (whole_line l ls f h)
      tested false l ls h f g = absurd (let z : ◌≡◌ {A = ℕ} 0 1 = cc (first_broken at (terminated l) ls h) in omega arith)

      go : (ms : List Line) → lines (drop at s) ≡ ms → first_end at ms ≡ Some end → SoundLine s at end
      go [] f g = absurd (let z : ◌≡◌ {A = ℕ} 0 1 = cc (first_none at) in omega arith)
      go (terminated l ∷ ls) f g = tested (sound (terminated l)) l ls refl f g
      go (unterminated l ∷ ls) f g = absurd (let z : ◌≡◌ {A = ℕ} 0 1 = cc (first_broken at (unterminated l) ls (sound_unended l)) in omega arith)

  pub broken_found : sound_end s at ≡ None → at < length s → BrokenLine s at
  unfolding sound_end
  broken_found e h = record { first = m.0; others = m.1; cut = cut; broken = go (sound m.0) refl }
    where
      m : (l : Line) × (ls : List Line) × (lines (byte_at s at ∷ drop (suc at) s) ≡ l ∷ ls)
      m = lines_some (byte_at s at) (drop (suc at) s)

      cut : lines (drop at s) ≡ m.0 ∷ m.1
      cut = ap lines (drop-cons s at 0 h) ∙ m.2

      go : (t : Bool) → sound m.0 ≡ t → sound m.0 ≡ false
      go true f = absurd (let g = sym (first_sound at m.0 m.1 f) ∙ sym (ap (first_end at) cut) ∙ e in let z : ◌≡◌ {A = ℕ} 0 1 = cc in omega arith)
      go false f = f
