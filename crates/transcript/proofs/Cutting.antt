-- An input cut at its LFs: its first line and the choices behind it. Assumes nothing.
use Prim.Native.Nat.{ℕ, suc, ◌+◌, ◌-◌, ◌≤◌, ◌<◌}
use mathlib.Core.Bool.{Bool, true, false}
use mathlib.Core.List.{List, [], ◌∷◌, map}
use mathlib.Core.Path.{◌≡◌, refl, sym, ap, ◌∙◌}
use native.Mathlib.Numerals.{add-one}
use native.Mathlib.Omega.{arith}
use lib.Dec.{eqb}
use lib.ListN.{length, take, drop, drop_of_length-le}
use lib.Seq.{drop-cons, drop-drop}
use Rattle.terms.specs.Bytes.{Text, byte_at}
use Rattle.text.specs.Lines.{Line, terminated, unterminated, grown, lines, content, line_feed}
use Rattle.text.proofs.Cutting.{lines_first, lines_later, grown_none, grown_whole, grown_unended, lines_none}
use Rattle.rules.specs.declared.Choice.{Choice}
use Rattle.rules.specs.Kinds.{kinds}
use Rattle.session.specs.Choices.{choice_of, longest_input, choices_from}
use Rattle.transcript.specs.Vocabulary.InputLines.{line_length}

-- a first byte that is an LF, or not
module _ (b : ℕ) (s : Text) where
  pub length_fed : eqb b line_feed ≡ true → line_length (b ∷ s) ≡ 0
  unfolding line_length
  length_fed e = rw (e, line_length)

  length_more : eqb b line_feed ≡ false → line_length (b ∷ s) ≡ suc (line_length s)
  unfolding line_length
  length_more e = rw (e, line_length)

  pub length_next : eqb b line_feed ≡ false → line_length (b ∷ s) ≡ line_length s + 1
  length_next e = length_more e ∙ sym (add-one (line_length s))

pub length_none : line_length [] ≡ 0
unfolding line_length
length_none = refl

-- a line ends within its text
pub line_within : (s : Text) → line_length s ≤ length s
line_within [] = omega (arith, length_none)
line_within (b ∷ s) = go (eqb b line_feed) refl (line_within s)
  where
    go : (t : Bool) → eqb b line_feed ≡ t → line_length s ≤ length s → line_length (b ∷ s) ≤ suc (length s)
    go true e h = omega (arith, length_fed b s e)
    go false e h = omega (arith, length_more b s e)

-- the first line of a text that is not empty, and the lines behind it
record First (b : ℕ) (s : Text) : Type 0 where
  line : Line
  cut : lines (b ∷ s) ≡ line ∷ lines (drop (suc (line_length (b ∷ s))) (b ∷ s))
  holds : content line ≡ take (line_length (b ∷ s)) (b ∷ s)

content_whole : (l : Text) → content (terminated l) ≡ l
unfolding content
content_whole l = refl

content_unended : (l : Text) → content (unterminated l) ≡ l
unfolding content
content_unended l = refl

-- a byte before lines: before the content of the first
grown_line : (b : ℕ) (l : Line) (ls : List Line) → (m : Line) × (grown b (l ∷ ls) ≡ m ∷ ls) × (content m ≡ b ∷ content l)
grown_line b (terminated l) ls = (_, grown_whole b l ls, content_whole (b ∷ l) ∙ ap (λ t. b ∷ t) (sym (content_whole l)))
grown_line b (unterminated l) ls = (_, grown_unended b l ls, content_unended (b ∷ l) ∙ ap (λ t. b ∷ t) (sym (content_unended l)))

first_line : (b : ℕ) (s : Text) → First b s
first_line b [] = go (eqb b line_feed) refl
  where
    go : (t : Bool) → eqb b line_feed ≡ t → First b []
    go true e = record { line = terminated []; cut = rw (length_fed b [] e) (lines_first b [] e); holds = rw (length_fed b [] e) (content_whole []) }
    go false e =
        record {
          line = unterminated (b ∷ []);
          cut = rw (length_more b [] e) (lines_later b [] e ∙ ap (grown b) lines_none ∙ grown_none b ∙ ap (λ ls. unterminated (b ∷ []) ∷ ls) (sym lines_none));
          holds = rw (length_more b [] e, length_none) (content_unended (b ∷ []));
        }
first_line b (a ∷ s) = go (eqb b line_feed) refl (first_line a s)
  where
    go : (t : Bool) → eqb b line_feed ≡ t → First a s → First b (a ∷ s)
    go true e f = record { line = terminated []; cut = rw (length_fed b (a ∷ s) e) (lines_first b (a ∷ s) e); holds = rw (length_fed b (a ∷ s) e) (content_whole []) }
    go false e f =
        let g = grown_line b f.line (lines (drop (suc (line_length (a ∷ s))) (a ∷ s))) in
        record {
          line = g.0;
          cut = rw (length_more b (a ∷ s) e) (lines_later b (a ∷ s) e ∙ ap (grown b) f.cut ∙ g.1);
          holds = rw (length_more b (a ∷ s) e) (g.2 ∙ ap (λ t. b ∷ t) f.holds);
        }

-- the choices of an input that is read to its end
unfoldable pub choices_in : Text → List Choice
choices_in input = map (λ l. choice_of kinds (content l)) (lines input)

-- the choice of the first line, and those behind it
choices_first : (b : ℕ) (s : Text)
    → choices_in (b ∷ s) ≡ choice_of kinds (take (line_length (b ∷ s)) (b ∷ s)) ∷ choices_in (drop (suc (line_length (b ∷ s))) (b ∷ s))
unfolding choices_in
choices_first b s =
    let f = first_line b s in
    ap (map (λ l. choice_of kinds (content l))) f.cut ∙ ap (λ t. choice_of kinds t ∷ choices_in (drop (suc (line_length (b ∷ s))) (b ∷ s))) f.holds

choices_none : choices_in [] ≡ []
unfolding choices_in
choices_none = ap (map _) lines_none

-- the same from a place on, with where the line ends
module _ (s : Text) (at : ℕ) where
  pub choices_onward : (end : ℕ) → at < length s → end ≡ at + line_length (drop at s)
      → choices_in (drop at s) ≡ choice_of kinds (take (end - at) (drop at s)) ∷ choices_in (drop (end + 1) s)
  choices_onward end h e =
      let n : end - at ≡ line_length (drop at s) = omega arith in
      let k : at + suc (line_length (drop at s)) ≡ end + 1 = omega arith in
      let first : choices_in (drop at s) ≡ choice_of kinds (take (line_length (drop at s)) (drop at s)) ∷ choices_in (drop (suc (line_length (drop at s))) (drop at s)) =
      rw (drop-cons s at 0 h) (choices_first (byte_at s at) (drop (suc at) s)) in
      first
      ∙ ap (λ m. choice_of kinds (take m (drop at s)) ∷ choices_in (drop (suc (line_length (drop at s))) (drop at s))) (sym n)
      ∙ ap (λ t. choice_of kinds (take (end - at) (drop at s)) ∷ choices_in t) (drop-drop (suc (line_length (drop at s))) at s ∙ ap (λ m. drop m s) k)

  pub choices_ended : length s ≤ at → choices_in (drop at s) ≡ []
  choices_ended h = ap choices_in (drop_of_length-le s h) ∙ choices_none

-- the choices of an input are those of the part that is read
pub of_part_read : (input : Text) → choices_from input ≡ choices_in (take longest_input input)
unfolding choices_from choices_in
of_part_read input = refl
