-- The answers to choices, one by one as the code goes through them: their lines, and how many are acceptances. Assumes nothing.
use Prim.Native.Nat.{ℕ, zero, suc, ◌+◌, ◌≤◌, ◌<◌}
use mathlib.Core.Bool.{Bool, true, false, cond}
use mathlib.Core.List.{List, [], ◌∷◌, ◌++◌, append_assoc, append-nil}
use mathlib.Core.Path.{◌≡◌, refl, sym, ap, ◌∙◌}
use native.Mathlib.Numerals.{add-one}
use native.Mathlib.Omega.{arith}
use lib.IntN.{ℤ, pos}
use lib.Signed.{mag}
use mir.Syntax.{w32}
use mir.Val.{to_z, of_z}
use lib.ListN.{length, take, drop, get_or, drop_of_length-le}
use lib.Seq.{drop-cons}
use Rattle.std.specs.List.{count_by}
use Rattle.std.proofs.lemmas.List.Recursion.{is_count_by}
use Rattle.whole.specs.Whole.{nat, eq_z}
use Rattle.whole.proofs.Ranges.{handed}
use Rattle.terms.specs.Bytes.{Text, bytes}
use Rattle.session.specs.Shown.{shown_line}
use Rattle.session.specs.Runner.{answer_lines, accepted_in, refused_in}

-- a number that a call was handed
pub nat_handed : (r : ℕ) (y z : ℤ) → r ≡ nat (to_z w32 (of_z w32 y)) → mag y < 2147483648 → y ≡ z → r ≡ nat z
nat_handed r y z e h f = e ∙ ap nat (handed y z h f)

-- the line of an answer
abbrev answer_line : ℤ → Text
answer_line z = shown_line (bytes "answer=") (nat z)

lines_first : (z : ℤ) (zs : List ℤ) → answer_lines (z ∷ zs) ≡ answer_line z ++ answer_lines zs
unfolding answer_lines
lines_first z zs = refl

pub lines_none : answer_lines [] ≡ []
unfolding answer_lines
lines_none = refl

-- an answer that is an acceptance, or not
module _ (z : ℤ) (zs : List ℤ) where
  accepted_first : eq_z z (pos 0) ≡ true → accepted_in (z ∷ zs) ≡ 1 + accepted_in zs
  unfolding accepted_in
  accepted_first e = rw (e, accepted_in)

  accepted_later : eq_z z (pos 0) ≡ false → accepted_in (z ∷ zs) ≡ accepted_in zs
  unfolding accepted_in
  accepted_later e = rw (e, accepted_in)

  refused_first : eq_z z (pos 0) ≡ false → refused_in (z ∷ zs) ≡ 1 + refused_in zs
  unfolding refused_in
  refused_first e = rw (e, refused_in)

  refused_later : eq_z z (pos 0) ≡ true → refused_in (z ∷ zs) ≡ refused_in zs
  unfolding refused_in
  refused_later e = rw (e, refused_in)

accepted_none : accepted_in [] ≡ 0
unfolding accepted_in
accepted_none = refl

refused_none : refused_in [] ≡ 0
unfolding refused_in
refused_none = refl

-- what is not accepted is refused
pub all_counted : (zs : List ℤ) → accepted_in zs + refused_in zs ≡ length zs
all_counted [] = omega (arith, accepted_none, refused_none)
all_counted (z ∷ zs) = go (eq_z z (pos 0)) refl (all_counted zs)
  where
    go : (t : Bool) → eq_z z (pos 0) ≡ t → accepted_in zs + refused_in zs ≡ length zs → accepted_in (z ∷ zs) + refused_in (z ∷ zs) ≡ suc (length zs)
    go true e h = omega (arith, accepted_first z zs e, refused_later z zs e)
    go false e h = omega (arith, accepted_later z zs e, refused_first z zs e)

-- the acceptances, as std counts them
pub accepted_counted : (zs : List ℤ) → accepted_in zs ≡ count_by (λ z. eq_z z (pos 0)) zs
accepted_counted zs = is_count_by accepted_in (λ z. eq_z z (pos 0)) accepted_none step zs
  where
    step : (z : ℤ) (zs : List ℤ) → accepted_in (z ∷ zs) ≡ cond (eq_z z (pos 0)) (1 + accepted_in zs) (accepted_in zs)
    step z zs = go (eq_z z (pos 0)) refl
      where
        go : (t : Bool) → eq_z z (pos 0) ≡ t → accepted_in (z ∷ zs) ≡ cond t (1 + accepted_in zs) (accepted_in zs)
        go true e = accepted_first z zs e
        go false e = accepted_later z zs e

-- the lines of so many answers and of one more
lines_grown : (zs : List ℤ) (i : ℕ) → i < length zs → answer_lines (take i zs) ++ answer_line (get_or zs i (pos 0)) ≡ answer_lines (take (suc i) zs)
lines_grown [] i h = absurd (omega arith)
lines_grown (z ∷ zs) zero h = ap (λ t. t ++ answer_line z) lines_none ∙ sym (lines_first z [] ∙ ap (λ t. answer_line z ++ t) lines_none ∙ append-nil (answer_line z))
lines_grown (z ∷ zs) (suc i) h =
    ap (λ t. t ++ answer_line (get_or zs i (pos 0))) (lines_first z (take i zs))
    ∙ append_assoc (answer_line z) (answer_lines (take i zs)) (answer_line (get_or zs i (pos 0)))
    ∙ ap (λ t. answer_line z ++ t) (lines_grown zs i (omega arith)) ∙ sym (lines_first z (take (suc i) zs))

pub lines_more : (zs : List ℤ) (i : ℕ) → i < length zs → answer_lines (take i zs) ++ answer_line (get_or zs i (pos 0)) ≡ answer_lines (take (i + 1) zs)
lines_more zs i h = lines_grown zs i h ∙ ap (λ n. answer_lines (take n zs)) (sym (add-one i))

-- the lines of the answers from a place on, and behind the last
module _ (zs : List ℤ) (i : ℕ) where
  module _ (h : i < length zs) where
    pub lines_onward : answer_lines (drop i zs) ≡ answer_line (get_or zs i (pos 0)) ++ answer_lines (drop (i + 1) zs)
    lines_onward = rw (add-one i, drop-cons zs i (pos 0) h) (lines_first (get_or zs i (pos 0)) (drop (suc i) zs))

  module _ (h : length zs ≤ i) where
    pub lines_ended : answer_lines (drop i zs) ≡ []
    lines_ended = ap answer_lines (drop_of_length-le zs h) ∙ lines_none
