-- What begins a factor or an atom stands within the text, and 0 joins nothing. Assumes nothing.
use Rattle.std.specs.Prelude.{None}
use Prim.Native.Nat.{ℕ, ◌<◌}
use mathlib.Core.Bool.{Bool, true, false}
use mathlib.Core.Path.{◌≡◌, refl, sym, ap, ◌∙◌}
use borrow.Author.Tests.{ltb-true, ltb-false}
use lib.Dec.{ltb}
use lib.ListN.{length}
use Rattle.terms.specs.declared.AtomStart.{AtomStart}
use Rattle.terms.specs.declared.Start.{Start}
use Rattle.terms.specs.Bytes.{Text, byte_at, told, digit}
use Rattle.terms.specs.Expressions.{among, star, sign, comparison, start_of}
use Rattle.terms.specs.Guards.{ampersand, bar, atom_start_of}
use Rattle.terms.proofs.Moving.{past_end}

-- 0 joins nothing and begins nothing
pub star_zero : star 0 ≡ None
unfolding star
star_zero = refl

pub sign_zero : sign 0 ≡ None
unfolding sign among
sign_zero = refl

pub comparison_zero : comparison 0 ≡ None
unfolding comparison among
comparison_zero = refl

pub start_within : (s : Text) (at : ℕ) (b : Start) → start_of (byte_at s at) ≡ b → (b ≡ Start.Nothing → ⊥) → at < length s
start_within s at b e n = go (ltb at (length s)) refl
  where
    go : (t : Bool) → ltb at (length s) ≡ t → at < length s
    go true f = ltb-true at (length s) f
    go false f =
        absurd (n (sym e ∙ ap start_of (past_end s at (ltb-false at (length s) f)) ∙ (unfold start_of told digit in refl)))

pub ampersand_zero : ampersand 0 ≡ None
unfolding ampersand
ampersand_zero = refl

pub bar_zero : bar 0 ≡ None
unfolding bar
bar_zero = refl

pub atom_within : (s : Text) (at : ℕ) (b : AtomStart) → atom_start_of (byte_at s at) ≡ b → (b ≡ AtomStart.Nothing → ⊥) → at < length s
atom_within s at b e n = go (ltb at (length s)) refl
  where
    go : (t : Bool) → ltb at (length s) ≡ t → at < length s
    go true f = ltb-true at (length s) f
    go false f = absurd (n (sym e ∙ ap atom_start_of (past_end s at (ltb-false at (length s) f)) ∙ (unfold atom_start_of told in refl)))
