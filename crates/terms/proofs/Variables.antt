-- A variable, by the tests that the code makes, and that it moves on. Assumes nothing.
use Rattle.std.specs.Prelude.{Option, None, Some}
use Prim.Native.Nat.{ℕ, ◌+◌, ◌≤◌, ◌<◌}
use mathlib.Core.Bool.{Bool, true, false}
use mathlib.Core.Path.{◌≡◌, refl, sym, ◌∙◌}
use native.Mathlib.Omega.{arith}
use borrow.Author.Tests.{lt-ltb, le-ltb, ltb-true, ltb-false, eq-eqb, ne_eqb, eqb-true, eqb-false}
use lib.Dec.{ltb, eqb}
use Rattle.terms.specs.declared.Limits.{Limits}
use Rattle.terms.specs.declared.Variable.TheVariants.{Attribute, Local}
use Rattle.terms.specs.Bytes.{Text, byte_at, digit}
use Rattle.terms.specs.Leaves.{numbered, variable}
use Rattle.terms.specs.Parsed.{got, bad, mapped}
use Rattle.terms.proofs.Bytes.{digit_is}
use Rattle.terms.proofs.Moving.{Moves, same_place, no_got, moves_mapped}

-- the digit of a letter: no variable at all; no digit; one outside its range; one within
module _ (limit : ℕ) (s : Text) (at : ℕ) where
  pub numbered_never : limit ≡ 0 → numbered limit s at ≡ bad at
  unfolding numbered
  numbered_never e = rw (le-ltb 0 limit (omega arith), numbered)

  module _ (h : 0 < limit) where
    pub numbered_none : digit (byte_at s (at + 1)) ≡ None → numbered limit s at ≡ bad (at + 1)
    unfolding numbered
    numbered_none e = rw (lt-ltb 0 limit h, e, numbered)

    pub numbered_past : (d : ℕ) → digit (byte_at s (at + 1)) ≡ Some d → limit ≤ d → numbered limit s at ≡ bad at
    unfolding numbered
    numbered_past d e k = rw (lt-ltb 0 limit h, e, le-ltb d limit k, numbered)

    pub numbered_some : (d : ℕ) → digit (byte_at s (at + 1)) ≡ Some d → d < limit → numbered limit s at ≡ got (at + 2) d
    unfolding numbered
    numbered_some d e k = rw (lt-ltb 0 limit h, e, lt-ltb d limit k, numbered)

pub numbered_moves : (limit : ℕ) (s : Text) → Moves (numbered limit s)
numbered_moves limit s at p n e = go (ltb 0 limit) refl (digit (byte_at s (at + 1))) refl
  where
    go : (t : Bool) → ltb 0 limit ≡ t → (o : Option ℕ) → digit (byte_at s (at + 1)) ≡ o → at < p
    go false t o f = let z = ltb-false 0 limit t in absurd (no_got _ _ _ (sym (numbered_never limit s at (omega arith)) ∙ e))
    go true t None f = absurd (no_got _ _ _ (sym (numbered_none limit s at (ltb-true _ _ t) f) ∙ e))
    go true t (Some d) f = test (ltb d limit) refl
      where
        test : (u : Bool) → ltb d limit ≡ u → at < p
        test true u =
            let l = same_place _ _ _ _ (sym (numbered_some limit s at (ltb-true _ _ t) d f (ltb-true _ _ u)) ∙ e) in
            omega arith
        test false u = absurd (no_got _ _ _ (sym (numbered_past limit s at (ltb-true _ _ t) d f (ltb-false _ _ u)) ∙ e))

-- a variable has one digit
pub numbered_digit : (limit : ℕ) (s : Text) (at p d : ℕ) → numbered limit s at ≡ got p d → d < 10
numbered_digit limit s at p n e = go (ltb 0 limit) refl (digit (byte_at s (at + 1))) refl
  where
    go : (t : Bool) → ltb 0 limit ≡ t → (o : Option ℕ) → digit (byte_at s (at + 1)) ≡ o → n < 10
    go false t o f = let z = ltb-false 0 limit t in absurd (no_got _ _ _ (sym (numbered_never limit s at (omega arith)) ∙ e))
    go true t None f = absurd (no_got _ _ _ (sym (numbered_none limit s at (ltb-true _ _ t) f) ∙ e))
    go true t (Some d) f = test (ltb d limit) refl
      where
        test : (u : Bool) → ltb d limit ≡ u → n < 10
        test true u =
            let g = sym (numbered_some limit s at (ltb-true _ _ t) d f (ltb-true _ _ u)) ∙ e in
            let l : d ≡ n = cc in
            let k = digit_is (byte_at s (at + 1)) d f in
            omega arith
        test false u = absurd (no_got _ _ _ (sym (numbered_past limit s at (ltb-true _ _ t) d f (ltb-false _ _ u)) ∙ e))

-- a variable, by its letter
module _ (lim : Limits) (s : Text) (at : ℕ) where
  pub variable_a : byte_at s at ≡ 97 → variable lim s at ≡ mapped Attribute (numbered lim.attrs s at)
  unfolding variable
  variable_a e = rw (eq-eqb _ 97 e, variable)

  pub variable_v : byte_at s at ≡ 118 → variable lim s at ≡ mapped Local (numbered lim.locals s at)
  unfolding variable
  variable_v e = rw (ne_eqb (byte_at s at) 97 (λ f. omega arith), eq-eqb _ 118 e, variable)

  pub variable_none : (byte_at s at ≡ 97 → ⊥) → (byte_at s at ≡ 118 → ⊥) → variable lim s at ≡ bad at
  unfolding variable
  variable_none a v = rw (ne_eqb _ 97 a, ne_eqb _ 118 v, variable)

pub variable_moves : (lim : Limits) (s : Text) → Moves (variable lim s)
variable_moves lim s at p x e = go (eqb (byte_at s at) 97) refl (eqb (byte_at s at) 118) refl
  where
    go : (t : Bool) → eqb (byte_at s at) 97 ≡ t → (u : Bool) → eqb (byte_at s at) 118 ≡ u → at < p
    go true t u f = moves_mapped Attribute _ (numbered_moves lim.attrs s) at p x (sym (variable_a lim s at (eqb-true _ _ t)) ∙ e)
    go false t true f = moves_mapped Local _ (numbered_moves lim.locals s) at p x (sym (variable_v lim s at (eqb-true _ _ f)) ∙ e)
    go false t false f = absurd (no_got _ _ _ (sym (variable_none lim s at (eqb-false _ _ t) (eqb-false _ _ f)) ∙ e))
