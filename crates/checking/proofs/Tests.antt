-- Tests asked one after another are tests that hold together. Assumes nothing.
use Prim.Native.Nat.{ℕ}
use mathlib.Core.Bool.{Bool, true, false, ◌&&◌, not}
use mathlib.Core.Path.{◌≡◌, refl, sym, ap, ◌∙◌}
use borrow.Author.Tests.{not-true, not-false, eqb-true, eqb-false, eq-eqb, ne_eqb}
use lib.Dec.{eqb}

-- a test that was negated in the code and did not hold, and one that held: `t` is what the code was told, `a` what it means
pub unheld : {t a : Bool} → t ≡ a → not t ≡ true → a ≡ false
unheld {t = t} e h = sym e ∙ not-true t h

pub held : {t a : Bool} → t ≡ a → not t ≡ false → a ≡ true
held {t = t} e h = sym e ∙ not-false t h

-- the first of two does not hold, or holds and the second decides, or there is no second
pub stopped : (a b : Bool) → a ≡ false → false ≡ a && b
stopped a b e = sym (ap (◌&& b) e)

pub passed : {r : Bool} (a b : Bool) → a ≡ true → r ≡ b → r ≡ a && b
passed a b e f = f ∙ sym (ap (◌&& b) e)

pub last : {r : Bool} (a : Bool) → r ≡ a → r ≡ a && true
last true e = e
last false e = e

-- two numbers in either order
pub eqb_swap : (m n : ℕ) → eqb m n ≡ eqb n m
eqb_swap m n = go (eqb m n) refl
  where
    go : (b : Bool) → eqb m n ≡ b → eqb m n ≡ eqb n m
    go true e = e ∙ sym (eq-eqb n m (sym (eqb-true m n e)))
    go false e = e ∙ sym (ne_eqb n m (λ h. eqb-false m n e (sym h)))
