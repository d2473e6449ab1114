-- A choice by its kind and a number in use is the rule at that number; any other choice is refused. Assumes nothing.
use Rattle.std.specs.Prelude.{Option, None, Some}
use Prim.Native.Nat.{ℕ, ◌≤◌}
use mathlib.Core.Bool.{Bool, true, false, ◌&&◌}
use mathlib.Core.Path.{◌≡◌, refl, ap, ◌∙◌}
use native.Mathlib.Omega.{arith}
use borrow.Author.Tests.{le-leb, leb-true}
use lib.Dec.{leb}
use lib.IntN.{ℤ, pos, negsuc}
use Rattle.whole.specs.Plain.{only_if}
use Rattle.whole.specs.Whole.{between, nat}
use Rattle.whole.proofs.Both.{both}
use Rattle.layout.specs.Layout.{Cells}
use Rattle.layout.specs.Stages.{up_to}
use Rattle.model.specs.Model.{Model}
use Rattle.rules.specs.declared.Kind.{Kind}
use Rattle.rules.specs.declared.Kind.TheVariants as Kind
use Rattle.rules.specs.Kinds.{kind_number, kind_of, in_use, choose}
use Rattle.rules.specs.Step.{ruled, next}

-- a kind's number is that kind's
pub kind_of_number : (k : Kind) → kind_of (pos (kind_number k)) ≡ Some k
unfolding kind_of kind_number
kind_of_number Kind.Exec = refl
kind_of_number Kind.Arrive = refl
kind_of_number Kind.Bind = refl
kind_of_number Kind.Start = refl
kind_of_number Kind.Deliver = refl

-- a number from 1 to n is one of the first n
pub up_to_in : (n i : ℕ) → 1 ≤ i → i ≤ n → up_to n (pos i) ≡ Some i
unfolding up_to between nat only_if
up_to_in n i l h = ap (λ b. only_if b i) (both (leb 1 i) (leb i n) (le-leb 1 i l) (le-leb i n h))

-- nothing found is no number
no_number : (i : ℕ) → ◌≡◌ {A = Option ℕ} None (Some i) → ⊥
no_number i e = let z : ◌≡◌ {A = ℕ} 0 1 = cc in omega arith

-- and what is found among the first n is from 1 to n
pub up_to_some : (n : ℕ) (z : ℤ) (i : ℕ) → up_to n z ≡ Some i → (1 ≤ i) × (i ≤ n)
unfolding up_to between nat only_if
up_to_some n (pos j) i e = go (leb 1 j) (leb j n) refl refl e
  where
    go : (a b : Bool) → leb 1 j ≡ a → leb j n ≡ b → only_if (a && b) j ≡ Some i → (1 ≤ i) × (i ≤ n)
    go true true l h e =
        let same : j ≡ i = cc in
        let low = leb-true 1 j l in
        let high = leb-true j n h in
        (omega arith, omega arith)
    go true false l h e = absurd (no_number i e)
    go false b l h e = absurd (no_number i e)
up_to_some n (negsuc j) i e = absurd (no_number i e)

module _ (m : Model) (c : Cells) where
  -- by its kind and a number in use
  pub next_chosen : (k : Kind) (n : ℕ) → 1 ≤ n → n ≤ in_use c k → next m c (choose k n) ≡ ruled m c k n
  unfolding next choose
  next_chosen k n l h = rw (kind_of_number k, next, up_to_in (in_use c k) n l h)
