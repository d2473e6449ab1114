-- What holds of a call at a line, in the order in which the code asks: of a cleared call, of a suspended one, and of the others. Assumes nothing.
use Prim.Native.Nat.{ℕ, ◌<◌}
use mathlib.Core.Bool.{Bool, true, false, ◌&&◌, false≢true}
use mathlib.Core.Path.{◌≡◌, refl, ap}
use native.Mathlib.Omega.{arith}
use borrow.Author.Tests.{leb-true, lt-leb}
use lib.Dec.{leb}
use lib.IntN.{ℤ, pos, negsuc}
use Rattle.whole.specs.Plain.{whenever}
use Rattle.whole.specs.Whole.{between, eq_z}
use Rattle.whole.proofs.Both.{both_right}
use Rattle.whole.proofs.Tested.{equals}
use Rattle.layout.specs.Layout.{Cells, of_call, cleared, line}
use Rattle.layout.specs.Stages.{bound, running, answered, taken, stage_of, in_stage, in_stages}
use Rattle.code.specs.Statements.{Code}
use Rattle.code.specs.declared.Shape.TheVariants as Shape
use Rattle.code.specs.Blocks.{shape_of, is_shape}
use Rattle.model.specs.Model.{Model}
use Rattle.cells.specs.Configuration.{is, line_holds}
use Rattle.checking.proofs.Tests.{last}

-- a number up to one bound is none from a larger one on
apart : (a b p q : ℕ) (z : ℤ) → b < p → between (pos a) (pos b) z ≡ true → between (pos p) (pos q) z ≡ false
unfolding between
apart a b p q (pos n) h e = ap (◌&& leb n q) (lt-leb p n (omega (arith, leb-true n b (both_right (leb a n) _ e))))
apart a b p q (negsuc n) h e = absurd (false≢true e)

module _ (m : Model) (c : Cells) (l : ℕ) (s : Code) where
  -- stages 3 and 4 are not among 5 to 7
  before_answered : in_stages c l bound running ≡ true → in_stages c l answered taken ≡ false
  unfolding in_stages
  before_answered e = apart bound running answered taken (stage_of c l) (omega arith) e

  bound_not_answered : in_stage c l bound ≡ true → in_stages c l answered taken ≡ false
  unfolding in_stage in_stages between
  bound_not_answered e = ap (between (pos answered) (pos taken)) (equals (stage_of c l) bound e)

  -- a cleared call at another line, and at an await
  pub not_await : is (of_call c l cleared) 1 ≡ true → is_shape Shape.Await (shape_of s) ≡ false → false ≡ line_holds m c l s
  unfolding line_holds
  not_await e f = go (in_stages c l bound running) refl
    where
      go : (b : Bool) → in_stages c l bound running ≡ b → false ≡ line_holds m c l s
      go true g = rw (e, f, g, line_holds)
      go false g = rw (e, f, g, line_holds)

  pub at_await : is (of_call c l cleared) 1 ≡ true → is_shape Shape.Await (shape_of s) ≡ true → in_stages c l bound running ≡ line_holds m c l s
  unfolding line_holds eq_z
  at_await e f = go (in_stages c l bound running) (in_stage c l bound) refl refl
    where
      marked : is (of_call c l cleared) 0 ≡ false
      marked = ap (λ z. eq_z z (pos 0)) (equals (of_call c l cleared) 1 e)

      go : (b t : Bool) → in_stages c l bound running ≡ b → in_stage c l bound ≡ t → in_stages c l bound running ≡ line_holds m c l s
      go true true g h = rw (e, f, g, h, marked, before_answered g, line_holds)
      go true false g h = rw (e, f, g, h, before_answered g, line_holds)
      go false t g h = rw (e, g, line_holds)

  -- a call in stage 3 that is not cleared
  pub suspended : is (of_call c l cleared) 1 ≡ false → is (of_call c l cleared) 0 ≡ true → in_stage c l bound ≡ true → is (of_call c l line) 0 ≡ line_holds m c l s
  unfolding line_holds
  suspended e f g = rw (e, f, g, bound_not_answered g, line_holds) (last _ refl)

  -- and any other
  pub elsewhere : is (of_call c l cleared) 1 ≡ false → in_stage c l bound && is (of_call c l cleared) 0 ≡ false
      → whenever (in_stages c l answered taken) (is_shape Shape.Return (shape_of s)) ≡ line_holds m c l s
  unfolding line_holds
  elsewhere e f = rw (e, f, line_holds) (last _ refl)
