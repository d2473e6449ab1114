-- The numbers given back tell refusals apart, and none of them is the acceptance's. Assumes nothing.
use Rattle.std.specs.Prelude.{Option, None, Some, Result, Ok, Err}
use Prim.Native.Nat.{◌≤◌}
use mathlib.Core.Bool.{Bool, true, false}
use mathlib.Core.Path.{◌≡◌, refl, sym, ap, ◌∙◌}
use native.Mathlib.Omega.{arith}
use borrow.Author.Tests.{ltb-true, ltb-false}
use lib.Dec.{ltb}
use lib.ListN.{get_or-eq_default}
use Rattle.whole.specs.declared.refusals.Refusal.{Refusal}
use Rattle.whole.specs.Refusals.{accepted}
use Rattle.whole.specs.Vocabulary.Refusing.{number_of, refusals, refusal_of, number_given}
use Rattle.whole.proofs.Tested.{no_some}

-- each refusal is found again by its number
pub refusal_found : (r : Refusal) → refusal_of (number_of r) ≡ Some r
unfolding refusal_of number_of
refusal_found Refusal.TextTooLong = refl
refusal_found Refusal.BrokenLine = refl
refusal_found Refusal.WrongKey = refl
refusal_found Refusal.WrongNumber = refl
refusal_found Refusal.WrongCode = refl
refusal_found Refusal.WrongBlocks = refl
refusal_found Refusal.CellsNotAll = refl
refusal_found Refusal.NoConfiguration = refl
refusal_found Refusal.NotInUse = refl
refusal_found Refusal.AnswersDiffer = refl
refusal_found Refusal.BudgetTooLarge = refl
refusal_found Refusal.NotInvoked = refl
refusal_found Refusal.NotQueued = refl
refusal_found Refusal.NoSuchMethod = refl
refusal_found Refusal.NotBound = refl
refusal_found Refusal.ObjectBusy = refl
refusal_found Refusal.NotReady = refl
refusal_found Refusal.NotAnswered = refl
refusal_found Refusal.ObjectIdle = refl
refusal_found Refusal.PastTheEnd = refl
refusal_found Refusal.OutOfRange = refl
refusal_found Refusal.CalleeNoObject = refl
refusal_found Refusal.ObjectRowsFull = refl
refusal_found Refusal.CallRowsFull = refl
refusal_found Refusal.ReplyNotIn = refl

-- so no two refusals have one number
pub number_apart : (r q : Refusal) → number_of r ≡ number_of q → r ≡ q
number_apart r q e = let s : ◌≡◌ {A = Option Refusal} (Some r) (Some q) = sym (refusal_found r) ∙ ap refusal_of e ∙ refusal_found q in cc

-- the largest is 33
pub number_small : (r : Refusal) → number_of r ≤ 33
unfolding refusal_of
number_small r = go (ltb (number_of r) 34) refl
  where
    go : (b : Bool) → ltb (number_of r) 34 ≡ b → number_of r ≤ 33
    go true e = omega (arith, ltb-true (number_of r) 34 e)
    go false e =
        let past : 34 ≤ number_of r = ltb-false (number_of r) 34 e in
        absurd (no_some (sym (get_or-eq_default refusals None {n = number_of r} past) ∙ refusal_found r))

-- and 0, which no refusal tells, is left to the acceptance
pub number_refuses : (r : Refusal) → number_of r ≡ accepted → ⊥
unfolding refusal_of
number_refuses r e = no_some (sym (ap refusal_of e) ∙ refusal_found r)

-- so the number of an answer tells the answer
pub given_apart : (a b : Result (Unit {0}) Refusal) → number_given a ≡ number_given b → a ≡ b
unfolding number_given
given_apart (Ok u) (Ok v) e = refl
given_apart (Ok u) (Err q) e = absurd (number_refuses q (sym e))
given_apart (Err r) (Ok v) e = absurd (number_refuses r e)
given_apart (Err r) (Err q) e = ap Err (number_apart r q e)
