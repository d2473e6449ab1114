-- A call in use by its tests in the order in which the code asks them. Assumes nothing.
use Rattle.std.specs.Prelude.{Some}
use Prim.Native.Nat.{ℕ}
use mathlib.Core.Bool.{Bool, true, false, ◌&&◌, ◌||◌}
use mathlib.Core.List.{[]}
use mathlib.Core.Path.{◌≡◌, refl, sym, ap, ◌∙◌}
use lib.IntN.{ℤ, pos}
use Rattle.whole.specs.Whole.{between}
use Rattle.whole.proofs.Both.{both_left, both_right}
use Rattle.whole.proofs.Tested.{of_natural}
use Rattle.layout.specs.Layout.{Cells, read, objects, of_call, caller, callee, cleared, value}
use Rattle.layout.specs.Stages.{invoked, bound, answered, taken, in_stages, object_of}
use Rattle.layout.specs.Vocabulary.Found.{as_object}
use Rattle.layout.specs.declared.ObjectNumber.{ObjectNumber}
use Rattle.model.specs.Model.{Model}
use Rattle.cells.specs.Configuration.{is, numbers_hold, named_by_callee, bound_holds, unbound_holds, callerless_holds, call_holds}
use Rattle.lookup.proofs.Saying.{object_is}

-- six tests, the third and the fourth asked as one
regroup : (a b d e f g : Bool) → a && (b && ((d && e) && (f && g))) ≡ a && (b && (d && (e && (f && (g && true)))))
regroup false b d e f g = refl
regroup true false d e f g = refl
regroup true true false e f g = refl
regroup true true true false f g = refl
regroup true true true true false g = refl
regroup true true true true true false = refl
regroup true true true true true true = refl

module _ (m : Model) (c : Cells) (l : ℕ) where
  -- the marks, and what is asked from stage 3 on and before it
  abbrev pub marks : Bool
  marks = between (pos 0) (pos 1) (of_call c l cleared) && (in_stages c l answered taken || is (of_call c l value) 0)

  abbrev pub staged : Bool
  staged = elim (in_stages c l bound taken) [ true ↦ bound_holds m c l | false ↦ unbound_holds m c l ]

  pub from_bound : in_stages c l bound taken ≡ true → bound_holds m c l ≡ staged
  from_bound e = rw (e, staged) refl

  -- all of them
  pub in_turn : numbers_hold m c l && (named_by_callee m c l && (marks && (staged && callerless_holds m c l))) ≡ call_holds m c l
  unfolding call_holds
  in_turn = regroup (numbers_hold m c l) (named_by_callee m c l) (between (pos 0) (pos 1) (of_call c l cleared)) (in_stages c l answered taken || is (of_call c l value) 0) staged (callerless_holds m c l)

  -- its callee is an object in use
  pub callee_in_use : numbers_hold m c l ≡ true → between (pos 1) (read c objects) (of_call c l callee) ≡ true
  unfolding numbers_hold
  callee_in_use e =
      both_left (between (pos 1) (read c objects) (of_call c l callee)) _
      (both_right (between (pos 0) (read c objects) (of_call c l caller)) _ (both_right (in_stages c l invoked taken) _ e))

-- so where the numbers hold, whatever the model, the callee is in use, and it is the object that is found by its cell
module _ (c : Cells) (l : ℕ) (held : (m : Model) → true ≡ numbers_hold m c l) where
  pub callee_held : between (pos 1) (read c objects) (of_call c l callee) ≡ true
  callee_held = callee_in_use [] c l (sym (held []))

  pub callee_found : (o : ObjectNumber) (z : ℤ) → z ≡ of_call c l callee → as_object (object_of c z) ≡ Some o → of_call c l callee ≡ pos o.0
  callee_found o z e f = of_natural _ _ (object_is c (of_call c l callee) callee_held o (ap (λ y. as_object (object_of c y)) (sym e) ∙ f))
