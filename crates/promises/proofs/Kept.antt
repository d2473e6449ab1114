-- What a step keeps of a call that was issued before it, field by field. Assumes nothing.
use Prim.Native.Nat.{ℕ, ◌≤◌}
use mathlib.Core.Bool.{Bool, true, false, ◌&&◌, ◌||◌}
use mathlib.Core.List.{List}
use mathlib.Core.Path.{◌≡◌, refl}
use borrow.Author.Tests.{le-ltb, ne_eqb}
use lib.Dec.{ltb, eqb}
use Rattle.whole.specs.Lists.{total_of}
use Rattle.layout.specs.Layout.{Cells, call, Write, written, of_call, stage, caller, callee, method, args, value}
use Rattle.layout.specs.Stages.{rows_in_use, stage_of}
use Rattle.model.specs.Model.{Model}
use Rattle.rules.specs.declared.Choice.{Choice}
use Rattle.rules.specs.Events.{Event}
use Rattle.promises.specs.Lives.{issued_by}
use Rattle.promises.proofs.Acts.{Act}
use Rattle.promises.proofs.Spared.{own_field, sparing, moved_by, answered_by, act_spares}
use Rattle.promises.proofs.Untouched.{field_kept}

-- neither test holds
or_none : (a b : Bool) → a ≡ false → b ≡ false → a || b ≡ false
or_none true b e f = e
or_none false b e f = f

-- a field that is spared
spared : (n s v more l f : ℕ) → l ≤ n → own_field f ≡ false → eqb f stage && eqb l s ≡ false → eqb f value && eqb l v ≡ false
    → sparing n s v more (call l f) ≡ false
unfolding sparing
spared n s v more l f h own a b = or_none (ltb n l || own_field f) _ (or_none (ltb n l) (own_field f) (le-ltb n l h) own) (or_none (eqb f stage && eqb l s) _ a b)

module _ {m : Model} {c : Cells} {choice : Choice} {ws : List Write} {es : List Event} (a : Act m c choice ws es)
    (l : ℕ) (high : l ≤ rows_in_use c) where
  kept : (f : ℕ) → sparing (rows_in_use c) (moved_by a) (answered_by a) (total_of issued_by es) (call l f) ≡ false → of_call (written c ws) l f ≡ of_call c l f
  kept f e = field_kept (sparing (rows_in_use c) (moved_by a) (answered_by a) (total_of issued_by es)) c ws l f (act_spares a) e

  -- who called
  pub kept_caller : of_call (written c ws) l caller ≡ of_call c l caller
  unfolding own_field
  kept_caller = kept caller (spared (rows_in_use c) (moved_by a) (answered_by a) (total_of issued_by es) l caller high refl refl refl)

  -- whom it called
  pub kept_callee : of_call (written c ws) l callee ≡ of_call c l callee
  unfolding own_field
  kept_callee = kept callee (spared (rows_in_use c) (moved_by a) (answered_by a) (total_of issued_by es) l callee high refl refl refl)

  -- for which method
  pub kept_method : of_call (written c ws) l method ≡ of_call c l method
  unfolding own_field
  kept_method = kept method (spared (rows_in_use c) (moved_by a) (answered_by a) (total_of issued_by es) l method high refl refl refl)

  -- and with how many arguments
  pub kept_args : of_call (written c ws) l args ≡ of_call c l args
  unfolding own_field
  kept_args = kept args (spared (rows_in_use c) (moved_by a) (answered_by a) (total_of issued_by es) l args high refl refl refl)

  -- the stage of a call that is not moved
  pub kept_stage : (l ≡ moved_by a → ⊥) → stage_of (written c ws) l ≡ stage_of c l
  unfolding stage_of own_field
  kept_stage ne = kept stage (spared (rows_in_use c) (moved_by a) (answered_by a) (total_of issued_by es) l stage high refl (ne_eqb l (moved_by a) ne) refl)

  -- the value of a call that is not answered
  pub kept_value : (l ≡ answered_by a → ⊥) → of_call (written c ws) l value ≡ of_call c l value
  unfolding own_field
  kept_value ne = kept value (spared (rows_in_use c) (moved_by a) (answered_by a) (total_of issued_by es) l value high refl refl (ne_eqb l (answered_by a) ne))
