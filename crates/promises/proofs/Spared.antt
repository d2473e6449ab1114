-- What a step spares: of a call that was issued before it, caller, callee, method and args for good, its stage and value unless the step moves or
-- answers that very call; and the count of calls, unless it issues one. Assumes nothing.
use Prim.Native.Nat.{ℕ, ◌+◌}
use mathlib.Core.Bool.{Bool, true, false, ◌&&◌, ◌||◌, false≢true}
use mathlib.Core.List.{List, [], ◌∷◌, ◌++◌}
use mathlib.Core.Path.{◌≡◌, refl, sym, subst}
use native.Mathlib.Omega.{arith}
use borrow.Author.Tests.{lt-ltb, le-leb, eq-eqb}
use lib.Dec.{ltb, leb, eqb}
use lib.IntN.{ℤ, pos}
use Rattle.layout.specs.Layout.{Cells, Place, header, object, call, Write, of_call, to_call, to_object, running_label, attribute, stage, callee, line, cleared, value, local, new_object, new_call}
use Rattle.whole.specs.Lists.{total_of}
use Rattle.whole.specs.Whole.{eq_z, nat}
use Rattle.layout.specs.Stages.{rows_in_use, staged, invoked, queued, bound, running, replied, taken}
use Rattle.terms.specs.declared.Variable.{Variable}
use Rattle.terms.specs.declared.Variable.TheVariants.{Attribute, Local}
use Rattle.code.specs.Statements.{get}
use Rattle.model.specs.Model.{Model}
use Rattle.cells.specs.Standing.{Standing}
use Rattle.whole.proofs.Tested.{one_of}
use Rattle.rules.specs.declared.Choice.{Choice}
use Rattle.rules.specs.Events.{Event, performing}
use Rattle.rules.specs.Exec.{stored, next_object, next_row, with_object, with_call, onward, jumped, crossed, suspended, freed, stage_returned}
use Rattle.rules.specs.Messages.{started}
use Rattle.promises.specs.Lives.{issued_by}
use Rattle.promises.proofs.Acts.{Act, goes, jumps, stores, crosses, creates, spawns, issues, takes, suspends, returns, arrives, binds, starts, delivers}
use Rattle.promises.proofs.Untouched.{AtOnly, only_append, only_call, only_object, only_row}

-- what the lines of a method change in their own call: line, cleared, and the variables
unfoldable pub own_field : ℕ → Bool
own_field f = (eqb f line || eqb f cleared) || leb (local 0) f

-- places of lines that only go on: a call's own fields and attributes
unfoldable pub scratch : Place → Bool
scratch (header i) = false
scratch (object o f) = leb (attribute 0) f
scratch (call r f) = own_field f

-- places that spare the first n calls, but for the stage of one and the value of one, and the count of calls where no more are issued
unfoldable pub sparing : ℕ → ℕ → ℕ → ℕ → Place → Bool
sparing n s v more (header i) = eqb i 0 || ltb 0 more
sparing n s v more (object o f) = true
sparing n s v more (call r f) = (ltb n r || own_field f) || ((eqb f stage && eqb r s) || (eqb f value && eqb r v))

-- a wider sort
only_wider : (a b : Place → Bool) → ((p : Place) → a p ≡ true → b p ≡ true) → (ws : List Write) → AtOnly a ws → AtOnly b ws
only_wider a b h [] k = tt
only_wider a b h (w ∷ ws) k = (h w.0 k.0, only_wider a b h ws k.1)

-- one test of two is enough
or_left : (a b : Bool) → a ≡ true → a || b ≡ true
or_left true b e = refl
or_left false b e = cc

-- a local and an attribute
local_own : (i : ℕ) → own_field (local i) ≡ true
unfolding own_field
local_own i = one_of (eqb (8 + i) line || eqb (8 + i) cleared) (leb 8 (8 + i)) (λ _. le-leb 8 (8 + i) (omega arith))

-- cleared is a field of its own call
pub cleared_own : (l : ℕ) → scratch (call l cleared) ≡ true
unfolding scratch own_field
cleared_own l = refl

-- lines that only go on
module _ (m : Model) (c : Cells) (o l : ℕ) (at : Standing) where
  pub stored_scratch : (x : Variable) (z : ℤ) → AtOnly scratch (stored c o l x z)
  unfolding stored scratch
  stored_scratch (Attribute i) z = only_object scratch o (attribute i) z (le-leb 2 (2 + i) (omega arith))
  stored_scratch (Local i) z = only_call scratch c l (local i) z (local_own i)

  -- the next line
  onward_scratch : AtOnly scratch (onward m c o l at)
  unfolding onward scratch own_field
  onward_scratch = only_call scratch c l line _ refl

  -- another line
  jumped_scratch : AtOnly scratch (jumped m c o l at)
  unfolding jumped scratch own_field
  jumped_scratch = only_call scratch c l line _ refl

  -- an `await` that is crossed
  crossed_scratch : AtOnly scratch (crossed m c o l at)
  unfolding crossed scratch own_field
  crossed_scratch = only_append scratch (to_call c l cleared (pos 0)) (onward m c o l at) (only_call scratch c l cleared _ refl) onward_scratch

  -- and store
  pub tail_scratch : (x : Variable) (z : ℤ) → AtOnly scratch (stored c o l x z ++ onward m c o l at)
  tail_scratch x z = only_append scratch (stored c o l x z) (onward m c o l at) (stored_scratch x z) onward_scratch

-- those spare every call, and the count
module _ (n s v more : ℕ) where
  scratch_spares : (p : Place) → scratch p ≡ true → sparing n s v more p ≡ true
  unfolding scratch sparing
  scratch_spares (header i) e = absurd (false≢true e)
  scratch_spares (object o f) e = refl
  scratch_spares (call r f) e = or_left (ltb n r || own_field f) _ (one_of (ltb n r) (own_field f) (λ _. e))

  -- and so do writes there alone
  spares : (ws : List Write) → AtOnly scratch ws → AtOnly (sparing n s v more) ws
  spares ws h = only_wider scratch (sparing n s v more) scratch_spares ws h

module _ (m : Model) (c : Cells) (o l : ℕ) (at : Standing) where
  -- what a line stores, and its next line, spare every call
  tail_spares : (n s v more : ℕ) (x : Variable) (z : ℤ) → AtOnly (sparing n s v more) (stored c o l x z ++ onward m c o l at)
  tail_spares n s v more x z = spares n s v more (stored c o l x z ++ onward m c o l at) (tail_scratch m c o l at x z)

-- the moved call's stage and the answered call's value
module _ (n s v more : ℕ) (c : Cells) where
  staged_spares : (i : ℕ) → AtOnly (sparing n s v more) (staged c s i)
  unfolding staged sparing
  staged_spares i =
      only_call (sparing n s v more) c s stage (pos i)
      (one_of (ltb n s || own_field stage) _ (λ _. or_left (eqb s s) _ (eq-eqb s s refl)))

  -- its value
  value_spares : (z : ℤ) → AtOnly (sparing n s v more) (to_call c v value z)
  unfolding sparing
  value_spares z =
      only_call (sparing n s v more) c v value z
      (one_of (ltb n v || own_field value) _ (λ _. one_of (eqb value stage && eqb v s) _ (λ _. eq-eqb v v refl)))

-- new rows
module _ (s v : ℕ) (c : Cells) where
  new_call_spares : (st by to j : ℕ) (zs : List ℤ) → AtOnly (sparing (rows_in_use c) s v 1) (with_call c st by to j zs)
  unfolding with_call new_call sparing next_row
  new_call_spares st by to j zs = (
    refl,
    only_row (sparing (rows_in_use c) s v 1) (call (rows_in_use c + 1)) stage _
        (λ g h. or_left (ltb (rows_in_use c) (rows_in_use c + 1) || own_field g) _ (or_left _ (own_field g) (lt-ltb (rows_in_use c) (rows_in_use c + 1) (omega arith)))),
  )

  -- a new object's row
  new_object_spares : (more k r : ℕ) (zs : List ℤ) → AtOnly (sparing (rows_in_use c) s v more) (with_object c k r zs)
  unfolding with_object new_object sparing
  new_object_spares more k r zs = (refl, only_row (sparing (rows_in_use c) s v more) (object (next_object c)) 0 _ (λ g h. refl))

-- a reply that is taken issues nothing
pub taking_none : (m : Model) (c d : Cells) (o l : ℕ) (x y : Variable) → total_of issued_by (performing m c d o l (get x y)) ≡ 0
unfolding performing total_of issued_by
taking_none m c d o l x y = go (eq_z (of_call c l line) (of_call d l line)) refl
  where
    go : (b : Bool) → eq_z (of_call c l line) (of_call d l line) ≡ b → total_of issued_by (performing m c d o l (get x y)) ≡ 0
    go true e = rw (e, performing)
    go false e = rw (e, performing)

module _ {m : Model} {c : Cells} {choice : Choice} where
  -- the call that a step moves, if any, and the call that it answers
  unfoldable pub moved_by : {ws : List Write} {es : List Event} → Act m c choice ws es → ℕ
  moved_by (goes o l at r) = 0
  moved_by (jumps o l at r) = 0
  moved_by (stores o l at r x z) = 0
  moved_by (crosses o l at r) = 0
  moved_by (creates o l at r x k zs a) = 0
  moved_by (spawns o l at r x k es zs s a b d e) = 0
  moved_by (issues o l at r x e j es z to zs s v h n a d f) = 0
  moved_by (takes o l at r x y from s h d f) = from
  moved_by (suspends o l at r) = l
  moved_by (returns o l at r e z s v) = l
  moved_by (arrives l h s) = l
  moved_by (binds l h s) = l
  moved_by (starts l h s) = l
  moved_by (delivers l h s) = l

  -- the call that it answers
  unfoldable pub answered_by : {ws : List Write} {es : List Event} → Act m c choice ws es → ℕ
  answered_by (goes o l at r) = 0
  answered_by (jumps o l at r) = 0
  answered_by (stores o l at r x z) = 0
  answered_by (crosses o l at r) = 0
  answered_by (creates o l at r x k zs a) = 0
  answered_by (spawns o l at r x k es zs s a b d e) = 0
  answered_by (issues o l at r x e j es z to zs s v h n a d f) = 0
  answered_by (takes o l at r x y from s h d f) = 0
  answered_by (suspends o l at r) = 0
  answered_by (returns o l at r e z s v) = l
  answered_by (arrives l h s) = 0
  answered_by (binds l h s) = 0
  answered_by (starts l h s) = 0
  answered_by (delivers l h s) = 0

  -- every step spares the others
  pub act_spares : {ws : List Write} {es : List Event} (a : Act m c choice ws es) → AtOnly (sparing (rows_in_use c) (moved_by a) (answered_by a) (total_of issued_by es)) ws
  unfolding moved_by answered_by total_of issued_by suspended freed started sparing
  act_spares (goes o l at r) = spares (rows_in_use c) 0 0 0 (onward m c o l at) (onward_scratch m c o l at)
  act_spares (jumps o l at r) = spares (rows_in_use c) 0 0 0 (jumped m c o l at) (jumped_scratch m c o l at)
  act_spares (stores o l at r x z) = spares (rows_in_use c) 0 0 0 (stored c o l x z ++ onward m c o l at) (tail_scratch m c o l at x z)
  act_spares (crosses o l at r) = spares (rows_in_use c) 0 0 0 (crossed m c o l at) (crossed_scratch m c o l at)
  act_spares (creates o l at r x k zs a) =
      only_append (sparing (rows_in_use c) 0 0 0) (with_object c k 0 zs) (stored c o l x (pos (next_object c)) ++ onward m c o l at)
      (new_object_spares 0 0 c 0 k 0 zs) (tail_spares m c o l at (rows_in_use c) 0 0 0 x (pos (next_object c)))
  act_spares (spawns o l at r x k es zs s a b d e) =
      only_append (sparing (rows_in_use c) 0 0 1) (with_object c k (next_row c) zs ++ with_call c running 0 (next_object c) 0 []) (stored c o l x (pos (next_object c)) ++ onward m c o l at)
      (only_append (sparing (rows_in_use c) 0 0 1) (with_object c k (next_row c) zs) (with_call c running 0 (next_object c) 0 []) (new_object_spares 0 0 c 1 k (next_row c) zs) (new_call_spares 0 0 c running 0 (next_object c) 0 []))
      (tail_spares m c o l at (rows_in_use c) 0 0 1 x (pos (next_object c)))
  act_spares (issues o l at r x e j es z to zs s v h n a d f) =
      only_append (sparing (rows_in_use c) 0 0 1) (with_call c invoked o to j zs) (stored c o l x (pos (next_row c)) ++ onward m c o l at)
      (new_call_spares 0 0 c invoked o to j zs) (tail_spares m c o l at (rows_in_use c) 0 0 1 x (pos (next_row c)))
  act_spares (takes o l at r x y from s h d f) =
      subst (λ more. AtOnly (sparing (rows_in_use c) from 0 more) (staged c from taken ++ (stored c o l y (of_call c from value) ++ onward m c o l at))) (sym (taking_none m c d o l x y))
      (only_append (sparing (rows_in_use c) from 0 0) (staged c from taken) (stored c o l y (of_call c from value) ++ onward m c o l at)
      (staged_spares (rows_in_use c) from 0 0 c taken) (tail_spares m c o l at (rows_in_use c) from 0 0 y (of_call c from value)))
  act_spares (suspends o l at r) =
      only_append (sparing (rows_in_use c) l 0 0) (staged c l bound ++ to_call c l cleared (pos 1)) (to_object o running_label (pos 0))
      (only_append (sparing (rows_in_use c) l 0 0) (staged c l bound) (to_call c l cleared (pos 1)) (staged_spares (rows_in_use c) l 0 0 c bound)
      (only_call (sparing (rows_in_use c) l 0 0) c l cleared (pos 1) (scratch_spares (rows_in_use c) l 0 0 (call l cleared) (cleared_own l))))
      (only_object (sparing (rows_in_use c) l 0 0) o running_label (pos 0) refl)
  act_spares (returns o l at r e z s v) =
      only_append (sparing (rows_in_use c) l l 0) (to_call c l value z ++ staged c l (stage_returned m c o l at)) (to_object o running_label (pos 0))
      (only_append (sparing (rows_in_use c) l l 0) (to_call c l value z) (staged c l (stage_returned m c o l at)) (value_spares (rows_in_use c) l l 0 c z)
      (staged_spares (rows_in_use c) l l 0 c (stage_returned m c o l at)))
      (only_object (sparing (rows_in_use c) l l 0) o running_label (pos 0) refl)
  act_spares (arrives l h s) = staged_spares (rows_in_use c) l 0 0 c queued
  act_spares (binds l h s) = staged_spares (rows_in_use c) l 0 0 c bound
  act_spares (starts l h s) =
      only_append (sparing (rows_in_use c) l 0 0) (staged c l running) (to_object (nat (of_call c l callee)) running_label (pos l))
      (staged_spares (rows_in_use c) l 0 0 c running) (only_object (sparing (rows_in_use c) l 0 0) (nat (of_call c l callee)) running_label (pos l) refl)
  act_spares (delivers l h s) = staged_spares (rows_in_use c) l 0 0 c replied
