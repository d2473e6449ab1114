-- What an accepted choice does, by its kind and the statement of the line: what it writes, what happens to calls, and under which tests. Every
-- theorem about steps goes through these cases. Assumes nothing.
use Rattle.std.specs.Prelude.{Some}
use Prim.Native.Nat.{ℕ, ◌≤◌}
use mathlib.Core.Bool.{true}
use mathlib.Core.List.{List, [], ◌∷◌, ◌++◌}
use mathlib.Core.Path.{◌≡◌}
use lib.IntN.{ℤ, pos}
use lib.ListN.{length}
use Rattle.whole.specs.Whole.{nat}
use Rattle.layout.specs.Layout.{Cells, Write, written, of_object, of_call, to_call, running_label, value, callee}
use Rattle.layout.specs.Stages.{invoked, queued, bound, running, answered, replied, taken, objects_in_use, rows_in_use, object_of, label_of, in_stage, reply_for, staged}
use Rattle.terms.specs.declared.Variable.{Variable}
use Rattle.terms.specs.Trees.{Expression}
use Rattle.terms.specs.Values.{held, value_of}
use Rattle.code.specs.Statements as Code
use Rattle.model.specs.Model.{Model}
use Rattle.cells.specs.Standing.{Standing, standing_of}
use Rattle.rules.specs.declared.Choice.{Choice}
use Rattle.rules.specs.Events.{Event, issuing, spawning, arriving, binding, returning, delivering, performing}
use Rattle.rules.specs.Exec.{here, stored, next_object, next_row, object_left, row_left, with_object, with_call, onward, jumped, freed, crossed, suspended, stage_returned}
use Rattle.rules.specs.declared.Kind.{Kind}
use Rattle.rules.specs.declared.Kind.TheVariants as Kind
use Rattle.rules.specs.Kinds.{choose}
use Rattle.rules.specs.Messages.{started}

-- an object in use is chosen and its running call stands at a line
pub record Running (m : Model) (c : Cells) (choice : Choice) (o l : ℕ) (at : Standing) : Type 0 where
  pub chosen : choice ≡ choose Kind.Exec o
  pub low : 1 ≤ o
  pub high : o ≤ objects_in_use c
  pub runs : label_of c (of_object c o running_label) ≡ Some l
  pub stands : standing_of m c l ≡ Some at

-- a label in use is chosen, of some kind
pub record Chosen (c : Cells) (choice : Choice) (k : Kind) (l : ℕ) : Type 0 where
  pub chosen : choice ≡ choose k l
  pub low : 1 ≤ l
  pub high : l ≤ rows_in_use c

module _ (m : Model) (c : Cells) (choice : Choice) where
  pub data Act : List Write → List Event → Type 0 where
    -- the line only goes on or to another line, stores or not, clears or not: `skip`, `set`, the lines of blocks, and an `await` that is crossed
    goes : (o l : ℕ) (at : Standing) → Running m c choice o l at → Act (onward m c o l at) []
    jumps : (o l : ℕ) (at : Standing) → Running m c choice o l at → Act (jumped m c o l at) []
    stores : (o l : ℕ) (at : Standing) → Running m c choice o l at → (x : Variable) (z : ℤ) → Act (stored c o l x z ++ onward m c o l at) []
    crosses : (o l : ℕ) (at : Standing) → Running m c choice o l at → Act (crossed m c o l at) []
    -- `new`, of a class with run 0 and with run 1
    creates : (o l : ℕ) (at : Standing) → Running m c choice o l at → (x : Variable) (k : ℕ) (zs : List ℤ) → object_left c ≡ true
        → Act (with_object c k 0 zs ++ (stored c o l x (pos (next_object c)) ++ onward m c o l at)) []
    spawns : (o l : ℕ) (at : Standing) → Running m c choice o l at → (x : Variable) (k : ℕ) (es : List Expression) (zs : List ℤ)
        → at.statement ≡ Code.new x k es → object_left c ≡ true → row_left c ≡ true → (d : Cells)
        → d ≡ written c ((with_object c k (next_row c) zs ++ with_call c running 0 (next_object c) 0 []) ++ (stored c o l x (pos (next_object c)) ++ onward m c o l at))
        → Act ((with_object c k (next_row c) zs ++ with_call c running 0 (next_object c) 0 []) ++ (stored c o l x (pos (next_object c)) ++ onward m c o l at))
        (spawning (nat (of_object d (objects_in_use d) running_label)) ∷ [])
    -- `call`
    issues : (o l : ℕ) (at : Standing) → Running m c choice o l at → (x : Variable) (e : Expression) (j : ℕ) (es : List Expression)
        (z : ℤ) (to : ℕ) (zs : List ℤ) → at.statement ≡ Code.call x e j es → value_of (here c o l) e ≡ Some z → object_of c z ≡ Some to
        → length zs ≡ length es → row_left c ≡ true → (d : Cells)
        → d ≡ written c (with_call c invoked o to j zs ++ (stored c o l x (pos (next_row c)) ++ onward m c o l at))
        → Act (with_call c invoked o to j zs ++ (stored c o l x (pos (next_row c)) ++ onward m c o l at)) (issuing (nat (held (here d o l) x)) ∷ [])
    -- `get`
    takes : (o l : ℕ) (at : Standing) → Running m c choice o l at → (x y : Variable) (from : ℕ) → at.statement ≡ Code.get x y
        → reply_for c o (held (here c o l) x) ≡ Some from → (d : Cells)
        → d ≡ written c (staged c from taken ++ (stored c o l y (of_call c from value) ++ onward m c o l at))
        → Act (staged c from taken ++ (stored c o l y (of_call c from value) ++ onward m c o l at)) (performing m c d o l (Code.get x y))
    -- an `await` that is not enabled, and `return`
    suspends : (o l : ℕ) (at : Standing) → Running m c choice o l at → Act (suspended m c o l at) []
    returns : (o l : ℕ) (at : Standing) → Running m c choice o l at → (e : Expression) (z : ℤ) → at.statement ≡ Code.return e
        → value_of (here c o l) e ≡ Some z
        → Act (to_call c l value z ++ staged c l (stage_returned m c o l at) ++ freed m c o l at) (returning l ∷ [])
    -- the rules of a label
    arrives : (l : ℕ) → Chosen c choice Kind.Arrive l → in_stage c l invoked ≡ true → Act (staged c l queued) (arriving l ∷ [])
    binds : (l : ℕ) → Chosen c choice Kind.Bind l → in_stage c l queued ≡ true → Act (staged c l bound) (binding l ∷ [])
    starts : (l : ℕ) → Chosen c choice Kind.Start l → in_stage c l bound ≡ true → Act (started c (nat (of_call c l callee)) l) []
    delivers : (l : ℕ) → Chosen c choice Kind.Deliver l → in_stage c l answered ≡ true → Act (staged c l replied) (delivering l ∷ [])
