-- The condition of refusal 11, clause by clause, computed: under each phrase of document 01 stand configurations that hold, and cells that
-- fail in that phrase and, where this can be, in no other. Assumes nothing.
use Prim.Native.Nat.{ℕ, zero, suc, ◌+◌, ◌-◌}
use mathlib.Core.Bool.{Bool, true, false}
use mathlib.Core.List.{List, [], ◌∷◌, ◌++◌}
use mathlib.Core.Path.{refl}
use lib.IntN.{ℤ, pos, negsuc}
use lib.ListN.{replicate, take, drop}
use Rattle.whole.proofs.Tables.{Row, ◌is◌, Holds}
use Rattle.layout.specs.Layout.{Cells, all_cells, first_call, call_cells, object_rows, call_rows, written, objects, calls, to_object, to_call, new_object, new_call, class, running_label, attribute, stage, caller, callee, method, args, line, cleared, value, local}
use Rattle.layout.specs.Stages.{invoked, queued, bound, running, answered, replied, taken, nobody}
use Rattle.terms.specs.Bytes.{Text}
use Rattle.model.specs.Judge.{judged, refusal, model}
use Rattle.model.specs.Model.{Model}
use Rattle.model.proofs.Session.{session_texts, four_classes}
use Rattle.cells.specs.Configuration.{is_configuration}
use Rattle.cells.proofs.Open.{cells_open}

model_of : Text → Model
model_of s = elim (judged s) [ refusal v ↦ [] | model m ↦ m ]

-- cells are a configuration of the four classes
good : Cells → Bool
good c = is_configuration (model_of four_classes) c

-- one field put anew, and one row
set_object : Cells → ℕ → ℕ → ℤ → Cells
set_object c o f z = written c (to_object o f z)

set_call : Cells → ℕ → ℕ → ℤ → Cells
set_call c l f z = written c (to_call c l f z)

add_object : Cells → ℕ → ℕ → ℕ → List ℤ → Cells
add_object c o k l zs = written c (new_object o k l zs)

add_call : Cells → ℕ → ℕ → ℕ → ℕ → ℕ → List ℤ → Cells
add_call c r s by to j zs = written c (new_call r s by to j zs)

unfoldable writing : Unit {0}
unfolding set_object set_call add_object add_call
writing = tt

-- cells with counts and no row written: each object in use is an idle one of class 0
counting : ℕ → ℕ → Cells
counting n l = written (replicate all_cells (pos 0)) ((objects, pos n) ∷ (calls, pos l) ∷ [])

-- the objects of the base: two of class 0, then one of class 1, and two of class 2
abbrev busy : ℕ
busy = 1

abbrev idle : ℕ
idle = 2

abbrev small : ℕ
small = 3

abbrev plain : ℕ
plain = 4

abbrev spare : ℕ
spare = 5

-- its calls, each by the state that it is in
abbrev current : ℕ
current = 1

abbrev ready : ℕ
ready = 2

abbrev asleep : ℕ
asleep = 3

abbrev sent : ℕ
sent = 4

abbrev done : ℕ
done = 5

abbrev ended : ℕ
ended = 6

abbrev over : ℕ
over = 7

-- busy runs `current` and has `ready` bound; idle's `asleep` is suspended at an await. `sent` is queued, for a method that its callee's class
-- does not have; `done` is answered; `ended`, which nobody called, and `over` are at their end
base : Cells
base =
    let c = add_object (counting 5 7) busy 0 current (pos 5 ∷ pos 6 ∷ pos 7 ∷ []) in
    let c = add_object (add_object c idle 0 0 []) small 1 0 (pos 1 ∷ pos 2 ∷ []) in
    let c = add_object (add_object c plain 2 0 []) spare 2 0 [] in
    let c = set_call (add_call c current running 0 busy 0 []) current line (pos 1) in
    let c = add_call c ready bound busy busy 1 (pos 8 ∷ pos 9 ∷ []) in
    let c = set_call (set_call (add_call c asleep bound busy idle 0 []) asleep line (pos 2)) asleep cleared (pos 1) in
    let c = add_call c sent queued busy small 5 (pos 1 ∷ pos 2 ∷ pos 3 ∷ []) in
    let c = set_call (set_call (add_call c done answered idle busy 1 (pos 3 ∷ pos 4 ∷ [])) done line (pos 1)) done value (negsuc 0) in
    let c = set_call (add_call c ended taken 0 small 0 []) ended value (pos 1) in
    add_call c over taken busy plain 0 []

-- objects of class 0, and the first of them has a call that is bound
crowd : ℕ → Cells
crowd n = add_call (counting n 1) 1 bound 0 1 0 []

-- as many calls as there are rows, each one that the object has sent to itself
again : ℕ → Cells → Cells
again zero row = []
again (suc n) row = row ++ again n row

queue : Cells
queue =
    let c = add_call (counting 1 call_rows) 1 invoked 1 1 0 [] in
    take first_call c ++ again call_rows (take call_cells (drop first_call c))

counts_table : List (Row Bool)
counts_table =
    -- "objects 1..32". Past row 32 stands call 1, which would be a good object of class 3
    (good (crowd 1) is true)
    ∷ (good (crowd object_rows) is true)
    ∷ (good (crowd 0) is false)
    ∷ (good (crowd (object_rows + 1)) is false)
    -- "calls 1..128"
    ∷ (good (counting 1 0) is false)
    ∷ (good (written (crowd 1) ((calls, pos (call_rows + 1)) ∷ [])) is false)
    -- "2,370 cells": not one fewer and not one more
    ∷ (good (take (all_cells - 1) (crowd 1)) is false)
    ∷ (good (crowd 1 ++ (pos 0 ∷ [])) is false)
    -- "unused ones 0": in the first row that is not in use, and in the last
    ∷ (good base is true)
    ∷ (good (set_object base (spare + 1) class (pos 1)) is false)
    ∷ (good (set_object base object_rows (attribute 7) (pos 1)) is false)
    ∷ (good (add_call base (over + 1) queued busy small 0 []) is false)
    ∷ (good (set_call base call_rows (local 7) (negsuc 0)) is false)
    ∷ []

counts : Holds counts_table
unfolding cells_open session_texts model_of good writing counting base crowd counts_table
counts = (refl, (refl, (refl, (refl, (refl, (refl, (refl, (refl, (refl, (refl, (refl, (refl, (refl, tt)))))))))))))

full_table : List (Row Bool)
full_table =
    -- "calls 1..128", all of them
    (good queue is true)
    ∷ []

full : Holds full_table
unfolding cells_open session_texts model_of good writing counting again queue full_table
full = (refl, tt)

objects_hold_table : List (Row Bool)
objects_hold_table =
    -- "each class exists"
    (good (set_object base spare class (pos 3)) is true)
    ∷ (good (set_object base spare class (pos 4)) is false)
    ∷ (good (set_object base spare class (negsuc 0)) is false)
    -- "attributes from attrs on are 0"
    ∷ (good (set_object base busy (attribute 2) (negsuc 0)) is true)
    ∷ (good (set_object base busy (attribute 3) (pos 1)) is false)
    ∷ (good (set_object base busy (attribute 7) (pos 1)) is false)
    ∷ (good (set_object base small (attribute 2) (pos 1)) is false)
    ∷ []

objects_hold : Holds objects_hold_table
unfolding cells_open session_texts model_of good writing counting base objects_hold_table
objects_hold = (refl, (refl, (refl, (refl, (refl, (refl, (refl, tt)))))))

running_hold_table : List (Row Bool)
running_hold_table =
    -- "an object's running label is 0 or a stage 4 call with that callee": no label, one not issued, one in another stage, one of another callee
    (good base is true)
    ∷ (good (set_object base spare running_label (negsuc 0)) is false)
    ∷ (good (set_object base spare running_label (pos (over + 1))) is false)
    ∷ (good (set_object base idle running_label (pos asleep)) is false)
    ∷ (good (set_object base idle running_label (pos current)) is false)
    -- "and each stage 4 call is its callee's running label": of none, and of another
    ∷ (good (set_object (set_call base asleep stage (pos running)) idle running_label (pos asleep)) is true)
    ∷ (good (set_call base asleep stage (pos running)) is false)
    ∷ (good (set_call base ready stage (pos running)) is false)
    ∷ (good (set_object base busy running_label (pos 0)) is false)
    ∷ []

running_hold : Holds running_hold_table
unfolding cells_open session_texts model_of good writing counting base running_hold_table
running_hold = (refl, (refl, (refl, (refl, (refl, (refl, (refl, (refl, (refl, tt)))))))))

numbers_hold_table : List (Row Bool)
numbers_hold_table =
    -- "Stage is 1..7"
    (good (set_call base sent stage (pos invoked)) is true)
    ∷ (good (set_call base over stage (pos replied)) is true)
    ∷ (good (set_call base sent stage (pos 0)) is false)
    ∷ (good (set_call base sent stage (pos 8)) is false)
    -- "caller 0..objects"
    ∷ (good (set_call base sent caller (pos spare)) is true)
    ∷ (good (set_call base sent caller (pos (spare + 1))) is false)
    ∷ (good (set_call base sent caller (negsuc 0)) is false)
    -- "callee 1..objects"
    ∷ (good (set_call base sent callee (pos spare)) is true)
    ∷ (good (set_call base sent callee (pos (spare + 1))) is false)
    ∷ (good (set_call base sent callee (pos 0)) is false)
    -- "method 0..7"
    ∷ (good (set_call base sent method (pos 7)) is true)
    ∷ (good (set_call base sent method (pos 8)) is false)
    ∷ (good (set_call base sent method (negsuc 0)) is false)
    ∷ []

numbers_hold_lem : Holds numbers_hold_table
unfolding cells_open session_texts model_of good writing counting base numbers_hold_table
numbers_hold_lem = (refl, (refl, (refl, (refl, (refl, (refl, (refl, (refl, (refl, (refl, (refl, (refl, (refl, tt)))))))))))))

unbound_hold_table : List (Row Bool)
unbound_hold_table =
    -- "In stages 1 and 2 args is 0..4"
    (good (add_call base sent invoked busy small 0 []) is true)
    ∷ (good (set_call base sent args (pos 4)) is true)
    ∷ (good (set_call base sent args (pos 5)) is false)
    ∷ (good (set_call (add_call base sent invoked busy small 0 []) sent args (pos 5)) is false)
    ∷ (good (set_call (add_call base sent invoked busy small 0 []) sent args (negsuc 0)) is false)
    -- "v cells from args on .. are 0"
    ∷ (good (set_call base sent (local 2) (negsuc 0)) is true)
    ∷ (good (set_call base sent (local 3) (pos 1)) is false)
    ∷ (good (set_call base sent (local 7) (pos 1)) is false)
    ∷ (good (set_call base sent args (pos 2)) is false)
    ∷ (good (set_call (add_call base sent invoked busy small 0 []) sent (local 0) (pos 1)) is false)
    -- "and line are 0"
    ∷ (good (set_call base sent line (pos 1)) is false)
    ∷ (good (set_call (add_call base sent invoked busy small 0 []) sent line (pos 1)) is false)
    ∷ []

unbound_hold : Holds unbound_hold_table
unfolding cells_open session_texts model_of good writing counting base unbound_hold_table
unbound_hold = (refl, (refl, (refl, (refl, (refl, (refl, (refl, (refl, (refl, (refl, (refl, (refl, tt))))))))))))

bound_hold_table : List (Row Bool)
bound_hold_table =
    -- "From stage 3 the callee's class has the method"
    (good (set_call base ready callee (pos idle)) is true)
    ∷ (good (set_call base ready callee (pos small)) is false)
    ∷ (good (set_call base ready method (pos 2)) is false)
    ∷ (good (set_call base sent stage (pos bound)) is false)
    -- "args is its params"
    ∷ (good (set_call base ready args (pos 1)) is false)
    ∷ (good (set_call base ready args (pos 3)) is false)
    ∷ (good (set_call base done args (pos 3)) is false)
    -- "line is inside it"
    ∷ (good (set_call base current line (pos 7)) is true)
    ∷ (good (set_call base current line (pos 8)) is false)
    ∷ (good (set_call base current line (negsuc 0)) is false)
    -- "v cells from locals on are 0"
    ∷ (good (set_call base ready (local 2) (pos 1)) is true)
    ∷ (good (set_call base ready (local 3) (pos 1)) is false)
    ∷ (good (set_call base ready (local 7) (pos 1)) is false)
    ∷ (good (set_call base over (local 0) (pos 1)) is false)
    ∷ []

bound_hold : Holds bound_hold_table
unfolding cells_open session_texts model_of good writing counting base bound_hold_table
bound_hold = (refl, (refl, (refl, (refl, (refl, (refl, (refl, (refl, (refl, (refl, (refl, (refl, (refl, (refl, tt))))))))))))))

cleared_hold_table : List (Row Bool)
cleared_hold_table =
    -- "Cleared is 0 or 1"
    (good (set_call base asleep cleared (pos 2)) is false)
    ∷ (good (set_call base asleep cleared (negsuc 0)) is false)
    -- "it is 1 only in stages 3 and 4"
    ∷ (good (set_call base sent cleared (pos 1)) is false)
    ∷ (good (set_call base done cleared (pos 1)) is false)
    ∷ (good (set_call base over cleared (pos 1)) is false)
    -- "at an await line"
    ∷ (good (set_call (set_call base current line (pos 2)) current cleared (pos 1)) is true)
    ∷ (good (set_call base current cleared (pos 1)) is false)
    ∷ (good (set_call base asleep line (pos 0)) is true)
    ∷ (good (set_call base asleep line (pos 1)) is false)
    -- "in stage 3 with cleared 0 the line is 0"
    ∷ (good (set_call (set_call base asleep cleared (pos 0)) asleep line (pos 0)) is true)
    ∷ (good (set_call base asleep cleared (pos 0)) is false)
    ∷ (good (set_call base ready line (pos 1)) is false)
    ∷ []

cleared_hold : Holds cleared_hold_table
unfolding cells_open session_texts model_of good writing counting base cleared_hold_table
cleared_hold = (refl, (refl, (refl, (refl, (refl, (refl, (refl, (refl, (refl, (refl, (refl, (refl, tt))))))))))))

-- asleep as if it had returned from a line
returned_at : ℕ → Cells
returned_at n = set_call (set_call (set_call base asleep stage (pos answered)) asleep cleared (pos 0)) asleep line (pos n)

values_hold_table : List (Row Bool)
values_hold_table =
    -- "Value is 0 below stage 5"
    (good (set_call base done value (pos 0)) is true)
    ∷ (good (set_call base over value (negsuc 2147483647)) is true)
    ∷ (good (set_call base sent value (pos 1)) is false)
    ∷ (good (set_call base ready value (negsuc 0)) is false)
    ∷ (good (set_call base asleep value (pos 1)) is false)
    ∷ (good (set_call base current value (pos 1)) is false)
    -- "in 5 to 7 the line is a return": any of the method's
    ∷ (good (returned_at 4) is true)
    ∷ (good (returned_at 7) is true)
    ∷ (good (returned_at 3) is false)
    ∷ (good (set_call (returned_at 3) asleep stage (pos replied)) is false)
    ∷ (good (set_call (returned_at 3) asleep stage (pos taken)) is false)
    ∷ (good (set_call base done line (pos 0)) is false)
    ∷ []

values_hold : Holds values_hold_table
unfolding cells_open session_texts model_of good writing counting base returned_at values_hold_table
values_hold = (refl, (refl, (refl, (refl, (refl, (refl, (refl, (refl, (refl, (refl, (refl, (refl, tt))))))))))))

callerless_hold_table : List (Row Bool)
callerless_hold_table =
    -- "Caller 0 stands only in stages 3, 4 and 7"
    (good (set_call base asleep caller nobody) is true)
    ∷ (good (set_call base sent method (pos 0)) is true)
    ∷ (good (set_call (add_call base sent invoked busy small 0 []) sent caller nobody) is false)
    ∷ (good (set_call (add_call base sent queued busy small 0 []) sent caller nobody) is false)
    ∷ (good (set_call base ended stage (pos answered)) is false)
    ∷ (good (set_call base ended stage (pos replied)) is false)
    ∷ (good (set_call (set_call base ended stage (pos replied)) ended caller (pos busy)) is true)
    -- "with method 0"
    ∷ (good (set_call base ready caller nobody) is false)
    -- "of a class with run 1"
    ∷ (good (set_call base over caller nobody) is false)
    ∷ []

callerless_hold : Holds callerless_hold_table
unfolding cells_open session_texts model_of good writing counting base callerless_hold_table
callerless_hold = (refl, (refl, (refl, (refl, (refl, (refl, (refl, (refl, (refl, tt)))))))))
