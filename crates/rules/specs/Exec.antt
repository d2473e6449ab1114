-- "exec O (kind 1): O's running call performs its line." Every value and every number that a rule writes is of the cells before it. Assumes
-- nothing.
use Rattle.std.specs.Prelude.{ℕ, ◌+◌, Bool, true, false, List, [], ◌∷◌, ◌++◌, ltb, ℤ, pos, None, Some, slice_get}
use Rattle.whole.specs.Whole.{Worked, is_true, eq_z}
use Rattle.whole.specs.Plain.{whenever}
use Rattle.whole.specs.Refusals.{object_idle, past_the_end, callee_no_object, object_rows_full, call_rows_full, reply_not_in}
use Rattle.layout.specs.Layout.{Cells, Write, object_rows, call_rows, objects, calls, of_object, of_call, to_object, to_call, running_label, attribute, caller, line, cleared, value, local, new_object, new_call}
use Rattle.layout.specs.Stages.{invoked, bound, running, answered, taken, nobody, objects_in_use, rows_in_use, object_of, label_of, reply_for, staged}
use Rattle.terms.specs.declared.Variable.{Variable}
use Rattle.terms.specs.declared.Variable.TheVariants.{Attribute, Local}
use Rattle.terms.specs.Values.{Surroundings, held, value_of, guard_of}
use Rattle.code.specs.Statements.{Statement, skip, set, new, call, get, await, if, else, fi, while, od, return, Code, map_statement}
use Rattle.code.specs.Partners.{goes_to}
use Rattle.model.specs.Model.{Model, runs}
use Rattle.cells.specs.Standing.{Standing, standing_of, shapes_of}
use Rattle.rules.specs.Next.{Next, refused, moved, must, working, working_all}

-- a value stored in a variable of a call
unfoldable pub stored : Cells → ℕ → ℕ → Variable → ℤ → List Write
stored c o l (Attribute i) z = to_object o (attribute i) z
stored c o l (Local i) z = to_call c l (local i) z

-- the next object: the number after the last in use. And the row of the next call, whose label is X's
unfoldable pub next_object : Cells → ℕ
next_object c = objects_in_use c + 1

unfoldable pub next_row : Cells → ℕ
next_row c = rows_in_use c + 1

-- a row is left
unfoldable pub object_left : Cells → Bool
object_left c = ltb (objects_in_use c) object_rows

unfoldable pub row_left : Cells → Bool
row_left c = ltb (rows_in_use c) call_rows

-- a class of the model has run 1
unfoldable pub class_runs : Model → ℕ → Bool
class_runs m k = elim (slice_get m k) [ None ↦ false | Some class ↦ runs class ]

-- the next object, of a class, with arguments in its first attributes and a running label
unfoldable pub with_object : Cells → ℕ → ℕ → List ℤ → List Write
with_object c k l zs = (objects, pos (next_object c)) ∷ new_object (next_object c) k l zs

-- the next label, in a stage: its caller, callee, method and arguments
unfoldable pub with_call : Cells → ℕ → ℕ → ℕ → ℕ → List ℤ → List Write
with_call c stage by to j zs = (calls, pos (next_row c)) ∷ new_call (next_row c) stage by to j zs

-- what a call sees, and a statement at its line with its values worked out there
unfoldable pub here : Cells → ℕ → ℕ → Surroundings
here c o l = record { cells = c; object = o; label = l }

unfoldable pub worked_out : Surroundings → Code → Statement Worked Worked
worked_out e = map_statement (value_of e) (guard_of e)

-- an object's running call, which stands at a line
module _ (m : Model) (c : Cells) (o l : ℕ) (at : Standing) where
  -- "An accepted line goes on to the next one unless said otherwise"
  unfoldable pub onward : List Write
  onward = to_call c l line (pos (at.at + 1))

  -- the line that a line of a block goes to
  unfoldable pub jumped : List Write
  jumped = to_call c l line (pos (goes_to (shapes_of at.body) at.at))

  -- "`set` stores."
  unfoldable pub assigned : Variable → ℤ → Next
  assigned x z = moved (stored c o l x z ++ onward)

  -- "`new` makes the next object, arguments in its first attributes, and stores its number in X. Where the class has run 1 it also issues
  -- the next label: caller 0, method 0, stage 4, running there."
  unfoldable pub made : ℕ → List ℤ → List Write
  made k zs = elim (class_runs m k) [
    | true ↦ with_object c k (next_row c) zs ++ with_call c running 0 (next_object c) 0 []
    | false ↦ with_object c k 0 zs
  ]

  unfoldable pub created : Variable → ℕ → List ℤ → Next
  created x k zs =
      must (object_left c) object_rows_full
      (must (whenever (class_runs m k) (row_left c)) call_rows_full
      (moved (made k zs ++ stored c o l x (pos (next_object c)) ++ onward)))

  -- "`call` issues the next label: caller this object, callee the value of E, method J, arguments in v0 on, stage 1. X gets the label."
  unfoldable pub issued : Variable → ℤ → ℕ → List ℤ → Next
  issued x z j zs = elim (object_of c z) [
    | None ↦ refused callee_no_object
    | Some to ↦ must (row_left c) call_rows_full (moved (with_call c invoked o to j zs ++ stored c o l x (pos (next_row c)) ++ onward))
  ]

  -- "`get`: if X's value is a label of stage 6 whose caller is this object, Y gets its value and it goes to stage 7."
  unfoldable pub took_reply : Variable → Variable → Next
  took_reply x y = elim (reply_for c o (held (here c o l) x)) [
    | None ↦ refused reply_not_in
    | Some from ↦ moved (staged c from taken ++ stored c o l y (of_call c from value) ++ onward)
  ]

  -- the object is idle
  unfoldable pub freed : List Write
  freed = to_object o running_label (pos 0)

  -- "`await`: guard enabled, go on and set cleared 0. Otherwise stage 3, cleared 1, object idle, line kept."
  unfoldable pub crossed : List Write
  crossed = to_call c l cleared (pos 0) ++ onward

  unfoldable pub suspended : List Write
  suspended = staged c l bound ++ to_call c l cleared (pos 1) ++ freed

  unfoldable pub awaited : ℤ → Next
  awaited z = elim (is_true z) [ true ↦ moved crossed | false ↦ moved suspended ]

  -- "`if` false goes to the line after its `else`", "`while` false to the line after its `od`"
  unfoldable pub branched : ℤ → Next
  branched z = elim (is_true z) [ true ↦ moved onward | false ↦ moved jumped ]

  -- "goes to stage 5, or to 7 where caller is 0"
  unfoldable pub stage_returned : ℕ
  stage_returned = elim (eq_z (of_call c l caller) nobody) [ true ↦ taken | false ↦ answered ]

  -- "`return` stores the value, frees the object"
  unfoldable pub returned : ℤ → Next
  returned z = moved (to_call c l value z ++ staged c l stage_returned ++ freed)

  -- a line performed, its values worked out: "Arguments are worked out before X changes."
  unfoldable pub performed : Statement Worked Worked → Next
  performed skip = moved onward
  performed (set x w) = working w (assigned x)
  performed (new x k ws) = working_all ws (created x k)
  performed (call x w j ws) = working w (λ z. working_all ws (issued x z j))
  performed (get x y) = took_reply x y
  performed (await g) = working g awaited
  performed (if w) = working w branched
  performed else = moved jumped
  performed fi = moved onward
  performed (while w) = working w branched
  performed od = moved jumped
  performed (return w) = working w returned

-- the statement at the line of the object's running call
unfoldable pub exec : Model → Cells → ℕ → Next
exec m c o = elim (label_of c (of_object c o running_label)) [
  | None ↦ refused object_idle
  | Some l ↦ elim (standing_of m c l) [
    | None ↦ refused past_the_end
    | Some at ↦ performed m c o l at (worked_out (here c o l) at.statement)
  ]
]
