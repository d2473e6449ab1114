-- "Stages: 1 invoked, 2 queued, 3 bound (or suspended), 4 running, 5 answered, 6 reply in, 7 taken." What the stages and the callers say of
-- a number: whether it is an object or a label in use, and whether a reply is in. Assumes nothing.
use Rattle.std.specs.Prelude.{ℕ, Bool, ◌&&◌, List, ℤ, pos, Option, None, Some}
use Rattle.whole.specs.Plain.{only_if}
use Rattle.whole.specs.Whole.{between, eq_z, nat}
use Rattle.layout.specs.Layout.{Cells, Write, read, objects, calls, of_call, to_call, stage, caller}

abbrev pub invoked : ℕ
invoked = 1

abbrev pub queued : ℕ
queued = 2

abbrev pub bound : ℕ
bound = 3

abbrev pub running : ℕ
running = 4

abbrev pub answered : ℕ
answered = 5

abbrev pub replied : ℕ
replied = 6

abbrev pub taken : ℕ
taken = 7

-- "Object 0 is nobody."
abbrev pub nobody : ℤ
nobody = pos 0

-- how many objects and how many call rows are in use
unfoldable pub objects_in_use : Cells → ℕ
objects_in_use c = nat (read c objects)

unfoldable pub rows_in_use : Cells → ℕ
rows_in_use c = nat (read c calls)

-- a number that is one of the first so many, from 1 on
unfoldable pub up_to : ℕ → ℤ → Option ℕ
up_to n z = only_if (between (pos 1) (pos n) z) (nat z)

-- an object number in use: 1..objects
unfoldable pub object_of : Cells → ℤ → Option ℕ
object_of c z = up_to (objects_in_use c) z

-- a label in use: 1..calls
unfoldable pub label_of : Cells → ℤ → Option ℕ
label_of c z = up_to (rows_in_use c) z

-- the stage of a label
unfoldable pub stage_of : Cells → ℕ → ℤ
stage_of c l = of_call c l stage

-- a call in a stage, and in one of several from a first to a last
unfoldable pub in_stage : Cells → ℕ → ℕ → Bool
in_stage c l s = eq_z (stage_of c l) (pos s)

unfoldable pub in_stages : Cells → ℕ → ℕ → ℕ → Bool
in_stages c l first last = between (pos first) (pos last) (stage_of c l)

-- every change of a call's stage
unfoldable pub staged : Cells → ℕ → ℕ → List Write
staged c l s = to_call c l stage (pos s)

-- "of stage 6 whose caller is this object"
unfoldable pub is_reply : Cells → ℕ → ℕ → Bool
is_reply c o l = in_stage c l replied && eq_z (of_call c l caller) (pos o)

-- "a label of stage 6 whose caller is this object"
unfoldable pub reply_for : Cells → ℕ → ℤ → Option ℕ
reply_for c o z = elim (label_of c z) [ None ↦ None | Some l ↦ only_if (is_reply c o l) l ]
