-- arrive, bind, start and deliver: the rules of a label. Assumes nothing.
use Rattle.std.specs.Prelude.{ℕ, List, ◌++◌, pos, None, Some}
use Rattle.whole.specs.Whole.{Worked, is_true, eq_z, nat}
use Rattle.whole.specs.Refusals.{not_invoked, not_queued, no_such_method, not_bound, object_busy, not_ready, not_answered}
use Rattle.layout.specs.Layout.{Cells, Write, of_object, of_call, to_object, running_label, callee}
use Rattle.layout.specs.Stages.{invoked, queued, bound, running, answered, replied, in_stage, staged}
use Rattle.code.specs.Statements.{Statement, skip, set, new, call, get, await, if, else, fi, while, od, return}
use Rattle.model.specs.Model.{Model}
use Rattle.cells.specs.Standing.{body_of, standing_of}
use Rattle.rules.specs.Exec.{here, worked_out}
use Rattle.rules.specs.Next.{Next, refused, moved, must, working}

-- "arrive L (2): stage 1 to 2."
unfoldable pub arrive : Cells → ℕ → Next
arrive c l = must (in_stage c l invoked) not_invoked (moved (staged c l queued))

-- "bind L (3): 2 to 3, if the callee's class has the method with as many params as args."
unfoldable pub bind : Model → Cells → ℕ → Next
bind m c l = must (in_stage c l queued) not_queued (elim (body_of m c l) [
  | None ↦ refused no_such_method
  | Some b ↦ moved (staged c l bound)
])

-- "A call is ready unless its line is an `await` whose guard is not enabled.": 1 where it is ready, 0 where it is not, or out of range
unfoldable pub ready_at : Statement Worked Worked → Worked
ready_at skip = Some (pos 1)
ready_at (set x w) = Some (pos 1)
ready_at (new x k ws) = Some (pos 1)
ready_at (call x w j ws) = Some (pos 1)
ready_at (get x y) = Some (pos 1)
ready_at (await g) = g
ready_at (if w) = Some (pos 1)
ready_at else = Some (pos 1)
ready_at fi = Some (pos 1)
ready_at (while w) = Some (pos 1)
ready_at od = Some (pos 1)
ready_at (return w) = Some (pos 1)

unfoldable pub ready : Model → Cells → ℕ → ℕ → Worked
ready m c o l = elim (standing_of m c l) [
  | None ↦ Some (pos 1)
  | Some at ↦ ready_at (worked_out (here c o l) at.statement)
]

-- the callee runs the call
unfoldable pub started : Cells → ℕ → ℕ → List Write
started c o l = staged c l running ++ to_object o running_label (pos l)

-- "start L (4): 3 to 4 in an idle callee."
unfoldable pub start_in : Model → Cells → ℕ → ℕ → Next
start_in m c o l =
    must (in_stage c l bound) not_bound
    (must (eq_z (of_object c o running_label) (pos 0)) object_busy
    (working (ready m c o l) (λ z. must (is_true z) not_ready (moved (started c o l)))))

unfoldable pub start : Model → Cells → ℕ → Next
start m c l = start_in m c (nat (of_call c l callee)) l

-- "deliver L (5): 5 to 6."
unfoldable pub deliver : Cells → ℕ → Next
deliver c l = must (in_stage c l answered) not_answered (moved (staged c l replied))
