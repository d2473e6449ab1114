-- What happens to a call in a step: read off the choice, the cells before and the cells after, and never off a stage. Assumes nothing.
use Rattle.std.specs.Prelude.{ℕ, true, false, List, [], ◌∷◌, None, Some}
use Rattle.whole.specs.Whole.{nat, eq_z}
use Rattle.layout.specs.Layout.{Cells, of_object, of_call, running_label, line}
use Rattle.layout.specs.Stages.{objects_in_use, label_of}
use Rattle.terms.specs.Values.{held}
use Rattle.code.specs.Statements.{Code, skip, set, new, call, get, await, if, else, fi, while, od, return}
use Rattle.model.specs.Model.{Model}
use Rattle.cells.specs.Standing.{standing_of}
use Rattle.rules.specs.declared.Choice.{Choice}
use Rattle.rules.specs.Exec.{here, class_runs}
use Rattle.rules.specs.declared.Kind.{Kind}
use Rattle.rules.specs.declared.Kind.TheVariants as Kind
use Rattle.rules.specs.Kinds.{kind_of}
use Rattle.rules.specs.Next.{refused, moved, cells_after}
use Rattle.rules.specs.Step.{next}

-- what happens to a label: an object issues it, or creation or the start sets it running; its call arrives, is bound and returns; its reply is
-- delivered and taken
pub data Event : Type 0 where
  issuing spawning arriving binding returning delivering taking : ℕ → Event

-- of an object that performs a line in a call: X and the object's new call as the cells after have them, the label of a reply as the cells
-- before do. A `get` that leaves its line where it was takes nothing
module _ (m : Model) (c d : Cells) (o l : ℕ) where
  unfoldable pub performing : Code → List Event
  performing skip = []
  performing (set x e) = []
  performing (new x k es) = elim (class_runs m k) [ true ↦ spawning (nat (of_object d (objects_in_use d) running_label)) ∷ [] | false ↦ [] ]
  performing (call x e j es) = issuing (nat (held (here d o l) x)) ∷ []
  performing (get x y) = elim (eq_z (of_call c l line) (of_call d l line)) [ true ↦ [] | false ↦ taking (nat (held (here c o l) x)) ∷ [] ]
  performing (await g) = []
  performing (if e) = []
  performing else = []
  performing fi = []
  performing (while e) = []
  performing od = []
  performing (return e) = returning l ∷ []

-- by the running call of the object, and the statement at its line before
unfoldable pub executing : Model → Cells → Cells → ℕ → List Event
executing m c d o = elim (label_of c (of_object c o running_label)) [
  | None ↦ []
  | Some l ↦ elim (standing_of m c l) [ None ↦ [] | Some at ↦ performing m c d o l at.statement ]
]

-- of an accepted choice, by its kind
unfoldable pub happening : Model → Cells → Cells → Kind → ℕ → List Event
happening m c d Kind.Exec n = executing m c d n
happening m c d Kind.Arrive n = arriving n ∷ []
happening m c d Kind.Bind n = binding n ∷ []
happening m c d Kind.Start n = []
happening m c d Kind.Deliver n = delivering n ∷ []

-- of any choice: a refused one is no event
unfoldable pub events_of : Model → Cells → Choice → List Event
events_of m c choice = elim (next m c choice) [
  | refused n ↦ []
  | moved ws ↦ elim (kind_of choice.kind) [ None ↦ [] | Some k ↦ happening m c (cells_after c (moved ws)) k (nat choice.number) ]
]

-- "Start writes: .. call 1": the first of all
abbrev pub first_events : List Event
first_events = spawning 1 ∷ []
