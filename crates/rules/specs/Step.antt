-- One choice: a kind with its number. Assumes nothing.
use Rattle.std.specs.Prelude.{ℕ, None, Some}
use Rattle.whole.specs.Refusals.{not_in_use}
use Rattle.layout.specs.Layout.{Cells}
use Rattle.layout.specs.Stages.{up_to}
use Rattle.model.specs.Model.{Model}
use Rattle.rules.specs.declared.Choice.{Choice}
use Rattle.rules.specs.declared.Kind.{Kind}
use Rattle.rules.specs.declared.Kind.TheVariants as Kind
use Rattle.rules.specs.Kinds.{kind_of, in_use}
use Rattle.rules.specs.Next.{Next, refused}
use Rattle.rules.specs.Exec as Exec
use Rattle.rules.specs.Messages as Messages

-- a rule at an object or a label in use
unfoldable pub ruled : Model → Cells → Kind → ℕ → Next
ruled m c Kind.Exec n = Exec.exec m c n
ruled m c Kind.Arrive n = Messages.arrive c n
ruled m c Kind.Bind n = Messages.bind m c n
ruled m c Kind.Start n = Messages.start m c n
ruled m c Kind.Deliver n = Messages.deliver c n

-- "then the choice: 12, then the row's order"
unfoldable pub next : Model → Cells → Choice → Next
next m c choice = elim (kind_of choice.kind) [
  | None ↦ refused not_in_use
  | Some k ↦ elim (up_to (in_use c k) choice.number) [ None ↦ refused not_in_use | Some n ↦ ruled m c k n ]
]
