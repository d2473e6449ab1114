-- A proof that computes with the definitions of this crate and of all below it says `unfolding rules_open`. Assumes nothing.
use Rattle.rules.specs.Events
use Rattle.rules.specs.Exec
use Rattle.rules.specs.Kinds
use Rattle.rules.specs.Messages
use Rattle.rules.specs.Next
use Rattle.rules.specs.Step
use Rattle.cells.proofs.Open.{cells_open}

unfoldable pub rules_open : Unit {0}
unfolding cells_open Events.performing Events.executing Events.happening Events.events_of Exec.stored Exec.next_object Exec.next_row
    Exec.object_left Exec.row_left Exec.class_runs Exec.with_object Exec.with_call Exec.here Exec.worked_out Exec.onward Exec.jumped
    Exec.assigned Exec.made Exec.created Exec.issued Exec.took_reply Exec.freed Exec.crossed Exec.suspended Exec.awaited Exec.branched
    Exec.stage_returned Exec.returned Exec.performed Exec.exec Kinds.kind_number Kinds.kind_of Kinds.in_use Kinds.choose Messages.arrive
    Messages.bind Messages.ready_at Messages.ready Messages.started Messages.start_in Messages.start Messages.deliver Next.answer_of
    Next.cells_after Next.must Next.working Next.working_all Step.ruled Step.next
rules_open = tt
