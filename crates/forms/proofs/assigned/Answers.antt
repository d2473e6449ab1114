-- `forms::assigned`: the variable is written first, and then the next line.
use Rattle.std.proofs.Common.{ap, ◌∙◌, to_z-of_z}
use Rattle.layout.specs.Layout.{written}
use Rattle.rules.specs.Exec as Exec
use Rattle.forms.proofs.Written.{onward_then}
use Rattle.forms.proofs.assigned.Goals as goal

pub returns : goal.returns
unfolding Exec.assigned
returns c m st at =
    let cells = c.args.cells.now in
    let h = c.args.running.here in
    onward_then cells _ _ _
    (c.stored.ensures ∙ ap (λ z. written cells (Exec.stored cells h.object.0 h.label.0 c.args.x z)) (to_z-of_z c.ranges.z))
    m _ _ st _ (c.onward.ensures m st at)
