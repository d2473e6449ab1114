-- `forms::returned`: a value out of range refuses; another is written, then the stage, and then the object's running label.
use Rattle.std.proofs.Common.{refl, ap, ◌∙◌, arith}
use Rattle.whole.proofs.Ranges.{handed}
use Rattle.layout.specs.Layout.{written, to_call, value}
use Rattle.layout.specs.Stages.{staged}
use Rattle.rules.specs.Exec as Exec
use Rattle.forms.proofs.Written.{all_written, then, staged_then, there, worked_out_lem, did_not_fit}
use Rattle.forms.proofs.returned.Goals as goal

pub returns-in_err-z : goal.returns-in_err-z
returns-in_err-z c m st = did_not_fit _ _ _ _ _ c.in_err-z.ensures.value c.from_residual.ensures.1

pub returns : goal.returns
unfolding Exec.returned Exec.freed
returns c m st =
    let cells = c.args.cells.now in
    let l = c.args.here.label.0 in
    worked_out_lem _ _ _ _ c.in_ok-z.z _ (there _ _ _ c.in_ok-z.ensures.value)
    (all_written _ _ _
    (then _ _ _ _
    (staged_then _ _ _ _ (c.to_call.ensures ∙ ap (λ z. written cells (to_call cells l value z)) (handed _ _ (omega arith) refl)) _ _
    (c.to_stage.ensures ∙ ap (λ n. written c.to_call.new.cells (staged c.to_call.new.cells l n)) (c.stage_returned-stage.ensures m st)))
    _ c.freed.ensures))
