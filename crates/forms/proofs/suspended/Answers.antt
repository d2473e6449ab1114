-- `forms::suspended`: the stage, `cleared` and the object's running label are written one after the other.
use Rattle.rules.specs.Exec as Exec
use Rattle.forms.proofs.Written.{all_written, then, call_then}
use Rattle.forms.proofs.suspended.Goals as goal

pub returns : goal.returns
unfolding Exec.suspended Exec.freed
returns c m st = all_written _ _ _ (then _ _ _ _ (call_then _ _ _ _ c.to_stage.ensures _ _ _ c.to_call.ensures) _ c.freed.ensures)
