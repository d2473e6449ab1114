-- `forms::crossed`: `cleared` is written first, and then the next line.
use Rattle.rules.specs.Exec as Exec
use Rattle.forms.proofs.Written.{onward_then}
use Rattle.forms.proofs.crossed.Goals as goal

pub returns : goal.returns
unfolding Exec.crossed
returns c m st at = onward_then _ _ _ _ c.to_call.ensures m _ _ st _ (c.onward.ensures m st at)
