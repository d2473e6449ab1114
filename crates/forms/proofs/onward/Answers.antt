-- `forms::onward`: the line that was written is the one after that of the call.
use Rattle.std.proofs.Common.{◌+◌, ap}
use Rattle.rules.specs.Exec as Exec
use Rattle.forms.proofs.Written.{line_written}
use Rattle.forms.proofs.onward.Goals as goal

pub returns : goal.returns
unfolding Exec.onward
returns c m st at = line_written _ _ _ _ _ (ap (◌+ 1) at) c.to_line.ensures
