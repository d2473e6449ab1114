-- `forms::jumped`: the line that was written is the one that the block's line goes to.
use Rattle.rules.specs.Exec as Exec
use Rattle.forms.proofs.Written.{line_written}
use Rattle.forms.proofs.jumped.Goals as goal

pub returns : goal.returns
unfolding Exec.jumped
returns c m st to = line_written _ _ _ _ _ to c.to_line.ensures
