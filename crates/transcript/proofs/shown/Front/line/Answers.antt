-- `transcript::shown::Front::line`: the name, the number and the LF, each written behind the one before. Assumes nothing.
use Rattle.session.specs.Shown.{shown_line}
use Rattle.transcript.proofs.Storing.{adds_after}
use Rattle.transcript.proofs.shown.Front.line.Goals as goal

pub returns-clause-adds : goal.returns-clause-adds
unfolding shown_line
returns-clause-adds c = adds_after (adds_after c.put.ensures c.number.ensures.adds) c.put-2.ensures
