-- `entries::on_model`: the text refused, and what is known of one that is accepted.
use mathlib.Core.Path.{sym}
use native.Mathlib.Omega.{arith}
use Rattle.model.proofs.Knowing.{known_read}
use Rattle.whole.proofs.Tested.{passed_on}
use Rattle.entries.proofs.Outcomes.{text_refused, all_there}
use Rattle.entries.proofs.on_model.Goals as goal

pub returns-in_err-read-clause-refused : goal.returns-in_err-read-clause-refused
returns-in_err-read-clause-refused c = rw (passed_on c.from_residual.ensures.1) (text_refused _ _ _ (sym c.in_err-read.ensures.value))

pub returns-clause-goes_on : goal.returns-clause-goes_on
returns-clause-goes_on c = all_there _ _ _ (sym c.in_ok-read.ensures.value) (omega arith)

pub returns-clause-known : goal.returns-clause-known
returns-clause-known c = known_read _ _ _ c.in_ok-read.ensures.sized _ (sym c.in_ok-read.ensures.value) c.read.ensures.belongs
