-- `forms::awaited`: a value out of range refuses, and nothing is written.
use Rattle.forms.proofs.Written.{did_not_fit}
use Rattle.forms.proofs.awaited.Goals as goal

pub returns-in_err-z : goal.returns-in_err-z
returns-in_err-z c m st at = did_not_fit _ _ _ _ _ c.in_err-z.ensures.value c.from_residual.ensures.1
