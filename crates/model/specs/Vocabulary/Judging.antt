-- Vocabulary of the code: what judging gives the code: nothing more of an accepted text, or the verdict. Assumes nothing.
use Rattle.std.specs.Prelude.{Result, Ok, Err}
use Rattle.text.specs.declared.Verdict.{Verdict}
use Rattle.model.specs.Judge.{Judged, refusal, model}

unfoldable pub accepted_or : Judged → Result (Unit {0}) Verdict
accepted_or (refusal v) = Err v
accepted_or (model m) = Ok tt
