-- Vocabulary of the code: the lines that the runner writes of a refused model. Assumes nothing.
use Rattle.std.specs.Prelude.{◌++◌}
use Rattle.terms.specs.Bytes.{Text, bytes}
use Rattle.text.specs.declared.Verdict.{Verdict}
use Rattle.session.specs.Shown.{shown_line}

-- "A refused model gives only `refused=` and `line=`."
unfoldable pub refusal_lines : Verdict → Text
refusal_lines v = shown_line (bytes "refused=") v.number ++ shown_line (bytes "line=") v.line
