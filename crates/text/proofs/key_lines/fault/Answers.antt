-- `text::key_lines::fault`: a sound line is refused by the number itself.
use Rattle.std.proofs.Common.{sym, ◌∙◌}
use Rattle.text.proofs.KeyLines.{fault_sound}
use Rattle.text.proofs.SoundEnds.{sound_found}
use Rattle.text.proofs.key_lines.fault.Goals as goal

pub returns-in-Some : goal.returns-in-Some
returns-in-Some c = sym (fault_sound _ _ _ _ (sound_found _ _ _ (sym c.line_at.ensures ∙ c.in-Some.is)))
