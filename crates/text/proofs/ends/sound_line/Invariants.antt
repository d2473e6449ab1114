-- `text::ends::sound_line`: what the loop keeps. What was passed is plain, so that the lines from here decide.
use Rattle.std.proofs.Common.{◌≡◌, drop}
use Rattle.text.specs.Lines.{lines}
use Rattle.text.specs.Vocabulary.LineEnds.{sound_end}
use Rattle.text.proofs.SoundEnds.{end_from}
use Rattle.text.proofs.ends.sound_line.Given as goal

abbrev pub invariant-loop-i : goal.invariant-loop-i
invariant-loop-i l = sound_end l.text l.at ≡ end_from l.at l.i (lines (drop l.i l.text))
