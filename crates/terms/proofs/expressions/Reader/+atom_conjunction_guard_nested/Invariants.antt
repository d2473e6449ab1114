-- The readers of guards, with the measure of the readers of expressions.
use Rattle.std.proofs.Common.{◌-◌, length}
use Rattle.terms.specs.Guards.{ampersand, bar, guard}
use Rattle.terms.specs.Vocabulary.Readers.{atom_at, conjunction_at}
use Rattle.terms.proofs.Nesting.{weight}
use Rattle.terms.proofs.Series.{Joined}
use Rattle.terms.proofs.expressions.Reader.+atom_conjunction_guard_nested.Given as goal

abbrev pub decreases-nested : goal.decreases-nested
decreases-nested g l = weight (length l.self.now.text.now) l.left l.at 0

abbrev pub decreases-atom : goal.decreases-atom
decreases-atom g l = weight (length l.self.now.text.now) l.left l.at 1

abbrev pub decreases-conjunction : goal.decreases-conjunction
decreases-conjunction g l = weight (length l.self.now.text.now) l.left l.at 3

abbrev pub decreases-guard : goal.decreases-guard
decreases-guard g l = weight (length l.self.now.text.now) l.left l.at 5

-- where each loop has come: what is read from here on is what is read from the start
abbrev pub invariant-conjunction-loop-j : goal.invariant-conjunction-loop-j
invariant-conjunction-loop-j g l =
    Joined ampersand (g.R.GuardReading.guard_operations l.self.reading).join l.self.text.now
    (atom_at (g.R.Reading.operations l.self.reading) (g.R.GuardReading.guard_operations l.self.reading) l.self.limits l.self.text.now l.left)
    (conjunction_at (g.R.Reading.operations l.self.reading) (g.R.GuardReading.guard_operations l.self.reading) l.self.limits l.self.text.now l.left l.at) l.at l.end l.value

abbrev pub decreases-conjunction-loop-j : goal.decreases-conjunction-loop-j
decreases-conjunction-loop-j g l = length l.self.text.now - l.end

abbrev pub invariant-guard-loop-j : goal.invariant-guard-loop-j
invariant-guard-loop-j g l =
    Joined bar (g.R.GuardReading.guard_operations l.self.reading).join l.self.text.now
    (conjunction_at (g.R.Reading.operations l.self.reading) (g.R.GuardReading.guard_operations l.self.reading) l.self.limits l.self.text.now l.left)
    (guard (g.R.Reading.operations l.self.reading) (g.R.GuardReading.guard_operations l.self.reading) l.self.limits l.self.text.now l.left l.at) l.at l.end l.value

abbrev pub decreases-guard-loop-j : goal.decreases-guard-loop-j
decreases-guard-loop-j g l = length l.self.text.now - l.end
