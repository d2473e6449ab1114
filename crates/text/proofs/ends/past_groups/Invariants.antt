-- `text::ends::past_groups`: what the loop keeps. What was passed is plain.
use Rattle.std.proofs.Common.{◌≡◌, ◌-◌, ◌≤◌, take, drop, true}
use Rattle.text.specs.Lines.{plain_bytes}
use Rattle.text.proofs.ends.past_groups.Given as goal

abbrev pub invariant-loop-i : goal.invariant-loop-i
invariant-loop-i l = (l.at ≤ l.i) × (l.i ≤ l.stop) × (plain_bytes (take (l.i - l.at) (drop l.at l.text)) ≡ true)

abbrev pub decreases-loop-i : goal.decreases-loop-i
decreases-loop-i l = l.stop - l.i
