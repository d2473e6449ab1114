-- `terms::leaves::digits`: the digits from here on give what those from the start give, and the number is at most `most`. The measure is what is
-- left of the text.
use Prim.Native.Nat.{◌-◌, ◌≤◌}
use lib.ListN.{length}
use mathlib.Core.Path.{◌≡◌}
use Rattle.terms.specs.Leaves.{counting}
use Rattle.terms.specs.Parsed.{repeated}
use Rattle.terms.proofs.leaves.digits.Given as goal

abbrev pub invariant-loop-d : goal.invariant-loop-d
invariant-loop-d l =
    (l.value ≤ l.most) × (repeated (counting l.most l.s) (length l.s) l.at l.n ≡ repeated (counting l.most l.s) (length l.s) l.end l.value)

abbrev pub decreases-loop-d : goal.decreases-loop-d
decreases-loop-d l = length l.s - l.end
