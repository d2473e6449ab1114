-- `entries::driving::first_in`: a kind with no accepted choice is passed over.
use mathlib.Core.Path.{refl}
use Rattle.entries.proofs.Searching.{in_passed}
use Rattle.entries.proofs.driving.first_in.Goals as goal

pub loop-kind-preserved : goal.loop-kind-preserved
loop-kind-preserved c =
    in_passed _ _ _ _ c.loop-kind.invariant.1 c.loop-kind-test.true _ refl _ c.loop-kind.invariant.0 _ c.in_use-count.ensures.value _ _ c.first_of.ensures.first
    c.if-first_of.false
