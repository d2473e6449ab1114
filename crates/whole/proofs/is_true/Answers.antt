-- `whole::is_true`: a test of the bits is the test of the number.
use mathlib.Core.Bool.{not}
use Rattle.std.proofs.Common.{arith, ap, pos}
use Rattle.whole.specs.Whole.{is_true}
use Rattle.whole.proofs.Ranges.{same_bits}
use Rattle.whole.proofs.is_true.Goals as goal

pub returns : goal.returns
unfolding is_true
returns c = ap not (same_bits c.args.x (pos 0) c.ranges.x (record { sfits = omega arith }))
