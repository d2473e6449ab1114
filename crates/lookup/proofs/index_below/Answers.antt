-- `lookup::index_below`: a natural number that is not below the count.
use Rattle.std.proofs.Common.{sym, ap, ◌∙◌, to_z-of_z}
use Rattle.whole.specs.Whole.{natural}
use Rattle.lookup.proofs.Saying.{index_past}
use Rattle.lookup.proofs.index_below.Goals as goal

pub returns-else-i-count : goal.returns-else-i-count
returns-else-i-count c = index_past _ _ _ (ap natural (sym (to_z-of_z c.ranges.z)) ∙ sym c.in_ok-i.ensures) c.if-i-count.false
