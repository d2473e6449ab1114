-- `lookup::class_runs`: a class that is there has a row.
use Rattle.std.proofs.Common.{arith}
use Rattle.lookup.proofs.Saying.{class_few}
use Rattle.lookup.proofs.class_runs.Goals as goal

pub row-requires : goal.row-requires
row-requires c = record { row_bound = omega (arith, class_few _ c.table.invariant c.args.class (omega arith)) }
