-- `layout::writers::to_row`: the values that are left, written from here, give what all of them give.
use Rattle.std.proofs.Common.{◌≡◌, ◌+◌, drop}
use Rattle.layout.specs.Vocabulary.Found.{row_to}
use Rattle.layout.proofs.writers.to_row.Given as goal

abbrev pub invariant-loop-i : goal.invariant-loop-i
invariant-loop-i l =
    let b = l.block in
    row_to b.first b.rows b.width l.cells l.row (l.from + l.i) (drop l.i l.values) ≡ row_to b.first b.rows b.width l.initial.cells l.row l.from l.values
