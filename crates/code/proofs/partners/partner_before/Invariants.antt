-- `code::partners::partner_before`: what the loop keeps. The partner is looked for below line j, with so many blocks closed before line i.
use Prim.Native.Nat.{◌+◌, ◌≤◌}
use Rattle.code.proofs.Searches.{Backward}
use Rattle.code.specs.Vocabulary.Shapes.{shapes_in}
use Rattle.code.proofs.partners.partner_before.Given as goal

abbrev pub invariant-loop-j : goal.invariant-loop-j
invariant-loop-j l = (l.closed + l.j ≤ l.i) × Backward (shapes_in l.lines) l.i l.j l.closed
