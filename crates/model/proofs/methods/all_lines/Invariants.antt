-- `model::methods::all_lines`: what the loop keeps. What is left of the code lines decides.
use Rattle.model.proofs.Loops.{LinesPassed}
use Rattle.model.proofs.methods.all_lines.Given as goal

abbrev pub invariant-loop-i : goal.invariant-loop-i
invariant-loop-i l = LinesPassed l.text l.initial.table l.initial.shapes l.method l.initial.here l.table l.shapes l.here l.blocks l.i
