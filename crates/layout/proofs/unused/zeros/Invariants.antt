-- `layout::unused::zeros`: what is left is zero exactly where all is.
use Rattle.std.proofs.Common.{◌≡◌, drop}
use Rattle.layout.specs.Vocabulary.Found.{zeros}
use Rattle.layout.proofs.unused.zeros.Given as goal

abbrev pub invariant-loop-z : goal.invariant-loop-z
invariant-loop-z l = zeros (drop l.z-index l.cells) ≡ zeros l.cells
