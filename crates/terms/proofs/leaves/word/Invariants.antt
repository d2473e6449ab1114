-- `terms::leaves::word`: what was compared agrees, so that the rest of the word is left to be read there.
use Prim.Native.Nat.{◌+◌}
use lib.ListN.{drop}
use mathlib.Core.Path.{◌≡◌}
use Rattle.terms.specs.Parsed.{word}
use Rattle.terms.proofs.leaves.word.Given as goal

abbrev pub invariant-loop-i : goal.invariant-loop-i
invariant-loop-i l = word l.w l.s l.at ≡ word (drop l.i l.w) l.s (l.at + l.i)
