-- `code::partners::past_partner`: what the loop keeps. The partner is looked for from line j on, with so many blocks opened since line i.
use Prim.Native.Nat.{◌≤◌}
use Rattle.code.proofs.Searches.{Onward}
use Rattle.code.specs.Vocabulary.Shapes.{shapes_in}
use Rattle.code.proofs.partners.past_partner.Given as goal

abbrev pub invariant-loop-j : goal.invariant-loop-j
invariant-loop-j l = (l.opened ≤ l.j) × Onward (shapes_in l.lines) l.i l.j l.opened
