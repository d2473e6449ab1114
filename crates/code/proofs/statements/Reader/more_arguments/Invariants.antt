-- `code::statements::Reader::more_arguments`: what the loop keeps. The arguments from here on give what those from the start give, and the count has room
-- for all that may come.
use Prim.Native.Nat.{◌+◌, ◌-◌, ◌<◌, ◌^◌}
use mathlib.Core.Path.{◌≡◌}
use Rattle.code.specs.Vocabulary.Parts as Parts
use Rattle.code.proofs.statements.Reader.more_arguments.Given as goal

abbrev pub invariant-loop : goal.invariant-loop
invariant-loop l =
    (l.list.count + (l.most - l.counter) + 1 < 2 ^ 64)
    × (Parts.more_arguments l.fn.self l.fn.most l.fn.at l.fn.first ≡ Parts.more_arguments l.fn.self (l.most - l.counter) l.end l.list)
