-- `transcript::choices::digits_alone`: what the loop keeps. The digits from here on write what those from the start do, and those before write a
-- number of as many digits. Assumes nothing.
use Prim.Native.Nat.{◌^◌, ◌<◌}
use lib.ListN.{drop}
use mathlib.Core.Path.{◌≡◌}
use Rattle.session.specs.Choices.{digits_from}
use Rattle.transcript.proofs.choices.digits_alone.Given as goal

abbrev pub invariant-loop-b : goal.invariant-loop-b
invariant-loop-b l = record { small : l.n < 10 ^ l.b-index; same : digits_from l.n (drop l.b-index l.s) ≡ digits_from 0 l.s }
