-- `transcript::choices::choice_of`: what the loop keeps. The kinds from here on give what all of them give. Assumes nothing.
use lib.ListN.{drop}
use mathlib.Core.Path.{◌≡◌}
use Rattle.rules.specs.Kinds.{kinds}
use Rattle.session.specs.Choices.{choice_of}
use Rattle.transcript.proofs.choices.choice_of.Given as goal

abbrev pub invariant-loop-kind : goal.invariant-loop-kind
invariant-loop-kind l = choice_of (drop l.kind-index kinds) l.line ≡ choice_of kinds l.line
