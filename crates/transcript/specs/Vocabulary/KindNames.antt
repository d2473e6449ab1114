-- Vocabulary of the code: the choice of a kind. Assumes nothing.
use Rattle.std.specs.Prelude.{ℕ, Option, None, Some}
use Rattle.rules.specs.declared.Choice.{Choice}
use Rattle.rules.specs.declared.Kind.{Kind}
use Rattle.rules.specs.Kinds.{choose}
use Rattle.session.specs.Choices.{no_choice}

-- the choice of a kind, where a number follows its name
unfoldable pub chosen : Kind → Option ℕ → Choice
chosen k None = no_choice
chosen k (Some n) = choose k n
