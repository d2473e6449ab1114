-- Vocabulary of the code: the reading *nothing*: acceptance alone. Assumes nothing.
use Rattle.terms.specs.Expressions.{Reading}
use Rattle.terms.specs.Guards.{GuardReading}

abbrev pub nothing : Reading (Unit {0})
nothing = record { number = λ _. tt; variable = λ _. tt; self = tt; caller = tt; apply = λ _ _ _. tt }

abbrev pub guard_nothing : GuardReading (Unit {0}) (Unit {0})
guard_nothing = record { wait = tt; reply = λ _. tt; test = λ _. tt; join = λ _ _ _. tt }
