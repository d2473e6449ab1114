-- Vocabulary of the code: a rule that was performed, by its answer and the cells that it left. Assumes nothing.
use Rattle.std.specs.Prelude.{◌≡◌}
use Rattle.whole.specs.Vocabulary.Refusing.{Answer, number_given}
use Rattle.layout.specs.Layout.{Cells}
use Rattle.rules.specs.Next.{Next, answer_of, cells_after}

-- the number of the answer and the cells afterwards are those of what the rule gives, of the cells before
abbrev pub Done : Cells → Next → Answer → Cells → Type 0
Done c n answer d = (number_given answer ≡ answer_of n) × (d ≡ cells_after c n)
