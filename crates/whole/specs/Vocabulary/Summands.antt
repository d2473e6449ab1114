-- Vocabulary of the code: what is added for a second operand, by its operator. Assumes nothing.
use Rattle.std.specs.Prelude.{ℤ, neg_ℤ}
use Rattle.whole.specs.declared.Operator.{Operator}
use Rattle.whole.specs.declared.Operator.TheVariants.{Plus, Minus, Times, Less, Equal}

-- what a minus takes away, with the other sign
unfoldable pub summand : Operator → ℤ → ℤ
summand Minus y = neg_ℤ y
summand Plus y = y
summand Times y = y
summand Less y = y
summand Equal y = y
