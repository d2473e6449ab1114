-- The reading *trees*: what an expression and a guard are. And how another reading works a tree out. Assumes nothing.
use Rattle.std.specs.Prelude.{ℕ}
use Rattle.whole.specs.declared.Operator.{Operator}
use Rattle.terms.specs.declared.Variable.{Variable}
use Rattle.terms.specs.Expressions.{Reading}
use Rattle.terms.specs.declared.Junction.{Junction}
use Rattle.terms.specs.Guards.{GuardReading}

pub data Expression : Type 0 where
  number : ℕ → Expression
  variable : Variable → Expression
  self caller : Expression
  apply : Operator → Expression → Expression → Expression

pub data Guard : Type 0 where
  wait : Guard
  reply : Variable → Guard
  test : Expression → Guard
  join : Junction → Guard → Guard → Guard

abbrev pub trees : Reading Expression
trees = record { number = number; variable = variable; self = self; caller = caller; apply = apply }

abbrev pub guard_trees : GuardReading Expression Guard
guard_trees = record { wait = wait; reply = reply; test = test; join = join }

-- a tree worked out by a reading
unfoldable pub fold : {A : Type 0} → Reading A → Expression → A
fold R (number n) = R.number n
fold R (variable x) = R.variable x
fold R self = R.self
fold R caller = R.caller
fold R (apply o x y) = R.apply o (fold R x) (fold R y)

unfoldable pub fold_guard : {A G : Type 0} → Reading A → GuardReading A G → Guard → G
fold_guard R Q wait = Q.wait
fold_guard R Q (reply x) = Q.reply x
fold_guard R Q (test e) = Q.test (fold R e)
fold_guard R Q (join o g h) = Q.join o (fold_guard R Q g) (fold_guard R Q h)
