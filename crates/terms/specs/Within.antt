-- What the terms of an accepted text are like: each variable is one that there is, each decimal in its range. Assumes nothing.
use Rattle.std.specs.Prelude.{◌≤◌, ◌<◌}
use Rattle.terms.specs.declared.Limits.{Limits}
use Rattle.terms.specs.declared.Variable.{Variable}
use Rattle.terms.specs.declared.Variable.TheVariants.{Attribute, Local}
use Rattle.terms.specs.Expressions.{largest}
use Rattle.terms.specs.Trees.{Expression, number, variable, self, caller, apply, Guard, wait, reply, test, join}

-- "variables: a0..a7 below attrs, v0..v7 below locals"
unfoldable pub VariableWithin : Limits → Variable → Type 0
VariableWithin lim (Attribute i) = i < lim.attrs
VariableWithin lim (Local i) = i < lim.locals

-- "a decimal 0..2147483647"
unfoldable pub ExpressionWithin : Limits → Expression → Type 0
ExpressionWithin lim (number n) = n ≤ largest
ExpressionWithin lim (variable x) = VariableWithin lim x
ExpressionWithin lim self = Unit {0}
ExpressionWithin lim caller = Unit {0}
ExpressionWithin lim (apply o x y) = ExpressionWithin lim x × ExpressionWithin lim y

-- "a variable followed by `?`, an expression in square brackets"
unfoldable pub GuardWithin : Limits → Guard → Type 0
GuardWithin lim wait = Unit {0}
GuardWithin lim (reply x) = VariableWithin lim x
GuardWithin lim (test e) = ExpressionWithin lim e
GuardWithin lim (join j g h) = GuardWithin lim g × GuardWithin lim h
