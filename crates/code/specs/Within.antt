-- What a code line of an accepted text is like, by itself: its variables, decimals, class, method and arguments. Assumes nothing.
use Rattle.std.specs.Prelude.{ℕ, ◌+◌, ◌≤◌, ◌<◌, length}
use Rattle.whole.specs.Lists.{Every}
use Rattle.terms.specs.declared.Limits.{Limits}
use Rattle.terms.specs.Within.{VariableWithin, ExpressionWithin, GuardWithin}
use Rattle.code.specs.Reader.{last_method, arguments_after}
use Rattle.code.specs.Statements.{Code, skip, set, new, call, get, await, if, else, fi, while, od, return}

-- where there are so many classes: K is "a class index .. below `classes`"; "0 to 4 arguments, J 0..7"
unfoldable pub CodeWithin : Limits → ℕ → Code → Type 0
CodeWithin lim classes skip = Unit {0}
CodeWithin lim classes (set x e) = VariableWithin lim x × ExpressionWithin lim e
CodeWithin lim classes (new x k es) = VariableWithin lim x × (k < classes) × Every (ExpressionWithin lim) es
CodeWithin lim classes (call x e j es) =
    VariableWithin lim x × ExpressionWithin lim e × (j ≤ last_method) × (length es ≤ arguments_after + 1) × Every (ExpressionWithin lim) es
CodeWithin lim classes (get x y) = VariableWithin lim x × VariableWithin lim y
CodeWithin lim classes (await g) = GuardWithin lim g
CodeWithin lim classes (if e) = ExpressionWithin lim e
CodeWithin lim classes else = Unit {0}
CodeWithin lim classes fi = Unit {0}
CodeWithin lim classes (while e) = ExpressionWithin lim e
CodeWithin lim classes od = Unit {0}
CodeWithin lim classes (return e) = ExpressionWithin lim e
