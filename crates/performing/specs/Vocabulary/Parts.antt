-- Vocabulary of the code: what the parts of a rule are that the code has functions of their own for, and what they take for known. Assumes nothing.
use Rattle.std.specs.Prelude.{ℕ, ◌≤◌, ◌<◌, List, ◌≡◌, pos, Some}
use Rattle.whole.specs.Whole.{Worked}
use Rattle.layout.specs.Layout.{Cells}
use Rattle.layout.specs.Stages.{rows_in_use}
use Rattle.code.specs.declared.Arguments.{Arguments}
use Rattle.code.specs.declared.Statement as Declared
use Rattle.code.specs.declared.Statement.TheVariants as Said
use Rattle.cells.specs.Standing.{Standing, shapes_of}
use Rattle.lookup.specs.declared.Standing as Kept
use Rattle.lookup.specs.Vocabulary.Found.{shapes_at}

-- where a call stands, as the code keeps it beside all shapes, and as the definitions have it: the same line of a body with the same shapes
abbrev pub SameLine : List ℕ → Kept.Standing → Standing → Type 0
SameLine x at st = (st.at ≡ at.line) × (shapes_of st.body ≡ shapes_at x at.body)

-- what is asked of a statement that stands in an accepted text: a class and a method that there may be, and as many arguments as a call may have
unfoldable pub Small : Declared.Statement → Arguments → Type 0
Small Said.Skip a = Unit {0}
Small (Said.Set x w) a = Unit {0}
Small (Said.New x k) a = k < 16
Small (Said.Call x w j) a = (j < 8) × (a.count < 5)
Small (Said.Get x y) a = Unit {0}
Small (Said.Await g) a = Unit {0}
Small (Said.If w) a = Unit {0}
Small Said.Else a = Unit {0}
Small Said.Fi a = Unit {0}
Small (Said.While w) a = Unit {0}
Small Said.Od a = Unit {0}
Small (Said.Return w) a = Unit {0}

-- whether a call is ready at a statement, as the code has it
unfoldable pub ready_said : Declared.Statement → Worked
ready_said Said.Skip = Some (pos 1)
ready_said (Said.Set x w) = Some (pos 1)
ready_said (Said.New x k) = Some (pos 1)
ready_said (Said.Call x w j) = Some (pos 1)
ready_said (Said.Get x y) = Some (pos 1)
ready_said (Said.Await g) = g
ready_said (Said.If w) = Some (pos 1)
ready_said Said.Else = Some (pos 1)
ready_said Said.Fi = Some (pos 1)
ready_said (Said.While w) = Some (pos 1)
ready_said Said.Od = Some (pos 1)
ready_said (Said.Return w) = Some (pos 1)

-- a label in use
abbrev pub InUse : Cells → ℕ → Type 0
InUse c l = (1 ≤ l) × (l ≤ rows_in_use c)
