-- Where an object and a call stand in the model: the class, the body that binding finds, and the statement at the line. Assumes nothing.
use Rattle.std.specs.Prelude.{ℕ, List, map, Option, Some, slice_get}
use Rattle.whole.specs.Plain.{◌>>=◌}
use Rattle.whole.specs.Whole.{natural}
use Rattle.layout.specs.Layout.{Cells, of_object, of_call, class, callee, method, args, line}
use Rattle.code.specs.Statements.{Code}
use Rattle.code.specs.declared.Shape.{Shape}
use Rattle.code.specs.Blocks.{shape_of}
use Rattle.model.specs.Model.{Model, Class, Method, binds_to}

-- an object's class
unfoldable pub class_of : Model → Cells → ℕ → Option Class
class_of m c o = do
  k ← natural (of_object c o class)
  slice_get m k

-- a call's body: the method that binding finds in its callee's class
unfoldable pub body_of : Model → Cells → ℕ → Option Method
body_of m c l = do
  o ← natural (of_call c l callee)
  k ← natural (of_object c o class)
  j ← natural (of_call c l method)
  n ← natural (of_call c l args)
  binds_to m k j n

-- where a call stands: its body, the number of its line, and the statement there
pub record Standing : Type 0 where
  pub body : Method
  pub at : ℕ
  pub statement : Code

unfoldable pub standing_of : Model → Cells → ℕ → Option Standing
standing_of m c l = do
  b ← body_of m c l
  i ← natural (of_call c l line)
  s ← slice_get b.code i
  Some (record { body = b; at = i; statement = s })

-- the shapes of a body's lines
unfoldable pub shapes_of : Method → List Shape
shapes_of b = map shape_of b.code
