-- Vocabulary of the code: what it finds of an object's class, of a call's body and of where the call stands, and what that says of the model.
-- Assumes nothing.
use Rattle.std.specs.Prelude.{ℕ, ◌+◌, ◌≤◌, ◌<◌, List, [], ◌≡◌, ℤ, length, take, drop, Option, None, Some, slice_get}
use Rattle.whole.specs.Plain.{◌>>=◌}
use Rattle.whole.specs.Whole.{natural}
use Rattle.layout.specs.Layout.{Cells}
use Rattle.code.specs.Statements.{Code}
use Rattle.terms.specs.declared.Around.{Around}
use Rattle.terms.specs.declared.Here.{Here}
use Rattle.terms.specs.Bytes.{Text}
use Rattle.code.specs.declared.Shape.{Shape}
use Rattle.code.specs.Blocks.{through_all}
use Rattle.code.specs.Vocabulary.Shapes.{shapes_in}
use Rattle.model.specs.Bounds.{all_lines}
use Rattle.model.specs.declared.Row.{Row}
use Rattle.model.specs.Model.{Model, Class, Method, takes, binds_to}
use Rattle.model.specs.Vocabulary.Table.{Table, row_at, method_row}
use Rattle.cells.specs.Standing.{body_of, standing_of}
use Rattle.lookup.specs.declared.Body.{Body}
use Rattle.lookup.specs.declared.Standing.{Standing}

-- a number in a cell that is one of the first so many: that number; none, where it is past them or below 0
unfoldable pub IndexSaid : ℤ → ℕ → Option ℕ → Type 0
IndexSaid z n None = (i : ℕ) → natural z ≡ Some i → n ≤ i
IndexSaid z n (Some i) = (natural z ≡ Some i) × (i < n)

-- a class by the number in a cell: its index, or none
unfoldable pub ClassSaid : Model → ℤ → Option ℕ → Type 0
ClassSaid m z None = (natural z >>= slice_get m) ≡ None
ClassSaid m z (Some k) = (natural z ≡ Some k) × (c : Class) × (slice_get m k ≡ Some c)

-- a body that was found, by its class and its index there: what the code keeps of it is what the table tells
pub record BodyIs (t : Table) (m : Model) (found : Option Method) (d : Body) : Type 0 where
  pub index : ℕ
  pub method : ℕ
  pub class : Class
  pub body : Method
  pub class_there : slice_get m index ≡ Some class
  pub body_there : slice_get class.methods method ≡ Some body
  pub is : found ≡ Some body
  pub attrs : d.attrs ≡ class.attrs
  pub locals : d.locals ≡ body.locals
  pub count : d.count ≡ length body.code
  pub first : d.first ≡ (row_at t (method_row index method)).3

-- a method, if a cell holds the number of its arguments; and the method of a class, by the numbers in two cells
unfoldable pub taken : Method → ℤ → Option Method
taken b args = natural args >>= (λ n. takes n b)

unfoldable pub bound_to : Model → ℕ → ℤ → ℤ → Option Method
bound_to m k method args = natural method >>= (λ j. natural args >>= (λ n. binds_to m k j n))

unfoldable pub BodySaid : Table → Model → Option Method → Option Body → Type 0
BodySaid t m found None = found ≡ None
BodySaid t m found (Some d) = BodyIs t m found d

-- where a call stands
pub record StandingIs (t : Table) (m : Model) (c : Cells) (l : ℕ) (d : Standing) : Type 0 where
  pub of : BodyIs t m (body_of m c l) d.body
  pub statement : Code
  pub there : slice_get of.body.code d.line ≡ Some statement
  pub stands : standing_of m c l ≡ Some (record { body = of.body; at = d.line; statement = statement })

unfoldable pub StandingSaid : Table → Model → Cells → ℕ → Option Standing → Type 0
StandingSaid t m c l None = standing_of m c l ≡ None
StandingSaid t m c l (Some d) = StandingIs t m c l d

-- the shapes of a body's lines: its part of those of all lines
unfoldable pub shapes_at : List ℕ → Body → List Shape
shapes_at x d = shapes_in (take d.count (drop d.first x))

-- the bytes that a row leads to lie within a text
abbrev pub Inside : Text → Row → Type 0
Inside s r = r.0 + r.1 ≤ length s

-- what a term of a body is read in
unfoldable pub around : Here → Body → Around
around h d = record { limits = record { attrs = d.attrs; locals = d.locals }; here = h }

-- a line of a body whose lines all have their shapes, and whose blocks all close
pub record Lined (x : List ℕ) (at : Standing) : Type 0 where
  pub line : at.line < at.body.count
  pub few : at.body.count ≤ 64
  pub inside : at.body.first + at.body.count ≤ length x
  pub all : length x ≡ all_lines
  pub close : through_all (shapes_at x at.body) [] ≡ Some []
