-- Vocabulary of the code: which table belongs to which text. What its rows tell of each class, method and code line, and which shapes. Assumes
-- nothing.
use Rattle.std.specs.Prelude.{ℕ, ◌+◌, ◌≤◌, List, ◌≡◌, length, take, drop, get_or}
use Rattle.whole.specs.Lists.{EachFrom}
use Rattle.terms.specs.Bytes.{Text}
use Rattle.terms.specs.declared.Limits.{Limits}
use Rattle.terms.specs.Parsed.{got}
use Rattle.terms.specs.Trees.{trees, guard_trees}
use Rattle.code.specs.Blocks.{shape_of, shape_number}
use Rattle.code.specs.Reader.{statement}
use Rattle.code.specs.Statements.{Code}
use Rattle.model.specs.declared.Row.{Row}
use Rattle.model.specs.Bounds.{all_lines, most_methods}
use Rattle.model.specs.Model.{Method, Class, Model}
use Rattle.model.specs.Vocabulary.Table.{Table, row_at, class_row, method_row, code_row, classes_in}

-- the bytes of a code value, by its row: the place where it begins in the text, and its length
unfoldable pub value_in : Text → Row → Text
value_in s r = take r.1 (drop r.0 s)

-- a text, how many classes it has, and its table
module _ (s : Text) (classes : ℕ) (t : Table) where
  -- a code line: what its row leads to in the text is this statement
  unfoldable pub CodeTold : Limits → ℕ → Code → Type 0
  CodeTold lim i c =
      let r = row_at t (code_row i) in
      (r.0 + r.1 ≤ length s) × (statement trees guard_trees lim classes (value_in s r) ≡ got r.1 c)

-- a table, how many code lines it tells, and what it tells of each, by the limits of its method and its number
module _ (t : Table) (filled : ℕ) (Told : Limits → ℕ → Code → Type 0) where
  -- a method: its counts, and the number of its first code line
  unfoldable pub MethodTold : ℕ → ℕ → ℕ → Method → Type 0
  MethodTold attrs k j m =
      let r = row_at t (method_row k j) in
      (r.0 ≡ m.params) × (r.1 ≡ m.locals) × (r.2 ≡ length m.code) × (r.3 + length m.code ≤ filled)
      × EachFrom (Told (record { attrs = attrs; locals = m.locals })) r.3 m.code

  -- a class: its counts, and its methods
  unfoldable pub ClassTold : ℕ → Class → Type 0
  ClassTold k c =
      let r = row_at t (class_row k) in
      (r.0 ≡ c.attrs) × (r.1 ≡ c.given) × (r.2 ≡ c.run) × (r.3 ≡ length c.methods) × (length c.methods ≤ most_methods)
      × EachFrom (MethodTold c.attrs k) 0 c.methods

-- a table belongs to a text that gives a model: it tells how many classes there are, and each of them
unfoldable pub Belongs : Text → Table → Model → Type 0
Belongs s t m = (classes_in t ≡ length m) × EachFrom (ClassTold t all_lines (CodeTold s (length m) t)) 0 m

-- the shape of a code line, by its number
unfoldable pub ShapeTold : List ℕ → Limits → ℕ → Code → Type 0
ShapeTold x lim i c = get_or x i 0 ≡ shape_number (shape_of c)

-- the shapes of all code lines of a model, where its table says
unfoldable pub Shaped : Table → List ℕ → Model → Type 0
Shaped t x m = (length x ≡ all_lines) × EachFrom (ClassTold t all_lines (ShapeTold x)) 0 m

-- both of a code line
unfoldable pub LineTold : Text → ℕ → Table → List ℕ → Limits → ℕ → Code → Type 0
LineTold s classes t x lim i c = CodeTold s classes t lim i c × ShapeTold x lim i c
