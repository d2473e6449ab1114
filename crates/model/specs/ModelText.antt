-- "The model text", read in the document's order: a code line, a method, a class, the whole. Assumes nothing.
use Rattle.std.specs.Prelude.{ℕ, ◌+◌, ◌-◌, min, Bool, true, false, ◌&&◌, List, [], ◌∷◌, ◌++◌, leb, eqb, length, Option, None, Some}
use Rattle.whole.specs.Refusals.{wrong_code, wrong_blocks}
use Rattle.layout.specs.Layout.{most_attributes, most_locals}
use Rattle.terms.specs.Bytes.{bytes}
use Rattle.terms.specs.declared.Limits.{Limits}
use Rattle.terms.specs.Parsed.{got, bad}
use Rattle.terms.specs.Trees.{trees, guard_trees}
use Rattle.text.specs.InOrder.{Reader, done, ◌>>=◌, Taken, wrong, right, key_line, number_line, each}
use Rattle.code.specs.declared.Shape.TheVariants as Shape
use Rattle.code.specs.Blocks.{Block, is_shape, shape_of, through}
use Rattle.code.specs.Reader.{statement}
use Rattle.code.specs.Statements.{Code, new_of}
use Rattle.model.specs.Bounds.{edition, most_classes, most_methods, most_params, most_lines, all_lines, deepest}
use Rattle.model.specs.Model.{Method, Class, Model}

-- a `new` with the line that it stands at
pub record Creation : Type 0 where
  pub at : ℕ
  pub class : ℕ
  pub count : ℕ

-- what is carried from line to line: all `lines=` together, the `new`s, and the open blocks of the method
pub record SoFar : Type 0 where
  pub total : ℕ
  pub creations : List Creation
  pub blocks : List Block

unfoldable pub creations_of : ℕ → Code → List Creation
creations_of at c = elim (new_of c) [ None ↦ [] | Some n ↦ record { at = at; class = n.0; count = n.1 } ∷ [] ]

-- "A method's last line is a `return` outside all blocks." "Blocks nest at most 8 deep."
unfoldable pub may_stand : Bool → Code → List Block → Bool
may_stand true c bs = is_shape Shape.Return (shape_of c) && eqb (length bs) 0
may_stand false c bs = leb (length bs) deepest

-- "`code=`": a statement at a line, which leaves these blocks open or cannot stand there
unfoldable pub standing : ℕ → Bool → SoFar → Code → Option (List Block) → Taken (Code × SoFar)
standing at last so c None = wrong wrong_blocks
standing at last so c (Some bs) = elim (may_stand last c bs) [
  | false ↦ wrong wrong_blocks
  | true ↦ right (c, record { total = so.total; creations = so.creations ++ creations_of at c; blocks = bs })
]

unfoldable pub code_line : Limits → ℕ → ℕ → ℕ → SoFar → Reader (Code × SoFar)
code_line lim classes count i so = key_line (bytes "code=") (λ at value. elim (statement trees guard_trees lim classes value) [
  | bad p ↦ wrong wrong_code
  | got p c ↦ standing at (eqb (i + 1) count) so c (through (shape_of c) so.blocks)
])

-- so many code lines are to come, and no block is open
unfoldable pub lines_begun : SoFar → ℕ → SoFar
lines_begun so count = record { total = so.total + count; creations = so.creations; blocks = [] }

-- a range that is narrowed to 0
unfoldable pub zero_if : Bool → ℕ → ℕ
zero_if true n = 0
zero_if false n = n

-- "then per method `method=` (index from 0), `params=` 0..4, `locals=` params..8, `lines=` 1..64, and that many `code=` lines." "Where run is
-- 1, method 0 has params 0." "All `lines=` together are at most 512."
unfoldable pub read_method : ℕ → ℕ → ℕ → ℕ → SoFar → Reader (Method × SoFar)
read_method classes attrs run j so = do
  _ ← number_line (bytes "method=") j j
  params ← number_line (bytes "params=") 0 (zero_if (eqb run 1 && eqb j 0) most_params)
  locals ← number_line (bytes "locals=") params most_locals
  count ← number_line (bytes "lines=") 1 (min most_lines (all_lines - so.total))
  code ← each count 0 (lines_begun so count) (code_line (record { attrs = attrs; locals = locals }) classes count)
  done (record { params = params; locals = locals; code = code.0 }, code.1)

-- "then per class `class=` (its index from 0), `attrs=` 0..8, `given=` 0..attrs, `run=` 0 or 1, `methods=` run..8". "Class 0 has given 0 and
-- run 1."
unfoldable pub read_class : ℕ → ℕ → SoFar → Reader (Class × SoFar)
read_class classes k so = do
  _ ← number_line (bytes "class=") k k
  attrs ← number_line (bytes "attrs=") 0 most_attributes
  given ← number_line (bytes "given=") 0 (zero_if (eqb k 0) attrs)
  run ← number_line (bytes "run=") (1 - k) 1
  count ← number_line (bytes "methods=") run most_methods
  methods ← each count 0 so (read_method classes attrs run)
  done (record { attrs = attrs; given = given; run = run; methods = methods.0 }, methods.1)

-- "`creol=1`, `classes=` 1..16"
unfoldable pub read_model : Reader (Model × SoFar)
read_model = do
  _ ← number_line (bytes "creol=") edition edition
  count ← number_line (bytes "classes=") 1 most_classes
  each count 0 (record { total = 0; creations = []; blocks = [] }) (read_class count)
