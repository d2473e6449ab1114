-- "The configuration", "2,370 cells of i32": the cells by named places. All that is said of a configuration goes through these names,
-- so that a wider row changes the constants here and nothing else. Assumes nothing.
use Rattle.std.specs.Prelude.{ℕ, ◌+◌, ◌-◌, ◌*◌, ◌/◌, ◌%◌, Bool, true, false, ◌&&◌, List, [], ◌∷◌, ◌++◌, leb, ltb, length, get_or, set, take, replicate, ℤ, pos, Option, None, Some}
use Rattle.whole.specs.Plain.{only_if}

abbrev pub Cells : Type 0
Cells = List ℤ

-- "Cell 0: objects; cell 1: calls issued."
abbrev pub header_cells : ℕ
header_cells = 2

-- "Then 32 object rows of 10"
abbrev pub object_rows : ℕ
object_rows = 32

abbrev pub object_cells : ℕ
object_cells = 10

-- "Then 128 call rows of 16"
abbrev pub call_rows : ℕ
call_rows = 128

abbrev pub call_cells : ℕ
call_cells = 16

-- what a class may have of attributes, and a method of locals: `a0..a7`, `v0..v7`
abbrev pub most_attributes : ℕ
most_attributes = 8

abbrev pub most_locals : ℕ
most_locals = 8

abbrev pub first_object : ℕ
first_object = header_cells

abbrev pub first_call : ℕ
first_call = first_object + object_rows * object_cells

-- "2,370 cells"
abbrev pub all_cells : ℕ
all_cells = first_call + call_rows * call_cells

-- a place: a header cell, or a field of a row. "Row i, from 1, is object i or label i. Object numbers and labels are counted apart,
-- and neither stands in for the other."
pub data Place : Type 0 where
  header : ℕ → Place
  object : ℕ → ℕ → Place
  call : ℕ → ℕ → Place

-- a row, "from 1", of so many
unfoldable pub is_row : ℕ → ℕ → Bool
is_row rows r = leb 1 r && leb r rows

-- the places that a configuration has
unfoldable pub stands : Place → Bool
stands (header i) = ltb i header_cells
stands (object o f) = is_row object_rows o && ltb f object_cells
stands (call r f) = is_row call_rows r && ltb f call_cells

-- the cell of a place that stands
unfoldable pub cell_of : Place → ℕ
cell_of (header i) = i
cell_of (object o f) = first_object + (o - 1) * object_cells + f
cell_of (call r f) = first_call + (r - 1) * call_cells + f

-- and the place of a cell
unfoldable pub place_of : ℕ → Place
place_of i = elim (ltb i first_object) [
  | true ↦ header i
  | false ↦ elim (ltb i first_call) [
    | true ↦ object ((i - first_object) / object_cells + 1) ((i - first_object) % object_cells)
    | false ↦ call ((i - first_call) / call_cells + 1) ((i - first_call) % call_cells)
  ]
]

-- what stands at a place; a place that does not stand, and a cell that is not there, read as 0
unfoldable pub read : Cells → Place → ℤ
read c p = elim (stands p) [ true ↦ get_or c (cell_of p) (pos 0) | false ↦ pos 0 ]

-- a value put at a place; at one that does not stand nothing changes
unfoldable pub write : Cells → Place → ℤ → Cells
write c p z = elim (stands p) [ true ↦ set c (cell_of p) z | false ↦ c ]

-- a value for a place, and several of them written from the left
abbrev pub Write : Type 0
Write = Place × ℤ

unfoldable pub written : Cells → List Write → Cells
written c [] = c
written c (w ∷ ws) = written (write c w.0 w.1) ws

-- "Cell 0: objects; cell 1: calls issued."
abbrev pub objects : Place
objects = header 0

abbrev pub calls : Place
calls = header 1

-- the fields of an object row: "class, running label, a0..a7"
abbrev pub class : ℕ
class = 0

abbrev pub running_label : ℕ
running_label = 1

abbrev pub attribute : ℕ → ℕ
attribute i = 2 + i

-- the fields of a call row: "stage, caller, callee, method, args, line (from 0), cleared, value, v0..v7"
abbrev pub stage : ℕ
stage = 0

abbrev pub caller : ℕ
caller = 1

abbrev pub callee : ℕ
callee = 2

abbrev pub method : ℕ
method = 3

abbrev pub args : ℕ
args = 4

abbrev pub line : ℕ
line = 5

abbrev pub cleared : ℕ
cleared = 6

abbrev pub value : ℕ
value = 7

abbrev pub local : ℕ → ℕ
local i = 8 + i

-- a field of an object, and a value for it
unfoldable pub of_object : Cells → ℕ → ℕ → ℤ
of_object c o f = read c (object o f)

unfoldable pub to_object : ℕ → ℕ → ℤ → List Write
to_object o f z = (object o f, z) ∷ []

-- the row of a label, if it has one: "Row i, from 1, is object i or label i." This one function is the way from the one to the other
unfoldable pub row_of : Cells → ℕ → Option ℕ
row_of c label = only_if (is_row call_rows label) label

-- a field of a call by its label, and a value for it; what has no row reads as 0
unfoldable pub of_call : Cells → ℕ → ℕ → ℤ
of_call c l f = elim (row_of c l) [ Some r ↦ read c (call r f) | None ↦ pos 0 ]

unfoldable pub to_call : Cells → ℕ → ℕ → ℤ → List Write
to_call c l f z = elim (row_of c l) [ Some r ↦ (call r f, z) ∷ [] | None ↦ [] ]

-- values for the fields of a row, from one field on
unfoldable pub row_from : (ℕ → Place) → ℕ → List ℤ → List Write
row_from row f [] = []
row_from row f (z ∷ zs) = (row f, z) ∷ row_from row (f + 1) zs

-- the first of some values, and 0 for those that are missing
unfoldable pub padded : ℕ → List ℤ → List ℤ
padded n zs = take n (zs ++ replicate n (pos 0))

-- the row of a new object: its class, its running label, and its first attributes
unfoldable pub new_object : ℕ → ℕ → ℕ → List ℤ → List Write
new_object o k l zs = row_from (object o) class (pos k ∷ pos l ∷ padded most_attributes zs)

-- the row of a new call: its stage, caller, callee and method, the number of its arguments, and these in v0 on; line, cleared and value 0
unfoldable pub new_call : ℕ → ℕ → ℕ → ℕ → ℕ → List ℤ → List Write
new_call r s by to j zs =
    row_from (call r) stage (pos s ∷ pos by ∷ pos to ∷ pos j ∷ pos (length zs) ∷ pos 0 ∷ pos 0 ∷ pos 0 ∷ padded most_locals zs)
