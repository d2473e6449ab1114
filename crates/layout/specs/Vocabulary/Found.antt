-- Vocabulary of the code: what the definitions may find, as its enums, and a cell that was found. Assumes nothing.
use Rattle.std.specs.Prelude.{ℕ, ◌+◌, ◌-◌, ◌*◌, Bool, true, false, ◌&&◌, List, [], ◌∷◌, ltb, ℤ, pos, get_or, set, take, drop, Option, None, Some}
use Rattle.whole.specs.Plain.{only_if}
use Rattle.whole.specs.Whole.{eq_z}
use Rattle.layout.specs.declared.Label.{Label}
use Rattle.layout.specs.declared.ObjectNumber.{ObjectNumber}
use Rattle.layout.specs.Layout.{Cells, Place, call, is_row, stands, cell_of, row_of}

unfoldable pub as_label : Option ℕ → Option Label
as_label None = None
as_label (Some l) = Some (record { 0 = l })

unfoldable pub as_object : Option ℕ → Option ObjectNumber
as_object None = None
as_object (Some o) = Some (record { 0 = o })

-- the cell of a place that stands, and of a call's field
unfoldable pub placed : Place → Option ℕ
placed p = only_if (stands p) (cell_of p)

unfoldable pub call_placed : Cells → ℕ → ℕ → Option ℕ
call_placed c l f = elim (row_of c l) [ Some r ↦ placed (call r f) | None ↦ None ]

-- the cell of a field in a row, where so many rows of so many cells stand from a first cell on
unfoldable pub field_cell : ℕ → ℕ → ℕ → ℕ → ℕ → Option ℕ
field_cell first rows width r f = only_if (is_row rows r && ltb f width) (first + (r - 1) * width + f)

-- what stands in a cell that was found, and a value put there
unfoldable pub held_at : Cells → Option ℕ → ℤ
held_at c None = pos 0
held_at c (Some i) = get_or c i (pos 0)

unfoldable pub put_at : Cells → Option ℕ → ℤ → Cells
put_at c None z = c
put_at c (Some i) z = set c i z

-- values put in the fields of a row, from one field on
unfoldable pub row_to : ℕ → ℕ → ℕ → Cells → ℕ → ℕ → List ℤ → Cells
row_to first rows width c r f [] = c
row_to first rows width c r f (z ∷ zs) = row_to first rows width (put_at c (field_cell first rows width r f) z) r (f + 1) zs

-- every cell of a list is 0, and of cells every one from one on and before another
unfoldable pub zeros : Cells → Bool
zeros [] = true
zeros (z ∷ zs) = elim (eq_z z (pos 0)) [ true ↦ zeros zs | false ↦ false ]

unfoldable pub zeros_in : Cells → ℕ → ℕ → Bool
zeros_in c from to = zeros (take (to - from) (drop from c))
