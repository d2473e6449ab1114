-- Vocabulary of the code: the table of a text, by which later parts find its lines: a list of numbers, in rows of four. Assumes nothing.
use Rattle.std.specs.Prelude.{ℕ, ◌+◌, ◌*◌, ◌<◌, List, ◌≡◌, length, get_or, set, replicate}
use Rattle.model.specs.Bounds.{all_lines}
use Rattle.model.specs.declared.Row.{Row}

abbrev pub Table : Type 0
Table = List ℕ

abbrev pub width : ℕ
width = 4

-- a row for each of 16 classes
abbrev pub class_row : ℕ → ℕ
class_row k = k

-- then a row for each of the 8 methods that a class may have
abbrev pub method_row : ℕ → ℕ → ℕ
method_row k j = 16 + 8 * k + j

-- then a row for each of 512 code lines: "All `lines=` together are at most 512."
abbrev pub code_row : ℕ → ℕ
code_row i = 144 + i

-- the last row is the model's own: how many classes it has
abbrev pub model_row : ℕ
model_row = 656

abbrev pub rows : ℕ
rows = 657

-- the numbers of all rows
abbrev pub table_size : ℕ
table_size = 2628

-- a table and the shapes of the code lines, each as long as it is to be
abbrev pub Sized : Table → List ℕ → Type 0
Sized t x = (length t ≡ table_size) × (length x ≡ all_lines)

-- a table and shapes of which nothing is written yet
unfoldable pub no_rows : Table
no_rows = replicate table_size 0

unfoldable pub no_shapes : List ℕ
no_shapes = replicate all_lines 0

-- the four numbers of a row; a number that is not there reads as 0
unfoldable pub row_at : Table → ℕ → Row
row_at t r = record { 0 = get_or t (r * width) 0; 1 = get_or t (r * width + 1) 0; 2 = get_or t (r * width + 2) 0; 3 = get_or t (r * width + 3) 0 }

-- a row whose numbers fit in 16 bits
abbrev pub Small : Row → Type 0
Small x = (x.0 < 65536) × (x.1 < 65536) × (x.2 < 65536) × (x.3 < 65536)

-- how many classes a table tells
unfoldable pub classes_in : Table → ℕ
classes_in t = (row_at t model_row).0

unfoldable pub put : Table → ℕ → Row → Table
put t r x =
    set (set (set (set t (r * width) x.0) (r * width + 1) x.1) (r * width + 2) x.2) (r * width + 3) x.3

-- two tables, each with its shapes, have the same rows: so many classes', so many methods' of all classes, so many code lines'
pub record Same (t : Table) (x : List ℕ) (u : Table) (y : List ℕ) (classes methods lines : ℕ) : Type 0 where
  pub class : (k : ℕ) → k < classes → row_at u (class_row k) ≡ row_at t (class_row k)
  pub method : (k j : ℕ) → 8 * k + j < methods → row_at u (method_row k j) ≡ row_at t (method_row k j)
  pub line : (i : ℕ) → i < lines → row_at u (code_row i) ≡ row_at t (code_row i)
  pub shape : (i : ℕ) → i < lines → get_or y i 0 ≡ get_or x i 0
