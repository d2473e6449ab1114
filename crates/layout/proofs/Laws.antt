-- Every place that stands has a cell and every cell a place, different places have different cells, and a write changes its own place alone.
-- The proofs go by the constants of the layout as they compute, so that a wider row leaves this file as it is. Assumes nothing.
use Prim.Native.Nat.{ℕ, ◌+◌, ◌-◌, ◌/◌, ◌%◌, ◌≤◌, ◌<◌}
use mathlib.Core.Bool.{Bool, true, false, ◌&&◌}
use mathlib.Core.List.{List, [], ◌∷◌}
use mathlib.Core.Path.{◌≡◌, refl, sym, ap, ap₂, subst, ◌∙◌}
use mathlib.Core.Logic.{◌≢◌}
use native.Mathlib.Omega.{arith}
use borrow.Author.Tests.{ltb-true, ltb-false, leb-true, lt-ltb, le-leb}
use lib.Dec.{ltb, leb}
use lib.ListN.{length, get_or, set, length-set}
use lib.Seq.{get_or-set_same, get_or-set_other}
use lib.IntN.{ℤ, pos}
use Rattle.whole.proofs.Both.{both_left, both_right, both}
use Rattle.layout.specs.Layout.{Cells, Place, header, object, call, header_cells, object_rows, object_cells, first_object, call_rows, call_cells, first_call, all_cells, is_row, stands, cell_of, place_of, read, write, Write, written}

-- what a place that stands has
abbrev pub Stands : Place → Type 0
Stands (header i) = i < header_cells
Stands (object o f) = (1 ≤ o) × (o ≤ object_rows) × (f < object_cells)
Stands (call r f) = (1 ≤ r) × (r ≤ call_rows) × (f < call_cells)

-- a row of so many
pub row_within : (rows r : ℕ) → is_row rows r ≡ true → (1 ≤ r) × (r ≤ rows)
unfolding is_row
row_within rows r e = (leb-true 1 r (both_left (leb 1 r) _ e), leb-true r rows (both_right (leb 1 r) _ e))

pub within_row : (rows r : ℕ) → 1 ≤ r → r ≤ rows → is_row rows r ≡ true
unfolding is_row
within_row rows r h k = both (leb 1 r) _ (le-leb 1 r h) (le-leb r rows k)

-- and a field of it
module _ (rows width r f : ℕ) where
  in_row : is_row rows r && ltb f width ≡ true → (1 ≤ r) × (r ≤ rows) × (f < width)
  in_row e =
      let row = row_within rows r (both_left (is_row rows r) (ltb f width) e) in
      (row.0, row.1, ltb-true f width (both_right (is_row rows r) _ e))

  row_in : (1 ≤ r) × (r ≤ rows) × (f < width) → is_row rows r && ltb f width ≡ true
  row_in h = both (is_row rows r) _ (within_row rows r h.0 h.1) (lt-ltb f width h.2)

-- the test of a place, and what it has
pub standing : (p : Place) → stands p ≡ true → Stands p
unfolding stands
standing (header i) e = ltb-true i header_cells e
standing (object o f) e = in_row object_rows object_cells o f e
standing (call r f) e = in_row call_rows call_cells r f e

pub stood : (p : Place) → Stands p → stands p ≡ true
unfolding stands
stood (header i) h = lt-ltb i header_cells h
stood (object o f) h = row_in object_rows object_cells o f h
stood (call r f) h = row_in call_rows call_cells r f h

-- a place that stands has a cell of the configuration
pub cell_below : (p : Place) → Stands p → cell_of p < all_cells
unfolding cell_of
cell_below (header i) h = omega arith
cell_below (object o f) h = omega arith
cell_below (call r f) h = omega arith

-- different places have different cells
pub same_cell : (p q : Place) → Stands p → Stands q → cell_of p ≡ cell_of q → p ≡ q
unfolding cell_of
same_cell (header i) (header j) hp hq e = ap header e
same_cell (header i) (object o f) hp hq e = absurd (omega arith)
same_cell (header i) (call r f) hp hq e = absurd (omega arith)
same_cell (object o f) (header j) hp hq e = absurd (omega arith)
same_cell (object o f) (object o' f') hp hq e = ap₂ object (omega arith) (omega arith)
same_cell (object o f) (call r f') hp hq e = absurd (omega arith)
same_cell (call r f) (header j) hp hq e = absurd (omega arith)
same_cell (call r f) (object o f') hp hq e = absurd (omega arith)
same_cell (call r f) (call r' f') hp hq e = ap₂ call (omega arith) (omega arith)

-- the place of a cell, by where it lies
module _ (i : ℕ) where
  in_header : ltb i first_object ≡ true → place_of i ≡ header i
  unfolding place_of
  in_header e = rw (e, place_of)

  in_objects : ltb i first_object ≡ false → ltb i first_call ≡ true → place_of i ≡ object ((i - first_object) / object_cells + 1) ((i - first_object) % object_cells)
  unfolding place_of
  in_objects e f = rw (e, place_of, f)

  in_calls : ltb i first_object ≡ false → ltb i first_call ≡ false → place_of i ≡ call ((i - first_call) / call_cells + 1) ((i - first_call) % call_cells)
  unfolding place_of
  in_calls e f = rw (e, place_of, f)

-- every cell of a configuration is some place: the place of a cell stands, and its cell is that cell
abbrev Placed : ℕ → Place → Type 0
Placed i p = Stands p × (cell_of p ≡ i)

pub placed : (i : ℕ) → i < all_cells → Stands (place_of i) × (cell_of (place_of i) ≡ i)
unfolding cell_of
placed i h = by_header (ltb i first_object) refl
  where
    by_calls : (b : Bool) → ltb i first_object ≡ false → ltb i first_call ≡ b → Placed i (place_of i)
    by_calls true e f =
        let low = ltb-false i first_object e in
        let high = ltb-true i first_call f in
        subst (Placed i) (sym (in_objects i e f)) (omega arith)
    by_calls false e f = let low = ltb-false i first_call f in subst (Placed i) (sym (in_calls i e f)) (omega arith)

    by_header : (b : Bool) → ltb i first_object ≡ b → Placed i (place_of i)
    by_header true e = let high = ltb-true i first_object e in subst (Placed i) (sym (in_header i e)) (omega arith)
    by_header false e = by_calls (ltb i first_call) e refl

-- and the place of a place's cell is that place
pub place_cell : (p : Place) → Stands p → place_of (cell_of p) ≡ p
place_cell p h =
    let s = placed (cell_of p) (cell_below p h) in
    same_cell (place_of (cell_of p)) p s.0 h s.1

-- what a place reads as, and what a write makes of the cells, by whether it stands
module _ (c : Cells) (p : Place) where
  pub read_stood : stands p ≡ true → read c p ≡ get_or c (cell_of p) (pos 0)
  unfolding read
  read_stood e = rw (e, read)

  pub read_none : stands p ≡ false → read c p ≡ pos 0
  unfolding read
  read_none e = rw (e, read)

module _ (c : Cells) (p : Place) (z : ℤ) where
  pub write_stood : stands p ≡ true → write c p z ≡ set c (cell_of p) z
  unfolding write
  write_stood e = rw (e, write)

  pub write_none : stands p ≡ false → write c p z ≡ c
  unfolding write
  write_none e = rw (e, write)

  -- a write keeps the number of cells
  pub length_write : length (write c p z) ≡ length c
  length_write = go (stands p) refl
    where
      go : (b : Bool) → stands p ≡ b → length (write c p z) ≡ length c
      go true e = ap length (write_stood e) ∙ length-set c (cell_of p) z
      go false e = ap length (write_none e)

  -- a write puts its value at its own place
  pub read_write_same : Stands p → length c ≡ all_cells → read (write c p z) p ≡ z
  read_write_same h e =
      let b = cell_below p h in
      let s = stood p h in
      read_stood (write c p z) p s
      ∙ ap (λ d. get_or d (cell_of p) (pos 0)) (write_stood s)
      ∙ get_or-set_same c (cell_of p) z (pos 0) (omega arith)

  -- and leaves every other place
  pub read_write_other : (q : Place) → q ≢ p → read (write c p z) q ≡ read c q
  read_write_other q ne = go (stands p) (stands q) refl refl
    where
      go : (a b : Bool) → stands p ≡ a → stands q ≡ b → read (write c p z) q ≡ read c q
      go false b e f = ap (λ d. read d q) (write_none e)
      go true false e f = read_none (write c p z) q f ∙ sym (read_none c q f)
      go true true e f =
          read_stood (write c p z) q f
          ∙ ap (λ d. get_or d (cell_of q) (pos 0)) (write_stood e)
          ∙ get_or-set_other c (cell_of p) (cell_of q) z (pos 0) (λ s. ne (same_cell q p (standing q f) (standing p e) s))
          ∙ sym (read_stood c q f)

-- several writes keep the number of cells
pub length_written : (c : Cells) (ws : List Write) → length (written c ws) ≡ length c
unfolding written
length_written c [] = refl
length_written c (w ∷ ws) = length_written (write c w.0 w.1) ws ∙ length_write c w.0 w.1
