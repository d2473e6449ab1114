-- A cell that was found is that of its place: what stands there, and a value put there. Assumes nothing.
use Rattle.std.specs.Prelude.{Option, None, Some}
use Prim.Native.Nat.{ℕ, zero, suc, ◌+◌, ◌-◌, ◌*◌, ◌≤◌, ◌<◌}
use mathlib.Core.Bool.{Bool, true, false}
use mathlib.Core.List.{List, [], ◌∷◌, ◌++◌}
use mathlib.Core.Path.{◌≡◌, refl, sym, ap, ap₂, ◌∙◌}
use native.Mathlib.Numerals.{add-one}
use native.Mathlib.Omega.{arith}
use borrow.Author.Tests.{lt-ltb, le-ltb}
use lib.IntN.{ℤ, pos}
use lib.ListN.{length, get_or, set, drop, length-set, drop_of_length-le}
use lib.Seq.{drop-cons}
use Rattle.whole.specs.Plain.{only_if}
use Rattle.layout.specs.Layout.{Cells, Place, call, is_row, stands, cell_of, read, write, written, row_of, of_call, to_call, row_from}
use Rattle.layout.specs.Vocabulary.Found.{placed, call_placed, field_cell, held_at, put_at, row_to}

-- the cell of a field, by the tests of row and field
module _ (first rows width r f : ℕ) where
  pub field_there : is_row rows r ≡ true → f < width → field_cell first rows width r f ≡ Some (first + (r - 1) * width + f)
  unfolding field_cell only_if
  field_there e h = rw (e, field_cell, lt-ltb f width h)

  pub field_past : is_row rows r ≡ true → width ≤ f → field_cell first rows width r f ≡ None
  unfolding field_cell only_if
  field_past e h = rw (e, field_cell, le-ltb f width h)

  pub row_past : is_row rows r ≡ false → field_cell first rows width r f ≡ None
  unfolding field_cell only_if
  row_past e = rw (e, field_cell)

-- a value put past the end changes nothing
pub set_past : (zs : Cells) (i : ℕ) (z : ℤ) → length zs ≤ i → set zs i z ≡ zs
set_past [] i z h = refl
set_past (y ∷ zs) zero z h = absurd (omega arith)
set_past (y ∷ zs) (suc i) z h = ap (y ∷◌) (set_past zs i z (omega arith))

-- of a place
module _ (c : Cells) (p : Place) where
  pub held_placed : held_at c (placed p) ≡ read c p
  unfolding placed only_if held_at read
  held_placed = go (stands p) refl
    where
      go : (b : Bool) → stands p ≡ b → held_at c (only_if (stands p) (cell_of p)) ≡ read c p
      go true e = rw (e, read)
      go false e = rw (e, read)

  pub put_placed : (z : ℤ) → put_at c (placed p) z ≡ write c p z
  unfolding placed only_if put_at write
  put_placed z = go (stands p) refl
    where
      go : (b : Bool) → stands p ≡ b → put_at c (only_if (stands p) (cell_of p)) z ≡ write c p z
      go true e = rw (e, write)
      go false e = rw (e, write)

-- and of a call's field
module _ (c : Cells) (l f : ℕ) where
  pub call_at : (r : ℕ) → row_of c l ≡ Some r → call_placed c l f ≡ placed (call r f)
  unfolding call_placed
  call_at r e = rw (e, call_placed)

  pub call_none : row_of c l ≡ None → call_placed c l f ≡ None
  unfolding call_placed
  call_none e = rw (e, call_placed)

  pub held_call : held_at c (call_placed c l f) ≡ of_call c l f
  unfolding call_placed of_call held_at
  held_call = go (row_of c l) refl
    where
      go : (o : Option ℕ) → row_of c l ≡ o → held_at c (call_placed c l f) ≡ of_call c l f
      go None e = rw (e, call_placed, of_call)
      go (Some r) e = rw (e, call_placed, of_call) (held_placed c (call r f))

  pub put_call : (z : ℤ) → put_at c (call_placed c l f) z ≡ written c (to_call c l f z)
  unfolding call_placed to_call put_at written
  put_call z = go (row_of c l) refl
    where
      go : (o : Option ℕ) → row_of c l ≡ o → put_at c (call_placed c l f) z ≡ written c (to_call c l f z)
      go None e = rw (e, call_placed, to_call)
      go (Some r) e = rw (e, call_placed, to_call) (put_placed c (call r f) z)

-- a value put in a cell that was found keeps the number of cells
pub length_put : (c : Cells) (f : Option ℕ) (z : ℤ) → length (put_at c f z) ≡ length c
unfolding put_at
length_put c None z = refl
length_put c (Some i) z = length-set c i z

-- the values of a row that are left, from a field on: the first of them is put, and then the others
module _ (first rows width : ℕ) (c : Cells) (r f i : ℕ) (zs : List ℤ) where
  pub row_more : i < length zs
      → row_to first rows width (put_at c (field_cell first rows width r (f + i)) (get_or zs i (pos 0))) r (f + (i + 1)) (drop (i + 1) zs)
      ≡ row_to first rows width c r (f + i) (drop i zs)
  unfolding row_to
  row_more h =
      let d = put_at c (field_cell first rows width r (f + i)) (get_or zs i (pos 0)) in
      ap₂ (λ g n. row_to first rows width d r g (drop n zs)) (let e : f + (i + 1) ≡ f + i + 1 = omega arith in e) (add-one i)
      ∙ sym (ap (row_to first rows width c r (f + i)) (drop-cons zs i (pos 0) h))

  -- and past the last of them nothing is left
  pub row_done : length zs ≤ i → row_to first rows width c r (f + i) (drop i zs) ≡ c
  unfolding row_to
  row_done h = rw (drop_of_length-le zs h)

-- two parts of a row, one behind the other
pub row_append : (first rows width : ℕ) (c : Cells) (r f g : ℕ) (ys zs : List ℤ) → g ≡ f + length ys
    → row_to first rows width (row_to first rows width c r f ys) r g zs ≡ row_to first rows width c r f (ys ++ zs)
unfolding row_to
row_append first rows width c r f g [] zs e = ap (λ h. row_to first rows width c r h zs) (let z : g ≡ f = omega arith in z)
row_append first rows width c r f g (y ∷ ys) zs e =
    row_append first rows width (put_at c (field_cell first rows width r f) y) r (f + 1) g ys zs (omega arith)

-- a row that is put by its fields is written by its places
module _ (first rows width : ℕ) (row : ℕ → Place) (r : ℕ) (same : (f : ℕ) → placed (row f) ≡ field_cell first rows width r f) where
  pub row_written : (c : Cells) (f : ℕ) (zs : List ℤ) → row_to first rows width c r f zs ≡ written c (row_from row f zs)
  unfolding row_to written row_from
  row_written c f [] = refl
  row_written c f (z ∷ zs) =
      ap (λ d. row_to first rows width d r (f + 1) zs) (ap (λ o. put_at c (o) z) (sym (same f)) ∙ put_placed c (row f) z)
      ∙ row_written (write c (row f) z) (f + 1) zs
