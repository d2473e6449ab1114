-- What writes leave, row by row: one field of one row is put anew, and every other row and field is as it was. Assumes nothing.
use Prim.Native.Nat.{ℕ, ◌≤◌, ◌<◌}
use mathlib.Core.Bool.{Bool, true, false, ◌&&◌}
use mathlib.Core.List.{List, [], ◌∷◌, ◌++◌}
use mathlib.Core.Path.{◌≡◌, refl, sym, ap, fun_ext, ◌∙◌}
use mathlib.Core.Logic.{◌≢◌}
use native.Mathlib.Omega.{arith}
use borrow.Author.Tests.{eqb-true, eqb-false, eq-eqb, ne_eqb}
use lib.Dec.{eqb, ltb}
use lib.IntN.{ℤ}
use lib.ListN.{length}
use Rattle.whole.specs.Plain.{only_if}
use Rattle.layout.specs.Layout.{Cells, Place, header, object, call, header_cells, object_rows, object_cells, call_rows, call_cells, all_cells, is_row, stands, read, write, Write, written, of_object, of_call, to_object, to_call, row_of}
use Rattle.layout.proofs.Laws.{Stands, read_none, write_none, read_write_same, read_write_other}

-- the cells of a row by their fields
abbrev pub Fields : Type 0
Fields = ℕ → ℤ

-- a row with one field put anew
abbrev pub put : ℕ → ℤ → Fields → Fields
put f z row g = elim (eqb g f) [ true ↦ z | false ↦ row g ]

-- and at another field
pub put_other : (f : ℕ) (z : ℤ) (row : Fields) (g : ℕ) → g ≢ f → put f z row g ≡ row g
put_other f z row g n = rw (ne_eqb g f n, put)

pub put_same : (f : ℕ) (z : ℤ) (row : Fields) → put f z row f ≡ z
put_same f z row = rw (eq-eqb f f refl, put)

-- several writes, one part after the other
pub written_append : (c : Cells) (ws vs : List Write) → written c (ws ++ vs) ≡ written (written c ws) vs
unfolding written
written_append c [] vs = refl
written_append c (w ∷ ws) vs = written_append (write c w.0 w.1) ws vs

-- a label that has no row has no place
no_row : (l f : ℕ) → is_row call_rows l ≡ false → stands (call l f) ≡ false
unfolding stands
no_row l f e = ap (λ b. b && ltb f call_cells) e

row_of_lem : (c : Cells) (l : ℕ) (b : Bool) → is_row call_rows l ≡ b → row_of c l ≡ only_if b l
unfolding row_of
row_of_lem c l b e = ap (λ t. only_if t l) e

-- a field of a call is what stands at its place
pub call_read : (c : Cells) (l f : ℕ) → of_call c l f ≡ read c (call l f)
unfolding of_call only_if
call_read c l f = go (is_row call_rows l) refl
  where
    go : (b : Bool) → is_row call_rows l ≡ b → of_call c l f ≡ read c (call l f)
    go true e = rw (row_of_lem c l true e, of_call)
    go false e = rw (row_of_lem c l false e, of_call) (sym (read_none c (call l f) (no_row l f e)))

pub object_read : (c : Cells) (o f : ℕ) → of_object c o f ≡ read c (object o f)
unfolding of_object
object_read c o f = refl

-- a value for a field of a call or of an object is one write at its place
pub written_call : (c d : Cells) (l f : ℕ) (z : ℤ) → written d (to_call c l f z) ≡ write d (call l f) z
unfolding to_call only_if written
written_call c d l f z = go (is_row call_rows l) refl
  where
    go : (b : Bool) → is_row call_rows l ≡ b → written d (to_call c l f z) ≡ write d (call l f) z
    go true e = rw (row_of_lem c l true e, to_call)
    go false e = rw (row_of_lem c l false e, to_call) (sym (write_none d (call l f) z (no_row l f e)))

pub written_object : (d : Cells) (o f : ℕ) (z : ℤ) → written d (to_object o f z) ≡ write d (object o f) z
unfolding to_object written
written_object d o f z = refl

-- places in different rows differ
calls_differ : {l l' f f' : ℕ} → l ≢ l' → call l f ≢ call l' f'
calls_differ {l} {l'} n e = let s : l ≡ l' = cc in n s

call_fields_differ : {l l' f f' : ℕ} → f ≢ f' → call l f ≢ call l' f'
call_fields_differ {f = f} {f' = f'} n e = let s : f ≡ f' = cc in n s

objects_differ : {l l' f f' : ℕ} → l ≢ l' → object l f ≢ object l' f'
objects_differ {l} {l'} n e = let s : l ≡ l' = cc in n s

object_fields_differ : {l l' f f' : ℕ} → f ≢ f' → object l f ≢ object l' f'
object_fields_differ {f = f} {f' = f'} n e = let s : f ≡ f' = cc in n s

headers_differ : {i j : ℕ} → i ≢ j → header i ≢ header j
headers_differ {i} {j} n e = let s : i ≡ j = cc in n s

object_call : {o f l g : ℕ} → object o f ≢ call l g
object_call e = let z : ◌≡◌ {A = ℕ} 0 1 = cc in omega arith

header_call : {i l g : ℕ} → header i ≢ call l g
header_call e = let z : ◌≡◌ {A = ℕ} 0 1 = cc in omega arith

header_object : {i o f : ℕ} → header i ≢ object o f
header_object e = let z : ◌≡◌ {A = ℕ} 0 1 = cc in omega arith

-- a row of places, each of another field, with one of them written
row_put : (d : Cells) (z : ℤ) (row : ℕ → Place) (f : ℕ) → ((g : ℕ) → g ≢ f → row g ≢ row f) → Stands (row f) → length d ≡ all_cells
    → (g : ℕ) → read (write d (row f) z) (row g) ≡ put f z (λ g. read d (row g)) g
row_put d z row f differ stand full g = go (eqb g f) refl
  where
    go : (t : Bool) → eqb g f ≡ t → read (write d (row f) z) (row g) ≡ put f z (λ g. read d (row g)) g
    go true e = rw (e, put) (ap (λ h. read (write d (row f) z) (row h)) (eqb-true g f e) ∙ read_write_same d (row f) z stand full)
    go false e = rw (e, put) (read_write_other d (row f) z (row g) (differ g (eqb-false g f e)))

-- cells with one place written: each row, and the counts
module _ (d : Cells) (full : length d ≡ all_cells) (z : ℤ) where
  -- a field of a call is put: its row, another call's row, an object's row, the header
  module _ (l f : ℕ) where
    pub call_put : 1 ≤ l → l ≤ call_rows → f < call_cells → of_call (write d (call l f) z) l ≡ put f z (of_call d l)
    call_put a b h =
        fun_ext (λ g. call_read _ l g ∙ row_put d z (call l) f (λ g n. call_fields_differ n) (a, b, h) full g)
        ∙ ap (put f z) (fun_ext (λ g. sym (call_read d l g)))

    pub call_other : (l' : ℕ) → l' ≢ l → of_call (write d (call l f) z) l' ≡ of_call d l'
    call_other l' n = fun_ext (λ g. call_read _ l' g ∙ read_write_other d (call l f) z (call l' g) (calls_differ n) ∙ sym (call_read d l' g))

    pub call_object : (o : ℕ) → of_object (write d (call l f) z) o ≡ of_object d o
    call_object o = fun_ext (λ g. object_read _ o g ∙ read_write_other d (call l f) z (object o g) object_call ∙ sym (object_read d o g))

    pub call_header : (i : ℕ) → read (write d (call l f) z) (header i) ≡ read d (header i)
    call_header i = read_write_other d (call l f) z (header i) header_call

  -- a field of an object is put
  module _ (o f : ℕ) where
    pub object_put : 1 ≤ o → o ≤ object_rows → f < object_cells → of_object (write d (object o f) z) o ≡ put f z (of_object d o)
    object_put a b h =
        fun_ext (λ g. object_read _ o g ∙ row_put d z (object o) f (λ g n. object_fields_differ n) (a, b, h) full g)
        ∙ ap (put f z) (fun_ext (λ g. sym (object_read d o g)))

    pub object_other : (o' : ℕ) → o' ≢ o → of_object (write d (object o f) z) o' ≡ of_object d o'
    object_other o' n =
        fun_ext (λ g. object_read _ o' g ∙ read_write_other d (object o f) z (object o' g) (objects_differ n) ∙ sym (object_read d o' g))

    pub object_call_row : (l : ℕ) → of_call (write d (object o f) z) l ≡ of_call d l
    object_call_row l =
        fun_ext (λ g. call_read _ l g ∙ read_write_other d (object o f) z (call l g) (λ e. object_call (sym e)) ∙ sym (call_read d l g))

    pub object_header : (i : ℕ) → read (write d (object o f) z) (header i) ≡ read d (header i)
    object_header i = read_write_other d (object o f) z (header i) header_object

  -- a count is put
  module _ (i : ℕ) where
    pub header_put : i < header_cells → read (write d (header i) z) (header i) ≡ z
    header_put h = read_write_same d (header i) z h full

    pub header_other : (j : ℕ) → j ≢ i → read (write d (header i) z) (header j) ≡ read d (header j)
    header_other j n = read_write_other d (header i) z (header j) (headers_differ n)

    pub header_call_row : (l : ℕ) → of_call (write d (header i) z) l ≡ of_call d l
    header_call_row l =
        fun_ext (λ g. call_read _ l g ∙ read_write_other d (header i) z (call l g) (λ e. header_call (sym e)) ∙ sym (call_read d l g))

    pub header_object_row : (o : ℕ) → of_object (write d (header i) z) o ≡ of_object d o
    header_object_row o =
        fun_ext (λ g. object_read _ o g ∙ read_write_other d (header i) z (object o g) (λ e. header_object (sym e)) ∙ sym (object_read d o g))
