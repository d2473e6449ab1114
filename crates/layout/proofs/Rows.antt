-- What a rule writes, by rows: two counts, one call row and one object row are put anew, and every other row is as it was. Each piece that a
-- rule writes has its law here. Assumes nothing.
use Prim.Native.Nat.{ℕ, zero, suc, ◌+◌, ◌≤◌, ◌<◌}
use mathlib.Core.Bool.{Bool, true, false, ◌&&◌}
use mathlib.Core.List.{List, [], ◌∷◌}
use mathlib.Core.Path.{◌≡◌, refl, sym, ap, fun_ext, ◌∙◌}
use mathlib.Core.Logic.{◌≢◌}
use native.Mathlib.Omega.{arith}
use borrow.Author.Tests.{ltb-true, ltb-false, le-ltb}
use lib.Dec.{ltb}
use lib.IntN.{ℤ, pos}
use lib.ListN.{length, get_or, get_or-eq_default}
use Rattle.layout.specs.Layout.{Cells, object, call, object_rows, object_cells, call_rows, call_cells, all_cells, is_row, stands, read, write, written, objects, calls, of_object, of_call, to_object, to_call, row_from, stage}
use Rattle.layout.specs.Stages.{staged}
use Rattle.layout.proofs.Laws.{read_none, length_write}
use Rattle.layout.proofs.Writes.{Fields, put, put_other, put_same, call_read, object_read, written_call, written_object, call_put, call_other, call_object, call_header, object_put, object_other, object_call_row, object_header, header_put, header_other, header_call_row, header_object_row}

-- cells that are others with counts n and r, with one call row and one object row
pub record Rows (c d : Cells) (n r : ℤ) (l o : ℕ) (row its : Fields) : Type 0 where
  pub length : length d ≡ all_cells
  pub objects : read d objects ≡ n
  pub calls : read d calls ≡ r
  pub call : of_call d l ≡ row
  pub object : of_object d o ≡ its
  pub other_call : (l' : ℕ) → l' ≢ l → of_call d l' ≡ of_call c l'
  pub other_object : (o' : ℕ) → o' ≢ o → of_object d o' ≡ of_object c o'

-- nothing is written
pub unwritten : (c : Cells) (l o : ℕ) → length c ≡ all_cells → Rows c c (read c objects) (read c calls) l o (of_call c l) (of_object c o)
unwritten c l o full =
    record {
      length = full;
      objects = refl;
      calls = refl;
      call = refl;
      object = refl;
      other_call = λ l' n. refl;
      other_object = λ o' n. refl;
    }

-- several fields of a row put anew, from one on
abbrev pub puts : ℕ → List ℤ → Fields → Fields
puts f [] row = row
puts f (z ∷ zs) row = puts (f + 1) zs (put f z row)

pub puts_before : (f : ℕ) (zs : List ℤ) (row : Fields) (g : ℕ) → g < f → puts f zs row g ≡ row g
puts_before f [] row g h = refl
puts_before f (z ∷ zs) row g h =
    puts_before (f + 1) zs (put f z row) g (omega arith) ∙ put_other f z row g (λ e. omega arith)

pub puts_at : (f : ℕ) (zs : List ℤ) (row : Fields) (i : ℕ) → i < length zs → puts f zs row (f + i) ≡ get_or zs i (pos 0)
puts_at f [] row i h = absurd (omega arith)
puts_at f (z ∷ zs) row zero h =
    let s : f + 0 ≡ f = omega arith in
    puts_before (f + 1) zs (put f z row) (f + 0) (omega arith) ∙ ap (put f z row) s ∙ put_same f z row
puts_at f (z ∷ zs) row (suc i) h =
    let s : f + suc i ≡ f + 1 + i = omega arith in
    ap (puts (f + 1) zs (put f z row)) s ∙ puts_at (f + 1) zs (put f z row) i (omega arith)

module _ (c d : Cells) (n r : ℤ) (l o : ℕ) (row its : Fields) (h : Rows c d n r l o row its) where
  -- a field of the call
  pub puts_call : (f : ℕ) (z : ℤ) → 1 ≤ l → l ≤ call_rows → f < call_cells → Rows c (write d (call l f) z) n r l o (put f z row) its
  puts_call f z a b k =
      record {
        length = length_write d (call l f) z ∙ h.length;
        objects = call_header d h.length z l f 0 ∙ h.objects;
        calls = call_header d h.length z l f 1 ∙ h.calls;
        call = call_put d h.length z l f a b k ∙ ap (put f z) h.call;
        object = call_object d h.length z l f o ∙ h.object;
        other_call = λ l' n. call_other d h.length z l f l' n ∙ h.other_call l' n;
        other_object = λ o' n. call_object d h.length z l f o' ∙ h.other_object o' n;
      }

  -- a field of the object
  pub puts_object : (f : ℕ) (z : ℤ) → 1 ≤ o → o ≤ object_rows → f < object_cells → Rows c (write d (object o f) z) n r l o row (put f z its)
  puts_object f z a b k =
      record {
        length = length_write d (object o f) z ∙ h.length;
        objects = object_header d h.length z o f 0 ∙ h.objects;
        calls = object_header d h.length z o f 1 ∙ h.calls;
        call = object_call_row d h.length z o f l ∙ h.call;
        object = object_put d h.length z o f a b k ∙ ap (put f z) h.object;
        other_call = λ l' n. object_call_row d h.length z o f l' ∙ h.other_call l' n;
        other_object = λ o' n. object_other d h.length z o f o' n ∙ h.other_object o' n;
      }

  -- the number of objects, and of calls
  pub counts_objects : (z : ℤ) → Rows c (write d objects z) z r l o row its
  counts_objects z =
      record {
        length = length_write d objects z ∙ h.length;
        objects = header_put d h.length z 0 (omega arith);
        calls = header_other d h.length z 0 1 (λ e. omega arith) ∙ h.calls;
        call = header_call_row d h.length z 0 l ∙ h.call;
        object = header_object_row d h.length z 0 o ∙ h.object;
        other_call = λ l' n. header_call_row d h.length z 0 l' ∙ h.other_call l' n;
        other_object = λ o' n. header_object_row d h.length z 0 o' ∙ h.other_object o' n;
      }

  pub counts_calls : (z : ℤ) → Rows c (write d calls z) n z l o row its
  counts_calls z =
      record {
        length = length_write d calls z ∙ h.length;
        objects = header_other d h.length z 1 0 (λ e. omega arith) ∙ h.objects;
        calls = header_put d h.length z 1 (omega arith);
        call = header_call_row d h.length z 1 l ∙ h.call;
        object = header_object_row d h.length z 1 o ∙ h.object;
        other_call = λ l' n. header_call_row d h.length z 1 l' ∙ h.other_call l' n;
        other_object = λ o' n. header_object_row d h.length z 1 o' ∙ h.other_object o' n;
      }

  -- the same as writes: a value for a field of the call, a stage, and a value for a field of the object
  pub wrote_call : (b : Cells) (f : ℕ) (z : ℤ) → 1 ≤ l → l ≤ call_rows → f < call_cells → Rows c (written d (to_call b l f z)) n r l o (put f z row) its
  wrote_call b f z a k w = rw (written_call b d l f z) (puts_call f z a k w)

  pub wrote_stage : (b : Cells) (s : ℕ) → 1 ≤ l → l ≤ call_rows → Rows c (written d (staged b l s)) n r l o (put stage (pos s) row) its
  unfolding staged
  wrote_stage b s a k = wrote_call b stage (pos s) a k (omega arith)

  pub wrote_object : (f : ℕ) (z : ℤ) → 1 ≤ o → o ≤ object_rows → f < object_cells → Rows c (written d (to_object o f z)) n r l o row (put f z its)
  wrote_object f z a b w = rw (written_object d o f z) (puts_object f z a b w)

-- values for the fields of a row, from one on
module _ (c : Cells) (n r : ℤ) (l o : ℕ) where
  pub wrote_call_from : (d : Cells) (row its : Fields) → Rows c d n r l o row its → 1 ≤ l → l ≤ call_rows
      → (f : ℕ) (zs : List ℤ) → f + length zs ≤ call_cells → Rows c (written d (row_from (call l) f zs)) n r l o (puts f zs row) its
  unfolding row_from written
  wrote_call_from d row its h a b f [] k = h
  wrote_call_from d row its h a b f (z ∷ zs) k =
      wrote_call_from (write d (call l f) z) (put f z row) its (puts_call c d n r l o row its h f z a b (omega arith)) a b (f + 1) zs (omega arith)

  pub wrote_object_from : (d : Cells) (row its : Fields) → Rows c d n r l o row its → 1 ≤ o → o ≤ object_rows
      → (f : ℕ) (zs : List ℤ) → f + length zs ≤ object_cells → Rows c (written d (row_from (object o) f zs)) n r l o row (puts f zs its)
  unfolding row_from written
  wrote_object_from d row its h a b f [] k = h
  wrote_object_from d row its h a b f (z ∷ zs) k =
      wrote_object_from (write d (object o f) z) row (put f z its) (puts_object c d n r l o row its h f z a b (omega arith)) a b (f + 1) zs (omega arith)

-- the row of some values: what has no value is 0
abbrev pub valued : List ℤ → Fields
valued zs f = get_or zs f (pos 0)

-- a field past the last of a row reads 0
call_past : (d : Cells) (l f : ℕ) → call_cells ≤ f → of_call d l f ≡ pos 0
unfolding stands
call_past d l f h = call_read d l f ∙ read_none d (call l f) (go (is_row call_rows l))
  where
    go : (b : Bool) → b && ltb f call_cells ≡ false
    go true = le-ltb f call_cells h
    go false = refl

object_past : (d : Cells) (o f : ℕ) → object_cells ≤ f → of_object d o f ≡ pos 0
unfolding stands
object_past d o f h = object_read d o f ∙ read_none d (object o f) (go (is_row object_rows o))
  where
    go : (b : Bool) → b && ltb f object_cells ≡ false
    go true = le-ltb f object_cells h
    go false = refl

-- all the values of a row, whose fields past its width read as 0
all_put : (width : ℕ) (zs : List ℤ) (row got : Fields) → length zs ≡ width → got ≡ puts 0 zs row → ((f : ℕ) → width ≤ f → got f ≡ pos 0) → got ≡ valued zs
all_put width zs row got k w past = fun_ext (λ f. at f (ltb f width) refl)
  where
    at : (f : ℕ) (b : Bool) → ltb f width ≡ b → got f ≡ valued zs f
    at f true e =
        let z : f ≡ 0 + f = omega arith in
        ap (λ (row : Fields). row f) w ∙ ap (puts 0 zs row) z ∙ puts_at 0 zs row f (omega (arith, ltb-true f width e))
    at f false e =
        let wide = ltb-false f width e in
        past f wide ∙ sym (get_or-eq_default zs (pos 0) {n = f} (omega arith))

module _ (c d : Cells) (n r : ℤ) (l o : ℕ) (row its : Fields) (h : Rows c d n r l o row its) (zs : List ℤ) where
  pub wrote_call_row : 1 ≤ l → l ≤ call_rows → length zs ≡ call_cells → Rows c (written d (row_from (call l) 0 zs)) n r l o (valued zs) its
  wrote_call_row a b k =
      let w = wrote_call_from c n r l o d row its h a b 0 zs (omega arith) in
      record {
        length = w.length;
        objects = w.objects;
        calls = w.calls;
        call = all_put call_cells zs row _ k w.call (call_past _ l);
        object = w.object;
        other_call = w.other_call;
        other_object = w.other_object;
      }

  pub wrote_object_row : 1 ≤ o → o ≤ object_rows → length zs ≡ object_cells → Rows c (written d (row_from (object o) 0 zs)) n r l o row (valued zs)
  wrote_object_row a b k =
      let w = wrote_object_from c n r l o d row its h a b 0 zs (omega arith) in
      record {
        length = w.length;
        objects = w.objects;
        calls = w.calls;
        call = w.call;
        object = all_put object_cells zs its _ k w.object (object_past _ o);
        other_call = w.other_call;
        other_object = w.other_object;
      }
