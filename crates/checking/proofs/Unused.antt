-- "unused ones 0": one pass over all cells says what the two passes behind the rows in use say. Assumes nothing.
use Prim.Native.Nat.{ℕ, ◌+◌, ◌*◌, ◌≤◌, ◌<◌}
use mathlib.Core.Bool.{Bool, true, false, ◌&&◌, true≢false}
use mathlib.Core.Path.{◌≡◌, refl, sym, ap, ◌∙◌}
use native.Mathlib.Nat.{zero-add}
use native.Mathlib.Omega.{arith}
use borrow.Author.Tests.{leb-false, lt-leb}
use lib.IntN.{pos}
use lib.ListN.{length, get_or}
use Rattle.whole.proofs.Both.{both_left, both_right, both}
use Rattle.layout.specs.Layout.{Cells, Place, header, object, call, object_cells, call_cells, first_object, first_call, all_cells, cell_of, place_of}
use Rattle.layout.specs.Vocabulary.Found.{zeros_in}
use Rattle.layout.proofs.Laws.{Stands, placed}
use Rattle.layout.proofs.Zeros.{zeros_in_lem, in_zeros}
use Rattle.cells.specs.Configuration.{place_in_use, zero_unless}
use Rattle.cells.proofs.Unused.{zero_each, each_zero}

-- two tests that hold in the same cases
same : (a b : Bool) → (a ≡ true → b ≡ true) → (b ≡ true → a ≡ true) → a ≡ b
same true b f g = sym (f refl)
same false true f g = g refl
same false false f g = refl

-- cells, and how many objects and calls are in use
module _ (c : Cells) (n r : ℕ) where
  -- a place behind the objects in use, or behind the calls in use, is not in use
  behind_objects : (p : Place) → Stands p → first_object + n * object_cells ≤ cell_of p → cell_of p < first_call → place_in_use n r p ≡ false
  unfolding place_in_use cell_of
  behind_objects (header i) s h k = absurd (omega arith)
  behind_objects (object o f) s h k = lt-leb o n (omega arith)
  behind_objects (call l f) s h k = absurd (omega arith)

  behind_calls : (p : Place) → Stands p → first_call + r * call_cells ≤ cell_of p → place_in_use n r p ≡ false
  unfolding place_in_use cell_of
  behind_calls (header i) s h = absurd (omega arith)
  behind_calls (object o f) s h = absurd (omega arith)
  behind_calls (call l f) s h = lt-leb l r (omega arith)

  -- and a place that is not in use lies behind one or the other
  zero_at : zeros_in c (first_object + n * object_cells) first_call ≡ true → zeros_in c (first_call + r * call_cells) all_cells ≡ true
      → (p : Place) → Stands p → place_in_use n r p ≡ false → get_or c (cell_of p) (pos 0) ≡ pos 0
  unfolding place_in_use cell_of
  zero_at a b (header i) s e = absurd (true≢false e)
  zero_at a b (object o f) s e = let k = leb-false o n e in zeros_in_lem c (first_object + n * object_cells) first_call a (cell_of (object o f)) (omega arith) (omega arith)
  zero_at a b (call l f) s e = let k = leb-false l r e in zeros_in_lem c (first_call + r * call_cells) all_cells b (cell_of (call l f)) (omega arith) (omega arith)

  -- the two passes
  abbrev objects_zero : Bool
  objects_zero = zeros_in c (first_object + n * object_cells) first_call

  abbrev calls_zero : Bool
  calls_zero = zeros_in c (first_call + r * call_cells) all_cells

  module _ (full : length c ≡ all_cells) where
    -- a cell whose place is not in use is 0 in the one pass
    at : zero_unless (place_in_use n r) 0 c ≡ true → (i : ℕ) → i < all_cells → place_in_use n r (place_of i) ≡ false → get_or c i (pos 0) ≡ pos 0
    at e i h f = zero_each (place_in_use n r) 0 c e i (omega arith) (ap (λ k. place_in_use n r (place_of k)) (zero-add i) ∙ f)

    pub two_passes : zero_unless (place_in_use n r) 0 c ≡ zeros_in c (first_object + n * object_cells) first_call && zeros_in c (first_call + r * call_cells) all_cells
    two_passes = same (zero_unless (place_in_use n r) 0 c) (objects_zero && calls_zero) to from
      where
        to : zero_unless (place_in_use n r) 0 c ≡ true → objects_zero && calls_zero ≡ true
        to e =
            both objects_zero calls_zero (in_zeros c (first_object + n * object_cells) first_call (λ i h k. let (s, p) = placed i (omega arith) in at e i (omega arith) (behind_objects (place_of i) s (omega arith) (omega arith))))
            (in_zeros c (first_call + r * call_cells) all_cells (λ i h k. let (s, p) = placed i k in at e i k (behind_calls (place_of i) s (omega arith))))

        from : objects_zero && calls_zero ≡ true → zero_unless (place_in_use n r) 0 c ≡ true
        from e =
            each_zero (place_in_use n r) 0 c (λ j h f.
            let (s, p) = placed j (omega arith) in
            ap (λ i. get_or c i (pos 0)) (sym p)
            ∙ zero_at (both_left objects_zero calls_zero e) (both_right objects_zero calls_zero e) (place_of j) s (ap (λ k. place_in_use n r (place_of k)) (sym (zero-add j)) ∙ f))
