-- "unused ones 0": the pass over all cells says that every place that is not in use reads 0, and the converse. Assumes nothing.
use Prim.Native.Nat.{ℕ, zero, suc, ◌+◌, ◌<◌}
use mathlib.Core.Bool.{Bool, true, false, ◌||◌, false≢true}
use mathlib.Core.List.{[], ◌∷◌}
use mathlib.Core.Path.{◌≡◌, refl, sym, ap, ◌∙◌}
use native.Mathlib.Omega.{arith}
use native.Mathlib.Nat.{zero-add}
use borrow.Author.Tests.{leb-false, lt-leb}
use lib.IntN.{pos}
use lib.ListN.{length, get_or}
use Rattle.layout.specs.Layout.{Cells, Place, header, object, call, all_cells, stands, cell_of, place_of, read, of_object, of_call}
use Rattle.layout.proofs.Laws.{standing, stood, cell_below, placed, place_cell, read_stood, read_none}
use Rattle.cells.specs.Configuration.{is, place_in_use, zero_unless}
use Rattle.whole.proofs.Tested.{equals, equalled, otherwise, one_of, passed_failed}
use Rattle.layout.proofs.Writes.{call_read, object_read}

module _ (used : Place → Bool) where
  -- the pass, cell by cell
  pub zero_each : (i : ℕ) (zs : Cells) → zero_unless used i zs ≡ true → (j : ℕ) → j < length zs → used (place_of (i + j)) ≡ false → get_or zs j (pos 0) ≡ pos 0
  unfolding zero_unless
  zero_each i [] e j h n = refl
  zero_each i (z ∷ zs) e j h n = go (used (place_of i) || is z 0) refl e j h n (zero_each (i + 1) zs)
    where
      go : (b : Bool) → used (place_of i) || is z 0 ≡ b → (elim b [ true ↦ zero_unless used (i + 1) zs | false ↦ false ]) ≡ true
          → (j : ℕ) → j < length (z ∷ zs) → used (place_of (i + j)) ≡ false
          → (zero_unless used (i + 1) zs ≡ true → (j : ℕ) → j < length zs → used (place_of (i + 1 + j)) ≡ false → get_or zs j (pos 0) ≡ pos 0)
          → get_or (z ∷ zs) j (pos 0) ≡ pos 0
      go true f e zero h n later =
          let s : i + 0 ≡ i = omega arith in
          equals z 0 (otherwise (used (place_of i)) _ f (λ t. passed_failed t (ap (λ k. used (place_of k)) (sym s) ∙ n)))
      go true f e (suc j) h n later =
          let s : i + 1 + j ≡ i + suc j = omega arith in
          later e j (omega arith) (ap (λ k. used (place_of k)) s ∙ n)
      go false f e j h n later = absurd (false≢true e)

  pub each_zero : (i : ℕ) (zs : Cells) → ((j : ℕ) → j < length zs → used (place_of (i + j)) ≡ false → get_or zs j (pos 0) ≡ pos 0) → zero_unless used i zs ≡ true
  unfolding zero_unless
  each_zero i [] h = refl
  each_zero i (z ∷ zs) h =
      let s : i + 0 ≡ i = omega arith in
      let first : used (place_of i) || is z 0 ≡ true = one_of (used (place_of i)) _ (λ f. equalled z 0 (h 0 (omega arith) (ap (λ k. used (place_of k)) s ∙ f))) in
      let rest = each_zero (i + 1) zs (λ j k f. let t : i + 1 + j ≡ i + suc j = omega arith in h (suc j) (omega arith) (ap (λ k. used (place_of k)) (sym t) ∙ f)) in
      rw (first, zero_unless) rest

-- every place that is not in use reads 0
pub unused_read : (used : Place → Bool) (c : Cells) → length c ≡ all_cells → zero_unless used 0 c ≡ true → (p : Place) → used p ≡ false → read c p ≡ pos 0
unused_read used c full e p n = go (stands p) refl
  where
    go : (b : Bool) → stands p ≡ b → read c p ≡ pos 0
    go true s =
        let h = standing p s in
        let below = cell_below p h in
        read_stood c p s
        ∙ zero_each used 0 c e (cell_of p) (omega arith) (ap (λ i. used (place_of i)) (zero-add (cell_of p)) ∙ ap used (place_cell p h) ∙ n)
    go false s = read_none c p s

pub read_unused : (used : Place → Bool) (c : Cells) → length c ≡ all_cells → ((p : Place) → used p ≡ false → read c p ≡ pos 0) → zero_unless used 0 c ≡ true
read_unused used c full h =
    each_zero used 0 c
    (λ j k f.
    let z : 0 + j ≡ j = zero-add j in
    let (s, e) = placed j (omega arith) in
    ap (λ i. get_or c i (pos 0)) (sym e) ∙ sym (read_stood c (place_of j) (stood (place_of j) s)) ∙ h (place_of j) (ap (λ i. used (place_of i)) (sym z) ∙ f))

-- and, with so many objects and calls in use: what is no row in use reads 0
module _ (c : Cells) (full : length c ≡ all_cells) (n r : ℕ) where
  pub rows_unused : zero_unless (place_in_use n r) 0 c ≡ true
      → ((o f : ℕ) → n < o → of_object c o f ≡ pos 0) × ((l f : ℕ) → r < l → of_call c l f ≡ pos 0)
  unfolding place_in_use
  rows_unused e = (
    λ o f h. object_read c o f ∙ unused_read (place_in_use n r) c full e (object o f) (lt-leb o n h),
    λ l f h. call_read c l f ∙ unused_read (place_in_use n r) c full e (call l f) (lt-leb l r h),
  )

  pub unused_rows : ((o f : ℕ) → n < o → of_object c o f ≡ pos 0) → ((l f : ℕ) → r < l → of_call c l f ≡ pos 0) → zero_unless (place_in_use n r) 0 c ≡ true
  unfolding place_in_use
  unused_rows h k = read_unused (place_in_use n r) c full go
    where
      go : (p : Place) → place_in_use n r p ≡ false → read c p ≡ pos 0
      go (header i) f = absurd (passed_failed refl f)
      go (object o f) e = sym (object_read c o f) ∙ h o f (leb-false o n e)
      go (call l f) e = sym (call_read c l f) ∙ k l f (leb-false l r e)
