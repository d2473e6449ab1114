-- The rows of a new object and of a new call: the values of each field, and what writing them leaves. Assumes nothing.
use Prim.Native.Nat.{ℕ, suc, ◌+◌, ◌-◌, ◌≤◌, ◌<◌}
use mathlib.Core.Bool.{Bool, true, false}
use mathlib.Core.List.{List, [], ◌∷◌, ◌++◌}
use mathlib.Core.Path.{◌≡◌, refl, sym, ap, ◌∙◌}
use native.Mathlib.Omega.{arith}
use borrow.Author.Tests.{ltb-true, ltb-false}
use lib.Dec.{ltb}
use lib.IntN.{ℤ, pos}
use lib.ListN.{length, get_or, replicate, length-append, length-replicate, get_or-replicate, get_or-append, get_or-eq_default}
use lib.Seq.{length-take-le, get_or-take, get_or-append-add}
use Rattle.layout.specs.Layout
use Rattle.layout.specs.Layout.{Cells, most_attributes, most_locals, object_rows, call_rows, written, padded, new_object, new_call}
use Rattle.layout.proofs.Writes.{Fields}
use Rattle.layout.proofs.Rows.{Rows, valued, wrote_call_row, wrote_object_row}

-- the first of some values, and 0 for those that are missing
pub padded_length : (n : ℕ) (zs : List ℤ) → length (padded n zs) ≡ n
unfolding padded
padded_length n zs =
    length-take-le n (zs ++ replicate n (pos 0)) (omega (arith, length-append zs (replicate n (pos 0)), length-replicate n (pos 0)))

pub padded_at : (n : ℕ) (zs : List ℤ) (i : ℕ) → i < n → get_or (padded n zs) i (pos 0) ≡ get_or zs i (pos 0)
unfolding padded
padded_at n zs i h = get_or-take n (zs ++ replicate n (pos 0)) i (pos 0) h ∙ go (ltb i (length zs)) refl
  where
    go : (b : Bool) → ltb i (length zs) ≡ b → get_or (zs ++ replicate n (pos 0)) i (pos 0) ≡ get_or zs i (pos 0)
    go true e = get_or-append zs (replicate n (pos 0)) (pos 0) i (ltb-true i (length zs) e)
    go false e =
        let past = ltb-false i (length zs) e in
        let z : i ≡ length zs + (i - length zs) = omega arith in
        ap (λ k. get_or (zs ++ replicate n (pos 0)) k (pos 0)) z
        ∙ get_or-append-add zs (replicate n (pos 0)) (i - length zs) (pos 0)
        ∙ get_or-replicate n (i - length zs) (pos 0) (pos 0) (omega arith)
        ∙ sym (get_or-eq_default zs (pos 0) {n = i} past)

-- a new object's cells, and a new call's
abbrev pub object_values : ℕ → ℕ → List ℤ → List ℤ
object_values k l zs = pos k ∷ pos l ∷ padded most_attributes zs

abbrev pub call_values : ℕ → ℕ → ℕ → ℕ → List ℤ → List ℤ
call_values s by to j zs = pos s ∷ pos by ∷ pos to ∷ pos j ∷ pos (length zs) ∷ pos 0 ∷ pos 0 ∷ pos 0 ∷ padded most_locals zs

-- "arguments in its first attributes", and "in v0 on"
pub new_attribute : (k l : ℕ) (zs : List ℤ) (i : ℕ) → i < most_attributes → valued (object_values k l zs) (Layout.attribute i) ≡ get_or zs i (pos 0)
new_attribute k l zs i h = get_or-append-add (pos k ∷ pos l ∷ []) (padded most_attributes zs) i (pos 0) ∙ padded_at most_attributes zs i h

pub new_local : (s by to j : ℕ) (zs : List ℤ) (i : ℕ) → i < most_locals → valued (call_values s by to j zs) (Layout.local i) ≡ get_or zs i (pos 0)
new_local s by to j zs i h =
    get_or-append-add (pos s ∷ pos by ∷ pos to ∷ pos j ∷ pos (length zs) ∷ pos 0 ∷ pos 0 ∷ pos 0 ∷ []) (padded most_locals zs) i (pos 0)
    ∙ padded_at most_locals zs i h

-- the writes of a new object and of a new call
module _ (c d : Cells) (n r : ℤ) (l o : ℕ) (row its : Fields) (h : Rows c d n r l o row its) where
  pub wrote_new_object : 1 ≤ o → o ≤ object_rows → (k label : ℕ) (zs : List ℤ) → Rows c (written d (new_object o k label zs)) n r l o row (valued (object_values k label zs))
  unfolding new_object
  wrote_new_object a b k label zs =
      wrote_object_row c d n r l o row its h (object_values k label zs) a b (ap (λ n. suc (suc n)) (padded_length most_attributes zs))

  pub wrote_new_call : 1 ≤ l → l ≤ call_rows → (s by to j : ℕ) (zs : List ℤ) → Rows c (written d (new_call l s by to j zs)) n r l o (valued (call_values s by to j zs)) its
  unfolding new_call
  wrote_new_call a b s by to j zs =
      wrote_call_row c d n r l o row its h (call_values s by to j zs) a b
      (ap (λ n. suc (suc (suc (suc (suc (suc (suc (suc n)))))))) (padded_length most_locals zs))
