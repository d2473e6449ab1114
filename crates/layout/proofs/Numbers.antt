-- What the tests of a number say of the label that it is. Assumes nothing.
use Rattle.std.specs.Prelude.{Option, None, Some}
use Prim.Native.Nat.{ℕ, zero, suc, ◌≤◌}
use mathlib.Core.Bool.{Bool, true, false, ◌&&◌, false≢true}
use mathlib.Core.Path.{◌≡◌, refl, sym, ap, ◌∙◌}
use native.Mathlib.Omega.{arith}
use borrow.Author.Tests.{leb-true}
use lib.Dec.{T, leb, leb-suc-zero}
use lib.IntN.{ℤ, pos, negsuc, nat_abs}
use lib.Signed.{non_neg, le_z}
use mir.Syntax.{w32}
use mir.Val.{Fits, SFits}
use Rattle.whole.specs.Whole.{between, nat}
use Rattle.layout.specs.declared.Label as Declared
use Rattle.layout.specs.declared.Label.{Label}
use Rattle.layout.specs.Vocabulary.Found.{as_label, as_object}
use Rattle.layout.specs.Layout.{Cells, read, objects, calls}
use Rattle.whole.specs.Plain.{only_if}
use Rattle.whole.proofs.Both.{both_right}
use Rattle.layout.specs.Stages.{objects_in_use, rows_in_use, up_to, object_of, label_of, is_reply, reply_for}

module _ (k z : ℤ) (h : between (pos 1) k z ≡ true) where
  -- a number from 1 on is no negative one
  pub counted : SFits w32 z → T (non_neg z) × Fits w32 (nat_abs z)
  unfolding between
  counted f = go z h f
    where
      go : (y : ℤ) → between (pos 1) k y ≡ true → SFits w32 y → T (non_neg y) × Fits w32 (nat_abs y)
      go (pos n) e f = (tt, record { fits = omega (arith, f.sfits) })
      go (negsuc n) e f = absurd (false≢true e)

  pub counted_as : nat_abs z ≡ nat z
  unfolding between nat
  counted_as = go z h
    where
      go : (y : ℤ) → between (pos 1) k y ≡ true → nat_abs y ≡ nat y
      go (pos n) e = refl
      go (negsuc n) e = absurd (false≢true e)

-- the count of a header cell, as a number
pub count_cell : (k z : ℤ) → between (pos 1) (pos (nat k)) z ≡ between (pos 1) k z
unfolding between nat
count_cell (pos n) z = refl
count_cell (negsuc n) (pos zero) = refl
count_cell (negsuc n) (pos (suc m)) = ap (le_z (pos 1) (pos (suc m)) &&◌) (leb-suc-zero m)
count_cell (negsuc n) (negsuc m) = refl

-- a number that passed the test of a count, or did not
module _ (k z : ℤ) where
  up_to_in : between (pos 1) k z ≡ true → up_to (nat k) z ≡ Some (nat_abs z)
  unfolding up_to only_if
  up_to_in h = rw (count_cell k z ∙ h, up_to, only_if) (ap Some (sym (counted_as k z h)))

  up_to_out : between (pos 1) k z ≡ false → up_to (nat k) z ≡ None
  unfolding up_to only_if
  up_to_out h = rw (count_cell k z ∙ h, up_to, only_if)

  -- and is then at most the count
  pub counted_within : (n : ℕ) → nat k ≤ n → between (pos 1) k z ≡ true → T (non_neg z) × (nat_abs z ≤ n)
  unfolding between nat
  counted_within n h e = go k z h e
    where
      go : (j y : ℤ) → nat j ≤ n → between (pos 1) j y ≡ true → T (non_neg y) × (nat_abs y ≤ n)
      go (pos i) (pos m) h e = let low = leb-true m i (both_right (leb 1 m) _ e) in (tt, omega arith)
      go (negsuc i) (pos m) h e = absurd (false≢true (both_right (leb 1 m) false e))
      go j (negsuc m) h e = absurd (false≢true e)

-- as a label, and as an object's number
module _ (c : Cells) (z : ℤ) where
  pub label_in_use : between (pos 1) (read c calls) z ≡ true → Some (record { 0 = nat_abs z }) ≡ as_label (label_of c z)
  unfolding as_label label_of rows_in_use
  label_in_use h = sym (ap as_label (up_to_in (read c calls) z h))

  pub label_not_in_use : between (pos 1) (read c calls) z ≡ false → None ≡ as_label (label_of c z)
  unfolding as_label label_of rows_in_use
  label_not_in_use h = sym (ap as_label (up_to_out (read c calls) z h))

  pub object_in_use : between (pos 1) (read c objects) z ≡ true → Some (record { 0 = nat_abs z }) ≡ as_object (object_of c z)
  unfolding as_object object_of objects_in_use
  object_in_use h = sym (ap as_object (up_to_in (read c objects) z h))

  pub object_not_in_use : between (pos 1) (read c objects) z ≡ false → None ≡ as_object (object_of c z)
  unfolding as_object object_of objects_in_use
  object_not_in_use h = sym (ap as_object (up_to_out (read c objects) z h))

-- the number of a label that was found
label_in : ℕ → Option Label → ℕ
label_in d (Some l) = l.0
label_in d None = d

module _ (c : Cells) (o : ℕ) (z : ℤ) where
  -- no label, no reply
  pub no_label : None ≡ as_label (label_of c z) → None ≡ as_label (reply_for c o z)
  unfolding as_label reply_for
  no_label e = go (label_of c z) refl e
    where
      go : (f : Option ℕ) → label_of c z ≡ f → None ≡ as_label f → None ≡ as_label (reply_for c o z)
      go None e' e = rw (e', reply_for)
      go (Some l) e' e = cc

  -- a label, and whether its reply is in
  pub a_label : (b : Bool) (l : ℕ) → Some (record { 0 = l }) ≡ as_label (label_of c z) → is_reply c o l ≡ b → as_label (only_if b l) ≡ as_label (reply_for c o z)
  unfolding as_label reply_for
  a_label b l e r = go (label_of c z) refl e
    where
      go : (f : Option ℕ) → label_of c z ≡ f → Some (record { 0 = l }) ≡ as_label f → as_label (only_if b l) ≡ as_label (reply_for c o z)
      go None e' e = cc
      go (Some n) e' e =
          let n-is : l ≡ n = unfold label_in in ap (label_in 0) e in
          rw (e', reply_for, ← n-is, r)

-- what was found, by what the code's enum says of it
pub label_some : (f : Option ℕ) (l : Declared.Label) → as_label f ≡ Some l → f ≡ Some l.0
unfolding as_label
label_some None l e = cc
label_some (Some n) l e = ap Some (unfold label_in in ap (label_in 0) e)

pub label_none : (f : Option ℕ) → as_label f ≡ None → f ≡ None
unfolding as_label
label_none None e = refl
label_none (Some n) e = cc
