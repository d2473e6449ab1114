-- Writes that spare a call: none is in its row. And what the last write in a row leaves. Assumes nothing.
use Rattle.std.specs.Prelude.{None, Some}
use Prim.Native.Nat.{ℕ, ◌+◌, ◌≤◌, ◌<◌}
use mathlib.Core.Bool.{Bool, true, false}
use mathlib.Core.List.{List, [], ◌∷◌, ◌++◌}
use mathlib.Core.Path.{◌≡◌, refl, sym, ap, fun_ext, ◌∙◌}
use mathlib.Core.Logic.{◌≢◌}
use native.Mathlib.Omega.{arith}
use lib.IntN.{ℤ}
use lib.ListN.{length}
use Rattle.whole.specs.Plain.{only_if}
use Rattle.layout.specs.Layout.{Cells, header, object, call, all_cells, call_rows, call_cells, is_row, write, Write, written, of_call, to_object, to_call, row_of, row_from}
use Rattle.layout.specs.Stages.{staged}
use Rattle.layout.proofs.Laws.{read_write_other, length_written}
use Rattle.layout.proofs.Writes.{Fields, put_same, put_other, call_read, call_put, written_append, written_call}

-- no write is in the row of a call
abbrev pub Spares : List Write → ℕ → Type 0
Spares [] l = Unit {0}
Spares (w ∷ ws) l = ((f : ℕ) → w.0 ≢ call l f) × Spares ws l

-- then the row is as it was
pub spared : (c : Cells) (ws : List Write) (l : ℕ) → Spares ws l → of_call (written c ws) l ≡ of_call c l
unfolding written
spared c [] l h = refl
spared c (w ∷ ws) l h =
    spared (write c w.0 w.1) ws l h.1
    ∙ fun_ext (λ f. call_read _ l f ∙ read_write_other c w.0 w.1 (call l f) (λ e. h.0 f (sym e)) ∙ sym (call_read c l f))

-- two parts
pub spares_both : (us vs : List Write) (l : ℕ) → Spares us l → Spares vs l → Spares (us ++ vs) l
spares_both [] vs l h k = k
spares_both (u ∷ us) vs l h k = (h.0, spares_both us vs l h.1 k)

-- places of other kinds, and of other rows
pub header_not : {i l f : ℕ} → header i ≢ call l f
header_not e = let z : ◌≡◌ {A = ℕ} 0 1 = cc in omega arith

object_not : {o g l f : ℕ} → object o g ≢ call l f
object_not e = let z : ◌≡◌ {A = ℕ} 0 1 = cc in omega arith

call_not : {r g l f : ℕ} → l ≢ r → call r g ≢ call l f
call_not {r} {l = l} n e = n (let s : l ≡ r = cc in s)

module _ (l : ℕ) where
  -- a value for a field of another call, its stage, a field of an object
  pub spares_call : (c : Cells) (r f : ℕ) (z : ℤ) → l ≢ r → Spares (to_call c r f z) l
  unfolding to_call row_of only_if
  spares_call c r f z n = go (is_row call_rows r)
    where
      go : (b : Bool) → Spares (elim (only_if b r) as (λ _. List Write) [ Some r ↦ (call r f, z) ∷ [] | None ↦ [] ]) l
      go true = (λ g. call_not n, tt)
      go false = tt

  pub spares_stage : (c : Cells) (r s : ℕ) → l ≢ r → Spares (staged c r s) l
  unfolding staged
  spares_stage c r s n = spares_call c r _ _ n

  pub spares_object : (o f : ℕ) (z : ℤ) → Spares (to_object o f z) l
  unfolding to_object
  spares_object o f z = (λ g. object_not, tt)

  -- the row of an object, and of another call
  pub spares_object_from : (o f : ℕ) (zs : List ℤ) → Spares (row_from (object o) f zs) l
  unfolding row_from
  spares_object_from o f [] = tt
  spares_object_from o f (z ∷ zs) = (λ g. object_not, spares_object_from o (f + 1) zs)

  pub spares_call_from : (r f : ℕ) (zs : List ℤ) → l ≢ r → Spares (row_from (call r) f zs) l
  unfolding row_from
  spares_call_from r f [] n = tt
  spares_call_from r f (z ∷ zs) n = (λ g. call_not n, spares_call_from r (f + 1) zs n)

-- a field of a call, written last in its row
module _ (c : Cells) (full : length c ≡ all_cells) (l : ℕ) (low : 1 ≤ l) (high : l ≤ call_rows) where
  pub last_in_row : (b : Cells) (us : List Write) (f : ℕ) (z : ℤ) → f < call_cells → of_call (written c (us ++ to_call b l f z)) l f ≡ z
  last_in_row b us f z h =
      let d = written c us in
      let n = length_written c us ∙ full in
      ap (λ d. of_call d l f) (written_append c us (to_call b l f z) ∙ written_call b d l f z)
      ∙ ap (λ (row : Fields). row f) (call_put d n z l f low high h)
      ∙ put_same f z (of_call d l)

  -- and another field of it
  pub other_in_row : (b : Cells) (us : List Write) (f g : ℕ) (z : ℤ) → f < call_cells → g ≢ f → of_call (written c (us ++ to_call b l f z)) l g ≡ of_call (written c us) l g
  other_in_row b us f g z h n =
      let d = written c us in
      let m = length_written c us ∙ full in
      ap (λ d. of_call d l g) (written_append c us (to_call b l f z) ∙ written_call b d l f z)
      ∙ ap (λ (row : Fields). row g) (call_put d m z l f low high h)
      ∙ put_other f z (of_call d l) g n

  -- writes that spare the row leave it
  pub spared_after : (us vs : List Write) → Spares vs l → of_call (written c (us ++ vs)) l ≡ of_call (written c us) l
  spared_after us vs h = ap (λ d. of_call d l) (written_append c us vs) ∙ spared (written c us) vs l h
