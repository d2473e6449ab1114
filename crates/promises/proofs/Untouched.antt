-- Several writes at places of a sort alone leave every other place, and so every field of a call at such a place. Assumes nothing.
use Prim.Native.Nat.{ℕ, ◌+◌, ◌≤◌}
use mathlib.Core.Bool.{Bool, true, false, false≢true}
use mathlib.Core.List.{List, [], ◌∷◌, ◌++◌}
use mathlib.Core.Path.{◌≡◌, refl, sym, ap, ◌∙◌}
use native.Mathlib.Omega.{arith}
use lib.IntN.{ℤ}
use Rattle.whole.specs.Plain.{only_if}
use Rattle.layout.specs.Layout.{Cells, Place, object, call, call_rows, is_row, read, write, Write, written, row_of, of_call, to_call, to_object, row_from}
use Rattle.layout.proofs.Laws.{read_write_other}
use Rattle.layout.proofs.Writes.{call_read}

-- writes at places of a sort alone
abbrev pub AtOnly : (Place → Bool) → List Write → Type 0
AtOnly sort [] = Unit {0}
AtOnly sort (w ∷ ws) = (sort w.0 ≡ true) × AtOnly sort ws

module _ (sort : Place → Bool) where
  -- two lists of such writes
  pub only_append : (a b : List Write) → AtOnly sort a → AtOnly sort b → AtOnly sort (a ++ b)
  only_append [] b h k = k
  only_append (w ∷ a) b h k = (h.0, only_append a b h.1 k)

  -- leave every place of another sort
  pub untouched : (c : Cells) (ws : List Write) (p : Place) → AtOnly sort ws → sort p ≡ false → read (written c ws) p ≡ read c p
  unfolding written
  untouched c [] p h e = refl
  untouched c (w ∷ ws) p h e =
      untouched (write c w.0 w.1) ws p h.1 e
      ∙ read_write_other c w.0 w.1 p (λ s. false≢true (sym e ∙ ap sort s ∙ h.0))

  -- and every field of a call that is of another sort
  pub field_kept : (c : Cells) (ws : List Write) (l f : ℕ) → AtOnly sort ws → sort (call l f) ≡ false → of_call (written c ws) l f ≡ of_call c l f
  field_kept c ws l f h e = call_read (written c ws) l f ∙ untouched c ws (call l f) h e ∙ sym (call_read c l f)

  -- the writes of a field of a call, of a field of an object, and of a row
  pub only_call : (c : Cells) (l f : ℕ) (z : ℤ) → sort (call l f) ≡ true → AtOnly sort (to_call c l f z)
  unfolding to_call row_of only_if
  only_call c l f z e = go (is_row call_rows l) refl
    where
      go : (b : Bool) → is_row call_rows l ≡ b → AtOnly sort (to_call c l f z)
      go true r = rw (r, to_call, row_of, only_if) (e, tt)
      go false r = rw (r, to_call, row_of, only_if) tt

  -- of an object
  pub only_object : (o f : ℕ) (z : ℤ) → sort (object o f) ≡ true → AtOnly sort (to_object o f z)
  unfolding to_object
  only_object o f z e = (e, tt)

  -- of a row from a field on
  pub only_row : (row : ℕ → Place) (f : ℕ) (zs : List ℤ) → ((g : ℕ) → f ≤ g → sort (row g) ≡ true) → AtOnly sort (row_from row f zs)
  unfolding row_from
  only_row row f [] e = tt
  only_row row f (z ∷ zs) e = (e f (omega arith), only_row row (f + 1) zs (λ g h. e g (omega arith)))
