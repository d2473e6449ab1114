-- A variable that is stored, a new object and a new call spare every other call. Assumes nothing.
use Prim.Native.Nat.{ℕ}
use mathlib.Core.List.{List}
use mathlib.Core.Logic.{◌≢◌}
use lib.IntN.{ℤ}
use Rattle.layout.specs.Layout.{Cells, new_object, new_call}
use Rattle.terms.specs.declared.Variable.{Variable}
use Rattle.terms.specs.declared.Variable.TheVariants.{Attribute, Local}
use Rattle.rules.specs.Exec.{stored, next_row, with_object, with_call}
use Rattle.layout.proofs.Sparing.{Spares, header_not, spares_call, spares_object, spares_object_from, spares_call_from}

module _ (l : ℕ) where
  -- a variable of a call, by that call
  pub spares_stored : (c : Cells) (o r : ℕ) (x : Variable) (z : ℤ) → l ≢ r → Spares (stored c o r x z) l
  unfolding stored
  spares_stored c o r (Attribute i) z n = spares_object l o _ z
  spares_stored c o r (Local i) z n = spares_call l c r _ z n

  -- the next object, and the next label
  pub spares_new_object : (c : Cells) (k label : ℕ) (zs : List ℤ) → Spares (with_object c k label zs) l
  unfolding with_object new_object
  spares_new_object c k label zs = (λ g. header_not, spares_object_from l _ _ _)

  pub spares_new_call : (c : Cells) (s by to j : ℕ) (zs : List ℤ) → l ≢ next_row c → Spares (with_call c s by to j zs) l
  unfolding with_call new_call
  spares_new_call c s by to j zs n = (λ g. header_not, spares_call_from l _ _ _ n)
