-- The five kinds of a choice. Assumes nothing.
use Rattle.std.specs.Prelude.{ℕ, zero, suc, List, [], ◌∷◌, ℤ, pos, negsuc, Option, None, slice_get}
use Rattle.layout.specs.Layout.{Cells}
use Rattle.layout.specs.Stages.{objects_in_use, rows_in_use}
use Rattle.rules.specs.declared.Choice.{Choice}
use Rattle.rules.specs.declared.Kind.{Kind}
use Rattle.rules.specs.declared.Kind.TheVariants as Kind

-- "exec O (kind 1)", "arrive L (2)", "bind L (3)", "start L (4)", "deliver L (5)"
abbrev pub kinds : List Kind
kinds = Kind.Exec ∷ Kind.Arrive ∷ Kind.Bind ∷ Kind.Start ∷ Kind.Deliver ∷ []

unfoldable pub kind_number : Kind → ℕ
kind_number Kind.Exec = 1
kind_number Kind.Arrive = 2
kind_number Kind.Bind = 3
kind_number Kind.Start = 4
kind_number Kind.Deliver = 5

-- a kind by its number; 0 and those from 6 on have none
unfoldable pub kind_of : ℤ → Option Kind
kind_of (pos n) = elim n [ zero ↦ None | suc i ↦ slice_get kinds i ]
kind_of (negsuc n) = None

-- how many a kind has to choose from: exec the objects in use, the others the labels
unfoldable pub in_use : Cells → Kind → ℕ
in_use c Kind.Exec = objects_in_use c
in_use c Kind.Arrive = rows_in_use c
in_use c Kind.Bind = rows_in_use c
in_use c Kind.Start = rows_in_use c
in_use c Kind.Deliver = rows_in_use c

-- a choice by its kind and a number
unfoldable pub choose : Kind → ℕ → Choice
choose k n = record { kind = pos (kind_number k); number = pos n }
