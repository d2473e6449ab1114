-- The model that an accepted text gives: classes, methods, statements. And which method a call binds to. Assumes nothing.
use Rattle.std.specs.Prelude.{ℕ, Bool, true, false, List, eqb, Option, None, Some, slice_get}
use Rattle.code.specs.Statements.{Code}

pub record Method : Type 0 where
  pub params : ℕ
  pub locals : ℕ
  pub code : List Code

pub record Class : Type 0 where
  pub attrs : ℕ
  pub given : ℕ
  pub run : ℕ
  pub methods : List Method

abbrev pub Model : Type 0
Model = List Class

-- a class with run 1
unfoldable pub runs : Class → Bool
runs k = eqb k.run 1

unfoldable pub takes : ℕ → Method → Option Method
takes args m = elim (eqb m.params args) [ true ↦ Some m | false ↦ None ]

-- "if the callee's class has the method with as many params as args": the method of a class, by its index and the number of arguments
unfoldable pub method_of : Class → ℕ → ℕ → Option Method
method_of k j args = elim (slice_get k.methods j) [ None ↦ None | Some m ↦ takes args m ]

unfoldable pub binds_to : Model → ℕ → ℕ → ℕ → Option Method
binds_to m class j args = elim (slice_get m class) [ None ↦ None | Some k ↦ method_of k j args ]
