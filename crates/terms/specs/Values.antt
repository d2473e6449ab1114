-- The reading *values*: what an expression and a guard give where a call performs them. Assumes nothing.
use Rattle.std.specs.Prelude.{ℕ, Bool, true, false, ◌&&◌, ◌||◌, ℤ, pos, None, Some}
use Rattle.whole.specs.Whole.{Worked, truth, is_true, applied, eq_z}
use Rattle.layout.specs.Layout.{Cells, of_object, of_call, caller, cleared, attribute, local}
use Rattle.layout.specs.Stages.{reply_for}
use Rattle.terms.specs.declared.Variable.{Variable}
use Rattle.terms.specs.declared.Variable.TheVariants.{Attribute, Local}
use Rattle.terms.specs.Expressions.{Reading}
use Rattle.terms.specs.declared.Junction.{Junction}
use Rattle.terms.specs.declared.Junction.TheVariants.{Both, Either}
use Rattle.terms.specs.Guards.{GuardReading}
use Rattle.terms.specs.Trees.{Expression, Guard, fold, fold_guard}

-- what a call sees: the cells, its object and its label
pub record Surroundings : Type 0 where
  pub cells : Cells
  pub object : ℕ
  pub label : ℕ

-- a variable's cell: an attribute of the object, or a local of the call
unfoldable pub held : Surroundings → Variable → ℤ
held e (Attribute i) = of_object e.cells e.object (attribute i)
held e (Local i) = of_call e.cells e.label (local i)

abbrev pub values : Surroundings → Reading Worked
values e = record {
  number = λ n. Some (pos n);
  variable = λ x. Some (held e x);
  self = Some (pos e.object);
  caller = Some (of_call e.cells e.label caller);
  apply = applied;
}

-- "`wait` is true exactly when cleared is 1"
unfoldable pub is_cleared : Surroundings → Bool
is_cleared e = eq_z (of_call e.cells e.label cleared) (pos 1)

-- "`X?` is true as for `get`, but takes nothing"
unfoldable pub is_replied : Surroundings → Variable → Bool
is_replied e x = elim (reply_for e.cells e.object (held e x)) [ None ↦ false | Some l ↦ true ]

-- an expression as an atom: "An expression is true when not 0."
unfoldable pub tested : Worked → Worked
tested (Some z) = Some (truth (is_true z))
tested None = None

unfoldable pub junction : Junction → Bool → Bool → Bool
junction Both p q = p && q
junction Either p q = p || q

-- two guards joined by `&` or `|`. "All atoms are worked out."
unfoldable pub joined : Junction → Worked → Worked → Worked
joined j (Some x) (Some y) = Some (truth (junction j (is_true x) (is_true y)))
joined j (Some x) None = None
joined j None (Some y) = None
joined j None None = None

-- a guard gives 1 where it is enabled and 0 where it is not, or is out of range
abbrev pub guard_values : Surroundings → GuardReading Worked Worked
guard_values e = record {
  wait = Some (truth (is_cleared e));
  reply = λ x. Some (truth (is_replied e x));
  test = tested;
  join = joined;
}

-- the value of a tree
unfoldable pub value_of : Surroundings → Expression → Worked
value_of e = fold (values e)

unfoldable pub guard_of : Surroundings → Guard → Worked
guard_of e = fold_guard (values e) (guard_values e)
