-- A configuration by its tests in the order in which the code asks them. Assumes nothing.
use Prim.Native.Nat.{◌+◌, ◌*◌, ◌≤◌}
use mathlib.Core.Bool.{Bool, true, false, ◌&&◌}
use mathlib.Core.Path.{◌≡◌, refl}
use borrow.Author.Tests.{eq-eqb}
use lib.IntN.{pos}
use lib.ListN.{length}
use Rattle.whole.specs.Plain.{all_to}
use Rattle.whole.specs.Whole.{between}
use Rattle.whole.proofs.Both.{both_left, both_right}
use Rattle.whole.proofs.Tested.{number}
use Rattle.layout.specs.Layout.{Cells, read, objects, calls, object_rows, call_rows, first_object, object_cells, first_call, call_cells, all_cells}
use Rattle.layout.specs.Stages.{objects_in_use, rows_in_use}
use Rattle.layout.specs.Vocabulary.Found.{zeros_in}
use Rattle.model.specs.Model.{Model}
use Rattle.cells.specs.Configuration.{object_holds, call_holds, unused_hold, is_configuration}
use Rattle.checking.proofs.Unused.{two_passes}

-- the counts of a configuration
abbrev pub counts : Cells → Bool
counts c = between (pos 1) (pos object_rows) (read c objects) && between (pos 1) (pos call_rows) (read c calls)

module _ (c : Cells) (h : counts c ≡ true) where
  pub few_objects : objects_in_use c ≤ object_rows
  unfolding objects_in_use
  few_objects = (number 1 object_rows (read c objects) (both_left _ _ h)).most

  pub few_calls : rows_in_use c ≤ call_rows
  unfolding rows_in_use
  few_calls = (number 1 call_rows (read c calls) (both_right (between (pos 1) (pos object_rows) (read c objects)) _ h)).most

-- the cells behind the rows in use
abbrev pub behind_zero : Cells → Bool
behind_zero c = zeros_in c (first_object + objects_in_use c * object_cells) first_call && zeros_in c (first_call + rows_in_use c * call_cells) all_cells

module _ (m : Model) (c : Cells) where
  pub counts_wrong : counts c ≡ false → false ≡ is_configuration m c
  unfolding is_configuration
  counts_wrong e = rw (e, is_configuration)

  -- the counts hold: the cells behind the rows in use, then the objects, then the calls
  pub counts_right : length c ≡ all_cells → counts c ≡ true
      → behind_zero c && (all_to (objects_in_use c) (object_holds m c) && all_to (rows_in_use c) (call_holds m c)) ≡ is_configuration m c
  unfolding is_configuration unused_hold
  counts_right full e =
      rw (e, is_configuration, eq-eqb (length c) all_cells full, two_passes c (objects_in_use c) (rows_in_use c) full) (regroup (behind_zero c) _ _)
    where
      regroup : (a b d : Bool) → a && (b && d) ≡ a && b && d
      regroup true b d = refl
      regroup false b d = refl
