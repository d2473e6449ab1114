-- The test of a configuration is what holds of it. Assumes nothing.
use mathlib.Core.Bool.{Bool, true, false, ◌&&◌, false≢true}
use mathlib.Core.Path.{◌≡◌, refl}
use borrow.Author.Tests.{eqb-true, eq-eqb}
use lib.Dec.{eqb}
use lib.IntN.{pos}
use lib.ListN.{length}
use Rattle.whole.specs.Plain.{all_to}
use Rattle.whole.specs.Whole.{between}
use Rattle.whole.proofs.Both.{both, both_left, both_right}
use Rattle.whole.proofs.Each.{each_to, to_each}
use Rattle.layout.specs.Layout.{Cells, all_cells, object_rows, call_rows, read, objects, calls}
use Rattle.layout.specs.Stages.{objects_in_use, rows_in_use}
use Rattle.model.specs.Model.{Model}
use Rattle.cells.specs.Configuration.{place_in_use, zero_unless, object_holds, call_holds, unused_hold, is_configuration}
use Rattle.whole.proofs.Tested.{number, numbered}
use Rattle.cells.proofs.Facts.{Configured}
use Rattle.cells.proofs.FromTest.{object_facts}
use Rattle.cells.proofs.CallFromTest.{call_facts}
use Rattle.cells.proofs.ToTest.{object_test, call_test}
use Rattle.cells.proofs.Unused.{rows_unused, unused_rows}

module _ (m : Model) (c : Cells) where
  -- cells that passed the test are a configuration, in the document's words
  pub configured : is_configuration m c ≡ true → Configured m c
  unfolding is_configuration unused_hold
  configured e = go (counts && counts') refl e
    where
      counts : Bool
      counts = between (pos 1) (pos object_rows) (read c objects)

      counts' : Bool
      counts' = between (pos 1) (pos call_rows) (read c calls)

      zeros : Bool
      zeros = zero_unless (place_in_use (objects_in_use c) (rows_in_use c)) 0 c

      unused : Bool
      unused = eqb (length c) all_cells && zeros

      each : Bool
      each = all_to (objects_in_use c) (object_holds m c)

      go : (b : Bool) → counts && counts' ≡ b → (elim b [ true ↦ unused_hold m c && each && all_to (rows_in_use c) (call_holds m c) | false ↦ false ]) ≡ true → Configured m c
      go false f e = absurd (false≢true e)
      go true f e =
          let rows = both_left (unused && each) _ e in
          let full = eqb-true (length c) all_cells (both_left (eqb (length c) all_cells) zeros (both_left unused each rows)) in
          let free = rows_unused c full (objects_in_use c) (rows_in_use c) (both_right (eqb (length c) all_cells) zeros (both_left unused each rows)) in
          let n = number 1 object_rows (read c objects) (both_left counts counts' f) in
          record {
            length = full;
            objects = n;
            calls = number 1 call_rows (read c calls) (both_right counts counts' f);
            object = λ o h k. object_facts m c o (each_to (object_holds m c) (objects_in_use c) (both_right unused each rows) o h k);
            call = λ l h k. call_facts m c l n.counts (each_to (call_holds m c) (rows_in_use c) (both_right (unused && each) _ e) l h k);
            unused_object = free.0;
            unused_call = free.1;
          }

  -- and a configuration passes it
  pub passes : Configured m c → is_configuration m c ≡ true
  unfolding is_configuration unused_hold
  passes h =
      rw (both _ _ (numbered 1 object_rows (read c objects) h.objects) (numbered 1 call_rows (read c calls) h.calls), is_configuration)
      (both _ _
      (both _ _
      (both _ _ (eq-eqb (length c) all_cells h.length) (unused_rows c h.length (objects_in_use c) (rows_in_use c) h.unused_object h.unused_call))
      (to_each (object_holds m c) (objects_in_use c) (λ o a b. object_test m c o (h.object o a b))))
      (to_each (call_holds m c) (rows_in_use c) (λ l a b. call_test m c l (h.call l a b) h.objects.counts)))
