-- What a configuration says of its counts and of running labels, in the words of demand 3. Assumes nothing.
use Prim.Native.Nat.{ℕ, zero, suc, ◌≤◌}
use mathlib.Core.Bool.{true}
use mathlib.Core.Logic.{◌⊎◌, inl, inr}
use mathlib.Core.Path.{◌≡◌, refl, ap, ◌∙◌}
use native.Mathlib.Omega.{arith}
use lib.IntN.{pos}
use lib.ListN.{length}
use Rattle.whole.specs.Whole.{nat}
use Rattle.layout.specs.Layout.{Cells, all_cells, read, calls, of_object, of_call, running_label, callee}
use Rattle.layout.specs.Stages.{running, objects_in_use, rows_in_use, stage_of}
use Rattle.model.specs.Model.{Model}
use Rattle.cells.specs.Configuration.{is_configuration}
use Rattle.whole.proofs.Tested.{nat_of}
use Rattle.cells.proofs.Facts.{ObjectHolds}
use Rattle.cells.proofs.Configured.{configured}
use Rattle.promises.specs.Lives.{Issued}

module _ (m : Model) (c : Cells) (is : is_configuration m c ≡ true) where
  -- 2,370 cells
  pub all_cells_lem : length c ≡ all_cells
  all_cells_lem = (configured m c is).length

  -- the count of calls is a natural number
  pub calls_counted : read c calls ≡ pos (rows_in_use c)
  unfolding rows_in_use
  calls_counted = (configured m c is).calls.counts

  -- "an object's running label is 0 or a stage 4 call with that callee"
  abbrev Runs : ℕ → Type 0
  Runs o = (of_object c o running_label ≡ pos 0)
      ⊎ ((l : ℕ) × (of_object c o running_label ≡ pos l) × Issued c l × (stage_of c l ≡ pos running) × (of_call c l callee ≡ pos o))

  -- each object in use runs nothing, or such a call
  pub runs_what : (o : ℕ) → 1 ≤ o → o ≤ objects_in_use c → Runs o
  unfolding stage_of
  runs_what o low high = go ((configured m c is).object o low high) (nat (of_object c o running_label)) refl
    where
      go : ObjectHolds m c o → (n : ℕ) → nat (of_object c o running_label) ≡ n → Runs o
      go h zero e = inl (h.label.counts ∙ ap pos e)
      go h (suc n) e =
          let (s, t) = h.running (omega arith) in
          inr (nat (of_object c o running_label), h.label.counts, (omega arith, h.label.most), s, t)

  -- "each stage 4 call is its callee's running label"
  pub named_by : (l : ℕ) → 1 ≤ l → l ≤ rows_in_use c → stage_of c l ≡ pos running → of_object c (nat (of_call c l callee)) running_label ≡ pos l
  unfolding stage_of
  named_by l low high s = ((configured m c is).call l low high).named (nat_of s)
