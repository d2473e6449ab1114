-- A reply that is taken: the label is in use and in stage 6, and the running call is as it was. Assumes nothing.
use Rattle.std.specs.Prelude.{Option, None, Some}
use Prim.Native.Nat.{ℕ, ◌≤◌}
use mathlib.Core.Bool.{Bool, true, false}
use mathlib.Core.Path.{◌≡◌, refl, ap, subst, ◌∙◌}
use native.Mathlib.Omega.{arith}
use lib.IntN.{ℤ, pos}
use Rattle.whole.specs.Plain.{only_if}
use Rattle.whole.specs.Whole.{nat}
use Rattle.whole.proofs.Both.{both_left}
use Rattle.layout.specs.Layout.{Cells, written, read, objects, calls, of_call, class, stage}
use Rattle.layout.specs.Stages.{replied, taken, objects_in_use, rows_in_use, label_of, is_reply, in_stage, reply_for, staged}
use Rattle.layout.proofs.Writes.{Fields}
use Rattle.model.specs.Model.{Model}
use Rattle.whole.proofs.Tested.{no_some, nat_of}
use Rattle.cells.proofs.FromTest.{up_to_number, stage_is}
use Rattle.layout.proofs.Rows.{unwritten, wrote_stage}
use Rattle.rules.proofs.Adding.{objects_counted, calls_counted}
use Rattle.rules.proofs.Messaging.{label_row, taken_keeps}
use Rattle.rules.proofs.Performing.{Performing, Still}

-- a reply for an object is a label in use, in stage 6
pub reply_is : (c : Cells) (o : ℕ) (z : ℤ) (from : ℕ) → reply_for c o z ≡ Some from → (1 ≤ from) × (from ≤ rows_in_use c) × (in_stage c from replied ≡ true)
unfolding reply_for label_of is_reply only_if
reply_is c o z from e = go (label_of c z) refl e
  where
    only : (b : Bool) (l : ℕ) → is_reply c o l ≡ b → only_if b l ≡ Some from → (l ≡ from) × (is_reply c o l ≡ true)
    only true l f e = (cc, f)
    only false l f e = absurd (no_some e)

    go : (f : Option ℕ) → label_of c z ≡ f → (elim f [ None ↦ None | Some l ↦ only_if (is_reply c o l) l ]) ≡ Some from
        → (1 ≤ from) × (from ≤ rows_in_use c) × (in_stage c from replied ≡ true)
    go None f e = absurd (no_some e)
    go (Some l) f e =
        let (n, s) = up_to_number (rows_in_use c) z l f in
        let (t, r) = only (is_reply c o l) l refl e in
        (omega arith, omega arith, both_left (in_stage c from replied) _ (subst (λ l. is_reply c o l ≡ true) t r))

-- after a reply was taken the running call is as it was
pub reply_taken : (m : Model) (c : Cells) (o l : ℕ) → Performing m c o l → (z : ℤ) (from : ℕ) → reply_for c o z ≡ Some from → Still m c (written c (staged c from taken)) o l
reply_taken m c o l p z from e =
    let (low, high, six) = reply_is c o z from e in
    let d = written c (staged c from taken) in
    let rows = wrote_stage c c _ _ from o _ _ (unwritten c from o p.conf.length) c taken low (label_row m c p.conf from low high) in
    let stage-six = nat_of (stage_is m c from replied six) in
    let stage-four = nat_of p.stage in
    let objects_are = objects_counted d (objects_in_use c) (rows.objects ∙ counted_objects) in
    let calls_are = calls_counted d (rows_in_use c) (rows.calls ∙ counted_calls) in
    record {
      conf = taken_keeps m c p.conf from low high six;
      objects = omega arith;
      calls = omega arith;
      row = rows.other_call l (λ s. let t = ap (λ l. nat (of_call c l stage)) s in omega arith);
      class = ap (λ (row : Fields). row class) rows.object;
    }
  where
    counted_objects : read c objects ≡ pos (objects_in_use c)
    counted_objects = unfold objects_in_use in p.conf.objects.counts

    counted_calls : read c calls ≡ pos (rows_in_use c)
    counted_calls = unfold rows_in_use in p.conf.calls.counts
