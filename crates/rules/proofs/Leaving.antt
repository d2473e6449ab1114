-- A running call that leaves its object: suspended at an `await`, or returned. Assumes nothing.
use Prim.Native.Nat.{ℕ, ◌≤◌}
use mathlib.Core.Bool.{Bool, true, false}
use mathlib.Core.List.{◌++◌}
use mathlib.Core.Path.{◌≡◌, refl, sym, ap, subst, ◌∙◌}
use native.Mathlib.Omega.{arith}
use lib.IntN.{ℤ, pos}
use Rattle.whole.specs.Whole.{eq_z, nat}
use Rattle.layout.specs.Layout.{Cells, written, object_rows, read, objects, calls, of_object, of_call, to_object, to_call, class, running_label, caller, callee, cleared, value}
use Rattle.layout.specs.Stages.{bound, answered, taken, nobody, objects_in_use, staged}
use Rattle.code.specs.declared.Shape.TheVariants as Shape
use Rattle.code.specs.Blocks.{shape_of}
use Rattle.model.specs.Model.{Model}
use Rattle.cells.specs.Standing.{Standing}
use Rattle.whole.proofs.Tested.{nat_of, equalled, passed_failed}
use Rattle.cells.proofs.Facts.{CallFacts, Configured}
use Rattle.cells.proofs.CallFromTest.{counted_is}
use Rattle.layout.proofs.Writes.{Fields, put, written_append}
use Rattle.layout.proofs.Rows.{Rows, unwritten, wrote_call, wrote_stage, wrote_object}
use Rattle.cells.proofs.Rewritten.{call_at, freed, rewritten}
use Rattle.cells.proofs.Moves.{suspended, returned}
use Rattle.rules.specs.Exec.{stage_returned}
use Rattle.rules.proofs.Messaging.{label_row, attributes_kept}
use Rattle.rules.proofs.Performing.{Performing}

module _ (m : Model) (c : Cells) (o l : ℕ) (p : Performing m c o l) where
  -- what holds of the call
  holds : CallFacts m (objects_in_use c) (of_object c o class) (of_object c o running_label) l (of_call c l)
  holds = call_at m c l o p.conf p.call.0 p.call.1 p.callee

  pub object_row : o ≤ object_rows
  unfolding objects_in_use
  object_row = let a = p.object.1 in let b = p.conf.objects.most in omega arith

  -- its row is put anew, and the object is idle
  leaves : (d : Cells) (row : Fields) → Rows c d (read c objects) (read c calls) l o row (put running_label (pos 0) (of_object c o)) → row callee ≡ pos o
      → CallFacts m (objects_in_use c) (of_object c o class) (pos 0) l row → Configured m d
  leaves d row rows same facts =
      rewritten m c d l o row _ p.conf p.call.0 p.call.1 p.callee rows same refl (freed p.named refl)
      (λ k a. attributes_kept (pos 0) (of_object c o) k.attrs) facts

  -- "Otherwise stage 3, cleared 1, object idle, line kept."
  pub suspend_keeps : shape_of p.bound.stands.statement ≡ Shape.Await
      → Configured m (written c (staged c l bound ++ to_call c l cleared (pos 1) ++ to_object o running_label (pos 0)))
  suspend_keeps await =
      let low = p.call.0 in
      let few = label_row m c p.conf l low p.call.1 in
      let a = wrote_stage c c _ _ l o _ _ (unwritten c l o p.conf.length) c bound low few in
      let b = wrote_call c _ _ _ l o _ _ a c cleared (pos 1) low few (omega arith) in
      let d = wrote_object c _ _ _ l o _ _ b running_label (pos 0) p.object.0 object_row (omega arith) in
      subst (Configured m)
      (sym (written_append c (staged c l bound ++ to_call c l cleared (pos 1)) (to_object o running_label (pos 0))
      ∙ ap (λ d. written d (to_object o running_label (pos 0))) (written_append c (staged c l bound) (to_call c l cleared (pos 1)))))
      (leaves _ _ d p.callee (suspended m _ _ _ l _ holds (nat_of p.stage) p.bound await))

  -- the stage after a return, by whether there is a caller
  pub stage_after : (at : Standing) → (let t = stage_returned m c o l at in (answered ≤ t) × (t ≤ taken) × (nat (of_call c l caller) ≡ 0 → t ≡ taken))
  unfolding stage_returned
  stage_after at = go (eq_z (of_call c l caller) nobody) refl
    where
      go : (b : Bool) → eq_z (of_call c l caller) nobody ≡ b
          → (let t = elim b as (λ _. ℕ) [ true ↦ taken | false ↦ answered ] in (answered ≤ t) × (t ≤ taken) × (nat (of_call c l caller) ≡ 0 → t ≡ taken))
      go true e = (omega arith, omega arith, λ _. refl)
      go false e = (omega arith, omega arith, λ z. absurd (passed_failed (equalled (of_call c l caller) 0 (counted_is _ 0 holds.caller.counts z)) e))

  -- "`return` stores the value, frees the object, goes to stage 5, or to 7 where caller is 0."
  pub return_keeps : (at : Standing) (z : ℤ) → shape_of p.bound.stands.statement ≡ Shape.Return
      → Configured m (written c (to_call c l value z ++ staged c l (stage_returned m c o l at) ++ to_object o running_label (pos 0)))
  return_keeps at z return =
      let low = p.call.0 in
      let few = label_row m c p.conf l low p.call.1 in
      let t = stage_returned m c o l at in
      let (x, y, w) = stage_after at in
      let a = wrote_call c c _ _ l o _ _ (unwritten c l o p.conf.length) c value z low few (omega arith) in
      let b = wrote_stage c _ _ _ l o _ _ a c t low few in
      let d = wrote_object c _ _ _ l o _ _ b running_label (pos 0) p.object.0 object_row (omega arith) in
      subst (Configured m)
      (sym (written_append c (to_call c l value z ++ staged c l t) (to_object o running_label (pos 0))
      ∙ ap (λ d. written d (to_object o running_label (pos 0))) (written_append c (to_call c l value z) (staged c l t))))
      (leaves _ _ d p.callee (returned m _ _ _ l _ holds (nat_of p.stage) t z x y w p.bound return))
