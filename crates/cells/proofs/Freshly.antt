-- The configuration that a start writes is one, of every accepted model. Assumes nothing.
use mathlib.Core.Bool.{Bool, true, false}
use mathlib.Core.List.{[]}
use mathlib.Core.Path.{◌≡◌, refl, sym, ap, subst, ◌∙◌}
use native.Mathlib.Omega.{arith}
use borrow.Author.Tests.{eq-eqb}
use lib.IntN.{pos}
use lib.ListN.{length, replicate, length-replicate, get_or-replicate}
use Rattle.whole.specs.Whole.{nat}
use Rattle.layout.specs.Layout
use Rattle.layout.specs.Layout.{Cells, Place, all_cells, stands, cell_of, read, written, objects, calls, of_object, of_call, new_object, new_call}
use Rattle.layout.specs.Stages.{running, objects_in_use, rows_in_use}
use Rattle.layout.proofs.Laws.{standing, cell_below, read_stood, read_none}
use Rattle.model.specs.Accepted.{AcceptedModel}
use Rattle.model.specs.Model.{Model, runs}
use Rattle.model.proofs.AcceptedAt.{starting}
use Rattle.cells.specs.Configuration.{is_configuration}
use Rattle.cells.specs.Fresh.{fresh}
use Rattle.whole.proofs.Tested.{nat_of, counts_of}
use Rattle.cells.proofs.Facts.{ObjectHolds, CallHolds, Configured}
use Rattle.layout.proofs.Writes.{Fields, call_read, object_read, written_append}
use Rattle.layout.proofs.Rows.{Rows, valued, unwritten, counts_objects, counts_calls}
use Rattle.cells.proofs.Rewritten.{call_holds_lem, object_holds_lem}
use Rattle.layout.proofs.NewRows.{object_values, call_values, wrote_new_object, wrote_new_call}
use Rattle.cells.proofs.NewFacts.{new_object_facts, spawned_facts}
use Rattle.cells.proofs.Configured.{passes}

-- cells that are all 0
blank : Cells
blank = replicate all_cells (pos 0)

blank_length : length blank ≡ all_cells
unfolding blank
blank_length = length-replicate all_cells (pos 0)

blank_read : (p : Place) → read blank p ≡ pos 0
unfolding blank
blank_read p = go (stands p) refl
  where
    go : (b : Bool) → stands p ≡ b → read (replicate all_cells (pos 0)) p ≡ pos 0
    go true e = read_stood _ p e ∙ get_or-replicate all_cells (cell_of p) (pos 0) (pos 0) (cell_below p (standing p e))
    go false e = read_none _ p e

-- what a start writes: the two counts, one object and one call
fresh_rows : Rows blank fresh (pos 1) (pos 1) 1 1 (valued (call_values running 0 1 0 [])) (valued (object_values 0 1 []))
unfolding blank fresh written
fresh_rows =
    let a = unwritten blank 1 1 blank_length in
    let b = counts_objects _ _ _ _ 1 1 _ _ a (pos 1) in
    let d = counts_calls _ _ _ _ 1 1 _ _ b (pos 1) in
    let e = wrote_new_object _ _ _ _ 1 1 _ _ d (omega arith) (omega arith) 0 1 [] in
    let f = wrote_new_call _ _ _ _ 1 1 _ _ e (omega arith) (omega arith) running 0 1 0 [] in
    subst (λ d. Rows blank d (pos 1) (pos 1) 1 1 (valued (call_values running 0 1 0 [])) (valued (object_values 0 1 [])))
    (sym (written_append _ (new_object 1 0 1 []) (new_call 1 running 0 1 0 []))) f

module _ (m : Model) (accepted : AcceptedModel m) where
  -- what holds of the object and of the call
  pub fresh_configured : Configured m fresh
  unfolding nat runs objects_in_use rows_in_use
  fresh_configured =
      let (class, there, given, run) = starting accepted in
      let h = fresh_rows in
      let n = nat_of h.objects in
      let r = nat_of h.calls in
      let label : of_object fresh 1 Layout.running_label ≡ pos 1 = ap (λ (row : Fields). row Layout.running_label) h.object in
      let kind : of_object fresh 1 Layout.class ≡ pos 0 = ap (λ (row : Fields). row Layout.class) h.object in
      let stage : of_call fresh 1 Layout.stage ≡ pos running = ap (λ (row : Fields). row Layout.stage) h.call in
      let callee : of_call fresh 1 Layout.callee ≡ pos 1 = ap (λ (row : Fields). row Layout.callee) h.call in
      let object-1 : ObjectHolds m fresh 1 =
      object_holds_lem m blank fresh 1 1 1 1 _ _ h (pos running) (pos 1) stage callee
      (new_object_facts m 1 (pos running) (pos 1) 1 0 1 [] class there (omega arith) (omega arith) (λ _. (refl, refl))) in
      let call_1 : CallHolds m fresh 1 =
      call_holds_lem m blank fresh 1 1 1 1 _ _ h (pos 0) (pos 1) kind label
      (spawned_facts m accepted 1 0 1 1 class there (eq-eqb class.run 1 run) (omega arith) (omega arith)) in
      record {
        length = h.length;
        objects = record { counts = counts_of h.objects; least = omega arith; most = omega arith };
        calls = record { counts = counts_of h.calls; least = omega arith; most = omega arith };
        object = λ o a b. let z : 1 ≡ o = omega arith in subst (ObjectHolds m fresh) z object-1;
        call = λ l a b. let z : 1 ≡ l = omega arith in subst (CallHolds m fresh) z call_1;
        unused_object = λ o f past.
            ap (λ (row : Fields). row f) (h.other_object o (λ e. omega arith)) ∙ object_read blank o f ∙ blank_read (Layout.object o f);
        unused_call = λ l f past.
            ap (λ (row : Fields). row f) (h.other_call l (λ e. omega arith)) ∙ call_read blank l f ∙ blank_read (Layout.call l f);
      }

  -- fresh is a configuration
  pub fresh_is : is_configuration m fresh ≡ true
  fresh_is = passes m fresh fresh_configured
