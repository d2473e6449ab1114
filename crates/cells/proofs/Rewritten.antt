-- Rows in use put anew: a call and its callee. What the rules need of the one law about rows, where nothing is added. Assumes nothing.
use Prim.Native.Nat.{ℕ, ◌≤◌}
use mathlib.Core.Bool.{Bool, true, false}
use mathlib.Core.Path.{◌≡◌, refl, sym, ap, subst, ◌∙◌}
use mathlib.Core.Logic.{◌≢◌}
use native.Mathlib.Omega.{arith}
use borrow.Author.Tests.{eqb-true, eqb-false}
use lib.Dec.{eqb}
use lib.IntN.{ℤ, pos}
use Rattle.whole.specs.Whole.{nat}
use Rattle.layout.specs.Layout.{Cells, most_attributes, read, objects, calls, of_object, of_call, class, running_label, attribute, stage, callee}
use Rattle.layout.specs.Stages.{running, objects_in_use, rows_in_use}
use Rattle.layout.proofs.Writes.{Fields}
use Rattle.model.specs.Model.{Model, Class}
use Rattle.whole.proofs.Tested.{Number, nat_of, counts_of}
use Rattle.cells.proofs.Facts.{ZeroFrom, ClassAt, ObjectFacts, CallFacts, ObjectHolds, CallHolds, Configured}
use Rattle.cells.proofs.CallFromTest.{counted_is}
use Rattle.layout.proofs.Rows.{Rows}
use Rattle.cells.proofs.Changed.{call_among, object_among, Grows, Respects, changed}

-- the two rows that were put, as the cells have them
module _ (m : Model) (c d : Cells) (n r l o : ℕ) (row its : Fields) (h : Rows c d (pos n) (pos r) l o row its) where
  counted_objects : objects_in_use d ≡ n
  unfolding objects_in_use
  counted_objects = nat_of h.objects

  counted_calls : rows_in_use d ≡ r
  unfolding rows_in_use
  counted_calls = nat_of h.calls

  -- the call, whose callee has such a class and running label
  pub call_holds_lem : (k label : ℤ) → of_object d (nat (row callee)) class ≡ k → of_object d (nat (row callee)) running_label ≡ label
      → CallFacts m n k label l row → CallHolds m d l
  call_holds_lem k label e f facts =
      let u = counted_objects in
      subst (λ (row : Fields). CallFacts m (objects_in_use d) (of_object d (nat (row callee)) class) (of_object d (nat (row callee)) running_label) l row)
      (sym h.call)
      (call_among m n (objects_in_use d) k _ label _ l row facts (omega arith) e (λ s. f ∙ facts.named s))

  -- the object, where the call that it names has such a stage and callee
  pub object_holds_lem : (s t : ℤ) → of_call d (nat (its running_label)) stage ≡ s → of_call d (nat (its running_label)) callee ≡ t
      → ObjectFacts m r s t o its → ObjectHolds m d o
  object_holds_lem s t e f facts =
      let u = counted_calls in
      subst (λ (row : Fields). ObjectFacts m (rows_in_use d) (of_call d (nat (row running_label)) stage) (of_call d (nat (row running_label)) callee) o row)
      (sym h.object)
      (object_among m r (rows_in_use d) s _ t _ o its facts (omega arith) (λ b. let g = facts.running b in (e ∙ g.0, f ∙ g.1)))

-- a call in use, by its callee's number
pub call_at : (m : Model) (c : Cells) (l o : ℕ) → Configured m c → 1 ≤ l → l ≤ rows_in_use c → of_call c l callee ≡ pos o
    → CallFacts m (objects_in_use c) (of_object c o class) (of_object c o running_label) l (of_call c l)
call_at m c l o conf low high of =
    subst (λ o. CallFacts m (objects_in_use c) (of_object c o class) (of_object c o running_label) l (of_call c l)) (nat_of of) (conf.call l low high)

-- what becomes of a callee's running label: it is kept, the call takes it up, or the call gives it back
pub data LabelGoes (l : ℕ) (old new stage : ℤ) : Type 0 where
  kept : new ≡ old → (old ≡ pos l → stage ≡ pos running) → LabelGoes l old new stage
  taken_up : old ≡ pos 0 → new ≡ pos l → stage ≡ pos running → LabelGoes l old new stage
  freed : old ≡ pos l → new ≡ pos 0 → LabelGoes l old new stage

-- different numbers are different cells
numbers_differ : {a b : ℕ} → a ≢ b → pos a ≢ pos b
numbers_differ {a} {b} n e = let s : a ≡ b = cc in n s

-- a label other than the call's is as it was
new_old : (l : ℕ) (old new s : ℤ) → LabelGoes l old new s → (l' : ℕ) → 1 ≤ l' → l' ≢ l → new ≡ pos l' → old ≡ pos l'
new_old l old new s (kept e f) l' a n g = sym e ∙ g
new_old l old new s (taken_up e f t) l' a n g = absurd (numbers_differ n (sym g ∙ f))
new_old l old new s (freed e f) l' a n g = absurd (numbers_differ (λ z. omega arith) (sym f ∙ g))

old_new : (l : ℕ) (old new s : ℤ) → LabelGoes l old new s → (l' : ℕ) → 1 ≤ l' → l' ≢ l → old ≡ pos l' → new ≡ pos l'
old_new l old new s (kept e f) l' a n g = e ∙ g
old_new l old new s (taken_up e f t) l' a n g = absurd (numbers_differ (λ z. omega arith) (sym e ∙ g))
old_new l old new s (freed e f) l' a n g = absurd (numbers_differ n (sym g ∙ e))

-- the call's own is that of a running call
new_runs : (l : ℕ) (old new s : ℤ) → LabelGoes l old new s → 1 ≤ l → new ≡ pos l → s ≡ pos running
new_runs l old new s (kept e f) a g = f (sym e ∙ g)
new_runs l old new s (taken_up e f t) a g = t
new_runs l old new s (freed e f) a g = absurd (numbers_differ (λ z. omega arith) (sym f ∙ g))

-- it is one of the calls in use, or none
new_number_lem : (n l : ℕ) (old new s : ℤ) → LabelGoes l old new s → l ≤ n → Number 0 n old → Number 0 n new
new_number_lem n l old new s (kept e f) a h = subst (Number 0 n) (sym e) h
new_number_lem n l old new s (taken_up e f t) a h = let z = nat_of f in record { counts = counts_of f; least = omega arith; most = omega arith }
new_number_lem n l old new s (freed e f) a h = let z = nat_of f in record { counts = counts_of f; least = omega arith; most = omega arith }

module _ (m : Model) (c d : Cells) (l o : ℕ) (row its : Fields) (conf : Configured m c) (low : 1 ≤ l) (high : l ≤ rows_in_use c)
    (of : of_call c l callee ≡ pos o) (h : Rows c d (read c objects) (read c calls) l o row its) where
  -- the callee is in use
  callee_in_use : (1 ≤ o) × (o ≤ objects_in_use c)
  callee_in_use = let s = (conf.call l low high).callee in let e = nat_of of in (omega arith, omega arith)

  counted : Rows c d (pos (objects_in_use c)) (pos (rows_in_use c)) l o row its
  unfolding objects_in_use rows_in_use
  counted = subst (λ n. Rows c d n (pos (rows_in_use c)) l o row its) conf.objects.counts (subst (λ r. Rows c d (read c objects) r l o row its) conf.calls.counts h)

  -- the counts stay
  grows : Grows c (objects_in_use c) (rows_in_use c) l o
  unfolding objects_in_use rows_in_use
  grows =
      let a = conf.objects in
      let b = conf.calls in
      record {
        objects = (omega arith, a.most);
        calls = (omega arith, b.most);
        old_object = λ o' k n. k;
        old_call = λ l' k n. k;
        object = callee_in_use;
        call = (low, high);
      }

  -- who names the call is its callee
  naming : (o' : ℕ) → 1 ≤ o' → o' ≤ objects_in_use c → of_object c o' running_label ≡ pos l → o' ≡ o
  naming o' a b e =
      let z = nat_of e in
      let s = ((conf.object o' a b).running (omega arith)).1 in
      let t : pos o' ≡ pos o = sym s ∙ ap (λ l. of_call c l callee) z ∙ of in
      cc

  -- a call and its callee are put anew: the callee keeps its class and the zeros of its attributes, and the call holds what it must
  pub rewritten : row callee ≡ pos o → its class ≡ of_object c o class → LabelGoes l (of_object c o running_label) (its running_label) (row stage)
      → ((k : Class) → ClassAt m (of_object c o class) k → ZeroFrom most_attributes k.attrs (λ i. of_object c o (attribute i))
      → ZeroFrom most_attributes k.attrs (λ i. its (attribute i)))
      → CallFacts m (objects_in_use c) (its class) (its running_label) l row → Configured m d
  rewritten same same_Class goes attributes facts =
      let (a, b) = callee_in_use in
      let old = conf.object o a b in
      let callee_is : nat (row callee) ≡ o = nat_of same in
      changed m c d (objects_in_use c) (rows_in_use c) l o row its conf counted grows respects
      (object_holds_lem m c d (objects_in_use c) (rows_in_use c) l o row its counted _ _ refl refl
      (record {
        class = old.class;
        exists = subst (λ k. ClassAt m k old.class) (sym same_Class) old.exists;
        attributes = attributes old.class old.exists old.attributes;
        label = new_number_lem (rows_in_use c) l _ _ _ goes high old.label;
        running = λ u. runs old u (eqb (nat (its running_label)) l) refl;
      }))
      (call_holds_lem m c d (objects_in_use c) (rows_in_use c) l o row its counted _ _
      (ap (λ o. of_object d o class) callee_is ∙ ap (λ (row : Fields). row class) h.object)
      (ap (λ o. of_object d o running_label) callee_is ∙ ap (λ (row : Fields). row running_label) h.object)
      facts)
    where
      respects : Respects c l o row its
      respects =
          record {
            class = λ _. same_Class;
            label = λ l' a n e. old_new l _ _ _ goes l' a n e;
            named = λ o' a b n e. absurd (n (naming o' a b e));
          }

      runs : ObjectHolds m c o → 1 ≤ nat (its running_label) → (t : Bool) → eqb (nat (its running_label)) l ≡ t
          → (of_call d (nat (its running_label)) stage ≡ pos running) × (of_call d (nat (its running_label)) callee ≡ pos o)
      runs old u true e =
          let f = eqb-true _ l e in
          let z = counted_is _ l (new_number_lem (rows_in_use c) l _ _ _ goes high old.label).counts f in (
            ap (λ l. of_call d l stage) f ∙ ap (λ (row : Fields). row stage) h.call ∙ new_runs l _ _ _ goes low z,
            ap (λ l. of_call d l callee) f ∙ ap (λ (row : Fields). row callee) h.call ∙ same,
          )
      runs old u false e =
          let n = eqb-false _ l e in
          let other = h.other_call _ n in
          let z = new_old l _ _ _ goes _ u n (new_number_lem (rows_in_use c) l _ _ _ goes high old.label).counts in
          let f = nat_of z in
          let g = old.running (omega arith) in (
            ap (λ (row : Fields). row stage) other ∙ ap (λ l. of_call c l stage) (sym f) ∙ g.0,
            ap (λ (row : Fields). row callee) other ∙ ap (λ l. of_call c l callee) (sym f) ∙ g.1,
          )
