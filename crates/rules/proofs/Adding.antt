-- Rows added to a configuration: the next object, the next label, or both. The running call is as it was. Assumes nothing.
use Rattle.std.specs.Prelude.{Some, slice_get}
use Prim.Native.Nat.{ℕ, ◌+◌, ◌≤◌, ◌<◌}
use mathlib.Core.Bool.{true}
use mathlib.Core.List.{List, [], ◌++◌}
use mathlib.Core.Path.{◌≡◌, refl, sym, ap, subst, ◌∙◌}
use mathlib.Core.Logic.{◌≢◌}
use native.Mathlib.Omega.{arith}
use lib.IntN.{ℤ, pos}
use lib.ListN.{length}
use Rattle.whole.specs.Whole.{nat}
use Rattle.layout.specs.Layout.{Cells, Write, written, object_rows, call_rows, read, objects, calls, of_object, of_call, class, running_label, stage, callee}
use Rattle.layout.specs.Stages.{invoked, running, objects_in_use, rows_in_use}
use Rattle.code.specs.Reader.{last_method}
use Rattle.model.specs.Accepted.{AcceptedModel}
use Rattle.model.specs.Bounds.{most_params}
use Rattle.model.specs.Model.{Model, Class, runs}
use Rattle.whole.proofs.Tested.{nat_of}
use Rattle.layout.proofs.Writes.{Fields, written_append}
use Rattle.layout.proofs.Rows.{Rows, valued, unwritten, counts_objects, counts_calls}
use Rattle.cells.proofs.Changed.{call_among, object_among, Grows, Respects, changed}
use Rattle.cells.proofs.Rewritten.{call_at, call_holds_lem, object_holds_lem}
use Rattle.layout.proofs.NewRows.{object_values, call_values, wrote_new_object, wrote_new_call}
use Rattle.cells.proofs.NewFacts.{new_object_facts, spawned_facts, invoked_facts}
use Rattle.rules.specs.Exec.{next_object, next_row, with_object, with_call}
use Rattle.rules.proofs.Performing.{Performing, Still}

-- two numbers of cells differ
apart : {a b : ℕ} → pos a ≡ pos b → a ≢ b → ⊥
apart {a} {b} e n = n (let s : a ≡ b = cc in s)

-- the counts of some cells
pub objects_counted : (d : Cells) (n : ℕ) → read d objects ≡ pos n → objects_in_use d ≡ n
unfolding objects_in_use
objects_counted d n e = nat_of e

pub calls_counted : (d : Cells) (r : ℕ) → read d calls ≡ pos r → rows_in_use d ≡ r
unfolding rows_in_use
calls_counted d r e = nat_of e

module _ (m : Model) (c : Cells) (o l : ℕ) (p : Performing m c o l) where
  abbrev n : ℕ
  n = objects_in_use c

  abbrev r : ℕ
  r = rows_in_use c

  -- the counts as they are read
  objects_read : read c objects ≡ pos n
  unfolding objects_in_use
  objects_read = p.conf.objects.counts

  calls_read : read c calls ≡ pos r
  unfolding rows_in_use
  calls_read = p.conf.calls.counts

  few_objects : n ≤ object_rows
  unfolding objects_in_use
  few_objects = p.conf.objects.most

  few_calls : r ≤ call_rows
  unfolding rows_in_use
  few_calls = p.conf.calls.most

  -- a row past the last in use names nobody
  unused_names : (o' : ℕ) → n < o' → (l' : ℕ) → 1 ≤ l' → of_object c o' running_label ≡ pos l' → ⊥
  unused_names o' past l' low e = apart (sym (p.conf.unused_object o' running_label past) ∙ e) (λ z. omega arith)

  -- and nobody names it
  names_unused : (o' : ℕ) → 1 ≤ o' → o' ≤ n → (l' : ℕ) → r < l' → of_object c o' running_label ≡ pos l' → ⊥
  names_unused o' a b l' past e = let h = (p.conf.object o' a b).label.most in let z = nat_of e in omega arith

  -- the next object, idle
  module _ (k : ℕ) (zs : List ℤ) (kind : Class) (there : slice_get m k ≡ Some kind) (few : length zs ≤ kind.attrs) (left : n < object_rows) where
    object_rows_lem : Rows c (written c (with_object c k 0 zs)) (pos (n + 1)) (pos r) l (n + 1) (of_call c l) (valued (object_values k 0 zs))
    unfolding with_object next_object written
    object_rows_lem =
        let a = unwritten c l (n + 1) p.conf.length in
        let b = counts_objects c c _ _ l (n + 1) _ _ a (pos (n + 1)) in
        let d = wrote_new_object c _ _ _ l (n + 1) _ _ b (omega arith) (omega arith) k 0 zs in
        subst (λ r. Rows c (written c (with_object c k 0 zs)) (pos (n + 1)) r l (n + 1) (of_call c l) (valued (object_values k 0 zs))) calls_read d

    pub object_added : Still m c (written c (with_object c k 0 zs)) o l
    object_added =
        let h = object_rows_lem in
        let d = written c (with_object c k 0 zs) in
        let (a, b) = p.object in
        let (a', b') = p.call in
        let same : of_object d o ≡ of_object c o = h.other_object o (λ e. omega arith) in
        let class_is : of_object d o class ≡ of_object c o class = ap (λ (row : Fields). row class) same in
        let label_is : of_object d o running_label ≡ of_object c o running_label = ap (λ (row : Fields). row running_label) same in
        let callee_is = nat_of p.callee in
        let facts = call_at m c l o p.conf a' b' p.callee in
        let f = few_calls in
        let grows : Grows c (n + 1) r l (n + 1) =
        record {
          objects = (omega arith, omega arith);
          calls = (omega arith, few_calls);
          old_object = λ o' u v. omega arith;
          old_call = λ l' u v. u;
          object = (omega arith, omega arith);
          call = (a', b');
        } in
        let respects : Respects c l (n + 1) (of_call c l) (valued (object_values k 0 zs)) =
        record {
          class = λ u. absurd (omega arith);
          label = λ l' u v e. absurd (unused_names (n + 1) (omega arith) l' u e);
          named = λ o' u v w e.
              let s = nat_of e in
              let g = (p.conf.object o' u v).running (omega arith) in
              (ap (λ l. of_call c l stage) (sym s) ∙ g.0, ap (λ l. of_call c l callee) (sym s) ∙ g.1);
        } in
        let conf = changed m c d (n + 1) r l (n + 1) _ _ p.conf h grows respects
        (object_holds_lem m c d (n + 1) r l (n + 1) _ _ h _ _ refl refl
        (new_object_facts m r _ _ (n + 1) k 0 zs kind there few (omega arith) (λ u. absurd (omega arith))))
        (call_holds_lem m c d (n + 1) r l (n + 1) _ _ h _ _
        (ap (λ o. of_object d o class) callee_is ∙ class_is) (ap (λ o. of_object d o running_label) callee_is ∙ label_is)
        (call_among m n (n + 1) _ _ _ _ l _ facts (omega arith) refl facts.named)) in
        let objects_are = objects_counted d (n + 1) h.objects in
        let calls_are = calls_counted d r h.calls in
        record { conf = conf; objects = omega arith; calls = omega arith; row = h.call; class = class_is }

  -- nothing that is in use is new
  old_object : o ≢ n + 1
  old_object e = let a = p.object in omega arith

  old_call : l ≢ r + 1
  old_call e = let a = p.call in omega arith

  -- the next object, and the next label running there
  module _ (accepted : AcceptedModel m) (k : ℕ) (zs : List ℤ) (kind : Class) (there : slice_get m k ≡ Some kind) (run : runs kind ≡ true)
      (few : length zs ≤ kind.attrs) (left : n < object_rows) (left-calls : r < call_rows) where
    both : List Write
    both = with_object c k (r + 1) zs ++ with_call c running 0 (n + 1) 0 []

    both_rows : Rows c (written c both) (pos (n + 1)) (pos (r + 1)) (r + 1) (n + 1) (valued (call_values running 0 (n + 1) 0 [])) (valued (object_values k (r + 1) zs))
    unfolding both with_object with_call next_object next_row written
    both_rows =
        let a = unwritten c (r + 1) (n + 1) p.conf.length in
        let b = counts_objects c c _ _ (r + 1) (n + 1) _ _ a (pos (n + 1)) in
        let d = wrote_new_object c _ _ _ (r + 1) (n + 1) _ _ b (omega arith) (omega arith) k (r + 1) zs in
        let e = counts_calls c _ _ _ (r + 1) (n + 1) _ _ d (pos (r + 1)) in
        let f = wrote_new_call c _ _ _ (r + 1) (n + 1) _ _ e (omega arith) (omega arith) running 0 (n + 1) 0 [] in
        subst (λ d. Rows c d (pos (n + 1)) (pos (r + 1)) (r + 1) (n + 1) (valued (call_values running 0 (n + 1) 0 [])) (valued (object_values k (r + 1) zs)))
        (sym (written_append c (with_object c k (r + 1) zs) (with_call c running 0 (n + 1) 0 []))) f

    pub both_added : Still m c (written c (with_object c k (r + 1) zs ++ with_call c running 0 (n + 1) 0 [])) o l
    unfolding both nat
    both_added =
        let h = both_rows in
        let d = written c both in
        let label_is : of_object d (n + 1) running_label ≡ pos (r + 1) = ap (λ (row : Fields). row running_label) h.object in
        let class_is : of_object d (n + 1) class ≡ pos k = ap (λ (row : Fields). row class) h.object in
        let stage_is : of_call d (r + 1) stage ≡ pos running = ap (λ (row : Fields). row stage) h.call in
        let callee_is : of_call d (r + 1) callee ≡ pos (n + 1) = ap (λ (row : Fields). row callee) h.call in
        let grows : Grows c (n + 1) (r + 1) (r + 1) (n + 1) =
        record {
          objects = (omega arith, omega arith);
          calls = (omega arith, omega arith);
          old_object = λ o' u v. omega arith;
          old_call = λ l' u v. omega arith;
          object = (omega arith, omega arith);
          call = (omega arith, omega arith);
        } in
        let respects : Respects c (r + 1) (n + 1) (valued (call_values running 0 (n + 1) 0 [])) (valued (object_values k (r + 1) zs)) =
        record {
          class = λ u. absurd (omega arith);
          label = λ l' u v e. absurd (unused_names (n + 1) (omega arith) l' u e);
          named = λ o' u v w e. absurd (names_unused o' u v (r + 1) (omega arith) e);
        } in
        let conf = changed m c d (n + 1) (r + 1) (r + 1) (n + 1) _ _ p.conf h grows respects
        (object_holds_lem m c d (n + 1) (r + 1) (r + 1) (n + 1) _ _ h (pos running) (pos (n + 1)) stage_is callee_is
        (new_object_facts m (r + 1) _ _ (n + 1) k (r + 1) zs kind there few (omega arith) (λ u. (refl, refl))))
        (call_holds_lem m c d (n + 1) (r + 1) (r + 1) (n + 1) _ _ h (pos k) (pos (r + 1)) class_is label_is
        (spawned_facts m accepted (n + 1) k (r + 1) (n + 1) kind there run (omega arith) (omega arith))) in
        let objects_are = objects_counted d (n + 1) h.objects in
        let calls_are = calls_counted d (r + 1) h.calls in
        record {
          conf = conf;
          objects = omega arith;
          calls = omega arith;
          row = h.other_call l old_call;
          class = ap (λ (row : Fields). row class) (h.other_object o old_object);
        }

  -- the next label, in stage 1
  module _ (to j : ℕ) (zs : List ℤ) (low : 1 ≤ to) (high : to ≤ n) (known : j ≤ last_method) (few : length zs ≤ most_params) (left : r < call_rows) where
    call_rows_lem : Rows c (written c (with_call c invoked o to j zs)) (pos n) (pos (r + 1)) (r + 1) o (valued (call_values invoked o to j zs)) (of_object c o)
    unfolding with_call next_row written
    call_rows_lem =
        let a = unwritten c (r + 1) o p.conf.length in
        let b = counts_calls c c _ _ (r + 1) o _ _ a (pos (r + 1)) in
        let d = wrote_new_call c _ _ _ (r + 1) o _ _ b (omega arith) (omega arith) invoked o to j zs in
        subst (λ n. Rows c (written c (with_call c invoked o to j zs)) n (pos (r + 1)) (r + 1) o (valued (call_values invoked o to j zs)) (of_object c o)) objects_read d

    pub call_added : Still m c (written c (with_call c invoked o to j zs)) o l
    call_added =
        let h = call_rows_lem in
        let d = written c (with_call c invoked o to j zs) in
        let (a, b) = p.object in
        let f = few_objects in
        let name = nat_of p.named in
        let same : of_call d (nat (of_object c o running_label)) ≡ of_call c (nat (of_object c o running_label)) =
        h.other_call _ (λ e. old_call (sym name ∙ e)) in
        let facts = p.conf.object o a b in
        let grows : Grows c n (r + 1) (r + 1) o =
        record {
          objects = (omega arith, omega arith);
          calls = (omega arith, omega arith);
          old_object = λ o' u v. u;
          old_call = λ l' u v. omega arith;
          object = (a, b);
          call = (omega arith, omega arith);
        } in
        let respects : Respects c (r + 1) o (valued (call_values invoked o to j zs)) (of_object c o) =
        record {
          class = λ u. refl;
          label = λ l' u v e. e;
          named = λ o' u v w e. absurd (names_unused o' u v (r + 1) (omega arith) e);
        } in
        let conf = changed m c d n (r + 1) (r + 1) o _ _ p.conf h grows respects
        (object_holds_lem m c d n (r + 1) (r + 1) o _ _ h _ _ (ap (λ (row : Fields). row stage) same) (ap (λ (row : Fields). row callee) same)
        (object_among m r (r + 1) _ _ _ _ o _ facts (omega arith) facts.running))
        (call_holds_lem m c d n (r + 1) (r + 1) o _ _ h _ _ refl refl (invoked_facts m n _ _ (r + 1) o to j zs a b low high known few)) in
        let objects_are = objects_counted d n h.objects in
        let calls_are = calls_counted d (r + 1) h.calls in
        record {
          conf = conf;
          objects = omega arith;
          calls = omega arith;
          row = h.other_call l old_call;
          class = ap (λ (row : Fields). row class) h.object;
        }
