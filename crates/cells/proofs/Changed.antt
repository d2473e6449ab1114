-- Cells that are a configuration with one call row and one object row put anew are a configuration, where the two rows hold what they must.
-- This is the one law that every rule cites. Assumes nothing.
use Prim.Native.Nat.{ℕ, ◌≤◌}
use mathlib.Core.Bool.{Bool, true, false}
use mathlib.Core.Path.{◌≡◌, refl, sym, ap, subst, ◌∙◌}
use mathlib.Core.Logic.{◌≢◌}
use native.Mathlib.Omega.{arith}
use borrow.Author.Tests.{eqb-true, eqb-false}
use lib.Dec.{eqb}
use lib.IntN.{ℤ, pos}
use Rattle.whole.specs.Whole.{nat}
use Rattle.layout.specs.Layout.{Cells, object_rows, call_rows, objects, calls, of_object, of_call, class, running_label, stage, caller, callee, method}
use Rattle.layout.specs.Stages.{running, objects_in_use, rows_in_use}
use Rattle.layout.proofs.Writes.{Fields}
use Rattle.model.specs.Model.{Model}
use Rattle.whole.proofs.Tested.{nat_of, counts_of}
use Rattle.cells.proofs.Facts.{ObjectFacts, Bound, Callerless, CallFacts, ObjectHolds, CallHolds, Configured}
use Rattle.cells.proofs.CallFromTest.{counted_is}
use Rattle.layout.proofs.Rows.{Rows}

-- a call among more objects, where its callee has the same class and, if it runs, still names it
pub call_among : (m : Model) (n n' : ℕ) (k k' label label' : ℤ) (l : ℕ) (row : Fields) → CallFacts m n k label l row
    → n ≤ n' → k' ≡ k → (nat (row stage) ≡ running → label' ≡ pos l) → CallFacts m n' k' label' l row
call_among m n n' k k' label label' l row h more e named =
    record {
      stage = h.stage;
      caller = record { counts = h.caller.counts; least = h.caller.least; most = let b = h.caller.most in omega arith };
      callee = record { counts = h.callee.counts; least = h.callee.least; most = let b = h.callee.most in omega arith };
      method = h.method;
      named = named;
      cleared = h.cleared;
      value = h.value;
      unbound = h.unbound;
      bound = λ b. subst (λ k. Bound m k row) (sym e) (h.bound b);
      callerless = λ b. subst (λ k. Callerless m k (row stage) (row method)) (sym e) (h.callerless b);
    }

-- an object among more calls, where the call that it names still runs there
pub object_among : (m : Model) (r r' : ℕ) (s s' t t' : ℤ) (o : ℕ) (row : Fields) → ObjectFacts m r s t o row
    → r ≤ r' → (1 ≤ nat (row running_label) → (s' ≡ pos running) × (t' ≡ pos o)) → ObjectFacts m r' s' t' o row
object_among m r r' s s' t t' o row h more named =
    record {
      class = h.class;
      exists = h.exists;
      attributes = h.attributes;
      label = record { counts = h.label.counts; least = h.label.least; most = let b = h.label.most in omega arith };
      running = named;
    }

-- the counts after it: as many or more, and what is new is the row that was put
pub record Grows (c : Cells) (n r l o : ℕ) : Type 0 where
  pub objects : (objects_in_use c ≤ n) × (n ≤ object_rows)
  pub calls : (rows_in_use c ≤ r) × (r ≤ call_rows)
  pub old_object : (o' : ℕ) → o' ≤ n → o' ≢ o → o' ≤ objects_in_use c
  pub old_call : (l' : ℕ) → l' ≤ r → l' ≢ l → l' ≤ rows_in_use c
  pub object : (1 ≤ o) × (o ≤ n)
  pub call : (1 ≤ l) × (l ≤ r)

-- what the other rows need of the two: the object's class is kept, and who names whom
pub record Respects (c : Cells) (l o : ℕ) (row its : Fields) : Type 0 where
  -- an object that was in use keeps its class
  pub class : o ≤ objects_in_use c → its class ≡ of_object c o class
  -- a running label other than the call's is kept
  pub label : (l' : ℕ) → 1 ≤ l' → l' ≢ l → of_object c o running_label ≡ pos l' → its running_label ≡ pos l'
  -- another object that names the call finds it running there
  pub named : (o' : ℕ) → 1 ≤ o' → o' ≤ objects_in_use c → o' ≢ o → of_object c o' running_label ≡ pos l → (row stage ≡ pos running) × (row callee ≡ pos o')

module _ (m : Model) (c d : Cells) (n r l o : ℕ) (row its : Fields) (conf : Configured m c) (h : Rows c d (pos n) (pos r) l o row its)
    (g : Grows c n r l o) (k : Respects c l o row its) where
  objects_are : objects_in_use d ≡ n
  unfolding objects_in_use
  objects_are = nat_of h.objects

  calls_are : rows_in_use d ≡ r
  unfolding rows_in_use
  calls_are = nat_of h.calls

  -- the callee of another call
  same_class : (o' : ℕ) → o' ≤ objects_in_use c → of_object d o' class ≡ of_object c o' class
  same_class o' old = go (eqb o' o) refl
    where
      go : (b : Bool) → eqb o' o ≡ b → of_object d o' class ≡ of_object c o' class
      go true e =
          let s = eqb-true o' o e in
          ap (λ o. of_object d o class) s ∙ ap (λ (row : Fields). row class) h.object ∙ k.class (omega arith) ∙ ap (λ o. of_object c o class) (sym s)
      go false e = ap (λ (row : Fields). row class) (h.other_object o' (eqb-false o' o e))

  same_label : (l' o' : ℕ) → 1 ≤ l' → l' ≢ l → of_object c o' running_label ≡ pos l' → of_object d o' running_label ≡ pos l'
  same_label l' o' a ne f = go (eqb o' o) refl
    where
      go : (b : Bool) → eqb o' o ≡ b → of_object d o' running_label ≡ pos l'
      go true e =
          let s = eqb-true o' o e in
          ap (λ o. of_object d o running_label) s ∙ ap (λ (row : Fields). row running_label) h.object
          ∙ k.label l' a ne (ap (λ o. of_object c o running_label) (sym s) ∙ f)
      go false e = ap (λ (row : Fields). row running_label) (h.other_object o' (eqb-false o' o e)) ∙ f

  -- another call holds what it held
  other_call_holds : (l' : ℕ) → 1 ≤ l' → l' ≤ rows_in_use c → l' ≢ l → CallHolds m d l'
  other_call_holds l' a b ne =
      let y = conf.call l' a b in
      let o' = nat (of_call c l' callee) in
      let in_use_lem = y.callee.most in
      let u = objects_are in
      let v = g.objects in
      let x : CallFacts m (objects_in_use d) (of_object d o' class) (of_object d o' running_label) l' (of_call c l') =
      call_among m (objects_in_use c) (objects_in_use d) _ _ _ _ l' (of_call c l') y (omega arith) (same_class o' in_use_lem)
      (λ s. same_label l' o' a ne (y.named s)) in
      subst (λ (row : Fields). CallFacts m (objects_in_use d) (of_object d (nat (row callee)) class) (of_object d (nat (row callee)) running_label) l' row)
      (sym (h.other_call l' ne)) x

  -- another object holds what it held
  other_object_holds : (o' : ℕ) → 1 ≤ o' → o' ≤ objects_in_use c → o' ≢ o → ObjectHolds m d o'
  other_object_holds o' a b ne =
      let y = conf.object o' a b in
      let l' = nat (of_object c o' running_label) in
      let u = calls_are in
      let v = g.calls in
      let x : ObjectFacts m (rows_in_use d) (of_call d l' stage) (of_call d l' callee) o' (of_object c o') =
      object_among m (rows_in_use c) (rows_in_use d) _ _ _ _ o' (of_object c o') y (omega arith) (λ s. still y s (eqb l' l) refl) in
      subst (λ (row : Fields). ObjectFacts m (rows_in_use d) (of_call d (nat (row running_label)) stage) (of_call d (nat (row running_label)) callee) o' row)
      (sym (h.other_object o' ne)) x
    where
      still : ObjectHolds m c o' → 1 ≤ nat (of_object c o' running_label) → (t : Bool) → eqb (nat (of_object c o' running_label)) l ≡ t
          → (let l' = nat (of_object c o' running_label) in (of_call d l' stage ≡ pos running) × (of_call d l' callee ≡ pos o'))
      still y s true e =
          let same = eqb-true _ l e in
          let f = k.named o' a b ne (counted_is _ l y.label.counts same) in (
            ap (λ l. of_call d l stage) same ∙ ap (λ (row : Fields). row stage) h.call ∙ f.0,
            ap (λ l. of_call d l callee) same ∙ ap (λ (row : Fields). row callee) h.call ∙ f.1,
          )
      still y s false e =
          let other = h.other_call _ (eqb-false _ l e) in
          let f = y.running s in
          (ap (λ (row : Fields). row stage) other ∙ f.0, ap (λ (row : Fields). row callee) other ∙ f.1)

  -- so where the two rows hold what they must, all do
  pub changed : ObjectHolds m d o → CallHolds m d l → Configured m d
  changed object_holds_lem call_holds_lem =
      let u = objects_are in
      let v = calls_are in
      let (x, y) = g.objects in
      let (x', y') = g.calls in
      let (a, b) = g.object in
      let (a', b') = g.call in
      let n-is = nat_of h.objects in
      let r-is = nat_of h.calls in
      record {
        length = h.length;
        objects = record { counts = counts_of h.objects; least = omega arith; most = omega arith };
        calls = record { counts = counts_of h.calls; least = omega arith; most = omega arith };
        object = λ o' low high. objects_hold o' low (omega arith) (eqb o' o) refl;
        call = λ l' low high. calls_hold l' low (omega arith) (eqb l' l) refl;
        unused_object = λ o' f past.
            ap (λ (row : Fields). row f) (h.other_object o' (λ e. omega arith)) ∙ conf.unused_object o' f (omega arith);
        unused_call = λ l' f past.
            ap (λ (row : Fields). row f) (h.other_call l' (λ e. omega arith)) ∙ conf.unused_call l' f (omega arith);
      }
    where
      objects_hold : (o' : ℕ) → 1 ≤ o' → o' ≤ n → (t : Bool) → eqb o' o ≡ t → ObjectHolds m d o'
      objects_hold o' low high true e = subst (ObjectHolds m d) (sym (eqb-true o' o e)) object_holds_lem
      objects_hold o' low high false e = let ne = eqb-false o' o e in other_object_holds o' low (g.old_object o' high ne) ne

      calls_hold : (l' : ℕ) → 1 ≤ l' → l' ≤ r → (t : Bool) → eqb l' l ≡ t → CallHolds m d l'
      calls_hold l' low high true e = subst (CallHolds m d) (sym (eqb-true l' l e)) call_holds_lem
      calls_hold l' low high false e = let ne = eqb-false l' l e in other_call_holds l' low (g.old_call l' high ne) ne
