-- What each test of the lookups says of a class, a body and a standing of the model. Assumes nothing.
use Rattle.std.specs.Prelude.{Option, None, Some, IfSome, slice_get}
use Rattle.std.specs.Bool.{then_some}
use Prim.Native.Nat.{ℕ, ◌≤◌, ◌<◌}
use mathlib.Core.Bool.{Bool, true, false, false≢true}
use mathlib.Core.Path.{◌≡◌, refl, sym, ap, ◌∙◌}
use native.Mathlib.Omega.{arith}
use lib.Dec.{eqb, ltb}
use lib.IntN.{ℤ, pos, negsuc, nat_abs}
use lib.ListN.{length}
use borrow.Author.Tests.{eqb-true, eq-eqb, eqb-false, ne_eqb, le-ltb}
use Rattle.whole.specs.Plain.{◌>>=◌}
use Rattle.whole.specs.Whole.{natural, eq_z, between}
use Rattle.layout.specs.Layout.{Cells, read, of_object, of_call, objects, class, callee, method, args, line}
use Rattle.layout.specs.Stages.{object_of}
use Rattle.layout.specs.Vocabulary.Found.{as_object}
use Rattle.layout.specs.declared.ObjectNumber.{ObjectNumber}
use Rattle.layout.proofs.Numbers.{object_in_use}
use Rattle.terms.specs.Bytes.{Text}
use Rattle.code.specs.Statements.{Code}
use Rattle.model.specs.Model.{Model, Class, Method, runs, takes, method_of, binds_to}
use Rattle.model.specs.declared.Row.{Row}
use Rattle.model.specs.Vocabulary.Belonging.{Belongs}
use Rattle.model.specs.Vocabulary.Table.{Table, row_at, class_row, method_row, classes_in}
use Rattle.model.proofs.Lookup.{classes_at, class_at, method_at}
use Rattle.model.proofs.TableRows.{item_at, item_past}
use Rattle.cells.specs.Standing.{Standing, body_of, standing_of}
use Rattle.rules.specs.Exec.{class_runs}
use Rattle.lookup.specs.Vocabulary.Found.{IndexSaid, ClassSaid, BodyIs, BodySaid, taken, bound_to}
use Rattle.lookup.specs.Vocabulary.Programs.{Told}
use Rattle.lookup.specs.declared.Body.{Body}

-- what gives nothing in every case gives nothing
nothing : {A B : Type 0} (x : Option A) (k : A → Option B) → ((a : A) → k a ≡ None) → (x >>= k) ≡ None
nothing None k h = refl
nothing (Some a) k h = h a

-- where what is done with a thing that may be missing gives nothing, so does another that gives nothing of the same things
instead : {A B C : Type 0} (x : Option A) (k : A → Option B) (f : A → Option C) → (x >>= k) ≡ None → ((a : A) → k a ≡ None → f a ≡ None) → (x >>= f) ≡ None
instead None k f e h = refl
instead (Some a) k f e h = h a e

-- a number in a cell: it is below 0, it is past the first so many, or it is one of them
pub index_not : (z : ℤ) (n : ℕ) → natural z ≡ None → IndexSaid z n None
unfolding IndexSaid
index_not z n e = λ i f. cc

pub index_past : (z : ℤ) (n i : ℕ) → natural z ≡ Some i → n ≤ i → IndexSaid z n None
unfolding IndexSaid
index_past z n i e h = λ j f. let same : i ≡ j = cc in omega arith

pub index_is : (z : ℤ) (n i : ℕ) → natural z ≡ Some i → i < n → IndexSaid z n (Some i)
unfolding IndexSaid
index_is z n i e h = (e, h)

pub index_within : (z : ℤ) (n : ℕ) (found : Option ℕ) → IndexSaid z n found → IfSome found (λ i. i < n)
unfolding IndexSaid
index_within z n None h = tt
index_within z n (Some i) h = h.1

-- a class by the number in a cell, where the table tells so many classes
module _ (s : Text) (t u : Table) (m : Model) where
  pub class_said : (z w : ℤ) (n : ℕ) (found : Option ℕ) → Belongs s u m → t ≡ u → n ≡ classes_in t → w ≡ z → IndexSaid w n found → ClassSaid m z found
  unfolding IndexSaid ClassSaid
  class_said z w n found b same told read h = rw (← read) (go found h)
    where
      many : n ≡ length m
      many = told ∙ ap classes_in same ∙ classes_at s u m b

      none : (x : Option ℕ) → ((i : ℕ) → x ≡ Some i → n ≤ i) → (x >>= slice_get m) ≡ None
      none None g = refl
      none (Some i) g = item_past m i (omega (arith, many, g i refl))

      go : (x : Option ℕ) → IndexSaid w n x → ClassSaid m w x
      go None h = none (natural w) h
      go (Some k) h = let i = item_at m k (omega (arith, many, h.1)) in (h.0, i.0, i.1)

-- the number of an object that was found
object_in : ℕ → Option ObjectNumber → ℕ
object_in d (Some o) = o.0
object_in d None = d

-- an object that is in use is found, by the natural number in the cell
module _ (c : Cells) (z : ℤ) (h : between (pos 1) (read c objects) z ≡ true) where
  pub object_is : (o : ObjectNumber) → as_object (object_of c z) ≡ Some o → natural z ≡ Some o.0
  unfolding natural between
  object_is o e = go z (object_in_use c z h ∙ e) h
    where
      go : (y : ℤ) → Some (record { 0 = nat_abs y }) ≡ Some o → between (pos 1) (read c objects) y ≡ true → natural y ≡ Some o.0
      go (pos n) f g = ap Some (unfold object_in in ap (object_in 0) f)
      go (negsuc n) f g = absurd (false≢true g)

  pub object_missed : as_object (object_of c z) ≡ None → ⊥
  object_missed e = let f = object_in_use c z h ∙ e in let y : ◌≡◌ {A = ℕ} 0 1 = cc in omega arith

-- the table of a model has few classes, and few methods of each
module _ (t : Table) (told : Told t) (k : ℕ) (h : k < classes_in t) where
  pub class_few : k < 16
  class_few = omega (arith, classes_at _ _ _ told.rows, told.accepted.count)

  pub method_few : (row_at t (class_row k)).3 ≤ 8
  method_few =
      let here : k < length told.model = omega (arith, classes_at _ _ _ told.rows) in
      let i = item_at told.model k here in
      omega (arith, (class_at _ _ _ told.rows k i.0 i.1).methods, (class_at _ _ _ told.rows k i.0 i.1).few)

-- a class runs as its own number says, and one that is not there does not
pub runs_at : (m : Model) (k : ℕ) (c : Class) → slice_get m k ≡ Some c → eqb c.run 1 ≡ class_runs m k
unfolding class_runs runs
runs_at m k c e = rw (e, class_runs) refl

pub runs_nowhere : (m : Model) (k : ℕ) → length m ≤ k → false ≡ class_runs m k
unfolding class_runs
runs_nowhere m k h = rw (item_past m k h, class_runs) refl

-- the same by the third number of a class's row
module _ (s : Text) (t u : Table) (m : Model) (k n : ℕ) where
  pub runs_told : (r : Row) → Belongs s u m → t ≡ u → n ≡ classes_in t → k < n → r ≡ row_at t (class_row k) → eqb r.2 1 ≡ class_runs m k
  unfolding class_runs runs
  runs_told r b same told within row =
      let i = item_at m k (omega (arith, told, ap classes_in same, classes_at s u m b)) in
      let at = class_at s u m b k i.0 i.1 in
      rw (ap (λ (x : Row). x.2) row ∙ ap (λ t. (row_at t (class_row k)).2) same ∙ at.run, i.1, class_runs) refl

  pub runs_past : Belongs s u m → t ≡ u → n ≡ classes_in t → n ≤ k → ltb k n ≡ class_runs m k
  unfolding class_runs
  runs_past b same told past =
      rw (le-ltb k n past, item_past m k (omega (arith, told, ap classes_in same, classes_at s u m b)), class_runs) refl

-- a method takes as many arguments as it has params, and no other number: by the test of a cell with the number of its params
pub taken_by : (b : Method) (z : ℤ) (n : ℕ) (holds : Bool) → n ≡ b.params → holds ≡ eq_z z (pos n) → taken b z ≡ then_some holds b
unfolding taken natural eq_z takes
taken_by b (pos a) n true e f = rw (eq-eqb b.params a (sym e ∙ sym (eqb-true a n (sym f))), takes) refl
taken_by b (pos a) n false e f = rw (ne_eqb b.params a (λ g. eqb-false a n (sym f) (sym g ∙ sym e)), takes) refl
taken_by b (negsuc a) n true e f = cc
taken_by b (negsuc a) n false e f = refl

kept_where : (t : Table) (m : Model) (b : Method) (z : ℤ) (holds : Bool) (d : Body) → taken b z ≡ then_some holds b
    → (taken b z ≡ Some b → BodyIs t m (taken b z) d) → BodySaid t m (taken b z) (then_some holds d)
unfolding BodySaid
kept_where t m b z true d e h = h e
kept_where t m b z false d e h = e

-- so what is kept of the method's row where the test holds is told
module _ (s : Text) (t u : Table) (m : Model) (i j a : ℕ) (k : Class) (b : Method) (r : Row) (z w : ℤ) (holds : Bool) (o : Option Body) where
  pub taken_said : Belongs s u m → slice_get m i ≡ Some k → slice_get k.methods j ≡ Some b → a ≡ k.attrs → t ≡ u → r ≡ row_at t (method_row i j)
      → w ≡ z → holds ≡ eq_z w (pos r.0) → o ≡ then_some holds (record { attrs = a; locals = r.1; count = r.2; first = r.3 })
      → BodySaid u m (taken b z) o
  taken_said belongs e f g same row read test kept =
      let at = method_at s u m belongs i k e j b f in
      let told : r ≡ row_at u (method_row i j) = row ∙ ap (λ t. row_at t (method_row i j)) same in
      let by = taken_by b z r.0 holds (ap (λ (x : Row). x.0) told ∙ at.params) (test ∙ ap (λ y. eq_z y (pos r.0)) read) in
      rw kept
      (kept_where u m b z holds _ by (λ is. record {
        index = i;
        method = j;
        class = k;
        body = b;
        class_there = e;
        body_there = f;
        is = is;
        attrs = g;
        locals = ap (λ (x : Row). x.1) told ∙ at.locals;
        count = ap (λ (x : Row). x.2) told ∙ at.lines;
        first = ap (λ (x : Row). x.3) told;
      }))

-- the method of a class, by the number in a cell
module _ (m : Model) (k : ℕ) (z w : ℤ) where
  -- of a class that is not there there is none
  pub bound_nowhere : slice_get m k ≡ None → bound_to m k z w ≡ None
  unfolding bound_to binds_to
  bound_nowhere e = nothing (natural z) _ (λ j. nothing (natural w) _ (λ n. rw (e, binds_to) refl))

  module _ (c : Class) (e : slice_get m k ≡ Some c) where
    pub bound_past : (n : ℕ) → n ≡ length c.methods → IndexSaid z n None → bound_to m k z w ≡ None
    unfolding bound_to binds_to method_of IndexSaid
    bound_past n f h = go (natural z) h
      where
        go : (x : Option ℕ) → ((j : ℕ) → x ≡ Some j → n ≤ j) → (x >>= (λ j. natural w >>= (λ i. binds_to m k j i))) ≡ None
        go None g = refl
        go (Some j) g = nothing (natural w) _ (λ i. rw (e, item_past c.methods j (omega (arith, g j refl)), binds_to, method_of) refl)

    pub bound_is : (j : ℕ) → natural z ≡ Some j → (b : Method) → slice_get c.methods j ≡ Some b → bound_to m k z w ≡ taken b w
    unfolding bound_to binds_to method_of taken
    bound_is j f b g = rw (f, e, g, binds_to, method_of) refl

-- a call's body, by its callee and the callee's class
module _ (m : Model) (c : Cells) (l o : ℕ) (e : natural (of_call c l callee) ≡ Some o) where
  pub body_nowhere : ClassSaid m (of_object c o class) None → body_of m c l ≡ None
  unfolding body_of ClassSaid bound_to
  body_nowhere h = rw e (instead (natural (of_object c o class)) _ _ h (λ k f. bound_nowhere m k _ _ f))

  pub body_bound : (k : ℕ) → natural (of_object c o class) ≡ Some k → (z w : ℤ) → z ≡ of_call c l method → w ≡ of_call c l args
      → bound_to m k z w ≡ body_of m c l
  unfolding body_of bound_to
  body_bound k f z w p q = rw (e, f, p, q) refl

-- where a call stands, by its body and the number in its line's cell
module _ (m : Model) (c : Cells) (l : ℕ) where
  pub stands_nowhere : body_of m c l ≡ None → standing_of m c l ≡ None
  unfolding standing_of
  stands_nowhere e = rw e refl

  module _ (b : Method) (e : body_of m c l ≡ Some b) where
    pub stands_past : (n : ℕ) → n ≡ length b.code → IndexSaid (of_call c l line) n None → standing_of m c l ≡ None
    unfolding standing_of IndexSaid
    stands_past n f h = rw e (go (natural (of_call c l line)) h)
      where
        stand : ℕ → Code → Option Standing
        stand i s = Some (record { body = b; at = i; statement = s })

        go : (x : Option ℕ) → ((i : ℕ) → x ≡ Some i → n ≤ i)
            → (x >>= (λ i. slice_get b.code i >>= stand i)) ≡ None
        go None g = refl
        go (Some i) g = rw (item_past b.code i (omega (arith, g i refl))) refl

    pub stands_at : (i : ℕ) → natural (of_call c l line) ≡ Some i → (s : Code) → slice_get b.code i ≡ Some s
        → standing_of m c l ≡ Some (record { body = b; at = i; statement = s })
    unfolding standing_of
    stands_at i f s g = rw (e, f, g) refl
