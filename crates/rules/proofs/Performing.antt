-- An object's running call at its line, and what its writes leave: on to another line of its method, with a variable stored. Assumes nothing.
use Rattle.std.specs.Prelude.{Some, slice_get}
use Prim.Native.Nat.{ℕ, ◌≤◌, ◌<◌}
use mathlib.Core.Bool.{Bool, true, false}
use mathlib.Core.List.{◌++◌}
use mathlib.Core.Path.{◌≡◌, refl, sym, ap, subst, fun_ext, ◌∙◌}
use native.Mathlib.Omega.{arith}
use borrow.Author.Tests.{eqb-true, ltb-true}
use lib.Dec.{eqb, ltb}
use lib.IntN.{ℤ, pos}
use lib.ListN.{length}
use Rattle.whole.specs.Whole.{nat}
use Rattle.layout.specs.Layout.{Cells, written, most_attributes, most_locals, object_rows, call_rows, read, objects, calls, of_object, of_call, to_object, to_call, class, running_label, attribute, stage, callee, method, args, line, cleared, local}
use Rattle.layout.specs.Stages.{running, objects_in_use, rows_in_use, label_of}
use Rattle.terms.specs.declared.Variable.{Variable}
use Rattle.terms.specs.declared.Variable.TheVariants.{Attribute, Local}
use Rattle.terms.specs.Within.{VariableWithin}
use Rattle.code.specs.Statements.{Code}
use Rattle.model.specs.Model.{Model, Class}
use Rattle.cells.specs.Standing.{Standing, standing_of}
use Rattle.whole.proofs.Tested.{nat_of}
use Rattle.cells.proofs.Facts.{ZeroFrom, ClassAt, StandsAt, Bound, Configured}
use Rattle.cells.proofs.FromTest.{up_to_number}
use Rattle.cells.proofs.CallFromTest.{counted_is}
use Rattle.cells.proofs.ToTest.{standing_there}
use Rattle.layout.proofs.Writes.{Fields, put, put_other, written_append}
use Rattle.layout.proofs.Rows.{Rows, unwritten, wrote_call, wrote_object}
use Rattle.cells.proofs.Changed.{call_among}
use Rattle.cells.proofs.Rewritten.{call_at, kept, rewritten}
use Rattle.cells.proofs.Moves.{with_locals, advanced}
use Rattle.cells.proofs.NewFacts.{item_at}
use Rattle.rules.specs.Exec.{stored}

-- an object's running call, and where it stands
pub record Performing (m : Model) (c : Cells) (o l : ℕ) : Type 0 where
  pub conf : Configured m c
  pub object : (1 ≤ o) × (o ≤ objects_in_use c)
  pub call : (1 ≤ l) × (l ≤ rows_in_use c)
  pub named : of_object c o running_label ≡ pos l
  pub stage : of_call c l stage ≡ pos running
  pub callee : of_call c l callee ≡ pos o
  pub bound : Bound m (of_object c o class) (of_call c l)

abbrev pub standing : {m : Model} {c : Cells} {o l : ℕ} → Performing m c o l → Standing
standing {c = c} {l = l} p = record { body = p.bound.stands.body; at = nat (of_call c l line); statement = p.bound.stands.statement }

-- an object that is not idle has one
pub performing : (m : Model) (c : Cells) (o l : ℕ) → Configured m c → 1 ≤ o → o ≤ objects_in_use c → label_of c (of_object c o running_label) ≡ Some l
    → Performing m c o l
unfolding label_of
performing m c o l conf low high e =
    let (n, z) = up_to_number (rows_in_use c) (of_object c o running_label) l e in
    let (s, t) = (conf.object o low high).running n.least in
    let stage_is : of_call c l stage ≡ pos running = ap (λ l. of_call c l stage) (sym z) ∙ s in
    let callee_is : of_call c l callee ≡ pos o = ap (λ l. of_call c l callee) (sym z) ∙ t in
    let a : 1 ≤ l = omega arith in
    let b : l ≤ rows_in_use c = omega arith in
    let four = nat_of stage_is in
    record {
      conf = conf;
      object = (low, high);
      call = (a, b);
      named = counted_is _ l n.counts z;
      stage = stage_is;
      callee = callee_is;
      bound = (call_at m c l o conf a b callee_is).bound (omega arith);
    }

-- and stands where the definition says
pub stands_there : (m : Model) (c : Cells) (o l : ℕ) (p : Performing m c o l) → standing_of m c l ≡ Some (standing p)
stands_there m c o l p =
    standing_there m c l o p.callee p.bound.stands (call_at m c l o p.conf p.call.0 p.call.1 p.callee).method.counts

-- after a first part of its writes the call is as it was, in a configuration
pub record Still (m : Model) (c d : Cells) (o l : ℕ) : Type 0 where
  pub conf : Configured m d
  pub objects : objects_in_use c ≤ objects_in_use d
  pub calls : rows_in_use c ≤ rows_in_use d
  pub row : of_call d l ≡ of_call c l
  pub class : of_object d o class ≡ of_object c o class

pub still : {m : Model} {c : Cells} {o l : ℕ} → Performing m c o l → Still m c c o l
still p = record { conf = p.conf; objects = omega arith; calls = omega arith; row = refl; class = refl }

-- rows that agree before their locals
pub same_locals : (row r : Fields) → ((g : ℕ) → g < local 0 → r g ≡ row g) → with_locals row r ≡ r
same_locals row r h = fun_ext (λ g. go g (ltb g (local 0)) refl)
  where
    go : (g : ℕ) (b : Bool) → ltb g (local 0) ≡ b → with_locals row r g ≡ r g
    go g true e = rw (e, with_locals) (sym (h g (ltb-true g (local 0) e)))
    go g false e = rw (e, with_locals)

-- cleared that is 0 already
pub uncleared : (row : Fields) → row cleared ≡ pos 0 → put cleared (pos 0) row ≡ row
uncleared row e = fun_ext (λ g. go g (eqb g cleared) refl)
  where
    go : (g : ℕ) (b : Bool) → eqb g cleared ≡ b → put cleared (pos 0) row g ≡ row g
    go g true f = rw (f, put) (sym e ∙ ap row (sym (eqb-true g cleared f)))
    go g false f = rw (f, put)

-- one class for a cell
pub one_class : {m : Model} {k : ℤ} {a b : Class} → ClassAt m k a → ClassAt m k b → a ≡ b
one_class {a = a} {b = b} x y = let e : Some a ≡ Some b = sym x.there ∙ y.there in cc

module _ (m : Model) (c : Cells) (o l : ℕ) (p : Performing m c o l) (d : Cells) (s : Still m c d o l) where
  -- the counts, the row and the callee, of the cells after the first part
  in_use_lem : (1 ≤ l) × (l ≤ rows_in_use d) × (l ≤ call_rows) × (1 ≤ o) × (o ≤ objects_in_use d) × (o ≤ object_rows)
  unfolding objects_in_use rows_in_use
  in_use_lem =
      let a = p.object in
      let b = p.call in
      let h = s.conf.objects.most in
      let k = s.conf.calls.most in
      let u = s.objects in
      let v = s.calls in
      (b.0, omega arith, omega arith, a.0, omega arith, omega arith)

  callee_is : of_call d l callee ≡ pos o
  callee_is = ap (λ (row : Fields). row callee) s.row ∙ p.callee

  stage_is : of_call d l stage ≡ pos running
  stage_is = ap (λ (row : Fields). row stage) s.row ∙ p.stage

  -- a line of its method
  stands_on : (i : ℕ) (st : Code) → slice_get p.bound.stands.body.code i ≡ Some st → StandsAt m (of_object d o class) (of_call d l method) (of_call d l args) (pos i)
  unfolding nat
  stands_on i st e =
      let a = p.bound.stands in
      record {
        class = a.class;
        body = a.body;
        statement = st;
        exists = subst (λ k. ClassAt m k a.class) (sym s.class) a.exists;
        has = ap (λ (row : Fields). slice_get a.class.methods (nat (row method))) s.row ∙ a.has;
        params = ap (λ (row : Fields). row args) s.row ∙ a.params;
        counts = refl;
        inside = e;
      }

  -- the call goes to a line of its method, with cleared 0, some locals, and some row of its object
  pub goes_on : (i : ℕ) (st : Code) → slice_get p.bound.stands.body.code i ≡ Some st → (e : Cells) (its v : Fields)
      → Rows d e (read d objects) (read d calls) l o (put line (pos i) (put cleared (pos 0) (with_locals (of_call d l) v))) its
      → ZeroFrom most_locals p.bound.stands.body.locals (λ i. v (local i))
      → its class ≡ of_object d o class → its running_label ≡ of_object d o running_label
      → ((k : Class) → ClassAt m (of_object d o class) k → ZeroFrom most_attributes k.attrs (λ i. of_object d o (attribute i))
      → ZeroFrom most_attributes k.attrs (λ i. its (attribute i)))
      → Configured m e
  unfolding stands_on
  goes_on i st there e its v rows zeros same_Class same_label attributes =
      let (low, high, few, low-o, high-o, few-o) = in_use_lem in
      let h = call_at m d l o s.conf low high callee_is in
      let a = stands_on i st there in
      let facts = advanced m _ _ _ l (of_call d l) h (nat_of stage_is) i v a zeros in
      rewritten m d e l o _ its s.conf low high callee_is rows callee_is same_Class (kept same_label (λ _. stage_is)) attributes
      (call_among m _ (objects_in_use d) _ _ _ _ l _ facts (omega arith) same_Class (λ n. same_label ∙ facts.named n))

  -- only the line changes
  pub line_goes : (i : ℕ) → i < length p.bound.stands.body.code → of_call c l cleared ≡ pos 0 → (b : Cells)
      → Configured m (written d (to_call b l line (pos i)))
  line_goes i inside clear b =
      let (low, high, few, low-o, high-o, few-o) = in_use_lem in
      let (st, there) = item_at p.bound.stands.body.code i inside in
      let rows = wrote_call d d _ _ l o _ _ (unwritten d l o s.conf.length) b line (pos i) low few (omega arith) in
      let row = of_call d l in
      let same : put cleared (pos 0) (with_locals row row) ≡ row =
      ap (put cleared (pos 0)) (same_locals row row (λ g h. refl)) ∙ uncleared row (ap (λ (row : Fields). row cleared) s.row ∙ clear) in
      goes_on i st there _ (of_object d o) row
      (subst (λ (r : Fields). Rows d (written d (to_call b l line (pos i))) (read d objects) (read d calls) l o (put line (pos i) r) (of_object d o)) (sym same) rows)
      (subst (λ (row : Fields). ZeroFrom most_locals p.bound.stands.body.locals (λ i. row (local i))) (sym s.row) p.bound.locals)
      refl refl (λ k a z. z)

  -- cleared is put to 0, and the line changes: "guard enabled, go on and set cleared 0"
  pub cleared_goes : (i : ℕ) → i < length p.bound.stands.body.code → (b : Cells)
      → Configured m (written d (to_call b l cleared (pos 0) ++ to_call b l line (pos i)))
  cleared_goes i inside b =
      let (low, high, few, low-o, high-o, few-o) = in_use_lem in
      let (st, there) = item_at p.bound.stands.body.code i inside in
      let first = wrote_call d d _ _ l o _ _ (unwritten d l o s.conf.length) b cleared (pos 0) low few (omega arith) in
      let rows = wrote_call d _ _ _ l o _ _ first b line (pos i) low few (omega arith) in
      let row = of_call d l in
      subst (Configured m) (sym (written_append d (to_call b l cleared (pos 0)) (to_call b l line (pos i))))
      (goes_on i st there _ (of_object d o) row
      (subst (λ (r : Fields). Rows d (written (written d (to_call b l cleared (pos 0))) (to_call b l line (pos i))) (read d objects) (read d calls) l o (put line (pos i) (put cleared (pos 0) r)) (of_object d o))
      (sym (same_locals row row (λ g h. refl))) rows)
      (subst (λ (row : Fields). ZeroFrom most_locals p.bound.stands.body.locals (λ i. row (local i))) (sym s.row) p.bound.locals)
      refl refl (λ k a z. z))

  -- a value is stored in a variable that there is, and the line changes
  pub stored_goes : (i : ℕ) → i < length p.bound.stands.body.code → of_call c l cleared ≡ pos 0 → (b : Cells) (x : Variable) (z : ℤ)
      → VariableWithin (record { attrs = p.bound.stands.class.attrs; locals = p.bound.stands.body.locals }) x
      → p.bound.stands.class.attrs ≤ most_attributes → p.bound.stands.body.locals ≤ most_locals
      → Configured m (written d (stored b o l x z ++ to_call b l line (pos i)))
  unfolding stored VariableWithin
  stored_goes i inside clear b (Local j) z within few_attrs few_locals =
      let (low, high, few, low-o, high-o, few-o) = in_use_lem in
      let (st, there) = item_at p.bound.stands.body.code i inside in
      let first = wrote_call d d _ _ l o _ _ (unwritten d l o s.conf.length) b (local j) z low few (omega arith) in
      let rows = wrote_call d _ _ _ l o _ _ first b line (pos i) low few (omega arith) in
      let row = of_call d l in
      let r = put (local j) z row in
      let before : (g : ℕ) → g < local 0 → r g ≡ row g = λ g h. put_other (local j) z row g (λ e. omega arith) in
      let same : put cleared (pos 0) (with_locals row r) ≡ r =
      ap (put cleared (pos 0)) (same_locals row r before) ∙ uncleared r (before cleared (omega arith) ∙ ap (λ (row : Fields). row cleared) s.row ∙ clear) in
      subst (Configured m) (sym (written_append d (to_call b l (local j) z) (to_call b l line (pos i))))
      (goes_on i st there _ (of_object d o) r
      (subst (λ (r : Fields). Rows d (written (written d (to_call b l (local j) z)) (to_call b l line (pos i))) (read d objects) (read d calls) l o (put line (pos i) r) (of_object d o))
      (sym same) rows)
      (λ n low high. put_other (local j) z row (local n) (λ e. omega arith) ∙ ap (λ (row : Fields). row (local n)) s.row ∙ p.bound.locals n low high)
      refl refl (λ k a z. z))
  stored_goes i inside clear b (Attribute j) z within few_attrs few_locals =
      let (low, high, few, low-o, high-o, few-o) = in_use_lem in
      let (st, there) = item_at p.bound.stands.body.code i inside in
      let first = wrote_object d d _ _ l o _ _ (unwritten d l o s.conf.length) (attribute j) z low-o few-o (omega arith) in
      let rows = wrote_call d _ _ _ l o _ _ first b line (pos i) low few (omega arith) in
      let row = of_call d l in
      let its = put (attribute j) z (of_object d o) in
      let same : put cleared (pos 0) (with_locals row row) ≡ row =
      ap (put cleared (pos 0)) (same_locals row row (λ g h. refl)) ∙ uncleared row (ap (λ (row : Fields). row cleared) s.row ∙ clear) in
      subst (Configured m) (sym (written_append d (to_object o (attribute j) z) (to_call b l line (pos i))))
      (goes_on i st there _ its row
      (subst (λ (r : Fields). Rows d (written (written d (to_object o (attribute j) z)) (to_call b l line (pos i))) (read d objects) (read d calls) l o (put line (pos i) r) its) (sym same) rows)
      (subst (λ (row : Fields). ZeroFrom most_locals p.bound.stands.body.locals (λ i. row (local i))) (sym s.row) p.bound.locals)
      (put_other (attribute j) z (of_object d o) class (λ e. omega arith))
      (put_other (attribute j) z (of_object d o) running_label (λ e. omega arith))
      (λ k a zeros n low high.
      let one = ap (λ (k : Class). k.attrs) (one_class a (subst (λ z. ClassAt m z p.bound.stands.class) (sym s.class) p.bound.stands.exists)) in
      put_other (attribute j) z (of_object d o) (attribute n) (λ e. omega arith) ∙ zeros n low high))
