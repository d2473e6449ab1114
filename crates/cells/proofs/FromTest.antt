-- From the test of a configuration to what holds of it, condition by condition. Assumes nothing.
use Rattle.std.specs.Prelude.{Option, None, Some, slice_get}
use Prim.Native.Nat.{ℕ, ◌≤◌}
use mathlib.Core.Bool.{Bool, true, false, ◌&&◌, ◌||◌, false≢true}
use mathlib.Core.Path.{◌≡◌, refl, sym, ap, ◌∙◌}
use native.Mathlib.Omega.{arith}
use borrow.Author.Tests.{le-leb, eqb-true}
use lib.Dec.{eqb, leb}
use lib.IntN.{ℤ, pos}
use Rattle.whole.specs.Plain.{whenever, only_if}
use Rattle.whole.specs.Whole.{between, eq_z, nat, natural}
use Rattle.whole.proofs.Both.{both_left, both_right}
use Rattle.layout.specs.Layout
use Rattle.layout.specs.Layout.{Cells, most_attributes, of_object, of_call, attribute}
use Rattle.layout.specs.Stages.{running, rows_in_use, up_to, label_of, stage_of, in_stage, in_stages}
use Rattle.code.specs.declared.Shape.{Shape}
use Rattle.code.specs.declared.Shape.TheVariants as Shape
use Rattle.code.specs.Blocks.{shape_number, is_shape}
use Rattle.model.specs.Model.{Model, Class, Method, takes, method_of, binds_to}
use Rattle.cells.specs.Configuration.{is, zero_from, running_named, object_holds}
use Rattle.cells.specs.Standing.{class_of, body_of, Standing, standing_of}
use Rattle.whole.proofs.Tested.{no_some, Number, number, equals, of_natural, nat_of, counts_of, asked, each_below, found}
use Rattle.cells.proofs.Facts.{ZeroFrom, ClassAt, StandsAt, ObjectHolds}

-- fields from one of a family on are 0
pub zeros : (family from : ℕ) (field : ℕ → ℤ) → zero_from family from field ≡ true → ZeroFrom family from field
unfolding zero_from
zeros family from field e i h k =
    equals (field i) 0 (asked (leb from i) _ (each_below (λ i. whenever (leb from i) (is (field i) 0)) family e i k) (le-leb from i h))

-- a number among the first so many
pub up_to_number : (n : ℕ) (z : ℤ) (i : ℕ) → up_to n z ≡ Some i → Number 1 n z × (nat z ≡ i)
unfolding up_to only_if
up_to_number n z i e = go (between (pos 1) (pos n) z) refl e
  where
    go : (b : Bool) → between (pos 1) (pos n) z ≡ b → only_if b (nat z) ≡ Some i → Number 1 n z × (nat z ≡ i)
    go true f e = (number 1 n z f, cc)
    go false f e = absurd (no_some e)

-- a shape by its test
pub shape_is : (s t : Shape) → is_shape s t ≡ true → t ≡ s
unfolding is_shape
shape_is s t e = go s t (eqb-true (shape_number s) (shape_number t) e)
  where
    shape : ℕ → Shape
    shape n = elim (eqb n 0) [
      | true ↦ Shape.If
      | false ↦ elim (eqb n 1) [
        | true ↦ Shape.Else
        | false ↦ elim (eqb n 2) [
          | true ↦ Shape.Fi
          | false ↦ elim (eqb n 3) [
            | true ↦ Shape.While
            | false ↦ elim (eqb n 4) [
              | true ↦ Shape.Od
              | false ↦ elim (eqb n 5) [
                | true ↦ Shape.Return
                | false ↦ elim (eqb n 6) [ true ↦ Shape.Await | false ↦ Shape.Plain ]
              ]
            ]
          ]
        ]
      ]
    ]

    back : (s : Shape) → shape (shape_number s) ≡ s
    back Shape.If = unfold shape_number in refl
    back Shape.Else = unfold shape_number in refl
    back Shape.Fi = unfold shape_number in refl
    back Shape.While = unfold shape_number in refl
    back Shape.Od = unfold shape_number in refl
    back Shape.Return = unfold shape_number in refl
    back Shape.Await = unfold shape_number in refl
    back Shape.Plain = unfold shape_number in refl

    go : (s t : Shape) → shape_number s ≡ shape_number t → t ≡ s
    go s t e = sym (back t) ∙ ap shape (sym e) ∙ back s

-- the method that binding finds
pub binds_found : (m : Model) (k j n : ℕ) (b : Method) → binds_to m k j n ≡ Some b
    → (class : Class) × (slice_get m k ≡ Some class) × (slice_get class.methods j ≡ Some b) × (b.params ≡ n)
unfolding binds_to
binds_found m k j n b e = go (slice_get m k) refl e
  where
    taking : (b' : Method) (t : Bool) → eqb b'.params n ≡ t → (elim t [ true ↦ Some b' | false ↦ None ]) ≡ Some b → (b' ≡ b) × (b'.params ≡ n)
    taking b' true f e = (cc, eqb-true b'.params n f)
    taking b' false f e = absurd (no_some e)

    having : (class : Class) (x : Option Method) → slice_get class.methods j ≡ x → (elim x [ None ↦ None | Some m ↦ takes n m ]) ≡ Some b
        → (slice_get class.methods j ≡ Some b) × (b.params ≡ n)
    having class None f e = absurd (no_some e)
    having class (Some b') f e =
        let t = taking b' (eqb b'.params n) refl (unfold takes in e) in
        (f ∙ ap Some t.0, ap (λ (x : Method). x.params) (sym t.0) ∙ t.1)

    go : (x : Option Class) → slice_get m k ≡ x → (elim x [ None ↦ None | Some class ↦ method_of class j n ]) ≡ Some b
        → (class : Class) × (slice_get m k ≡ Some class) × (slice_get class.methods j ≡ Some b) × (b.params ≡ n)
    go None f e = absurd (no_some e)
    go (Some class) f e = let h = having class (slice_get class.methods j) refl (unfold method_of in e) in (class, f, h.0, h.1)

module _ (m : Model) (c : Cells) where
  -- the class of an object
  pub class_at : (o : ℕ) (k : Class) → class_of m c o ≡ Some k → ClassAt m (of_object c o Layout.class) k
  unfolding class_of
  class_at o k e =
      let f = found (natural (of_object c o Layout.class)) (λ n. slice_get m n) k e in
      let z = of_natural (of_object c o Layout.class) f.0 f.1 in
      record { counts = counts_of z; there = ap (slice_get m) (nat_of z) ∙ f.2 }

  -- "an object's running label is 0 or a stage 4 call with that callee"
  abbrev Named : ℕ → Type 0
  Named o =
      let z = of_object c o Layout.running_label in
      Number 0 (rows_in_use c) z × (1 ≤ nat z → (of_call c (nat z) Layout.stage ≡ pos running) × (of_call c (nat z) Layout.callee ≡ pos o))

  running_named_lem : (o : ℕ) → running_named m c o ≡ true → Named o
  unfolding running_named label_of in_stage stage_of
  running_named_lem o e = go (eq_z z (pos 0)) refl e
    where
      z : ℤ
      z = of_object c o Layout.running_label

      there : (x : Option ℕ) → up_to (rows_in_use c) z ≡ x
          → (elim x [ None ↦ false | Some l ↦ in_stage c l running && is (of_call c l Layout.callee) o ]) ≡ true → Named o
      there None f e = absurd (false≢true e)
      there (Some l) f e =
          let n = up_to_number (rows_in_use c) z l f in
          let a = equals (of_call c l Layout.stage) running (both_left (in_stage c l running) _ e) in
          let b = equals (of_call c l Layout.callee) o (both_right (in_stage c l running) _ e) in (
            record { counts = n.0.counts; least = omega arith; most = n.0.most },
            λ h. (ap (λ l. of_call c l Layout.stage) n.1 ∙ a, ap (λ l. of_call c l Layout.callee) n.1 ∙ b),
          )

      go : (b : Bool) → eq_z z (pos 0) ≡ b
          → b || (elim (up_to (rows_in_use c) z) [ None ↦ false | Some l ↦ in_stage c l running && is (of_call c l Layout.callee) o ]) ≡ true → Named o
      go true f e =
          let y = equals z 0 f in
          let w = nat_of y in
          (record { counts = counts_of y; least = omega arith; most = omega arith }, λ h. absurd (omega arith))
      go false f e = there (up_to (rows_in_use c) z) refl e

  -- "each class exists; attributes from attrs on are 0"
  pub object_facts : (o : ℕ) → object_holds m c o ≡ true → ObjectHolds m c o
  unfolding object_holds
  object_facts o e = go (class_of m c o) refl e
    where
      go : (x : Option Class) → class_of m c o ≡ x
          → (elim x [ None ↦ false | Some k ↦ zero_from most_attributes k.attrs (λ i. of_object c o (attribute i)) && running_named m c o ]) ≡ true
          → ObjectHolds m c o
      go None f e = absurd (false≢true e)
      go (Some k) f e =
          let zero = zero_from most_attributes k.attrs (λ i. of_object c o (attribute i)) in
          let n = running_named_lem o (both_right zero (running_named m c o) e) in
          record {
            class = k;
            exists = class_at o k f;
            attributes = zeros most_attributes k.attrs _ (both_left zero (running_named m c o) e);
            label = n.0;
            running = n.1;
          }

  -- a stage by its test
  pub stage_is : (l s : ℕ) → in_stage c l s ≡ true → of_call c l Layout.stage ≡ pos s
  unfolding in_stage stage_of
  stage_is l s e = equals (of_call c l Layout.stage) s e

  pub stages_are : (l s t : ℕ) → in_stages c l s t ≡ true → Number s t (of_call c l Layout.stage)
  unfolding in_stages stage_of
  stages_are l s t e = number s t (of_call c l Layout.stage) e

  -- the method that a call is bound to
  pub body_at : (l o : ℕ) → of_call c l Layout.callee ≡ pos o → (b : Method) → body_of m c l ≡ Some b
      → (class : Class) × ClassAt m (of_object c o Layout.class) class × (slice_get class.methods (nat (of_call c l Layout.method)) ≡ Some b)
      × (of_call c l Layout.args ≡ pos b.params)
  unfolding body_of
  body_at l o callee b e =
      let (o', eo, f1) = found (natural (of_call c l Layout.callee)) _ b e in
      let (k, ek, f2) = found (natural (of_object c o' Layout.class)) _ b f1 in
      let (j, ej, f3) = found (natural (of_call c l Layout.method)) _ b f2 in
      let (n, en, f4) = found (natural (of_call c l Layout.args)) _ b f3 in
      let (class, g1, g2, g3) = binds_found m k j n b f4 in
      let same : o' ≡ o = sym (nat_of (of_natural _ o' eo)) ∙ nat_of callee in
      let zk : of_object c o Layout.class ≡ pos k = ap (λ o. of_object c o Layout.class) (sym same) ∙ of_natural _ k ek in
      let zj = of_natural (of_call c l Layout.method) j ej in
      let zn = of_natural (of_call c l Layout.args) n en in
      (class, record { counts = counts_of zk; there = ap (slice_get m) (nat_of zk) ∙ g1 }, ap (slice_get class.methods) (nat_of zj) ∙ g2, zn ∙ ap pos (sym g3))

  -- where a call stands
  pub stands_at : (l o : ℕ) → of_call c l Layout.callee ≡ pos o → (s : Standing) → standing_of m c l ≡ Some s
      → (a : StandsAt m (of_object c o Layout.class) (of_call c l Layout.method) (of_call c l Layout.args) (of_call c l Layout.line))
      × (a.body ≡ s.body) × (a.statement ≡ s.statement) × (nat (of_call c l Layout.line) ≡ s.at)
  unfolding standing_of
  stands_at l o callee s e =
      let (b, eb, e1) = found (body_of m c l) _ s e in
      let (i, ei, e2) = found (natural (of_call c l Layout.line)) _ s e1 in
      let (st, es, e3) = found (slice_get b.code i) _ s e2 in
      let (class, exists, has, params) = body_at l o callee b eb in
      let zi = of_natural (of_call c l Layout.line) i ei in
      let q : record { body = b; at = i; statement = st } ≡ s = cc in (
        record {
          class = class;
          body = b;
          statement = st;
          exists = exists;
          has = has;
          params = params;
          counts = counts_of zi;
          inside = ap (slice_get b.code) (nat_of zi) ∙ es;
        },
        ap (λ (s : Standing). s.body) q,
        ap (λ (s : Standing). s.statement) q,
        nat_of zi ∙ ap (λ (s : Standing). s.at) q,
      )
