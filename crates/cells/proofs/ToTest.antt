-- From what holds of an object and of a call back to the tests. Assumes nothing.
use Rattle.std.specs.Prelude.{None, Some, slice_get}
use Prim.Native.Nat.{ℕ, ◌≤◌, ◌<◌}
use mathlib.Core.Bool.{Bool, true, false, ◌&&◌, ◌||◌}
use mathlib.Core.List.{[], ◌∷◌}
use mathlib.Core.Path.{◌≡◌, refl, sym, ap, subst}
use native.Mathlib.Omega.{arith}
use borrow.Author.Tests.{leb-true, eq-eqb}
use lib.Dec.{leb}
use lib.IntN.{ℤ, pos}
use Rattle.whole.specs.Plain.{all, whenever, only_if}
use Rattle.whole.specs.Whole.{between, eq_z, nat, natural}
use Rattle.whole.proofs.Both.{both, both_left, both_right}
use Rattle.layout.specs.Layout
use Rattle.layout.specs.Layout.{Cells, most_attributes, most_locals, read, objects, of_object, of_call}
use Rattle.layout.specs.Stages.{invoked, bound, running, answered, taken, nobody, objects_in_use, rows_in_use, up_to, label_of, stage_of, in_stage, in_stages}
use Rattle.code.specs.declared.Shape.{Shape}
use Rattle.code.specs.declared.Shape.TheVariants as Shape
use Rattle.code.specs.Blocks.{shape_of, shape_number, is_shape}
use Rattle.code.specs.Reader.{last_method}
use Rattle.model.specs.Bounds.{most_params}
use Rattle.model.specs.Model.{Model, Class, Method, runs, takes, method_of, binds_to}
use Rattle.cells.specs.Configuration.{is, zero_from, running_named, object_holds, numbers_hold, named_by_callee, unbound_holds, line_holds, bound_holds, callerless_holds, call_holds}
use Rattle.cells.specs.Standing.{class_of, body_of, standing_of}
use Rattle.whole.proofs.Tested.{passed_failed, Counts, Number, numbered, equals, equalled, natural_of, nat_of, asking, one_of, below_each}
use Rattle.cells.proofs.Facts.{ZeroFrom, ClassAt, StandsAt, Callerless, ObjectHolds, CallHolds}
use Rattle.cells.proofs.FromTest.{stage_is, stages_are}
use Rattle.cells.proofs.CallFromTest.{counted_is, in_stage_lem, in_stages_lem, below_first, past_last}

-- fields from one of a family on are 0
pub zeroed : (family from : ℕ) (field : ℕ → ℤ) → ZeroFrom family from field → zero_from family from field ≡ true
unfolding zero_from
zeroed family from field h =
    below_each (λ i. whenever (leb from i) (is (field i) 0)) family (λ i k. asking (leb from i) _ (λ t. equalled _ 0 (h i (leb-true from i t) k)))

-- a number among the first so many
pub number_up_to : (n : ℕ) (z : ℤ) → Number 1 n z → up_to n z ≡ Some (nat z)
unfolding up_to only_if
number_up_to n z h = ap (λ b. only_if b (nat z)) (numbered 1 n z h)

-- a shape by its test
pub shape_tested : (s t : Shape) → t ≡ s → is_shape s t ≡ true
unfolding is_shape
shape_tested s t e = eq-eqb (shape_number s) (shape_number t) (ap shape_number (sym e))

-- the method that binding finds
pub finds_binding : (m : Model) (k j : ℕ) (class : Class) (b : Method) → slice_get m k ≡ Some class → slice_get class.methods j ≡ Some b
    → binds_to m k j b.params ≡ Some b
unfolding binds_to method_of takes
finds_binding m k j class b e f = rw (e, binds_to) (rw (f, method_of) (rw (eq-eqb b.params b.params refl, takes)))

module _ (m : Model) (c : Cells) where
  -- the class of an object
  pub class_there : (o : ℕ) (k : Class) → ClassAt m (of_object c o Layout.class) k → class_of m c o ≡ Some k
  unfolding class_of
  class_there o k h = rw (natural_of _ h.counts) h.there

  -- "an object's running label is 0 or a stage 4 call with that callee"
  naming_runs : (o : ℕ) → ObjectHolds m c o → running_named m c o ≡ true
  unfolding running_named label_of in_stage stage_of
  naming_runs o h = one_of (eq_z z (pos 0)) _ (λ f. labelled (λ e. passed_failed (equalled z 0 (counted_is z 0 h.label.counts e)) f))
    where
      z : ℤ
      z = of_object c o Layout.running_label

      labelled : (nat z ≡ 0 → ⊥) → (elim (up_to (rows_in_use c) z) [ None ↦ false | Some l ↦ in_stage c l running && is (of_call c l Layout.callee) o ]) ≡ true
      labelled n =
          let k : 1 ≤ nat z = omega arith in
          let r = h.running k in
          rw (number_up_to (rows_in_use c) z (record { counts = h.label.counts; least = k; most = h.label.most }))
          (both _ _ (equalled _ running r.0) (equalled _ o r.1))

  pub object_test : (o : ℕ) → ObjectHolds m c o → object_holds m c o ≡ true
  unfolding object_holds
  object_test o h = rw (class_there o h.class h.exists, object_holds) (both _ _ (zeroed most_attributes _ _ h.attributes) (naming_runs o h))

  -- where a call stands
  pub body_there : (l o : ℕ) → of_call c l Layout.callee ≡ pos o
      → (a : StandsAt m (of_object c o Layout.class) (of_call c l Layout.method) (of_call c l Layout.args) (of_call c l Layout.line))
      → Counts (of_call c l Layout.method) → body_of m c l ≡ Some a.body
  unfolding body_of natural
  body_there l o callee a method =
      rw (callee, natural_of (of_object c o Layout.class) a.exists.counts, natural_of (of_call c l Layout.method) method, a.params)
      (finds_binding m (nat (of_object c o Layout.class)) (nat (of_call c l Layout.method)) a.class a.body a.exists.there a.has)

  pub standing_there : (l o : ℕ) → of_call c l Layout.callee ≡ pos o
      → (a : StandsAt m (of_object c o Layout.class) (of_call c l Layout.method) (of_call c l Layout.args) (of_call c l Layout.line))
      → Counts (of_call c l Layout.method)
      → standing_of m c l ≡ Some (record { body = a.body; at = nat (of_call c l Layout.line); statement = a.statement })
  unfolding standing_of
  standing_there l o callee a method = rw (body_there l o callee a method, natural_of (of_call c l Layout.line) a.counts, a.inside)

  -- a call of which the facts hold, among objects that are counted
  module _ (l : ℕ) (h : CallHolds m c l) where
    o : ℕ
    o = nat (of_call c l Layout.callee)

    unbound_test : nat (of_call c l Layout.stage) < bound → unbound_holds m c l ≡ true
    unfolding unbound_holds
    unbound_test k =
        let u = h.unbound k in
        both _ _ (numbered 0 most_params _ u.args)
        (both _ _ (zeroed most_locals _ _ u.locals)
        (both _ _ (equalled _ 0 u.line)
        (both _ true (equalled _ 0 u.cleared) refl)))

    bound_test : bound ≤ nat (of_call c l Layout.stage) → bound_holds m c l ≡ true
    unfolding bound_holds line_holds o
    bound_test k =
        let b = h.bound k in
        let stand = standing_there l o h.callee.counts b.stands h.method.counts in
        let await : (is (of_call c l Layout.cleared) 1 ≡ true) → (in_stages c l bound running && is_shape Shape.Await (shape_of b.stands.statement)) ≡ true =
        λ t.
        let w = b.cleared (nat_of (equals _ 1 t)) in
        both _ _ (in_stages_lem m c l h.stage h.cleared bound running k w.0) (shape_tested Shape.Await _ w.1) in
        let first : (in_stage c l bound && is (of_call c l Layout.cleared) 0 ≡ true) → is (of_call c l Layout.line) 0 ≡ true =
        λ t.
        equalled _ 0 (b.first (nat_of (stage_is m c l bound (both_left (in_stage c l bound) _ t))) (nat_of (equals _ 0 (both_right (in_stage c l bound) _ t)))) in
        let returned : (in_stages c l answered taken ≡ true) → is_shape Shape.Return (shape_of b.stands.statement) ≡ true =
        λ t. shape_tested Shape.Return _ (b.returned (stages_are m c l answered taken t).least) in
        rw (stand, bound_holds)
        (both _ _ (zeroed most_locals _ _ b.locals) (both _ _ (asking _ _ await) (both _ _ (asking _ _ first) (both _ true (asking _ _ returned) refl))))

    callerless_test : callerless_holds m c l ≡ true
    unfolding callerless_holds o
    callerless_test = asking (eq_z (of_call c l Layout.caller) nobody) _ (λ t. holds (h.callerless (nat_of (equals _ 0 t))))
      where
        stages : Callerless m (of_object c o Layout.class) (of_call c l Layout.stage) (of_call c l Layout.method)
            → (in_stages c l bound running || in_stage c l taken) ≡ true
        stages r =
            one_of (in_stages c l bound running) _
            (λ f.
            let n = past_last m c l h.stage h.cleared bound running f r.bound in
            let s = h.stage in
            let u = r.unanswered in
            let v = r.unreplied in
            in_stage_lem m c l h.stage h.cleared taken (omega arith))

        holds : Callerless m (of_object c o Layout.class) (of_call c l Layout.stage) (of_call c l Layout.method)
            → all ((in_stages c l bound running || in_stage c l taken) ∷ is (of_call c l Layout.method) 0 ∷ (elim (class_of m c o) [ None ↦ false | Some k ↦ runs k ]) ∷ []) ≡ true
        holds r =
            let run : (elim (class_of m c o) [ None ↦ false | Some k ↦ runs k ]) ≡ true = rw (class_there o r.class r.exists) r.runs in
            both _ _ (stages r) (both _ _ (equalled _ 0 r.first) (both _ true run refl))

    pub call_test : Counts (read c objects) → call_holds m c l ≡ true
    unfolding call_holds numbers_hold named_by_callee objects_in_use in_stages stage_of o
    call_test counted =
        let by : between (pos 0) (read c objects) (of_call c l Layout.caller) ≡ true =
        subst (λ n. between (pos 0) n (of_call c l Layout.caller) ≡ true) (sym counted) (numbered 0 _ _ h.caller) in
        let to : between (pos 1) (read c objects) (of_call c l Layout.callee) ≡ true =
        subst (λ n. between (pos 1) n (of_call c l Layout.callee) ≡ true) (sym counted) (numbered 1 _ _ h.callee) in
        both _ _
        (both _ _ (numbered invoked taken _ h.stage) (both _ _ by (both _ _ to (both _ true (numbered 0 last_method _ h.method) refl))))
        (both _ _ (asking (in_stage c l running) _ (λ t. equalled _ l (h.named (nat_of (stage_is m c l running t)))))
        (both _ _ (numbered 0 1 _ h.cleared)
        (both _ _ (one_of (in_stages c l answered taken) _ (λ f. equalled _ 0 (h.value (below_first m c l h.stage h.cleared answered taken f h.stage.most))))
        (both _ _ (stood (in_stages c l bound taken) refl)
        (both _ true callerless_test refl)))))
      where
        stood : (t : Bool) → in_stages c l bound taken ≡ t → (elim t [ true ↦ bound_holds m c l | false ↦ unbound_holds m c l ]) ≡ true
        stood true e = bound_test (stages_are m c l bound taken e).least
        stood false e = unbound_test (below_first m c l h.stage h.cleared bound taken e h.stage.most)
