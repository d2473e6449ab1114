-- From the test of a call to what holds of it. Assumes nothing.
use Rattle.std.specs.Prelude.{Option, None, Some}
use Prim.Native.Nat.{ℕ, ◌≤◌, ◌<◌}
use mathlib.Core.Bool.{Bool, true, false, ◌&&◌, ◌||◌, false≢true}
use mathlib.Core.List.{List, [], ◌∷◌}
use mathlib.Core.Path.{◌≡◌, refl, sym, ap, subst, ◌∙◌}
use native.Mathlib.Omega.{arith}
use borrow.Author.Tests.{leb-true, leb-false}
use lib.Dec.{leb}
use lib.IntN.{ℤ, pos}
use Rattle.whole.specs.Plain.{all, whenever}
use Rattle.whole.specs.Whole.{between, eq_z, nat}
use Rattle.whole.proofs.Both.{both_left, both_right, both}
use Rattle.layout.specs.Layout
use Rattle.layout.specs.Layout.{Cells, most_locals, read, objects, of_object, of_call, local}
use Rattle.layout.specs.Stages.{invoked, bound, running, answered, replied, taken, nobody, objects_in_use, in_stage, in_stages}
use Rattle.code.specs.declared.Shape.TheVariants as Shape
use Rattle.code.specs.Blocks.{shape_of, is_shape}
use Rattle.code.specs.Reader.{last_method}
use Rattle.model.specs.Bounds.{most_params}
use Rattle.model.specs.Model.{Model, Class, runs}
use Rattle.cells.specs.Configuration.{is, zero_from, numbers_hold, named_by_callee, unbound_holds, line_holds, bound_holds, callerless_holds, call_holds}
use Rattle.cells.specs.Standing.{class_of, Standing, standing_of}
use Rattle.whole.proofs.Tested.{passed_failed, Counts, Number, number, numbered, equals, equalled, nat_of, asked, otherwise}
use Rattle.cells.proofs.Facts.{ZeroFrom, ClassAt, Unbound, Bound, Callerless, CallHolds}
use Rattle.cells.proofs.FromTest.{zeros, shape_is, class_at, stage_is, stages_are, stands_at}

-- the tests of a list, one by one
abbrev pub Passed : List Bool → Type 0
Passed [] = Unit {0}
Passed (b ∷ bs) = (b ≡ true) × Passed bs

pub passed : (bs : List Bool) → all bs ≡ true → Passed bs
passed [] e = tt
passed (b ∷ bs) e = (both_left b (all bs) e, passed bs (both_right b (all bs) e))

-- a number that is one, by a fact about it
pub counted_is : (z : ℤ) (n : ℕ) → Counts z → nat z ≡ n → z ≡ pos n
counted_is z n h e = h ∙ ap pos e

module _ (m : Model) (c : Cells) (l : ℕ) where
  -- "In stages 1 and 2 args is 0..4, v cells from args on and line are 0."
  unbound_facts : unbound_holds m c l ≡ true → Unbound (of_call c l)
  unfolding unbound_holds
  unbound_facts e =
      let (a, (v, (i, (w, _)))) = passed (
      between (pos 0) (pos most_params) (of_call c l Layout.args)
      ∷ zero_from most_locals (nat (of_call c l Layout.args)) (λ i. of_call c l (local i))
      ∷ is (of_call c l Layout.line) 0
      ∷ is (of_call c l Layout.cleared) 0
      ∷ []) e in
      record {
        args = number 0 most_params _ a;
        locals = zeros most_locals _ _ v;
        line = equals _ 0 i;
        cleared = equals _ 0 w;
      }

  module _ (count : Number invoked taken (of_call c l Layout.stage)) (flag : Number 0 1 (of_call c l Layout.cleared)) where
    -- a stage's test from its number
    pub in_stage_lem : (s : ℕ) → nat (of_call c l Layout.stage) ≡ s → in_stage c l s ≡ true
    unfolding in_stage Rattle.layout.specs.Stages.stage_of
    in_stage_lem s e = equalled (of_call c l Layout.stage) s (counted_is _ s count.counts e)

    pub in_stages_lem : (s t : ℕ) → s ≤ nat (of_call c l Layout.stage) → nat (of_call c l Layout.stage) ≤ t → in_stages c l s t ≡ true
    unfolding in_stages Rattle.layout.specs.Stages.stage_of
    in_stages_lem s t h k = numbered s t (of_call c l Layout.stage) (record { counts = count.counts; least = h; most = k })

    -- and where it is in none of several stages
    pub below_first : (s t : ℕ) → in_stages c l s t ≡ false → nat (of_call c l Layout.stage) ≤ t → nat (of_call c l Layout.stage) < s
    below_first s t f h = go (leb s (nat (of_call c l Layout.stage))) refl
      where
        go : (b : Bool) → leb s (nat (of_call c l Layout.stage)) ≡ b → nat (of_call c l Layout.stage) < s
        go true e = absurd (passed_failed (in_stages_lem s t (leb-true _ _ e) h) f)
        go false e = leb-false _ _ e

    pub past_last : (s t : ℕ) → in_stages c l s t ≡ false → s ≤ nat (of_call c l Layout.stage) → t < nat (of_call c l Layout.stage)
    past_last s t f h = go (leb (nat (of_call c l Layout.stage)) t) refl
      where
        go : (b : Bool) → leb (nat (of_call c l Layout.stage)) t ≡ b → t < nat (of_call c l Layout.stage)
        go true e = absurd (passed_failed (in_stages_lem s t h (leb-true _ _ e)) f)
        go false e = leb-false _ _ e

    -- "From stage 3 ..": where the call stands, and what its line says
    bound_facts : (o : ℕ) → of_call c l Layout.callee ≡ pos o → bound_holds m c l ≡ true → Bound m (of_object c o Layout.class) (of_call c l)
    unfolding bound_holds line_holds
    bound_facts o callee e = go (standing_of m c l) refl e
      where
        go : (x : Option Standing) → standing_of m c l ≡ x
            → (elim x [ None ↦ false | Some s ↦ zero_from most_locals s.body.locals (λ i. of_call c l (local i)) && line_holds m c l s.statement ]) ≡ true
            → Bound m (of_object c o Layout.class) (of_call c l)
        go None f e = absurd (false≢true e)
        go (Some s) f e =
            let (a, b, st, i) = stands_at m c l o callee s f in
            let zero = zero_from most_locals s.body.locals (λ i. of_call c l (local i)) in
            let line : line_holds m c l s.statement ≡ true = both_right zero _ e in
            let (w, (n, (r, _))) = passed (
            whenever (is (of_call c l Layout.cleared) 1) (in_stages c l bound running && is_shape Shape.Await (shape_of s.statement))
            ∷ whenever (in_stage c l bound && is (of_call c l Layout.cleared) 0) (is (of_call c l Layout.line) 0)
            ∷ whenever (in_stages c l answered taken) (is_shape Shape.Return (shape_of s.statement))
            ∷ []) line in
            record {
              stands = a;
              locals = subst (λ b. ZeroFrom most_locals b.locals (λ i. of_call c l (local i))) (sym b) (zeros most_locals _ _ (both_left zero _ e));
              cleared = λ h.
                  let t = asked (is (of_call c l Layout.cleared) 1) _ w (equalled _ 1 (counted_is _ 1 flag.counts h)) in
                  let k = stages_are m c l bound running (both_left (in_stages c l bound running) _ t) in
                  (k.most, ap shape_of st ∙ shape_is Shape.Await _ (both_right (in_stages c l bound running) _ t));
              first = λ h k.
                  equals _ 0 (asked (in_stage c l bound && is (of_call c l Layout.cleared) 0) _ n
                  (both _ _ (in_stage_lem bound h) (equalled _ 0 (counted_is _ 0 flag.counts k))));
              returned = λ h. ap shape_of st ∙ shape_is Shape.Return _ (asked (in_stages c l answered taken) _ r (in_stages_lem answered taken h count.most));
            }

    -- "Caller 0 stands only in stages 3, 4 and 7, with method 0 of a class with run 1."
    callerless_facts : (o : ℕ) → of_call c l Layout.callee ≡ pos o → callerless_holds m c l ≡ true → of_call c l Layout.caller ≡ pos 0
        → Callerless m (of_object c o Layout.class) (of_call c l Layout.stage) (of_call c l Layout.method)
    unfolding callerless_holds
    callerless_facts o callee e none-called =
        let (s, (j, (k, _))) = passed (
        (in_stages c l bound running || in_stage c l taken)
        ∷ is (of_call c l Layout.method) 0
        ∷ (elim (class_of m c (nat (of_call c l Layout.callee))) [ None ↦ false | Some k ↦ runs k ])
        ∷ []) (asked (eq_z (of_call c l Layout.caller) nobody) _ e (equalled _ 0 none-called)) in
        let (class, f, u) = runs_at (class_of m c (nat (of_call c l Layout.callee))) refl k in
        let z = stage_at (in_stages c l bound running) refl s in
        record {
          bound = z.0;
          unanswered = z.1;
          unreplied = z.2;
          first = equals _ 0 j;
          class = class;
          exists = subst (λ o. ClassAt m (of_object c o Layout.class) class) (nat_of callee) (class_at m c _ class f);
          runs = u;
        }
      where
        runs_at : (x : Option Class) → class_of m c (nat (of_call c l Layout.callee)) ≡ x → (elim x [ None ↦ false | Some k ↦ runs k ]) ≡ true
            → (k : Class) × (class_of m c (nat (of_call c l Layout.callee)) ≡ Some k) × (runs k ≡ true)
        runs_at None f e = absurd (false≢true e)
        runs_at (Some k) f e = (k, f, e)

        stage_at : (b : Bool) → in_stages c l bound running ≡ b → b || in_stage c l taken ≡ true
            → (let s = nat (of_call c l Layout.stage) in (bound ≤ s) × (s ≡ answered → ⊥) × (s ≡ replied → ⊥))
        stage_at true f e = let h = stages_are m c l bound running f in (omega arith, λ z. omega arith, λ z. omega arith)
        stage_at false f e = let h = nat_of (stage_is m c l taken e) in (omega arith, λ z. omega arith, λ z. omega arith)

  -- a call whose test passed, among objects that are counted
  pub call_facts : Counts (read c objects) → call_holds m c l ≡ true → CallHolds m c l
  unfolding call_holds numbers_hold named_by_callee objects_in_use
  call_facts counted e =
      let rest = named ∷ between (pos 0) (pos 1) (of_call c l Layout.cleared) ∷ valued ∷ stood ∷ callerless_holds m c l ∷ [] in
      let (s, (by, (to, (j, _)))) = passed (
      in_stages c l invoked taken
      ∷ between (pos 0) (read c objects) (of_call c l Layout.caller)
      ∷ between (pos 1) (read c objects) (of_call c l Layout.callee)
      ∷ between (pos 0) (pos last_method) (of_call c l Layout.method)
      ∷ []) (both_left (numbers_hold m c l) (all rest) e) in
      let (n, (w, (v, (b, (r, _))))) = passed rest (both_right (numbers_hold m c l) (all rest) e) in
      let count = stages_are m c l invoked taken s in
      let flag = number 0 1 (of_call c l Layout.cleared) w in
      let caller = number 0 (objects_in_use c) (of_call c l Layout.caller) (subst (λ n. between (pos 0) n (of_call c l Layout.caller) ≡ true) counted by) in
      let callee = number 1 (objects_in_use c) (of_call c l Layout.callee) (subst (λ n. between (pos 1) n (of_call c l Layout.callee) ≡ true) counted to) in
      record {
        stage = count;
        caller = caller;
        callee = callee;
        method = number 0 last_method (of_call c l Layout.method) j;
        named = λ h. equals _ l (asked (in_stage c l running) _ n (in_stage_lem count flag running h));
        cleared = flag;
        value = λ h. equals _ 0 (otherwise (in_stages c l answered taken) _ v (λ t. let k = stages_are m c l answered taken t in omega arith));
        unbound = λ h. below h (in_stages c l bound taken) refl b;
        bound = λ h. above count flag callee.counts h (in_stages c l bound taken) refl b;
        callerless = λ h. callerless_facts count flag _ callee.counts r (counted_is _ 0 caller.counts h);
      }
    where
      named : Bool
      named = whenever (in_stage c l running) (is (of_object c (nat (of_call c l Layout.callee)) Layout.running_label) l)

      valued : Bool
      valued = in_stages c l answered taken || is (of_call c l Layout.value) 0

      stood : Bool
      stood = elim (in_stages c l bound taken) [ true ↦ bound_holds m c l | false ↦ unbound_holds m c l ]

      below : nat (of_call c l Layout.stage) < bound → (t : Bool) → in_stages c l bound taken ≡ t
          → (elim t [ true ↦ bound_holds m c l | false ↦ unbound_holds m c l ]) ≡ true → Unbound (of_call c l)
      below h true f e = let k = stages_are m c l bound taken f in absurd (omega arith)
      below h false f e = unbound_facts e

      above : Number invoked taken (of_call c l Layout.stage) → Number 0 1 (of_call c l Layout.cleared) → Counts (of_call c l Layout.callee)
          → bound ≤ nat (of_call c l Layout.stage) → (t : Bool) → in_stages c l bound taken ≡ t
          → (elim t [ true ↦ bound_holds m c l | false ↦ unbound_holds m c l ]) ≡ true
          → Bound m (of_object c (nat (of_call c l Layout.callee)) Layout.class) (of_call c l)
      above count flag callee h true f e = bound_facts count flag _ callee e
      above count flag callee h false f e = absurd (passed_failed (in_stages_lem count flag bound taken h count.most) f)
