-- How a call's row may change so that it still holds what it must: its stage, its line, a local, cleared and value. Each law is over the fields
-- that are put, whichever rule puts them. Assumes nothing.
use Prim.Native.Nat.{ℕ, ◌≤◌, ◌<◌}
use mathlib.Core.Bool.{true, false}
use mathlib.Core.Path.{◌≡◌, refl, sym, ap, ◌∙◌}
use mathlib.Core.Logic.{◌≢◌}
use native.Mathlib.Omega.{arith}
use borrow.Author.Tests.{le-ltb}
use lib.Dec.{ltb}
use lib.IntN.{ℤ, pos}
use Rattle.whole.specs.Whole.{nat}
use Rattle.layout.specs.Layout
use Rattle.layout.specs.Layout.{most_locals}
use Rattle.layout.specs.Stages.{invoked, queued, bound, running, answered, replied, taken}
use Rattle.code.specs.declared.Shape.TheVariants as Shape
use Rattle.code.specs.Blocks.{shape_of, shape_number}
use Rattle.model.specs.Model.{Model}
use Rattle.whole.proofs.Tested.{Number, nat_of}
use Rattle.cells.proofs.Facts.{ZeroFrom, StandsAt, Unbound, Bound, Callerless, CallFacts}
use Rattle.layout.proofs.Writes.{Fields, put, put_other}

-- a field before the locals leaves them
pub locals_kept : (f : ℕ) (z : ℤ) (row : Fields) (from : ℕ) → f < Layout.local 0 → ZeroFrom most_locals from (λ i. row (Layout.local i))
    → ZeroFrom most_locals from (λ i. put f z row (Layout.local i))
locals_kept f z row from h zero i a b = put_other f z row (Layout.local i) (λ e. omega arith) ∙ zero i a b

-- cells that are certain numbers
pub number_is : (low high n : ℕ) → low ≤ n → n ≤ high → Number low high (pos n)
unfolding nat
number_is low high n a b = record { counts = refl; least = a; most = b }

-- caller 0, in another stage
callerless_at : {m : Model} {k s j : ℤ} (t : ℕ) → bound ≤ t → t ≢ answered → t ≢ replied → Callerless m k s j → Callerless m k (pos t) j
unfolding nat
callerless_at t a b c h =
    record {
      bound = a;
      unanswered = b;
      unreplied = c;
      first = h.first;
      class = h.class;
      exists = h.exists;
      runs = h.runs;
    }

-- an `await` is no `return`
pub shapes_differ : Shape.Await ≡ Shape.Return → ⊥
unfolding shape_number
shapes_differ e = let z = ap shape_number e in omega arith

-- a row with the locals of another
abbrev pub with_locals : Fields → Fields → Fields
with_locals row v g = elim (ltb g (Layout.local 0)) [ true ↦ row g | false ↦ v g ]

pub with_local : (row v : Fields) (i : ℕ) → with_locals row v (Layout.local i) ≡ v (Layout.local i)
with_local row v i = rw (le-ltb (Layout.local i) (Layout.local 0) (omega arith), with_locals)

-- how a row may change
module _ (m : Model) (n : ℕ) (k label : ℤ) (l : ℕ) (row : Fields) (h : CallFacts m n k label l row) where
  -- a call with another stage, whose callee may name it anew
  pub stage_put : (t : ℕ) (label' : ℤ) → invoked ≤ t → t ≤ taken → (t ≡ running → label' ≡ pos l) → (t < answered → row Layout.value ≡ pos 0)
      → (t < bound → Unbound row) → (bound ≤ t → Bound m k (put Layout.stage (pos t) row))
      → (nat (row Layout.caller) ≡ 0 → Callerless m k (pos t) (row Layout.method))
      → CallFacts m n k label' l (put Layout.stage (pos t) row)
  unfolding nat
  stage_put t label' low high named value unbound stood callerless =
      record {
        stage = number_is invoked taken t low high;
        caller = h.caller;
        callee = h.callee;
        method = h.method;
        named = named;
        cleared = h.cleared;
        value = value;
        unbound = λ b.
            let u = unbound b in
            record { args = u.args; locals = locals_kept Layout.stage (pos t) row _ (omega arith) u.locals; line = u.line; cleared = u.cleared };
        bound = stood;
        callerless = callerless;
      }

  -- where it stands bound, with another stage
  bound_put : (t : ℕ) (b : Bound m k row) → (nat (row Layout.cleared) ≡ 1 → t ≤ running)
      → (t ≡ bound → nat (row Layout.cleared) ≡ 0 → row Layout.line ≡ pos 0)
      → (answered ≤ t → shape_of b.stands.statement ≡ Shape.Return) → Bound m k (put Layout.stage (pos t) row)
  unfolding nat
  bound_put t b cleared first returned =
      record {
        stands = b.stands;
        locals = locals_kept Layout.stage (pos t) row _ (omega arith) b.locals;
        cleared = λ w. (cleared w, (b.cleared w).1);
        first = first;
        returned = returned;
      }

  -- "arrive L (2): stage 1 to 2."
  pub arrived : nat (row Layout.stage) ≡ invoked → CallFacts m n k label l (put Layout.stage (pos queued) row)
  arrived s =
      stage_put queued label (omega arith) (omega arith) (λ e. absurd (omega arith)) (λ e. h.value (omega arith)) (λ e. h.unbound (omega arith))
      (λ e. absurd (omega arith)) (λ e. absurd (let r = (h.callerless e).bound in omega arith))

  -- "deliver L (5): 5 to 6.", and a reply taken: 6 to 7
  pub went_on : (t : ℕ) → answered ≤ nat (row Layout.stage) → answered ≤ t → t ≤ taken → (nat (row Layout.caller) ≡ 0 → ⊥)
      → CallFacts m n k label l (put Layout.stage (pos t) row)
  went_on t s low high by =
      let b = h.bound (omega arith) in
      stage_put t label (omega arith) high (λ e. absurd (omega arith)) (λ e. absurd (omega arith)) (λ e. absurd (omega arith))
      (λ e. bound_put t b (λ w. absurd (let r = (b.cleared w).0 in omega arith)) (λ e. absurd (omega arith)) (λ r. b.returned s))
      (λ e. absurd (by e))

  -- "start L (4): 3 to 4 in an idle callee."
  pub started : nat (row Layout.stage) ≡ bound → CallFacts m n k (pos l) l (put Layout.stage (pos running) row)
  started s =
      let b = h.bound (omega arith) in
      stage_put running (pos l) (omega arith) (omega arith) (λ e. refl) (λ e. h.value (omega arith)) (λ e. absurd (omega arith))
      (λ e. bound_put running b (λ w. omega arith) (λ e. absurd (omega arith)) (λ r. absurd (omega arith)))
      (λ e. callerless_at running (omega arith) (λ z. omega arith) (λ z. omega arith) (h.callerless e))

  -- "bind L (3): 2 to 3, if the callee's class has the method with as many params as args."
  pub bound_now : nat (row Layout.stage) ≡ queued → (a : StandsAt m k (row Layout.method) (row Layout.args) (row Layout.line))
      → a.body.params ≤ a.body.locals → CallFacts m n k label l (put Layout.stage (pos bound) row)
  bound_now s a few =
      let u = h.unbound (omega arith) in
      let params = nat_of a.params in
      let clear = nat_of u.cleared in
      let b : Bound m k row =
      record {
        stands = a;
        locals = λ i low high. u.locals i (omega arith) high;
        cleared = λ w. absurd (omega arith);
        first = λ e f. u.line;
        returned = λ e. absurd (omega arith);
      } in
      stage_put bound label (omega arith) (omega arith) (λ e. absurd (omega arith)) (λ e. h.value (omega arith)) (λ e. absurd (omega arith))
      (λ e. bound_put bound b (λ w. omega arith) (λ e f. u.line) (λ r. absurd (omega arith)))
      (λ e. absurd (let r = (h.callerless e).bound in omega arith))

  -- a running call
  module _ (s : nat (row Layout.stage) ≡ running) where
    -- "Otherwise stage 3, cleared 1, object idle, line kept."
    pub suspended : (b : Bound m k row) → shape_of b.stands.statement ≡ Shape.Await
        → CallFacts m n k (pos 0) l (put Layout.cleared (pos 1) (put Layout.stage (pos bound) row))
    unfolding nat
    suspended b await =
        record {
          stage = number_is invoked taken bound (omega arith) (omega arith);
          caller = h.caller;
          callee = h.callee;
          method = h.method;
          named = λ e. absurd (omega arith);
          cleared = number_is 0 1 1 (omega arith) (omega arith);
          value = λ e. h.value (omega arith);
          unbound = λ e. absurd (omega arith);
          bound = λ e.
              record {
                stands = b.stands;
                locals = locals_kept Layout.cleared (pos 1) (put Layout.stage (pos bound) row) _ (omega arith)
                    (locals_kept Layout.stage (pos bound) row _ (omega arith) b.locals);
                cleared = λ w. (omega arith, await);
                first = λ e f. absurd (omega arith);
                returned = λ e. absurd (omega arith);
              };
          callerless = λ e. callerless_at bound (omega arith) (λ z. omega arith) (λ z. omega arith) (h.callerless e);
        }

    -- "`return` stores the value, frees the object, goes to stage 5, or to 7 where caller is 0."
    pub returned : (t : ℕ) (z : ℤ) → answered ≤ t → t ≤ taken → (nat (row Layout.caller) ≡ 0 → t ≡ taken) → (b : Bound m k row)
        → shape_of b.stands.statement ≡ Shape.Return → CallFacts m n k (pos 0) l (put Layout.stage (pos t) (put Layout.value z row))
    unfolding nat
    returned t z low high by b return =
        record {
          stage = number_is invoked taken t (omega arith) high;
          caller = h.caller;
          callee = h.callee;
          method = h.method;
          named = λ e. absurd (omega arith);
          cleared = h.cleared;
          value = λ e. absurd (omega arith);
          unbound = λ e. absurd (omega arith);
          bound = λ e.
              record {
                stands = b.stands;
                locals = locals_kept Layout.stage (pos t) (put Layout.value z row) _ (omega arith)
                    (locals_kept Layout.value z row _ (omega arith) b.locals);
                cleared = λ w. absurd (shapes_differ (sym (b.cleared w).1 ∙ return));
                first = λ e f. absurd (omega arith);
                returned = λ e. return;
              };
          callerless = λ e. let t-is = by e in callerless_at t (omega arith) (λ z. omega arith) (λ z. omega arith) (h.callerless e);
        }

    -- on to a line of its method, with cleared 0 and other locals: "An accepted line goes on to the next one unless said otherwise"
    pub advanced : (i : ℕ) (v : Fields) (a : StandsAt m k (row Layout.method) (row Layout.args) (pos i))
        → ZeroFrom most_locals a.body.locals (λ i. v (Layout.local i))
        → CallFacts m n k label l (put Layout.line (pos i) (put Layout.cleared (pos 0) (with_locals row v)))
    unfolding nat
    advanced i v a zero =
        record {
          stage = h.stage;
          caller = h.caller;
          callee = h.callee;
          method = h.method;
          named = h.named;
          cleared = number_is 0 1 0 (omega arith) (omega arith);
          value = h.value;
          unbound = λ e. absurd (omega arith);
          bound = λ e.
              record {
                stands = a;
                locals = locals_kept Layout.line (pos i) (put Layout.cleared (pos 0) (with_locals row v)) _ (omega arith)
                    (locals_kept Layout.cleared (pos 0) (with_locals row v) _ (omega arith)
                    (λ j low high. with_local row v j ∙ zero j low high));
                cleared = λ w. absurd (omega arith);
                first = λ e f. absurd (omega arith);
                returned = λ e. absurd (omega arith);
              };
          callerless = h.callerless;
        }
