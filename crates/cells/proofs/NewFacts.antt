-- A new object and a new call hold what they must. Assumes nothing.
use Rattle.std.specs.Prelude.{Some, slice_get}
use Prim.Native.Nat.{ℕ, zero, suc, ◌≤◌, ◌<◌}
use mathlib.Core.Bool.{true}
use mathlib.Core.List.{List, [], ◌∷◌}
use mathlib.Core.Path.{◌≡◌, refl, sym, ap, ◌∙◌}
use native.Mathlib.Omega.{arith}
use borrow.Author.Tests.{eqb-true}
use lib.IntN.{ℤ, pos}
use lib.ListN.{length, get_or-eq_default}
use Rattle.whole.specs.Whole.{nat}
use Rattle.layout.specs.Stages.{invoked, running, taken}
use Rattle.code.specs.Reader.{last_method}
use Rattle.model.specs.Accepted.{AcceptedModel}
use Rattle.model.specs.Bounds.{most_params}
use Rattle.model.specs.Model.{Model, Class, runs}
use Rattle.model.proofs.AcceptedAt as Accepted
use Rattle.cells.proofs.Facts.{ClassAt, ObjectFacts, StandsAt, CallFacts}
use Rattle.cells.proofs.Moves.{number_is}
use Rattle.layout.proofs.Rows.{valued}
use Rattle.layout.proofs.NewRows.{object_values, call_values, new_attribute, new_local}

-- a class of the model, for its index
pub class_of : (m : Model) (k : ℕ) (class : Class) → slice_get m k ≡ Some class → ClassAt m (pos k) class
unfolding nat
class_of m k class e = record { counts = refl; there = e }

-- "`new` makes the next object, arguments in its first attributes", with a running label that is 0 or a stage 4 call with that callee
pub new_object_facts : (m : Model) (r : ℕ) (s t : ℤ) (o k l : ℕ) (zs : List ℤ) (class : Class) → slice_get m k ≡ Some class → length zs ≤ class.attrs
    → l ≤ r → (1 ≤ l → (s ≡ pos running) × (t ≡ pos o)) → ObjectFacts m r s t o (valued (object_values k l zs))
unfolding nat
new_object_facts m r s t o k l zs class e few in_use_lem named =
    record {
      class = class;
      exists = class_of m k class e;
      attributes = λ i low high. new_attribute k l zs i high ∙ get_or-eq_default zs (pos 0) {n = i} (omega arith);
      label = number_is 0 r l (omega arith) in_use_lem;
      running = named;
    }

-- an item within a list
pub item_at : {A : Type 0} (xs : List A) (i : ℕ) → i < length xs → (x : A) × (slice_get xs i ≡ Some x)
item_at [] i h = absurd (omega arith)
item_at (x ∷ xs) zero h = (x, refl)
item_at (x ∷ xs) (suc i) h = item_at xs i (omega arith)

-- "caller 0, method 0, stage 4, running there", where the class has run 1
pub spawned_facts : (m : Model) → AcceptedModel m → (n k l o : ℕ) (class : Class) → slice_get m k ≡ Some class → runs class ≡ true → 1 ≤ o → o ≤ n
    → CallFacts m n (pos k) (pos l) l (valued (call_values running 0 o 0 []))
unfolding nat runs
spawned_facts m accepted n k l o class e run a b =
    let (body, has, params) = Accepted.running accepted k class e (eqb-true class.run 1 run) in
    let ok = Accepted.method_accepted accepted k class e 0 body has in
    let (st, at) = item_at body.code 0 ok.lines.0 in
    let stands : StandsAt m (pos k) (pos 0) (pos 0) (pos 0) =
    record {
      class = class;
      body = body;
      statement = st;
      exists = class_of m k class e;
      has = has;
      params = ap pos (sym params);
      counts = refl;
      inside = at;
    } in
    record {
      stage = number_is 1 taken running (omega arith) (omega arith);
      caller = number_is 0 n 0 (omega arith) (omega arith);
      callee = number_is 1 n o a b;
      method = number_is 0 last_method 0 (omega arith) (omega arith);
      named = λ s. refl;
      cleared = number_is 0 1 0 (omega arith) (omega arith);
      value = λ s. refl;
      unbound = λ s. absurd (omega arith);
      bound = λ s.
          record {
            stands = stands;
            locals = λ i low high. new_local running 0 o 0 [] i high;
            cleared = λ w. absurd (omega arith);
            first = λ s w. refl;
            returned = λ s. absurd (omega arith);
          };
      callerless = λ s.
          record {
            bound = omega arith;
            unanswered = λ z. omega arith;
            unreplied = λ z. omega arith;
            first = refl;
            class = class;
            exists = class_of m k class e;
            runs = run;
          };
    }

-- "caller this object, callee the value of E, method J, arguments in v0 on, stage 1"
pub invoked_facts : (m : Model) (n : ℕ) (k label : ℤ) (l by to j : ℕ) (zs : List ℤ) → 1 ≤ by → by ≤ n → 1 ≤ to → to ≤ n → j ≤ last_method
    → length zs ≤ most_params → CallFacts m n k label l (valued (call_values invoked by to j zs))
unfolding nat
invoked_facts m n k label l by to j zs a b a' b' few args =
    record {
      stage = number_is 1 taken invoked (omega arith) (omega arith);
      caller = number_is 0 n by (omega arith) b;
      callee = number_is 1 n to a' b';
      method = number_is 0 last_method j (omega arith) few;
      named = λ s. absurd (omega arith);
      cleared = number_is 0 1 0 (omega arith) (omega arith);
      value = λ s. refl;
      unbound = λ s.
          record {
            args = number_is 0 most_params (length zs) (omega arith) args;
            locals = λ i low high. new_local invoked by to j zs i high ∙ get_or-eq_default zs (pos 0) {n = i} low;
            line = refl;
            cleared = refl;
          };
      bound = λ s. absurd (omega arith);
      callerless = λ s. absurd (omega arith);
    }
