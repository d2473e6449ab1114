-- The `new`s of a text, by the rows of the table: what a row tells, what a class is to be given, and the first count that differs. Assumes nothing.
use Rattle.std.specs.Prelude.{None, Some, Option, slice_get}
use Prim.Native.Nat.{ℕ, zero, suc, ◌+◌, ◌-◌, ◌/◌, ◌%◌, ◌≤◌, ◌<◌, ◌*◌}
use mathlib.Core.Bool.{true, false}
use mathlib.Core.List.{List, [], ◌∷◌, ◌++◌, append_assoc, append-nil}
use mathlib.Core.Path.{◌≡◌, refl, sym, ap, ◌∙◌}
use native.Mathlib.Nat.{zero-add, add-zero}
use native.Mathlib.Numerals.{add-one}
use native.Mathlib.Omega.{arith}
use lib.Dec.{eqb}
use lib.ListN.{length}
use Rattle.whole.specs.Refusals.{accepted, wrong_code}
use Rattle.text.specs.declared.Verdict.{Verdict}
use Rattle.code.specs.Statements.{new_of, Code}
use Rattle.model.specs.Vocabulary.Creations.{creation_told, creations_from, new_fits, GivenTold, new_number, creations_in}
use Rattle.model.specs.Judge.{given_to, counts_judged, model, refusal, verdict_of}
use Rattle.model.specs.Model.{Class, Model}
use Rattle.model.specs.ModelText.{Creation, creations_of}
use Rattle.model.specs.Vocabulary.Table.{Table, row_at, class_row, code_row}
use Rattle.model.specs.declared.Row.{Row}
use Rattle.model.proofs.TableRows.{item_at, item_past, each_at}

module _ (m : Model) (k : ℕ) where
  pub given_of : (c : Class) → slice_get m k ≡ Some c → given_to m k ≡ c.given
  unfolding given_to
  given_of c e = rw (given_to, e)

  -- a class that is not there is given none
  pub given_none : length m ≤ k → given_to m k ≡ 0
  unfolding given_to
  given_none h = rw (given_to, item_past m k h)

-- the second number of its row is what a class is to be given
pub given_told : (t : Table) (m : Model) (k : ℕ) → GivenTold t m → k < length m → given_to m k ≡ (row_at t (class_row k)).1
given_told t m k told h =
    let c = item_at m k h in
    given_of m k c.0 c.1 ∙ sym (each_at (λ i (x : Class). (row_at t (class_row i)).1 ≡ x.given) 0 m k c.0 told c.1 (zero-add k))

-- the number of a line that is no `new`, and of one that is
module _ (m : Model) (n : ℕ) where
  pub fits_none : n ≡ 0 → new_fits m n ≡ true
  unfolding new_fits
  fits_none e = ap (new_fits m) e

  pub fits_some : 0 < n → new_fits m n ≡ eqb ((n - 1) / 16) (given_to m ((n - 1) % 16))
  unfolding new_fits
  fits_some h = ap (new_fits m) e ∙ refl
    where
      e : n ≡ suc (n - 1)
      e = omega arith

-- what a number tells, before other creations
module _ (m : Model) (at : ℕ) (cs : List Creation) where
  -- one that fits leaves the verdict to those that come after it
  told_onward : (n : ℕ) → new_fits m n ≡ true → counts_judged m (creation_told at n ++ cs) ≡ counts_judged m cs
  unfolding creation_told new_fits counts_judged
  told_onward zero e = refl
  told_onward (suc n) e = rw (counts_judged, e)

  -- the first that does not is refused at its line
  told_here : (n : ℕ) → new_fits m n ≡ false → counts_judged m (creation_told at n ++ cs) ≡ refusal (record { number = wrong_code; line = at })
  unfolding creation_told new_fits counts_judged
  told_here zero e = absurd (let z : ◌≡◌ {A = ℕ} 0 1 = cc in omega arith)
  told_here (suc n) e = rw (counts_judged, e)

-- the code row at a place, with those after it
module _ (t : Table) (m : Model) (i total : ℕ) (within : i < total) where
  row_first : creations_from t i (total - i) ≡ (let x = row_at t (code_row i) in creation_told x.2 x.3) ++ creations_from t (i + 1) (total - (i + 1))
  unfolding creations_from
  row_first =
      let e : total - i ≡ suc (total - (i + 1)) = omega arith in
      rw (e, add-one) refl

  module _ (x : Row) (own : x ≡ row_at t (code_row i)) where
    pub counts_onward : new_fits m x.3 ≡ true → counts_judged m (creations_from t i (total - i)) ≡ counts_judged m (creations_from t (i + 1) (total - (i + 1)))
    counts_onward e = ap (counts_judged m) row_first ∙ told_onward m _ _ _ (rw own at e)

    pub counts_here : new_fits m x.3 ≡ false → counts_judged m (creations_from t i (total - i)) ≡ refusal (record { number = wrong_code; line = x.2 })
    counts_here e = ap (counts_judged m) row_first ∙ rw own (told_here m _ _ _ (rw own at e))

-- past the last row the model is accepted
pub counts_end : (t : Table) (m : Model) (i total : ℕ) → total ≤ i → counts_judged m (creations_from t i (total - i)) ≡ model m
unfolding creations_from counts_judged
counts_end t m i total h =
    let e : total - i ≡ 0 = omega arith in
    rw e refl

-- the verdicts of both
pub verdict_refusal : (v : Verdict) → verdict_of (refusal v) ≡ v
unfolding verdict_of
verdict_refusal v = refl

pub verdict_model : (m : Model) → verdict_of (model m) ≡ record { number = accepted; line = 0 }
unfolding verdict_of
verdict_model m = refl

-- the number of a `new` tells its class, which is one of 16, and how many arguments it has
number_told : (at k n : ℕ) → k < 16 → creation_told at (1 + k + 16 * n) ≡ record { at = at; class = k; count = n } ∷ []
unfolding creation_told
number_told at k n h =
    let e : 1 + k + 16 * n ≡ suc (k + 16 * n) = omega arith in
    let f : (k + 16 * n) % 16 ≡ k = omega arith in
    let g : (k + 16 * n) / 16 ≡ n = omega arith in
    ap (creation_told at) e ∙ rw (f, g) refl

-- so the number of a line tells its creation
pub creation_told_lem : (at : ℕ) (c : Code) → ((n : ℕ × ℕ) → new_of c ≡ Some n → n.0 < 16) → creation_told at (new_number (new_of c)) ≡ creations_of at c
unfolding creations_of
creation_told_lem at c = go (new_of c)
  where
    go : (o : Option (ℕ × ℕ)) → ((n : ℕ × ℕ) → o ≡ Some n → n.0 < 16)
        → creation_told at (new_number o) ≡ elim o [ None ↦ [] | Some n ↦ record { at = at; class = n.0; count = n.1 } ∷ [] ]
    go None h = unfold creation_told new_number in refl
    go (Some n) h = unfold new_number in number_told at n.0 n.1 (h n refl)

-- one row more
from_more : (t : Table) (i n : ℕ) → creations_from t i (suc n) ≡ creations_from t i n ++ (let r = row_at t (code_row (i + n)) in creation_told r.2 r.3)
unfolding creations_from
from_more t i zero = rw (append-nil, add-zero) refl
from_more t i (suc n) =
    let e : i + suc n ≡ suc i + n = omega arith in
    rw (e, append_assoc, ← from_more t (suc i) n) refl

pub in_more : (t : Table) (n : ℕ) → creations_in t (n + 1) ≡ creations_in t n ++ (let r = row_at t (code_row n) in creation_told r.2 r.3)
in_more t n = rw (add-one, from_more, zero-add) refl
