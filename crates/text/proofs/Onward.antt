-- Readings that follow one another in a chain, by what the code gives of each. Assumes nothing.
use Rattle.std.specs.Prelude.{Result, Ok, Err}
use Prim.Native.Nat.{ℕ}
use mathlib.Core.List.{List}
use mathlib.Core.Path.{◌≡◌, sym, ap, subst, ◌∙◌}
use lib.ListN.{drop}
use Rattle.whole.specs.Vocabulary.Refusing.{number_of}
use Rattle.terms.specs.Bytes.{Text}
use Rattle.text.specs.declared.At.{At}
use Rattle.text.specs.declared.Failed.{Failed}
use Rattle.text.specs.declared.Verdict.{Verdict}
use Rattle.text.specs.InOrder.{LinesRead, failed, after, Reader, done, ◌>>=◌}
use Rattle.text.specs.Lines.{Line, lines}
use Rattle.text.specs.Vocabulary.Readings.{Placed, read_at, fault, Tells, InRange}

-- one reading after another: the first is refused, or the second goes on from it
module _ {A B : Type 0} (r : Reader A) (k : A → Reader B) (at : ℕ) (ls : List Line) where
  pub then_failed : (v : Verdict) → r at ls ≡ failed v → (r >>= k) at ls ≡ failed v
  unfolding ◌>>=◌
  then_failed v e = ap (λ (x : LinesRead A). (let y : LinesRead B = elim x [ failed w ↦ failed w | after a n l ↦ k a n l ] in y)) e

  pub then_after : (a : A) (next : ℕ) (rest : List Line) → r at ls ≡ after a next rest → (r >>= k) at ls ≡ k a next rest
  unfolding ◌>>=◌
  then_after a next rest e = ap (λ (x : LinesRead A). (let y : LinesRead B = elim x [ failed w ↦ failed w | after a n l ↦ k a n l ] in y)) e

-- what the code gives, by its case
module _ {A : Type 0} (s : Text) (P : A → ℕ → Type 0) (r : Result (ℕ × At) Failed) (x : LinesRead A) (t : Tells s P r x) where
  pub told_failed : (f : Failed) → r ≡ Err f → x ≡ failed (fault s (number_of f.refusal) f.at)
  unfolding Tells
  told_failed f e = subst (λ q. Tells s P q x) e t

  pub told_got : (n : ℕ) (p : At) → r ≡ Ok (n, p) → (a : A) × (x ≡ after a p.line (lines (drop p.place s))) × Placed s p × P a n
  unfolding Tells
  told_got n p e = subst (λ q. Tells s P q x) e t

-- where a chain of readings has come: what is left to read of the whole, and from where
pub record Comes {B : Type 0} (s : Text) (y : LinesRead B) (rd : Reader B) (p : At) : Type 0 where
  pub left : y ≡ read_at rd s p
  pub placed : Placed s p

-- the next number of a chain, also where the code works its range out
module _ {B : Type 0} {s : Text} {y : LinesRead B} {rd rd' : Reader ℕ} {p : At} (k : ℕ → Reader B) (w : Comes s y (rd' >>= k) p) (same : rd ≡ rd') where
  here : y ≡ read_at (rd >>= k) s p
  here = w.left ∙ ap (λ x. read_at (x >>= k) s p) (sym same)

  module _ (low high : ℕ) {r : Result (ℕ × At) Failed} (t : Tells s (InRange low high) r (read_at rd s p)) where
    -- it is refused
    pub number_stops : (Q : B → ℕ → Type 0) {g : Failed} → r ≡ Err g → Tells s Q r y
    unfolding Tells
    number_stops Q f = subst (λ q. Tells s Q q y) (sym f) (here ∙ then_failed rd k _ _ _ (told_failed s _ r _ t _ f))

    -- it is passed
    pub number_passed : {n : ℕ} {q : At} → r ≡ Ok (n, q) → Comes s y (k n) q
    number_passed {n} {q} f =
        let g = told_got s _ r _ t n q f in
        record { left = here ∙ then_after rd k _ _ _ _ _ g.1 ∙ ap (λ a. read_at (k a) s q) g.3.0; placed = g.2 }

-- the last reading of a chain, told with more
pub tells_so : {A : Type 0} {s : Text} {y : LinesRead A} {rd : Reader A} {p : At} → Comes s y rd p → (P Q : A → ℕ → Type 0) (r : Result (ℕ × At) Failed)
    → Tells s P r (read_at rd s p) → ((a : A) (n : ℕ) → P a n → Q a n) → Tells s Q r y
unfolding Tells
tells_so w P Q (Err f) t h = w.left ∙ t
tells_so w P Q (Ok r) t h = (t.0, w.left ∙ t.1, t.2, h t.0 r.0 t.3)

-- or from which something is made
module _ {A B : Type 0} {s : Text} {y : LinesRead B} {p : At} (rd : Reader A) (f : A → B) (w : Comes s y (rd >>= (λ a. done (f a))) p)
    (P : A → ℕ → Type 0) (Q : B → ℕ → Type 0) where
  pub tells_made : (r : Result (ℕ × At) Failed) → Tells s P r (read_at rd s p) → ((a : A) (n : ℕ) → P a n → Q (f a) n) → Tells s Q r y
  unfolding Tells done
  tells_made (Err g) t h = w.left ∙ then_failed rd _ _ _ _ t
  tells_made (Ok r) t h = (f t.0, w.left ∙ then_after rd _ _ _ _ _ _ t.1, t.2, h t.0 r.0 t.3)
