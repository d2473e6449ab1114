-- A row that is put stands in its own place alone, and what holds of each item of a list. Assumes nothing.
use Rattle.std.specs.Prelude.{Some, None, slice_get}
use Prim.Native.Nat.{ℕ, zero, suc, ◌+◌, ◌*◌, ◌≤◌, ◌<◌}
use mathlib.Core.List.{List, [], ◌∷◌, ◌++◌}
use mathlib.Core.Path.{◌≡◌, refl, sym, ap, subst, ◌∙◌}
use native.Mathlib.Omega.{arith}
use lib.ListN.{length, get_or, set, length-set, length-append}
use lib.Seq.{get_or-set_same, get_or-set_other}
use Rattle.whole.specs.Lists.{EachFrom}
use Rattle.model.specs.Vocabulary.Table.{Table, width, rows, table_size, row_at, put}
use Rattle.model.specs.declared.Row.{Row}

-- rows of the same numbers are the same
row_same : (x y : Row) → x.0 ≡ y.0 → x.1 ≡ y.1 → x.2 ≡ y.2 → x.3 ≡ y.3 → x ≡ y
row_same x y e₀ e₁ e₂ e₃ = rw (e₀, e₁, e₂, e₃)

module _ (t : Table) (r : ℕ) (x : Row) where
  -- a row that was put stands in its place
  pub row_own : length t ≡ table_size → r < rows → row_at (put t r x) r ≡ x
  unfolding row_at put
  row_own l h =
      let at = r * width in
      let t₀ = set t at x.0 in
      let t₁ = set t₀ (at + 1) x.1 in
      let t₂ = set t₁ (at + 2) x.2 in
      let l₀ : length t₀ ≡ table_size = simp length-set l in
      let l₁ : length t₁ ≡ table_size = simp length-set l in
      let l₂ : length t₂ ≡ table_size = simp length-set l in
      row_same _ x
      (get_or-set_other t₂ (at + 3) at x.3 0 (λ e. omega arith)
      ∙ get_or-set_other t₁ (at + 2) at x.2 0 (λ e. omega arith)
      ∙ get_or-set_other t₀ (at + 1) at x.1 0 (λ e. omega arith)
      ∙ get_or-set_same t at x.0 0 (omega arith))
      (get_or-set_other t₂ (at + 3) (at + 1) x.3 0 (λ e. omega arith)
      ∙ get_or-set_other t₁ (at + 2) (at + 1) x.2 0 (λ e. omega arith)
      ∙ get_or-set_same t₀ (at + 1) x.1 0 (omega arith))
      (get_or-set_other t₂ (at + 3) (at + 2) x.3 0 (λ e. omega arith) ∙ get_or-set_same t₁ (at + 2) x.2 0 (omega arith))
      (get_or-set_same t₂ (at + 3) x.3 0 (omega arith))

  -- a number outside the row
  number_other : (j : ℕ) → ((i : ℕ) → i < width → j ≡ r * width + i → ⊥) → get_or (put t r x) j 0 ≡ get_or t j 0
  unfolding put
  number_other j n =
      let at = r * width in
      let t₀ = set t at x.0 in
      let t₁ = set t₀ (at + 1) x.1 in
      let t₂ = set t₁ (at + 2) x.2 in
      get_or-set_other t₂ (at + 3) j x.3 0 (n 3 (omega arith))
      ∙ get_or-set_other t₁ (at + 2) j x.2 0 (n 2 (omega arith))
      ∙ get_or-set_other t₀ (at + 1) j x.1 0 (n 1 (omega arith))
      ∙ get_or-set_other t at j x.0 0 (λ e. n 0 (omega arith) (omega arith))

  -- every other row is as it was
  pub row_other : (q : ℕ) → (r ≡ q → ⊥) → row_at (put t r x) q ≡ row_at t q
  unfolding row_at
  row_other q n =
      row_same _ _
      (number_other (q * width) (λ i l e. n (omega arith)))
      (number_other (q * width + 1) (λ i l e. n (omega arith)))
      (number_other (q * width + 2) (λ i l e. n (omega arith)))
      (number_other (q * width + 3) (λ i l e. n (omega arith)))

-- a row that is put leaves a table as long as it was
pub put_size : (u : Table) (r : ℕ) (x : Row) (w : Table) → length w ≡ table_size → w ≡ put u r x → length u ≡ table_size
unfolding put
put_size u r x w l e = simp length-set at (sym (ap length e) ∙ l)

pub append_length : {A : Type 0} (xs : List A) (x : A) → length (xs ++ (x ∷ [])) ≡ length xs + 1
append_length xs x = length-append xs (x ∷ [])

-- what follows of each item, within the list
pub each_keep : {A : Type 0} (P Q : ℕ → A → Type 0) (n : ℕ) (xs : List A)
    → ((i : ℕ) (x : A) → n ≤ i → i < n + length xs → P i x → Q i x) → EachFrom P n xs → EachFrom Q n xs
unfolding EachFrom
each_keep P Q n [] k h = tt
each_keep P Q n (x ∷ xs) k h = (
  k n x (omega arith) (omega arith) h.0,
  each_keep P Q (n + 1) xs (λ i y l m. k i y (omega arith) (omega arith)) h.1,
)

-- and one item more
pub each_more : {A : Type 0} (P Q : ℕ → A → Type 0) (n : ℕ) (xs : List A) (x : A) → ((i : ℕ) (x : A) → n ≤ i → i < n + length xs → P i x → Q i x)
    → EachFrom P n xs → {i : ℕ} → n + length xs ≡ i → Q i x → EachFrom Q n (xs ++ (x ∷ []))
unfolding EachFrom
each_more P Q n [] x k h {i} e q = (subst (λ i. Q i x) (omega arith) q, tt)
each_more P Q n (y ∷ xs) x k h e q = (
  k n y (omega arith) (omega arith) h.0,
  each_more P Q (n + 1) xs x (λ i z l m. k i z (omega arith) (omega arith)) h.1 (omega arith) q,
)

-- within a list there is an item
pub item_at : {A : Type 0} (xs : List A) (i : ℕ) → i < length xs → (x : A) × (slice_get xs i ≡ Some x)
item_at [] i h = absurd (omega arith)
item_at (x ∷ xs) zero h = (x, refl)
item_at (x ∷ xs) (suc i) h = item_at xs i (omega arith)

-- past a list there is no item
pub item_past : {A : Type 0} (xs : List A) (i : ℕ) → length xs ≤ i → slice_get xs i ≡ None
item_past [] i h = refl
item_past (x ∷ xs) zero h = absurd (omega arith)
item_past (x ∷ xs) (suc i) h = item_past xs i (omega arith)

-- what holds of an item, by its place and its index
pub each_at : {A : Type 0} (P : ℕ → A → Type 0) (n : ℕ) (xs : List A) (i : ℕ) (x : A) → EachFrom P n xs → slice_get xs i ≡ Some x → {k : ℕ} → n + i ≡ k → P k x
unfolding EachFrom
each_at P n [] i x h e f = absurd (let z : ◌≡◌ {A = ℕ} 0 1 = cc in omega arith)
each_at P n (y ∷ xs) zero x h e {k} f = let g : y ≡ x = cc in let z : n ≡ k = omega arith in rw (← z, ← g) h.0
each_at P n (y ∷ xs) (suc i) x h e f = each_at P (n + 1) xs i x h.1 e (omega arith)
