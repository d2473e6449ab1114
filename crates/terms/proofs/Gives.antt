-- What was read, if anything was, has a property: how a property goes past readings that follow one another. Assumes nothing.
use Rattle.std.specs.Prelude.{Option, None, Some}
use Prim.Native.Nat.{ℕ, zero, suc, ◌+◌, ◌≤◌}
use mathlib.Core.Bool.{Bool, true, false}
use mathlib.Core.Path.{◌≡◌, refl, sym, subst}
use lib.Dec.{eqb}
use lib.ListN.{length}
use Rattle.terms.specs.Bytes.{Text, byte_at}
use Rattle.terms.specs.Leaves.{decimal}
use Rattle.terms.specs.Parsed.{Parsed, got, bad, next, mapped, ended, closed, repeated, joining, series}
use Rattle.terms.proofs.Digits.{decimal_below}
use Rattle.terms.proofs.Following.{repeated_none, repeated_some, joining_none, joining_some}

-- what was read, if anything was, has a property
abbrev pub Gives : {A : Type 0} → (A → Type 0) → Parsed A → Type 0
Gives P (got at a) = P a
Gives P (bad at) = Unit {0}

-- what was read has the property
pub gives_of : {A : Type 0} (P : A → Type 0) (q : Parsed A) (p : ℕ) (a : A) → q ≡ got p a → Gives P q → P a
gives_of P q p a e h = subst (Gives P) e h

-- past one reading after another: what the first one gives is all that the second needs
pub gives_then : {A B : Type 0} (Q : A → Type 0) (P : B → Type 0) (q : Parsed A) (k : ℕ → A → Parsed B)
    → Gives Q q → ((at : ℕ) (a : A) → Q a → Gives P (k at a)) → Gives P (next q k)
unfolding next
gives_then Q P (got at a) k g h = h at a g
gives_then Q P (bad at) k g h = tt

-- past a map
pub gives_mapped : {A B : Type 0} (Q : A → Type 0) (P : B → Type 0) (h : A → B) (q : Parsed A) → ((a : A) → Q a → P (h a)) → Gives Q q → Gives P (mapped h q)
unfolding mapped
gives_mapped Q P h (got at a) f g = f a g
gives_mapped Q P h (bad at) f g = tt

-- of what is read nothing need be known
pub gives_any : {A : Type 0} (q : Parsed A) → Gives (λ _. Unit {0}) q
gives_any (got at a) = tt
gives_any (bad at) = tt

-- past a reading of which nothing need be known
pub gives_next : {A B : Type 0} (P : B → Type 0) (q : Parsed A) (k : ℕ → A → Parsed B) → ((at : ℕ) (a : A) → Gives P (k at a)) → Gives P (next q k)
gives_next P q k h = gives_then (λ _. Unit {0}) P q k (gives_any q) (λ at a _. h at a)

-- past a map that brings the property about
pub gives_put : {A B : Type 0} (P : B → Type 0) (h : A → B) (q : Parsed A) → ((a : A) → P (h a)) → Gives P (mapped h q)
gives_put P h q f = gives_mapped (λ _. Unit {0}) P h q (λ a _. f a) (gives_any q)

-- past a closing byte
pub gives_closed : {A : Type 0} (P : A → Type 0) (b : ℕ) (s : Text) (q : Parsed A) → Gives P q → Gives P (closed b s q)
unfolding closed
gives_closed P b s q g = gives_then P P q _ g (λ at a h. gives_put P (λ _. a) _ (λ _. h))

-- past the end of the text
pub gives_ended : {A : Type 0} (P : A → Type 0) (s : Text) (q : Parsed A) → Gives P q → Gives P (ended s q)
unfolding ended
gives_ended P s (got at a) h = go (eqb at (length s))
  where
    go : (t : Bool) → Gives P (elim t [ true ↦ got at a | false ↦ bad at ])
    go true = h
    go false = tt
gives_ended P s (bad at) h = tt

-- a decimal is at most what it may be
pub gives_decimal : (most : ℕ) (s : Text) (at : ℕ) → Gives (λ n. n ≤ most) (decimal most s at)
gives_decimal most s at = go (decimal most s at) refl
  where
    go : (q : Parsed ℕ) → decimal most s at ≡ q → Gives (λ n. n ≤ most) q
    go (got p n) e = decimal_below most s at p n e
    go (bad p) e = tt

-- past items that are joined to what was read so far, with at most so many to come: K is what holds on the way, and P what it comes to
module _ {O A B : Type 0} (K : ℕ → B → Type 0) (I : A → Type 0) (P : B → Type 0) (operator : ℕ → Option O) (apply : O → B → A → B) (s : Text)
    (item : ℕ → Parsed A) (items : (at : ℕ) → Gives I (item at))
    (joins : (more : ℕ) (o : O) (b : B) (a : A) → K (suc more) b → I a → K more (apply o b a))
    (ends : (more : ℕ) (b : B) → K more b → P b) where
  -- whatever comes of them has the property
  pub gives_joining : (more at : ℕ) (b : B) → K more b → Gives P (repeated (joining operator apply s item) more at b)
  gives_joining zero at b k = unfold repeated in ends zero b k
  gives_joining (suc more) at b k = go (operator (byte_at s at)) refl (gives_joining more)
    where
      go : (o : Option O) → operator (byte_at s at) ≡ o
          → ((at : ℕ) (b : B) → K more b → Gives P (repeated (joining operator apply s item) more at b))
          → Gives P (repeated (joining operator apply s item) (suc more) at b)
      go None e later =
          subst (Gives P) (sym (repeated_none _ more at b (joining_none operator apply s item at b e))) (ends (suc more) b k)
      go (Some o) e later =
          subst (Gives P) (sym (repeated_some _ more at b _ (joining_some operator apply s item at b o e)))
          (gives_then (K more) P _ _ (gives_mapped I (K more) (apply o b) _ (λ a i. joins more o b a k i) (items (at + 1))) later)

-- past a series, where the operators keep the property
pub gives_series : {O A : Type 0} (P : A → Type 0) (operator : ℕ → Option O) (apply : O → A → A → A) (s : Text) (item : ℕ → Parsed A)
    → ((o : O) (a b : A) → P a → P b → P (apply o a b)) → ((at : ℕ) → Gives P (item at))
    → (more at : ℕ) → Gives P (series operator apply s item more at)
unfolding series
gives_series P operator apply s item keeps items more at =
    gives_then P P (item at) _ (items at)
    (gives_joining (λ _. P) P P operator apply s item items (λ _ o a b. keeps o a b) (λ _ a p. p) more)
