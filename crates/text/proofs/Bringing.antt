-- What lines were read as has a property, or the refusal is small: how it goes past readings that follow one another. Assumes nothing.
use Rattle.std.specs.Prelude.{Option, None, Some}
use Prim.Native.Nat.{ℕ, zero, suc, ◌+◌, ◌≤◌}
use mathlib.Core.Bool.{Bool, true, false}
use mathlib.Core.List.{List, [], ◌∷◌}
use mathlib.Core.Path.{◌≡◌, refl, sym, ap, subst}
use native.Mathlib.Omega.{arith}
use lib.ListN.{length, drop}
use Rattle.whole.specs.Lists.{Every, EachFrom, total_of}
use Rattle.whole.specs.Refusals.{broken_line, wrong_key, wrong_number}
use Rattle.terms.specs.Bytes.{Text}
use Rattle.terms.specs.Parsed.{Parsed, got, bad, word}
use Rattle.text.specs.InOrder.{LinesRead, failed, after, Reader, done, ◌>>=◌, Taken, wrong, right, passed, key_line, number_line, each}
use Rattle.text.specs.Lines.{Line, sound, content}
use Rattle.text.specs.Numbers.{number_in}
use Rattle.text.proofs.NumbersIn.{number_is}

-- the number of a refusal
abbrev pub Refusing : ℕ → Type 0
Refusing n = (1 ≤ n) × (n ≤ 6)

-- of what was read, with what is carried on from it
abbrev pub Along : {A S : Type 0} → (A → S → Type 0) → A × S → Type 0
Along P r = P r.0 r.1

-- things read one after another, each by its index, each told with what was carried before it and after it
abbrev pub InTurn : {A S : Type 0} → (ℕ → S → A → S → Type 0) → ℕ → S → List A → S → Type 0
InTurn One i s [] t = s ≡ t
InTurn {S = S} One i s (x ∷ xs) t = (u : S) × One i s x u × InTurn One (i + 1) u xs t

-- a text of so many lines, less one
module _ (last : ℕ) where
  -- what was read has a property, and no more lines were passed than there are; or the number and the line of the refusal are small
  unfoldable pub Brought : {A : Type 0} → (A → Type 0) → LinesRead A → Type 0
  Brought P (failed v) = Refusing v.number × (v.line ≤ last)
  Brought P (after a at ls) = (at + length ls ≤ last) × P a

  -- whatever the lines
  abbrev pub Brings : {A : Type 0} → (A → Type 0) → Reader A → Type 0
  Brings P r = (at : ℕ) (ls : List Line) → at + length ls ≤ last → Brought P (r at ls)

  -- what a line's value is taken for
  unfoldable pub TakenAs : {A : Type 0} → (A → Type 0) → Taken A → Type 0
  TakenAs P (wrong n) = Refusing n
  TakenAs P (right a) = P a

  -- nothing more to read
  pub brings_done : {A : Type 0} (P : A → Type 0) (a : A) → P a → Brings P (done a)
  unfolding done Brought
  brings_done P a p at ls h = (h, p)

  -- past one reading after another: what the first one tells is all that the second needs
  pub brings_then : {A B : Type 0} (Q : A → Type 0) (P : B → Type 0) (r : Reader A) (k : A → Reader B)
      → Brings Q r → ((a : A) → Q a → Brings P (k a)) → Brings P (r >>= k)
  unfolding ◌>>=◌ Brought
  brings_then {A} {B} Q P r k g h at ls n = go (r at ls) (g at ls n)
    where
      go : (x : LinesRead A) → Brought Q x → Brought P (elim x [ failed v ↦ failed v | after a next rest ↦ k a next rest ])
      go (failed v) t = t
      go (after a next rest) t = h a t.1 next rest t.0

  -- one property by another
  pub brings_so : {A : Type 0} (Q P : A → Type 0) (r : Reader A) → Brings Q r → ((a : A) → Q a → P a) → Brings P r
  unfolding Brought
  brings_so {A} Q P r g h at ls n = go (r at ls) (g at ls n)
    where
      go : (x : LinesRead A) → Brought Q x → Brought P x
      go (failed v) t = t
      go (after a next rest) t = (t.0, h a t.1)

  -- a line that is passed
  brought_passed : {A : Type 0} (P : A → Type 0) (x : Taken A) (at : ℕ) (l : Line) (ls : List Line) → at + length (l ∷ ls) ≤ last → TakenAs P x → Brought P (passed x at ls)
  unfolding passed Brought TakenAs
  brought_passed P (wrong n) at l ls h t = (t, omega arith)
  brought_passed P (right a) at l ls h t = (omega arith, t)

  -- a line with a key, by what its value is taken for
  pub brings_key : {A : Type 0} (P : A → Type 0) (key : Text) (value : ℕ → Text → Taken A) → ((at : ℕ) (v : Text) → at ≤ last → TakenAs P (value at v)) → Brings P (key_line key value)
  unfolding key_line Brought TakenAs
  brings_key P key value h at [] n = ((omega arith, omega arith), omega arith)
  brings_key {A} P key value h at (l ∷ ls) n = go (sound l) (word key (content l) 0)
    where
      go : (b : Bool) (w : Parsed (Unit {0})) → Brought {A = A} P (elim b [
        | false ↦ passed (wrong broken_line) at ls
        | true ↦ elim w [ bad p ↦ passed (wrong wrong_key) at ls | got p u ↦ passed (value at (drop p (content l))) at ls ]
      ])
      go false w = brought_passed P (wrong broken_line) at l ls n (omega arith, omega arith)
      go true (bad p) = brought_passed P (wrong wrong_key) at l ls n (omega arith, omega arith)
      go true (got p u) = brought_passed P _ at l ls n (h at (drop p (content l)) (omega arith))

  -- a line with a number: it is in its range
  pub brings_number : (key : Text) (lowest highest : ℕ) → Brings (λ n. (lowest ≤ n) × (n ≤ highest)) (number_line key lowest highest)
  unfolding number_line TakenAs
  brings_number key lowest highest = brings_key _ key _ (λ at v _. go v (number_in lowest highest v) refl)
    where
      go : (v : Text) (o : Option ℕ) → number_in lowest highest v ≡ o
          → TakenAs (λ n. (lowest ≤ n) × (n ≤ highest)) (elim o [ None ↦ wrong wrong_number | Some n ↦ right n ])
      go v None e = (omega arith, omega arith)
      go v (Some n) e = let h = number_is lowest highest v n e in (h.1, h.2)

  -- so many of a thing are read: so many items, one after another
  pub brings_each : {A S : Type 0} (One : ℕ → S → A → S → Type 0) (one : ℕ → S → Reader (A × S))
      → ((i : ℕ) (s : S) → Brings (Along (One i s)) (one i s))
      → (n i : ℕ) (s : S) → Brings (Along (λ xs t. (length xs ≡ n) × InTurn One i s xs t)) (each n i s one)
  unfolding each
  brings_each One one h zero i s = brings_done _ ([], s) (refl, refl)
  brings_each One one h (suc n) i s =
      brings_then _ _ (one i s) _ (h i s) (λ a o. brings_then _ _ _ _ (brings_each One one h n (i + 1) a.1) (λ r k.
      brings_done _ (a.0 ∷ r.0, r.1) (ap suc k.0, (a.1, o, k.1))))

-- what follows of things read one after another
module _ {A S : Type 0} (One : ℕ → S → A → S → Type 0) where
  -- of each item, with its index
  pub turn_each : (P : ℕ → A → Type 0) → ((i : ℕ) (s : S) (a : A) (t : S) → One i s a t → P i a)
      → (i : ℕ) (s : S) (xs : List A) (t : S) → InTurn One i s xs t → EachFrom P i xs
  unfolding EachFrom
  turn_each P h i s [] t r = tt
  turn_each P h i s (x ∷ xs) t r = (h i s x r.0 r.1, turn_each P h (i + 1) r.0 xs t r.2)

  -- of what is carried, where each item keeps it
  pub turn_keeps : (K : S → Type 0) → ((i : ℕ) (s : S) (a : A) (t : S) → One i s a t → K s → K t)
      → (i : ℕ) (s : S) (xs : List A) (t : S) → InTurn One i s xs t → K s → K t
  turn_keeps K h i s [] t r k = subst K r k
  turn_keeps K h i s (x ∷ xs) t r k = turn_keeps K h (i + 1) r.0 xs t r.2 (h i s x r.0 r.1 k)

  -- of what is carried at the end, where each item tells it of what was carried before, and of itself
  pub turn_back : (K : S → Type 0) (P : A → Type 0) → ((i : ℕ) (s : S) (a : A) (t : S) → One i s a t → K t → K s × P a)
      → (i : ℕ) (s : S) (xs : List A) (t : S) → InTurn One i s xs t → K t → K s × Every P xs
  unfolding Every
  turn_back K P h i s [] t r k = (subst K (sym r) k, tt)
  turn_back K P h i s (x ∷ xs) t r k =
      let later = turn_back K P h (i + 1) r.0 xs t r.2 k in
      let here = h i s x r.0 r.1 later.0 in
      (here.0, (here.1, later.1))

  -- of a number that is carried, to which each item adds its own
  pub turn_total : (f : S → ℕ) (g : A → ℕ) → ((i : ℕ) (s : S) (a : A) (t : S) → One i s a t → f t ≡ f s + g a)
      → (i : ℕ) (s : S) (xs : List A) (t : S) → InTurn One i s xs t → f t ≡ f s + total_of g xs
  unfolding total_of
  turn_total f g h i s [] t r = let e : f s ≡ f t = ap f r in omega arith
  turn_total f g h i s (x ∷ xs) t r =
      let e : f r.0 ≡ f s + g x = h i s x r.0 r.1 in
      let l : f t ≡ f r.0 + total_of g xs = turn_total f g h (i + 1) r.0 xs t r.2 in
      omega arith
