-- What is read always moves on; so enough repetitions are enough, and no reading goes back. Assumes nothing.
use Rattle.std.specs.Prelude.{Option, None, Some}
use Prim.Native.Nat.{ℕ, zero, suc, ◌+◌, ◌-◌, ◌≤◌, ◌<◌}
use mathlib.Core.Bool.{Bool, true, false}
use mathlib.Core.List.{[], ◌∷◌}
use mathlib.Core.Path.{◌≡◌, refl, sym, ap, subst, ◌∙◌}
use native.Mathlib.Numerals.{add-one}
use native.Mathlib.Omega.{arith}
use borrow.Author.Tests.{ltb-true, ltb-false, eq-eqb, ne_eqb}
use lib.Dec.{ltb, eqb}
use lib.ListN.{length, get_or, drop, get_or-eq_default, drop_of_length-le}
use lib.Seq.{drop-cons}
use Rattle.terms.specs.Bytes.{Text, byte_at}
use Rattle.terms.specs.Parsed.{Parsed, got, bad, next, mapped, word, closed, repeated, joining, series}
use Rattle.terms.proofs.Following.{next_of_got, next_of_bad, repeated_none, repeated_some, joining_none, joining_some}

-- past the end stands 0
pub past_end : (s : Text) (at : ℕ) → length s ≤ at → byte_at s at ≡ 0
past_end s at h = get_or-eq_default s 0 h

-- a byte that is not 0 stands within the text
pub within_text : (s : Text) (at b : ℕ) → byte_at s at ≡ b → 0 < b → at < length s
within_text s at b e h = go (ltb at (length s)) refl
  where
    go : (t : Bool) → ltb at (length s) ≡ t → at < length s
    go true f = ltb-true at (length s) f
    go false f = let z = past_end s at (ltb-false at (length s) f) in absurd (omega arith)

-- a refusal is no reading
pub no_got : {A : Type 0} (at p : ℕ) (a : A) → bad at ≡ got p a → ⊥
no_got at p a e = let z : ◌≡◌ {A = ℕ} 0 1 = cc in omega arith

pub same_place : {A : Type 0} (at p : ℕ) (a b : A) → got at a ≡ got p b → at ≡ p
same_place at p a b e = cc

pub same_read : {A : Type 0} (at p : ℕ) (a b : A) → got at a ≡ got p b → a ≡ b
same_read at p a b e = cc

-- a reading that was got of two in a row has a first that was got
pub next_got : {A B : Type 0} (q : Parsed A) (k : ℕ → A → Parsed B) (p : ℕ) (b : B) → next q k ≡ got p b
    → (at : ℕ) × (a : A) × (q ≡ got at a) × (k at a ≡ got p b)
unfolding next
next_got (got at a) k p b e = (at, a, refl, e)
next_got (bad at) k p b e = absurd (no_got _ _ _ e)

pub mapped_got_of : {A B : Type 0} (h : A → B) (q : Parsed A) (p : ℕ) (b : B) → mapped h q ≡ got p b → (a : A) × (q ≡ got p a)
unfolding mapped
mapped_got_of h (got at a) p b e = let f : at ≡ p = cc in (a, ap (λ n. got n a) f)
mapped_got_of h (bad at) p b e = absurd (no_got _ _ _ e)

-- what is read at a place ends after it
abbrev pub Moves : {A : Type 0} → (ℕ → Parsed A) → Type 0
Moves {A = A} item = (at p : ℕ) (a : A) → item at ≡ got p a → at < p

pub moves_mapped : {A B : Type 0} (h : A → B) (item : ℕ → Parsed A) → Moves item → Moves (λ at. mapped h (item at))
moves_mapped h item m at p b e = let q = mapped_got_of h (item at) p b e in m at p q.0 q.1

pub moves_bad : {A : Type 0} → Moves {A = A} bad
moves_bad at p a e = absurd (no_got _ _ _ e)

-- a word by its first byte
module _ (b : ℕ) (w s : Text) (at : ℕ) where
  pub word_yes : eqb (byte_at s at) b ≡ true → word (b ∷ w) s at ≡ word w s (at + 1)
  unfolding word
  word_yes e = rw (e, word)

  pub word_no : eqb (byte_at s at) b ≡ false → word (b ∷ w) s at ≡ bad at
  unfolding word
  word_no e = rw (e, word)

pub word_none : (s : Text) (at : ℕ) → word [] s at ≡ got at tt
unfolding word
word_none s at = refl

-- the rest of a word from one of its bytes on
module _ (w s : Text) (i p : ℕ) where
  pub rest_yes : i < length w → byte_at s p ≡ get_or w i 0 → word (drop i w) s p ≡ word (drop (i + 1) w) s (p + 1)
  rest_yes h e = rw (add-one i, drop-cons w i 0 h) (word_yes (get_or w i 0) (drop (suc i) w) s p (eq-eqb _ _ e))

  pub rest_no : i < length w → (byte_at s p ≡ get_or w i 0 → ⊥) → word (drop i w) s p ≡ bad p
  rest_no h e = rw (drop-cons w i 0 h) (word_no (get_or w i 0) (drop (suc i) w) s p (ne_eqb _ _ e))

  pub rest_none : length w ≤ i → word (drop i w) s p ≡ got p tt
  rest_none h = ap (λ r. word r s p) (drop_of_length-le w h) ∙ word_none s p

-- a word that was read is as long as it is
pub word_on : (w s : Text) (at p : ℕ) → word w s at ≡ got p tt → at + length w ≡ p
word_on [] s at p e = let f = same_place at p tt tt (sym (word_none s at) ∙ e) in omega arith
word_on (b ∷ w) s at p e = go (eqb (byte_at s at) b) refl (word_on w s (at + 1) p)
  where
    go : (t : Bool) → eqb (byte_at s at) b ≡ t → (word w s (at + 1) ≡ got p tt → at + 1 + length w ≡ p) → at + length (b ∷ w) ≡ p
    go true f rest = let r = rest (sym (word_yes b w s at f) ∙ e) in omega arith
    go false f rest = absurd (no_got at p tt (sym (word_no b w s at f) ∙ e))

-- a closing byte moves on
pub moves_closed : {A : Type 0} (b : ℕ) (s : Text) (item : ℕ → Parsed A) → Moves item → Moves (λ at. closed b s (item at))
unfolding closed
moves_closed b s item m at p a e =
    let q = next_got (item at) _ p a e in
    let w = mapped_got_of _ (word (b ∷ []) s q.0) p a q.3 in
    let l = word_on (b ∷ []) s q.0 p w.1 in
    let f = m at q.0 q.1 q.2 in
    omega arith

module _ {A : Type 0} (step : ℕ → A → Option (Parsed A)) (moves : (at p : ℕ) (a b : A) → step at a ≡ Some (got p b) → at < p) where
  -- a repetition does not go back
  pub repeated_on : (more at p : ℕ) (a b : A) → repeated step more at a ≡ got p b → at ≤ p
  repeated_on zero at p a b e = let f = same_place at p a b (unfold repeated in e) in omega arith
  repeated_on (suc more) at p a b e = go (step at a) refl (repeated_on more)
    where
      go : (o : Option (Parsed A)) → step at a ≡ o → ((at p : ℕ) (a b : A) → repeated step more at a ≡ got p b → at ≤ p) → at ≤ p
      go None n rest = let f = same_place at p a b (sym (repeated_none step more at a n) ∙ e) in omega arith
      go (Some q) n rest =
          let f = next_got q (repeated step more) p b (sym (repeated_some step more at a q n) ∙ e) in
          let l = rest f.0 p f.1 b f.3 in
          let g = moves at f.0 a f.1 (n ∙ ap Some f.2) in
          omega arith

  -- where the step stops at the end of a text, enough repetitions are enough
  module _ (end : ℕ) (stops : (at : ℕ) (a : A) → end ≤ at → step at a ≡ None) where
    stopped : (more at : ℕ) (a : A) → end ≤ at → repeated step more at a ≡ got at a
    stopped zero at a h = unfold repeated in refl
    stopped (suc more) at a h = repeated_none step more at a (stops at a h)

    pub enough : (n m at : ℕ) (a : A) → end ≤ n + at → end ≤ m + at → repeated step n at a ≡ repeated step m at a
    enough zero m at a h k = sym (stopped m at a (omega arith) ∙ sym (stopped zero at a (omega arith)))
    enough (suc n) zero at a h k = stopped (suc n) at a (omega arith) ∙ sym (stopped zero at a (omega arith))
    enough (suc n) (suc m) at a h k = go (step at a) refl (enough n m)
      where
        go : (o : Option (Parsed A)) → step at a ≡ o
            → ((at : ℕ) (a : A) → end ≤ n + at → end ≤ m + at → repeated step n at a ≡ repeated step m at a)
            → repeated step (suc n) at a ≡ repeated step (suc m) at a
        go None e rest = repeated_none step n at a e ∙ sym (repeated_none step m at a e)
        go (Some q) e rest = repeated_some step n at a q e ∙ onward q e rest ∙ sym (repeated_some step m at a q e)
          where
            onward : (q : Parsed A) → step at a ≡ Some q
                → ((at : ℕ) (a : A) → end ≤ n + at → end ≤ m + at → repeated step n at a ≡ repeated step m at a)
                → next q (repeated step n) ≡ next q (repeated step m)
            onward (got p b) e rest = let f = moves at p a b e in unfold next in rest p b (omega arith) (omega arith)
            onward (bad p) e rest = unfold next in refl

    -- a repetition over a whole text, by what its step gives within it
    pub repeated_goes : (at p : ℕ) (a b : A) → at < end → step at a ≡ Some (got p b) → repeated step end at a ≡ repeated step end p b
    repeated_goes at p a b h e =
        let f = moves at p a b e in
        let n : end ≡ suc (end - 1) = omega arith in
        ap (λ k. repeated step k at a) n
        ∙ repeated_some step (end - 1) at a (got p b) e
        ∙ next_of_got p b (repeated step (end - 1))
        ∙ enough (end - 1) end p b (omega arith) (omega arith)

    pub repeated_fails : (at p : ℕ) (a : A) → at < end → step at a ≡ Some (bad p) → repeated step end at a ≡ bad p
    repeated_fails at p a h e =
        let n : end ≡ suc (end - 1) = omega arith in
        ap (λ k. repeated step k at a) n ∙ repeated_some step (end - 1) at a (bad p) e ∙ next_of_bad p (repeated step (end - 1))

-- what each step keeps, a repetition keeps
pub repeated_keeps : {A : Type 0} (step : ℕ → A → Option (Parsed A)) (Kept : A → Type 0)
    → ((at p : ℕ) (a b : A) → Kept a → step at a ≡ Some (got p b) → Kept b)
    → (more at p : ℕ) (a b : A) → Kept a → repeated step more at a ≡ got p b → Kept b
repeated_keeps {A = A} step Kept keeps zero at p a b k e =
    subst Kept (same_read at p a b (unfold repeated in e)) k
repeated_keeps {A = A} step Kept keeps (suc more) at p a b k e = go (step at a) refl (repeated_keeps step Kept keeps more)
  where
    go : (o : Option (Parsed A)) → step at a ≡ o
        → ((at p : ℕ) (a b : A) → Kept a → repeated step more at a ≡ got p b → Kept b) → Kept b
    go None n rest = subst Kept (same_read _ _ _ _ (sym (repeated_none step more at a n) ∙ e)) k
    go (Some q) n rest =
        let f = next_got q (repeated step more) p b (sym (repeated_some step more at a q n) ∙ e) in
        rest f.0 p f.1 b (keeps at f.0 a f.1 k (n ∙ ap Some f.2)) f.3

-- a repetition whose step stops at once
pub repeated_stops : {A : Type 0} (step : ℕ → A → Option (Parsed A)) (more at : ℕ) (a : A) → step at a ≡ None → repeated step more at a ≡ got at a
repeated_stops step zero at a e = unfold repeated in refl
repeated_stops step (suc more) at a e = repeated_none step more at a e

module _ {O A B : Type 0} (operator : ℕ → Option O) (apply : O → B → A → B) (s : Text) (item : ℕ → Parsed A) (m : Moves item) where
  -- one item more moves on
  pub joining_moves : (at p : ℕ) (a b : B) → joining operator apply s item at a ≡ Some (got p b) → at < p
  joining_moves at p a b e = go (operator (byte_at s at)) refl
    where
      go : (o : Option O) → operator (byte_at s at) ≡ o → at < p
      go None n = let c = joining_none operator apply s item at a n in absurd (let z : ◌≡◌ {A = ℕ} 0 1 = cc in omega arith)
      go (Some o) n =
          let c = joining_some operator apply s item at a o n in
          let q : mapped (apply o a) (item (at + 1)) ≡ got p b = cc in
          let f = mapped_got_of (apply o a) (item (at + 1)) p b q in
          let g = m (at + 1) p f.0 f.1 in
          omega arith

  -- and stops at the end, where 0 is no operator
  pub joining_stops : operator 0 ≡ None → (at : ℕ) (a : B) → length s ≤ at → joining operator apply s item at a ≡ None
  joining_stops z at a h = joining_none operator apply s item at a (ap operator (past_end s at h) ∙ z)

pub moves_series : {O A : Type 0} (operator : ℕ → Option O) (apply : O → A → A → A) (s : Text) (item : ℕ → Parsed A) → Moves item
    → (more : ℕ) → Moves (series operator apply s item more)
unfolding series
moves_series operator apply s item m more at p a e =
    let q = next_got (item at) _ p a e in
    let f = m at q.0 q.1 q.2 in
    let g = repeated_on (joining operator apply s item) (joining_moves operator apply s item m) more q.0 p q.1 a q.3 in
    omega arith
