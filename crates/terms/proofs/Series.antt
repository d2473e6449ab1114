-- Items joined by operators, by what the code finds at a place: one law for sums, products, comparisons, guards and arguments. Assumes nothing.
use Rattle.std.specs.Prelude.{Option, None, Some, Err, Ok}
use Prim.Native.Nat.{ℕ, suc, ◌+◌, ◌-◌, ◌≤◌, ◌<◌}
use mathlib.Core.Bool.{Bool, true, false}
use mathlib.Core.Path.{◌≡◌, refl, sym, ap, ◌∙◌}
use native.Mathlib.Omega.{arith}
use borrow.Author.Tests.{ltb-true, ltb-false}
use lib.Dec.{ltb}
use lib.ListN.{length}
use Rattle.terms.specs.Vocabulary.Answers.{as_result}
use Rattle.terms.specs.Bytes.{Text, byte_at}
use Rattle.terms.specs.Parsed.{Parsed, got, bad, next, mapped, repeated, joining, series}
use Rattle.terms.proofs.Following.{mapped_got, mapped_bad, next_of_got, next_of_bad, repeated_some, joining_none, joining_some}
use Rattle.terms.proofs.Moving.{Moves, past_end, repeated_stops, repeated_goes, repeated_fails, joining_moves, joining_stops}

-- an operator stands within the text, where 0 is none
pub operator_within : {O : Type 0} (operator : ℕ → Option O) → operator 0 ≡ None → (s : Text) (at : ℕ) (o : O) → operator (byte_at s at) ≡ Some o → at < length s
operator_within operator z s at o e = go (ltb at (length s)) refl
  where
    go : (t : Bool) → ltb at (length s) ≡ t → at < length s
    go true f = ltb-true at (length s) f
    go false f = let n : operator (byte_at s at) ≡ operator 0 = ap operator (past_end s at (ltb-false at (length s) f)) in absurd (let z : ◌≡◌ {A = ℕ} 0 1 = cc in omega arith)

-- what a test of the byte at a place found
pub found : {O : Type 0} (operator : ℕ → Option O) {x b : ℕ} {r o : Option O} → x ≡ b → r ≡ operator x → r ≡ o → operator b ≡ o
found operator e f g = ap operator (sym e) ∙ sym f ∙ g

-- the first item
module _ {O A : Type 0} (operator : ℕ → Option O) (apply : O → A → A → A) (s : Text) (item : ℕ → Parsed A) (more at p : ℕ) where
  series_go : (a : A) → item at ≡ got p a → series operator apply s item more at ≡ repeated (joining operator apply s item) more p a
  unfolding series
  series_go a e = ap (λ q. next q (repeated (joining operator apply s item) more)) e ∙ next_of_got p a _

  series_fail : item at ≡ bad p → series operator apply s item more at ≡ bad p
  unfolding series
  series_fail e = ap (λ q. next q (repeated (joining operator apply s item) more)) e ∙ next_of_bad p _

module _ {O A B : Type 0} (operator : ℕ → Option O) (apply : O → B → A → B) (s : Text) (item : ℕ → Parsed A) where
  module _ (at : ℕ) (a : B) where
    -- no operator
    pub joined_stop : (more : ℕ) → operator (byte_at s at) ≡ None → repeated (joining operator apply s item) more at a ≡ got at a
    joined_stop more e = repeated_stops (joining operator apply s item) more at a (joining_none operator apply s item at a e)

    -- an operator, and an item behind it or none
    module _ (o : O) (e : operator (byte_at s at) ≡ Some o) (p : ℕ) where
      step_got : (b : A) → item (at + 1) ≡ got p b → joining operator apply s item at a ≡ Some (got p (apply o a b))
      step_got b f = joining_some operator apply s item at a o e ∙ ap (λ q. Some (mapped (apply o a) q)) f ∙ ap Some (mapped_got (apply o a) p b)

      step_bad : item (at + 1) ≡ bad p → joining operator apply s item at a ≡ Some (bad p)
      step_bad f = joining_some operator apply s item at a o e ∙ ap (λ q. Some (mapped (apply o a) q)) f ∙ ap Some (mapped_bad (apply o a) p)

      -- at most so many more
      pub counted_go : (more : ℕ) (b : A) → item (at + 1) ≡ got p b
          → repeated (joining operator apply s item) (suc more) at a ≡ repeated (joining operator apply s item) more p (apply o a b)
      counted_go more b f = repeated_some (joining operator apply s item) more at a _ (step_got b f) ∙ next_of_got p _ _

      pub counted_fail : (more : ℕ) → item (at + 1) ≡ bad p → repeated (joining operator apply s item) (suc more) at a ≡ bad p
      counted_fail more f = repeated_some (joining operator apply s item) more at a _ (step_bad f) ∙ next_of_bad p _

      -- as many as there are
      module _ (m : Moves item) (z : operator 0 ≡ None) (h : at < length s) where
        pub joined_go : (b : A) → item (at + 1) ≡ got p b
            → repeated (joining operator apply s item) (length s) at a ≡ repeated (joining operator apply s item) (length s) p (apply o a b)
        joined_go b f =
            repeated_goes _ (joining_moves operator apply s item m) (length s) (joining_stops operator apply s item m z) at p a _ h (step_got b f)

        pub joined_fail : item (at + 1) ≡ bad p → repeated (joining operator apply s item) (length s) at a ≡ bad p
        joined_fail f =
            repeated_fails _ (joining_moves operator apply s item m) (length s) (joining_stops operator apply s item m z) at p a h (step_bad f)

-- where a loop over joined items has come: what is read from here on is what is read from the start, and the place is no earlier one
pub record Joined {O A : Type 0} (operator : ℕ → Option O) (apply : O → A → A → A) (s : Text) (item : ℕ → Parsed A) (whole : Parsed A) (start at : ℕ) (a : A) : Type 0 where
  pub later : start ≤ at
  pub rest : whole ≡ repeated (joining operator apply s item) (length s) at a

-- the first item: it is refused, or the loop begins behind it
module _ {O A : Type 0} (operator : ℕ → Option O) (apply : O → A → A → A) (s : Text) (item : ℕ → Parsed A) {whole : Parsed A} (more : ℕ) {at p : ℕ}
    (i : whole ≡ series operator apply s item more at) where
  pub first_fail : item at ≡ bad p → Err p ≡ as_result whole
  unfolding as_result
  first_fail e = sym (ap as_result (i ∙ series_fail operator apply s item more at p e))

module _ {O A : Type 0} (operator : ℕ → Option O) (apply : O → A → A → A) (s : Text) (item : ℕ → Parsed A) {whole : Parsed A} {at p : ℕ}
    (m : Moves item) {a : A} (e : item at ≡ got p a) where
  pub first_go : whole ≡ series operator apply s item (length s) at → Joined operator apply s item whole at p a
  first_go i =
      let l = m at p a e in
      record { later = omega arith; rest = i ∙ series_go operator apply s item (length s) at p a e }

  -- at most one item more: no operator, or one and an item that is refused or read
  module _ (i : whole ≡ series operator apply s item 1 at) where
    pub once_stop : operator (byte_at s p) ≡ None → Ok (p, a) ≡ as_result whole
    unfolding as_result
    once_stop n = sym (ap as_result (i ∙ series_go operator apply s item 1 at p a e ∙ joined_stop operator apply s item p a 1 n))

    module _ {o : O} (g : operator (byte_at s p) ≡ Some o) {q : ℕ} where
      pub once_fail : item (p + 1) ≡ bad q → Err q ≡ as_result whole
      unfolding as_result
      once_fail f = sym (ap as_result (i ∙ series_go operator apply s item 1 at p a e ∙ counted_fail operator apply s item p a o g q 0 f))

      pub once_go : {b w : A} → item (p + 1) ≡ got q b → w ≡ apply o a b → Ok (q, w) ≡ as_result whole
      unfolding as_result repeated
      once_go {b} f h =
          ap (λ v. Ok (q, v)) h
          ∙ sym (ap as_result (i ∙ series_go operator apply s item 1 at p a e ∙ counted_go operator apply s item p a o g q 0 b f))

module _ {O A : Type 0} {operator : ℕ → Option O} {apply : O → A → A → A} {s : Text} {item : ℕ → Parsed A} {whole : Parsed A} {start at : ℕ} {a : A}
    (i : Joined operator apply s item whole start at a) where
  -- no operator
  pub joins_stop : operator (byte_at s at) ≡ None → Ok (at, a) ≡ as_result whole
  unfolding as_result
  joins_stop n = sym (ap as_result (i.rest ∙ joined_stop operator apply s item at a (length s) n))

  -- an operator, and behind it an item that is refused, or one that is read
  module _ (m : Moves item) (z : operator 0 ≡ None) {o : O} (g : operator (byte_at s at) ≡ Some o) {p : ℕ} where
    pub joins_fail : item (at + 1) ≡ bad p → Err p ≡ as_result whole
    unfolding as_result
    joins_fail e = sym (ap as_result (i.rest ∙ joined_fail operator apply s item at a o g p m z (operator_within operator z s at o g) e))

    module _ {b : A} (e : item (at + 1) ≡ got p b) where
      pub joins_nearer : length s - p < length s - at
      joins_nearer =
          let w = operator_within operator z s at o g in
          let l = m (at + 1) p b e in
          omega arith

      pub joins_go : {w : A} → w ≡ apply o a b → Joined operator apply s item whole start p w
      joins_go f =
          let l = m (at + 1) p b e in record {
            later = omega (arith, i.later);
            rest =
                i.rest
                ∙ joined_go operator apply s item at a o g p m z (operator_within operator z s at o g) b e
                ∙ ap (repeated (joining operator apply s item) (length s) p) (sym f);
          }
