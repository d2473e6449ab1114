-- A number as its digits: those that std's `decimal` writes. Assumes nothing.
use Prim.Native.Nat.{ℕ, zero, suc, ◌+◌, ◌/◌, ◌%◌, ◌^◌, ◌≤◌, ◌<◌}
use mathlib.Core.Bool.{Bool, true, false}
use mathlib.Core.List.{[], ◌∷◌, ◌++◌, append_assoc, append-nil}
use mathlib.Core.Path.{◌≡◌, refl, sym, ap, ◌∙◌}
use native.Mathlib.Omega.{arith}
use borrow.Author.Tests.{lt-ltb, le-ltb, ltb-true, ltb-false}
use lib.Dec.{ltb}
use Rattle.std.specs.Prelude.{decimal}
use Rattle.std.proofs.lemmas.Fmt.{decimal_digit, decimal_step}
use Rattle.terms.specs.Bytes.{Text}
use Rattle.session.specs.Shown.{shown_from, shown}

-- the first digit, or one before which there are others
module _ (more n : ℕ) (s : Text) where
  last_turn : n < 10 → shown_from (suc more) n s ≡ (48 + n) ∷ s
  unfolding shown_from
  last_turn h = rw (lt-ltb n 10 h, shown_from)

  one_turn : 10 ≤ n → shown_from (suc more) n s ≡ shown_from more (n / 10) ((48 + n % 10) ∷ s)
  unfolding shown_from
  one_turn h = rw (le-ltb n 10 h, shown_from)

-- with more turns than the number, all digits stand before what there was
shown_before : (more n : ℕ) (s : Text) → n < more → n < 2 ^ 64 → shown_from more n s ≡ decimal n ++ s
shown_before zero n s h k = absurd (omega arith)
shown_before (suc more) n s h k = go (ltb n 10) refl (shown_before more)
  where
    go : (t : Bool) → ltb n 10 ≡ t → ((n : ℕ) (s : Text) → n < more → n < 2 ^ 64 → shown_from more n s ≡ decimal n ++ s) → shown_from (suc more) n s ≡ decimal n ++ s
    go true e rest = let l = ltb-true n 10 e in last_turn more n s l ∙ ap (λ t. t ++ s) (sym (decimal_digit n l))
    go false e rest =
        let l = ltb-false n 10 e in
        one_turn more n s l ∙ rest (n / 10) ((48 + n % 10) ∷ s) (omega arith) (omega arith)
        ∙ sym (append_assoc (decimal (n / 10)) ((48 + n % 10) ∷ []) s) ∙ ap (λ t. t ++ s) (sym (decimal_step n l k))

pub shown_decimal : (n : ℕ) → n < 2 ^ 64 → shown n ≡ decimal n
unfolding shown
shown_decimal n h = shown_before (suc n) n [] (omega arith) h ∙ append-nil (decimal n)
