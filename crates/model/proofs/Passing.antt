-- What a `?` does with the answer of a call, where `map_err` stands between: what was read is kept, and what refuses it is handed on. Assumes
-- nothing.
use Rattle.std.specs.Prelude.{Option, None, Some, Result, Ok, Err}
use Rattle.std.specs.Option.{ok_or}
use Rattle.std.specs.Result.{IsErr, IsErrAnd, MatchResult}
use Prim.Native.Nat.{ℕ, ◌≤◌, ◌<◌}
use mathlib.Core.Bool.{Bool, true, false}
use mathlib.Core.List.{List}
use mathlib.Core.Path.{◌≡◌, refl, sym, ap, subst, ◌∙◌}
use native.Mathlib.Omega.{arith}
use Rattle.whole.proofs.Tested.{passed_on}
use Rattle.terms.specs.Bytes.{Text}
use Rattle.text.specs.declared.At.{At}
use Rattle.text.specs.declared.Failed.{Failed}
use Rattle.text.specs.InOrder.{LinesRead, Reader, each}
use Rattle.text.specs.Vocabulary.Readings.{Placed, read_at, Tells, InRange}
use Rattle.text.proofs.Onward.{told_failed, told_got}
use Rattle.model.specs.ModelText.{zero_if}
use Rattle.text.proofs.SoMany.{Passed, passed_stopped}

-- what was read, before its error was made another
module _ {T E D : Type 0} (Q : E → D → Type 0) where
  pub kept : (r : Result T E) (x : Result T D) → MatchResult r (λ a. x ≡ Ok a) (λ e. IsErrAnd x (Q e)) → (a : T) → x ≡ Ok a → r ≡ Ok a
  kept (Ok b) x h a e = ap Ok (subst (λ y. MatchResult y (λ c. b ≡ c) (λ _. ⊥)) (sym h ∙ e) refl)
  kept (Err g) x h a e = absurd (subst (λ y. IsErrAnd y (Q g)) e h)

  -- or the error
  pub refused : (r : Result T E) (x : Result T D) → MatchResult r (λ a. x ≡ Ok a) (λ e. IsErrAnd x (Q e)) → (d : D) → x ≡ Err d → (g : E) × (r ≡ Err g) × Q g d
  refused (Ok b) x h d e = absurd (subst (λ y. IsErrAnd y (λ _. Unit {0})) (sym e ∙ h) tt)
  refused (Err g) x h d e = (g, refl, subst (λ y. IsErrAnd y (Q g)) e h)

-- a range that is 0 on a test goes no further than without it
pub most_if : (b : Bool) (n m : ℕ) → m ≡ zero_if b n → m ≤ n
unfolding zero_if
most_if true n m e = omega (arith, e)
most_if false n m e = omega (arith, e)

-- what `ok_or` makes an error of
pub lacking : {T E : Type 0} (o : Option T) (r : Result T E) (e : E) → r ≡ ok_or o e → (d : E) → r ≡ Err d → (o ≡ None) × (d ≡ e)
lacking None r e f d g = (refl, subst (λ q. MatchResult q (λ _. ⊥) (λ y. y ≡ e)) (sym f ∙ g) refl)
lacking (Some x) r e f d g = absurd (subst (λ q. MatchResult q (λ _. Unit {0}) (λ _. ⊥)) (sym f ∙ g) tt)

-- a number line that was passed: the next line has its place, and the number is in its range
module _ {A : Type 0} (s : Text) (P : A → ℕ → Type 0) (r : Result (ℕ × At) Failed) (x : LinesRead A) (n : ℕ) (q : At) (t : Tells s P r x) (was : r ≡ Ok (n, q)) where
  pub next_placed : Placed s q
  next_placed = (told_got s P r x t n q was).2

module _ (s : Text) (low high : ℕ) (r : Result (ℕ × At) Failed) (x : LinesRead ℕ) (n : ℕ) (q : At) (t : Tells s (InRange low high) r x) (was : r ≡ Ok (n, q)) where
  pub least : low ≤ n
  least = (told_got s _ r x t n q was).3.1

  pub most : n ≤ high
  most = (told_got s _ r x t n q was).3.2

-- the next of so many things is refused, and a `?` hands it on
pub loop_exit : {A S : Type 0} {s : Text} {one : ℕ → S → Reader (A × S)} {count : ℕ} {begun : S} {from here : At} {i : ℕ} {so : S} {Held : List A → Type 0}
    → Passed s one count begun from here i so Held → i < count → (P : A × S → ℕ → Type 0) (r x : Result (ℕ × At) Failed) → Tells s P r (read_at (one i so) s here)
    → {g : Failed} → r ≡ Err g → IsErr x × IsErrAnd x (λ f. f ≡ g) → (Q : List A × S → ℕ → Type 0) → Tells s Q x (read_at (each count 0 begun one) s from)
unfolding Tells
loop_exit {s = s} {one} {count} {begun} {from} p more P r x t was exit Q =
    subst (λ q. Tells s Q q (read_at (each count 0 begun one) s from)) (sym (passed_on exit.1)) (passed_stopped p more (told_failed s P r _ t _ was))
