-- Every reader of terms moves on: what it reads ends after the place that it began at. Assumes nothing.
use Rattle.std.specs.Prelude.{Result}
use Prim.Native.Nat.{ℕ, zero, suc, ◌+◌, ◌<◌}
use Prim.Native.Char.{code}
use mathlib.Core.Path.{◌≡◌, refl, sym, ap, ◌∙◌}
use native.Mathlib.Omega.{arith}
use lib.ListN.{length}
use Rattle.terms.specs.declared.AtomStart.{AtomStart}
use Rattle.terms.specs.declared.Limits.{Limits}
use Rattle.terms.specs.declared.Start.{Start}
use Rattle.terms.specs.Vocabulary.Answers.{as_result}
use Rattle.terms.specs.Bytes.{Text, bytes, byte_at}
use Rattle.terms.specs.Expressions.{Reading, largest, start_of, star, sign, comparison, factor_by, factor, product, sum, comparing, expression}
use Rattle.terms.specs.Guards.{GuardReading, atom_start_of, ampersand, bar, atom_by, atom, conjunction, disjunction, guard}
use Rattle.terms.specs.Parsed.{Parsed, bad, word, opened}
use Rattle.terms.specs.Vocabulary.Readers.{bracketed_at, factor_at, product_at, sum_at, atom_at, conjunction_at}
use Rattle.terms.proofs.Digits.{decimal_moves}
use Rattle.terms.proofs.Moving.{Moves, moves_bad, moves_mapped, moves_closed, moves_series, word_on}
use Rattle.terms.proofs.Variables.{variable_moves}

-- a word of at least one byte
pub moves_word : (w s : Text) → 0 < length w → Moves (word w s)
moves_word w s h at p u e = let l = word_on w s at p e in omega arith

-- what is read after an opening bracket ends after it
pub moves_after : {A : Type 0} (item : ℕ → Parsed A) → Moves item → Moves (λ at. item (at + 1))
moves_after item m at p a e = let l = m (at + 1) p a e in omega arith

-- and so does what stands in brackets
pub moves_opened : {A : Type 0} (b : ℕ) (s : Text) (item : ℕ → ℕ → Parsed A) → ((left : ℕ) → Moves (item left)) → (left : ℕ) → Moves (opened b s item left)
unfolding opened
moves_opened b s item m zero = moves_bad
moves_opened b s item m (suc left) = moves_closed b s _ (moves_after _ (m left))

module _ {A : Type 0} (R : Reading A) (lim : Limits) (s : Text) where
  module _ (within : ℕ → Parsed A) (m : Moves within) where
    moves_start : (b : Start) → Moves (factor_by R lim s b within)
    unfolding factor_by
    moves_start Start.Decimal = moves_mapped R.number _ (decimal_moves largest s)
    moves_start Start.Variable = moves_mapped R.variable _ (variable_moves lim s)
    moves_start Start.Itself = moves_mapped (λ _. R.self) _ (moves_word (bytes "self") s (omega arith))
    moves_start Start.Caller = moves_mapped (λ _. R.caller) _ (moves_word (bytes "caller") s (omega arith))
    moves_start Start.Opening = m
    moves_start Start.Nothing = moves_bad

    pub moves_factor : Moves (factor R lim s within)
    unfolding factor
    moves_factor at p a e = moves_start (start_of (byte_at s at)) at p a e

    pub moves_product : Moves (product R lim s within)
    unfolding product
    moves_product = moves_series star R.apply s _ moves_factor (length s)

    pub moves_sum : Moves (sum R lim s within)
    unfolding sum
    moves_sum = moves_series sign R.apply s _ moves_product (length s)

    pub moves_comparing : Moves (comparing R lim s within)
    unfolding comparing
    moves_comparing = moves_series comparison R.apply s _ moves_sum 1

  pub moves_expression : (left : ℕ) → Moves (expression R lim s left)
  unfolding expression
  moves_expression zero = moves_comparing bad moves_bad
  moves_expression (suc left) = moves_comparing _ (moves_closed (code ")") s _ (moves_after _ (moves_expression left)))

  -- an expression is a comparison of sums, with what stands in its brackets
  pub expression_is : (left at : ℕ) → expression R lim s left at ≡ comparing R lim s (opened (code ")") s (expression R lim s) left) at
  expression_is zero at = unfold expression opened in refl
  expression_is (suc left) at = unfold expression opened in refl

  -- so does what each reader of the code reads, with so many brackets still allowed
  module _ (left : ℕ) where
    moves_bracketed : (b : ℕ) → Moves (bracketed_at R lim s b left)
    moves_bracketed b = moves_opened b s _ moves_expression left

    pub factors_move : Moves (factor_at R lim s left)
    factors_move = moves_factor _ (moves_bracketed (code ")"))

    pub products_move : Moves (product_at R lim s left)
    products_move = moves_product _ (moves_bracketed (code ")"))

    pub sums_move : Moves (sum_at R lim s left)
    sums_move = moves_sum _ (moves_bracketed (code ")"))

module _ {A G : Type 0} (R : Reading A) (Q : GuardReading A G) (lim : Limits) (s : Text) where
  module _ (test : ℕ → Parsed A) (t : Moves test) (within : ℕ → Parsed G) (m : Moves within) where
    moves_atom_start : (b : AtomStart) → Moves (atom_by R Q lim s b test within)
    unfolding atom_by
    moves_atom_start AtomStart.Wait = moves_mapped (λ _. Q.wait) _ (moves_word (bytes "wait") s (omega arith))
    moves_atom_start AtomStart.Reply = moves_mapped Q.reply _ (moves_closed (code "?") s _ (variable_moves lim s))
    moves_atom_start AtomStart.Test = moves_mapped Q.test _ t
    moves_atom_start AtomStart.Guard = m
    moves_atom_start AtomStart.Nothing = moves_bad

    pub moves_atom : Moves (atom R Q lim s test within)
    unfolding atom
    moves_atom at p a e = moves_atom_start (atom_start_of (byte_at s at)) at p a e

    pub moves_conjunction : Moves (conjunction R Q lim s test within)
    unfolding conjunction
    moves_conjunction = moves_series ampersand Q.join s _ moves_atom (length s)

    pub moves_disjunction : Moves (disjunction R Q lim s test within)
    unfolding disjunction
    moves_disjunction = moves_series bar Q.join s _ moves_conjunction (length s)

  pub moves_guard : (left : ℕ) → Moves (guard R Q lim s left)
  unfolding guard
  moves_guard zero = moves_disjunction bad moves_bad bad moves_bad
  moves_guard (suc left) =
      moves_disjunction _ (moves_closed (code "]") s _ (moves_after _ (moves_expression R lim s left)))
      _ (moves_closed (code ")") s _ (moves_after _ (moves_guard left)))

  -- a guard is a disjunction, with what stands in its brackets, square and round
  pub guard_is : (left at : ℕ)
      → guard R Q lim s left at
      ≡ disjunction R Q lim s (opened (code "]") s (expression R lim s) left) (opened (code ")") s (guard R Q lim s) left) at
  guard_is zero at = unfold guard opened in refl
  guard_is (suc left) at = unfold guard opened in refl

  module _ (left : ℕ) where
    pub atoms_move : Moves (atom_at R Q lim s left)
    atoms_move = moves_atom _ (moves_bracketed R lim s left (code "]")) _ (moves_opened (code ")") s _ moves_guard left)

    pub conjunctions_move : Moves (conjunction_at R Q lim s left)
    conjunctions_move = moves_conjunction _ (moves_bracketed R lim s left (code "]")) _ (moves_opened (code ")") s _ moves_guard left)

-- an atom, by what it begins with
pub atom_by_lem : {A G : Type 0} (R : Reading A) (Q : GuardReading A G) (lim : Limits) (s : Text) (test : ℕ → Parsed A) (within : ℕ → Parsed G) (at : ℕ) {b b' : AtomStart} {r : Result (ℕ × G) ℕ}
    → b ≡ atom_start_of (byte_at s at) → b ≡ b' → r ≡ as_result (atom_by R Q lim s b' test within at) → r ≡ as_result (atom R Q lim s test within at)
unfolding atom
atom_by_lem R Q lim s test within at e f g = g ∙ ap (λ x. as_result (atom_by R Q lim s x test within at)) (sym f ∙ e)
