-- The grammar of guards, over any reading of guards and of the expressions in them. Assumes nothing.
use Rattle.std.specs.Prelude.{ℕ, zero, suc, ◌+◌, true, false, List, [], ◌∷◌, eqb, length, Option, None, Some}
use Prim.Native.Char.{code}
use Rattle.terms.specs.declared.AtomStart.{AtomStart}
use Rattle.terms.specs.declared.Junction.{Junction}
use Rattle.terms.specs.declared.Junction.TheVariants.{Both, Either}
use Rattle.terms.specs.declared.Variable.{Variable}
use Rattle.terms.specs.Bytes.{Text, bytes, byte_at, told}
use Rattle.terms.specs.Expressions.{Reading, expression}
use Rattle.terms.specs.declared.Limits.{Limits}
use Rattle.terms.specs.Leaves.{variable}
use Rattle.terms.specs.Parsed.{Parsed, bad, mapped, word, closed, series}

-- what each part of a guard gives, where its expressions give an A
pub record GuardReading (A G : Type 0) : Type 0 where
  pub wait : G
  pub reply : Variable → G
  pub test : A → G
  pub join : Junction → G → G → G

unfoldable pub ampersand : ℕ → Option Junction
ampersand b = elim (eqb b (code "&")) [ true ↦ Some Both | false ↦ None ]

unfoldable pub bar : ℕ → Option Junction
bar b = elim (eqb b (code "|")) [ true ↦ Some Either | false ↦ None ]

-- "an atom is `wait`, a variable followed by `?`, an expression in square brackets, or a guard in round brackets": its first byte tells
abbrev pub atom_starts : List (ℕ × AtomStart)
atom_starts =
    (code "w", AtomStart.Wait) ∷ (code "[", AtomStart.Test) ∷ (code "(", AtomStart.Guard) ∷ (code "a", AtomStart.Reply)
    ∷ (code "v", AtomStart.Reply) ∷ []

unfoldable pub atom_start_of : ℕ → AtomStart
atom_start_of = told atom_starts AtomStart.Nothing

module _ {A G : Type 0} (R : Reading A) (Q : GuardReading A G) (lim : Limits) (s : Text) where
  -- an atom by its start, where `test` and `inside` read what stands at an opening bracket, square or round
  unfoldable pub atom_by : AtomStart → (ℕ → Parsed A) → (ℕ → Parsed G) → ℕ → Parsed G
  atom_by AtomStart.Wait test inside at = mapped (λ _. Q.wait) (word (bytes "wait") s at)
  atom_by AtomStart.Reply test inside at = mapped Q.reply (closed (code "?") s (variable lim s at))
  atom_by AtomStart.Test test inside at = mapped Q.test (test at)
  atom_by AtomStart.Guard test inside at = inside at
  atom_by AtomStart.Nothing test inside at = bad at

  unfoldable pub atom : (ℕ → Parsed A) → (ℕ → Parsed G) → ℕ → Parsed G
  atom test inside at = atom_by (atom_start_of (byte_at s at)) test inside at

  -- "a conjunction is atoms joined by `&`"
  unfoldable pub conjunction : (ℕ → Parsed A) → (ℕ → Parsed G) → ℕ → Parsed G
  conjunction test inside = series ampersand Q.join s (atom test inside) (length s)

  -- "Guard: conjunctions joined by `|`"
  unfoldable pub disjunction : (ℕ → Parsed A) → (ℕ → Parsed G) → ℕ → Parsed G
  disjunction test inside = series bar Q.join s (conjunction test inside) (length s)

  -- a guard with so many brackets still allowed, its own and those of the expressions in it counted together
  unfoldable pub guard : ℕ → ℕ → Parsed G
  guard zero = disjunction bad bad
  guard (suc left) =
      disjunction
      (λ at. closed (code "]") s (expression R lim s left (at + 1)))
      (λ at. closed (code ")") s (guard left (at + 1)))
