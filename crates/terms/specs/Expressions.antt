-- The grammar of expressions, over any reading. Assumes nothing.
use Rattle.std.specs.Prelude.{ℕ, zero, suc, ◌+◌, true, false, List, [], ◌∷◌, eqb, length, Option, None, Some}
use Prim.Native.Char.{code}
use Rattle.whole.specs.declared.Operator.{Operator}
use Rattle.whole.specs.declared.Operator.TheVariants.{Plus, Minus, Times, Less, Equal}
use Rattle.terms.specs.declared.Start.{Start}
use Rattle.terms.specs.declared.Variable.{Variable}
use Rattle.terms.specs.Bytes.{Text, bytes, byte_at, told, digit}
use Rattle.terms.specs.declared.Limits.{Limits}
use Rattle.terms.specs.Leaves.{decimal, variable}
use Rattle.terms.specs.Parsed.{Parsed, bad, mapped, word, closed, series}

-- "a decimal 0..2147483647"
abbrev pub largest : ℕ
largest = 2147483647

-- "At most 8 brackets are open at once."
abbrev pub brackets : ℕ
brackets = 8

-- what each part of an expression gives
pub record Reading (A : Type 0) : Type 0 where
  pub number : ℕ → A
  pub variable : Variable → A
  pub self : A
  pub caller : A
  pub apply : Operator → A → A → A

-- one of two bytes, each with its operator
unfoldable pub among : ℕ → Operator → ℕ → Operator → ℕ → Option Operator
among first o second p b = elim (eqb b first) [ true ↦ Some o | false ↦ elim (eqb b second) [ true ↦ Some p | false ↦ None ] ]

-- "two sums joined by one `<` or `=`"
unfoldable pub comparison : ℕ → Option Operator
comparison = among (code "<") Less (code "=") Equal

-- "products joined by `+` or `-`"
unfoldable pub sign : ℕ → Option Operator
sign = among (code "+") Plus (code "-") Minus

-- "factors joined by `*`"
unfoldable pub star : ℕ → Option Operator
star b = elim (eqb b (code "*")) [ true ↦ Some Times | false ↦ None ]

-- "A factor is a decimal 0..2147483647, a variable, `self`, `caller`, or an expression in round brackets": its first byte tells which
abbrev pub starts : List (ℕ × Start)
starts =
    (code "s", Start.Itself) ∷ (code "c", Start.Caller) ∷ (code "(", Start.Opening) ∷ (code "a", Start.Variable) ∷ (code "v", Start.Variable) ∷ []

unfoldable pub start_of : ℕ → Start
start_of b = elim (digit b) [ Some d ↦ Start.Decimal | None ↦ told starts Start.Nothing b ]

module _ {A : Type 0} (R : Reading A) (lim : Limits) (s : Text) where
  -- a factor by its start, where `inside` reads what stands at an opening bracket
  unfoldable pub factor_by : Start → (ℕ → Parsed A) → ℕ → Parsed A
  factor_by Start.Decimal inside at = mapped R.number (decimal largest s at)
  factor_by Start.Variable inside at = mapped R.variable (variable lim s at)
  factor_by Start.Itself inside at = mapped (λ _. R.self) (word (bytes "self") s at)
  factor_by Start.Caller inside at = mapped (λ _. R.caller) (word (bytes "caller") s at)
  factor_by Start.Opening inside at = inside at
  factor_by Start.Nothing inside at = bad at

  unfoldable pub factor : (ℕ → Parsed A) → ℕ → Parsed A
  factor inside at = factor_by (start_of (byte_at s at)) inside at

  -- "a product is factors joined by `*`"
  unfoldable pub product : (ℕ → Parsed A) → ℕ → Parsed A
  product inside = series star R.apply s (factor inside) (length s)

  -- "A sum is products joined by `+` or `-`"
  unfoldable pub sum : (ℕ → Parsed A) → ℕ → Parsed A
  sum inside = series sign R.apply s (product inside) (length s)

  -- "Expression: a sum, or two sums joined by one `<` or `=`"
  unfoldable pub comparing : (ℕ → Parsed A) → ℕ → Parsed A
  comparing inside = series comparison R.apply s (sum inside) 1

  -- an expression with so many brackets still allowed
  unfoldable pub expression : ℕ → ℕ → Parsed A
  expression zero = comparing bad
  expression (suc left) = comparing (λ at. closed (code ")") s (expression left (at + 1)))
