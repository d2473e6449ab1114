-- Whatever expression or guard is read, its variables are below their limits and its decimals in range; first of any property that the parts
-- of a reading keep. Assumes nothing.
use Rattle.std.specs.Prelude.{Option, None, Some}
use Prim.Native.Nat.{ℕ, zero, suc, ◌+◌, ◌≤◌, ◌<◌}
use Prim.Native.Char.{code}
use mathlib.Core.Bool.{Bool, true, false}
use mathlib.Core.Path.{◌≡◌, refl}
use borrow.Author.Tests.{ltb-true}
use lib.Dec.{ltb, eqb}
use lib.ListN.{length}
use Rattle.whole.specs.declared.Operator.{Operator}
use Rattle.terms.specs.declared.AtomStart.{AtomStart}
use Rattle.terms.specs.declared.Junction.{Junction}
use Rattle.terms.specs.declared.Limits.{Limits}
use Rattle.terms.specs.declared.Start.{Start}
use Rattle.terms.specs.declared.Variable.{Variable}
use Rattle.terms.specs.declared.Variable.TheVariants.{Attribute, Local}
use Rattle.terms.specs.Bytes.{Text, byte_at, digit}
use Rattle.terms.specs.Expressions.{Reading, largest, start_of, star, sign, comparison, factor_by, factor, product, sum, comparing, expression}
use Rattle.terms.specs.Guards.{GuardReading, atom_start_of, ampersand, bar, atom_by, atom, conjunction, disjunction, guard}
use Rattle.terms.specs.Leaves.{numbered, variable}
use Rattle.terms.specs.Parsed.{Parsed, got, bad, mapped}
use Rattle.terms.specs.Trees.{trees, guard_trees}
use Rattle.terms.specs.Within.{VariableWithin, ExpressionWithin, GuardWithin}
use Rattle.terms.proofs.Gives.{Gives, gives_mapped, gives_put, gives_closed, gives_decimal, gives_series}

-- a letter's digit is below its limit
gives_numbered : (limit : ℕ) (s : Text) (at : ℕ) → Gives (λ n. n < limit) (numbered limit s at)
unfolding numbered
gives_numbered limit s at = go (ltb 0 limit) (digit (byte_at s (at + 1)))
  where
    below : (d : ℕ) (t : Bool) → ltb d limit ≡ t → Gives (λ n. n < limit) (elim t [ true ↦ got (at + 2) d | false ↦ bad at ])
    below d true e = ltb-true d limit e
    below d false e = tt

    go : (t : Bool) (o : Option ℕ) → Gives (λ n. n < limit) (elim t [
      | false ↦ bad at
      | true ↦ elim o [ None ↦ bad (at + 1) | Some d ↦ elim (ltb d limit) [ true ↦ got (at + 2) d | false ↦ bad at ] ]
    ])
    go false o = tt
    go true None = tt
    go true (Some d) = below d (ltb d limit) refl

-- a variable is below its limit
pub gives_variable : (lim : Limits) (s : Text) (at : ℕ) → Gives (VariableWithin lim) (variable lim s at)
unfolding variable VariableWithin
gives_variable lim s at = go (eqb (byte_at s at) (code "a")) (eqb (byte_at s at) (code "v"))
  where
    go : (a v : Bool) → Gives (VariableWithin lim) (elim a [
      | true ↦ mapped Attribute (numbered lim.attrs s at)
      | false ↦ elim v [ true ↦ mapped Local (numbered lim.locals s at) | false ↦ bad at ]
    ])
    go true v = gives_mapped _ _ Attribute _ (λ i h. h) (gives_numbered lim.attrs s at)
    go false true = gives_mapped _ _ Local _ (λ i h. h) (gives_numbered lim.locals s at)
    go false false = tt

-- a property that holds of each leaf, and that the operators keep
pub record Keeps {A : Type 0} (R : Reading A) (lim : Limits) (P : A → Type 0) : Type 0 where
  pub numbers : (n : ℕ) → n ≤ largest → P (R.number n)
  pub variables : (x : Variable) → VariableWithin lim x → P (R.variable x)
  pub selves : P R.self
  pub callers : P R.caller
  pub operators : (o : Operator) (a b : A) → P a → P b → P (R.apply o a b)

module _ {A : Type 0} {R : Reading A} {lim : Limits} {P : A → Type 0} (r : Keeps R lim P) (s : Text) where
  -- a factor's parts, where what is inside brackets has the property
  module _ (inside : ℕ → Parsed A) (insides : (at : ℕ) → Gives P (inside at)) where
    -- a factor by its start
    gives_start : (b : Start) (at : ℕ) → Gives P (factor_by R lim s b inside at)
    unfolding factor_by
    gives_start Start.Decimal at = gives_mapped _ P _ _ r.numbers (gives_decimal largest s at)
    gives_start Start.Variable at = gives_mapped _ P _ _ r.variables (gives_variable lim s at)
    gives_start Start.Itself at = gives_put P _ _ (λ _. r.selves)
    gives_start Start.Caller at = gives_put P _ _ (λ _. r.callers)
    gives_start Start.Opening at = insides at
    gives_start Start.Nothing at = tt

    -- a factor
    gives_factor : (at : ℕ) → Gives P (factor R lim s inside at)
    unfolding factor
    gives_factor at = gives_start (start_of (byte_at s at)) at

    -- products, sums, and a comparison of two
    gives_comparing : (at : ℕ) → Gives P (comparing R lim s inside at)
    unfolding comparing sum product
    gives_comparing =
        gives_series P comparison _ s _ r.operators
        (gives_series P sign _ s _ r.operators (gives_series P star _ s _ r.operators gives_factor (length s)) (length s))
        1

  -- every expression that is read has the property
  pub gives_expression : (left at : ℕ) → Gives P (expression R lim s left at)
  unfolding expression
  gives_expression zero = gives_comparing bad (λ at. tt)
  gives_expression (suc left) = gives_comparing _ (λ at. gives_closed P (code ")") s _ (gives_expression left (at + 1)))

-- the same for guards, with a property of the expressions in them
pub record GuardKeeps {A G : Type 0} (Q : GuardReading A G) (lim : Limits) (P : A → Type 0) (O : G → Type 0) : Type 0 where
  pub waits : O Q.wait
  pub replies : (x : Variable) → VariableWithin lim x → O (Q.reply x)
  pub tests : (a : A) → P a → O (Q.test a)
  pub junctions : (j : Junction) (a b : G) → O a → O b → O (Q.join j a b)

module _ {A G : Type 0} {R : Reading A} {Q : GuardReading A G} {lim : Limits} {P : A → Type 0} {O : G → Type 0}
    (r : Keeps R lim P) (q : GuardKeeps Q lim P O) (s : Text) where
  -- an atom's parts, where what is inside brackets has its property
  module _ (test : ℕ → Parsed A) (testing : (at : ℕ) → Gives P (test at)) (inside : ℕ → Parsed G) (insides : (at : ℕ) → Gives O (inside at)) where
    -- an atom by its start
    gives_atom_start : (b : AtomStart) (at : ℕ) → Gives O (atom_by R Q lim s b test inside at)
    unfolding atom_by
    gives_atom_start AtomStart.Wait at = gives_put O _ _ (λ _. q.waits)
    gives_atom_start AtomStart.Reply at = gives_mapped _ O _ _ q.replies (gives_closed _ (code "?") s _ (gives_variable lim s at))
    gives_atom_start AtomStart.Test at = gives_mapped P O _ _ q.tests (testing at)
    gives_atom_start AtomStart.Guard at = insides at
    gives_atom_start AtomStart.Nothing at = tt

    -- an atom
    gives_atom : (at : ℕ) → Gives O (atom R Q lim s test inside at)
    unfolding atom
    gives_atom at = gives_atom_start (atom_start_of (byte_at s at)) at

    -- conjunctions, and what joins them
    gives_disjunction : (at : ℕ) → Gives O (disjunction R Q lim s test inside at)
    unfolding disjunction conjunction
    gives_disjunction =
        gives_series O bar _ s _ q.junctions (gives_series O ampersand _ s _ q.junctions gives_atom (length s)) (length s)

  -- every guard that is read has the property
  pub gives_guard : (left at : ℕ) → Gives O (guard R Q lim s left at)
  unfolding guard
  gives_guard zero = gives_disjunction bad (λ at. tt) bad (λ at. tt)
  gives_guard (suc left) =
      gives_disjunction
      _ (λ at. gives_closed P (code "]") s _ (gives_expression r s left (at + 1)))
      _ (λ at. gives_closed O (code ")") s _ (gives_guard left (at + 1)))

-- the trees of expressions
pub trees_keep : (lim : Limits) → Keeps trees lim (ExpressionWithin lim)
unfolding ExpressionWithin
trees_keep lim = record { numbers = λ n h. h; variables = λ x h. h; selves = tt; callers = tt; operators = λ o a b p q. (p, q) }

-- the trees of guards
pub guard_trees_keep : (lim : Limits) → GuardKeeps guard_trees lim (ExpressionWithin lim) (GuardWithin lim)
unfolding GuardWithin
guard_trees_keep lim = record { waits = tt; replies = λ x h. h; tests = λ a h. h; junctions = λ j a b p q. (p, q) }
