-- Vocabulary of the code: what each reader of the code is to give, by any reading, and of a whole term its value. Assumes nothing.
use Prim.Native.Char.{code}
use Rattle.std.specs.Prelude.{ℕ}
use Rattle.whole.specs.Whole.{Worked}
use Rattle.layout.specs.Layout.{Cells}
use Rattle.terms.specs.declared.Around.{Around}
use Rattle.terms.specs.declared.Limits.{Limits}
use Rattle.terms.specs.Vocabulary.Answers.{surroundings}
use Rattle.terms.specs.Bytes.{Text}
use Rattle.terms.specs.Expressions.{Reading, factor, product, sum, expression}
use Rattle.terms.specs.Guards.{GuardReading, atom, conjunction, guard}
use Rattle.terms.specs.Parsed.{Parsed, opened}
use Rattle.terms.specs.Values.{values, guard_values}

-- the parts of an expression, by a reading
module _ {A : Type 0} (R : Reading A) (lim : Limits) (s : Text) where
  -- an expression in brackets, by the byte that closes them
  abbrev pub bracketed_at : ℕ → ℕ → ℕ → Parsed A
  bracketed_at b = opened b s (expression R lim s)

  module _ (left : ℕ) where
    abbrev pub factor_at : ℕ → Parsed A
    factor_at = factor R lim s (bracketed_at (code ")") left)

    abbrev pub product_at : ℕ → Parsed A
    product_at = product R lim s (bracketed_at (code ")") left)

    abbrev pub sum_at : ℕ → Parsed A
    sum_at = sum R lim s (bracketed_at (code ")") left)

-- the parts of a guard
module _ {A G : Type 0} (R : Reading A) (Q : GuardReading A G) (lim : Limits) (s : Text) (left : ℕ) where
  -- a guard in round brackets
  abbrev pub nested_at : ℕ → Parsed G
  nested_at = opened (code ")") s (guard R Q lim s) left

  abbrev pub atom_at : ℕ → Parsed G
  atom_at = atom R Q lim s (bracketed_at R lim s (code "]") left) nested_at

  abbrev pub conjunction_at : ℕ → Parsed G
  conjunction_at = conjunction R Q lim s (bracketed_at R lim s (code "]") left) nested_at

-- the values of an expression and a guard of a text, in what it is read, at a place, with so many brackets still allowed
module _ (c : Cells) (a : Around) (s : Text) where
  abbrev pub expression_read : ℕ → ℕ → Parsed Worked
  expression_read = expression (values (surroundings c a.here)) a.limits s

  abbrev pub guard_read : ℕ → ℕ → Parsed Worked
  guard_read = guard (values (surroundings c a.here)) (guard_values (surroundings c a.here)) a.limits s

  -- an expression in brackets, by the byte that closes them
  abbrev pub inside_read : ℕ → ℕ → ℕ → Parsed Worked
  inside_read = bracketed_at (values (surroundings c a.here)) a.limits s
