-- Whatever code value is read: its variables are below their limits, its decimals, class, method and arguments in range. Assumes nothing.
use Rattle.std.specs.Prelude.{Option, None, Some}
use Prim.Native.Nat.{ℕ, ◌+◌, ◌-◌, ◌≤◌, ◌<◌}
use Prim.Native.Char.{code}
use mathlib.Core.Bool.{Bool, true, false}
use mathlib.Core.List.{List, [], ◌∷◌, ◌++◌}
use native.Mathlib.Omega.{arith}
use lib.Dec.{eqb}
use lib.ListN.{length, length-append}
use Rattle.whole.specs.Lists.{Every}
use Rattle.terms.specs.declared.Limits.{Limits}
use Rattle.terms.specs.Bytes.{Text, byte_at}
use Rattle.terms.specs.Expressions.{brackets}
use Rattle.terms.specs.Parsed.{got, bad, next, word, ended}
use Rattle.terms.specs.Trees.{Expression, trees, guard_trees}
use Rattle.terms.specs.Within.{VariableWithin, ExpressionWithin}
use Rattle.terms.proofs.Gives.{Gives, gives_then, gives_mapped, gives_next, gives_closed, gives_ended, gives_decimal, gives_joining}
use Rattle.terms.proofs.ReadWithin.{gives_variable, gives_expression, gives_guard, trees_keep, guard_trees_keep}
use Rattle.code.specs.declared.Form.{Form}
use Rattle.code.specs.Reader.{word_of, form_of, comma, last_method, arguments_after, operand, listed, arguments, target, rest, statement}
use Rattle.code.specs.Statements.{set, new, call, get, await, if, while, return}
use Rattle.code.specs.Within.{CodeWithin}

-- one item more
every_append : {A : Type 0} (P : A → Type 0) (xs : List A) (x : A) → Every P xs → P x → Every P (xs ++ (x ∷ []))
unfolding Every
every_append P [] x h p = (p, tt)
every_append P (y ∷ xs) x h p = (h.0, every_append P xs x h.1 p)

-- so many arguments at most, each within the limits
abbrev Arguments : Limits → ℕ → List Expression → Type 0
Arguments lim most es = (length es ≤ most) × Every (ExpressionWithin lim) es

module _ (lim : Limits) (classes : ℕ) (s : Text) where
  -- an expression
  gives_operand : (at : ℕ) → Gives (ExpressionWithin lim) (operand trees guard_trees lim classes s at)
  unfolding operand
  gives_operand = gives_expression (trees_keep lim) s brackets

  -- a list, with at most so many after the first
  gives_listed : (more at : ℕ) → Gives (Arguments lim (more + 1)) (listed trees guard_trees lim classes s more at)
  unfolding listed
  gives_listed more at =
      gives_then (ExpressionWithin lim) (Arguments lim (more + 1)) _ _ (gives_operand at) (λ p e h.
      gives_joining
      (λ left es. (length es + left ≤ more + 1) × Every (ExpressionWithin lim) es) (ExpressionWithin lim) (Arguments lim (more + 1))
      comma _ s _ gives_operand
      (λ left o es a k i. (omega (arith, k.0, length-append es (a ∷ [])), every_append _ es a k.1 i))
      (λ left es k. (omega (arith, k.0), k.1))
      more p (e ∷ []) (omega arith, unfold Every in (h, tt)))

  -- a list, or none
  gives_arguments : (more at : ℕ) → Gives (Arguments lim (more + 1)) (arguments trees guard_trees lim classes s more at)
  unfolding arguments
  gives_arguments more at = go (eqb (byte_at s at) (code " "))
    where
      go : (t : Bool) → Gives (Arguments lim (more + 1)) (elim t [ true ↦ listed trees guard_trees lim classes s more (at + 1) | false ↦ got at [] ])
      go true = gives_listed more (at + 1)
      go false = (omega arith, unfold Every in tt)

  -- a variable and a space
  gives_target : (at : ℕ) → Gives (VariableWithin lim) (target trees guard_trees lim classes s at)
  unfolding target
  gives_target at = gives_closed _ (code " ") s _ (gives_variable lim s at)

  -- what follows the word of each form, where there is a class
  module _ (some-class : 0 < classes) where
    -- each form
    gives_rest : (f : Form) (at : ℕ) → Gives (CodeWithin lim classes) (rest trees guard_trees lim classes s f at)
    unfolding rest CodeWithin
    gives_rest Form.Skip at = tt
    gives_rest Form.Set at = gives_then _ _ _ _ (gives_target at) (λ p x h. gives_mapped _ _ (set x) _ (λ e i. (h, i)) (gives_operand p))
    gives_rest Form.New at = gives_then _ _ _ _ (gives_target at) (λ p x h. gives_then _ _ _ _ (gives_decimal (classes - 1) s p) (λ q k b.
        gives_mapped _ _ (new x k) _ (λ es i. (h, omega arith, i.1)) (gives_arguments (length s) q)))
    gives_rest Form.Call at = gives_then _ _ _ _ (gives_target at) (λ p x h. gives_then _ _ _ _ (gives_closed _ (code " ") s _ (gives_operand p)) (λ q e i.
        gives_then _ _ _ _ (gives_decimal last_method s q) (λ r j b. gives_mapped _ _ (call x e j) _ (λ es k. (h, i, b, k.0, k.1)) (gives_arguments arguments_after r))))
    gives_rest Form.Get at = gives_then _ _ _ _ (gives_target at) (λ p x h. gives_mapped _ _ (get x) _ (λ y i. (h, i)) (gives_variable lim s p))
    gives_rest Form.Await at = gives_mapped _ _ await _ (λ g i. i) (gives_guard (trees_keep lim) (guard_trees_keep lim) s brackets at)
    gives_rest Form.If at = gives_mapped _ _ if _ (λ e i. i) (gives_operand at)
    gives_rest Form.Else at = tt
    gives_rest Form.Fi at = tt
    gives_rest Form.While at = gives_mapped _ _ while _ (λ e i. i) (gives_operand at)
    gives_rest Form.Od at = tt
    gives_rest Form.Return at = gives_mapped _ _ return _ (λ e i. i) (gives_operand at)

    -- a whole code value
    pub gives_statement : Gives (CodeWithin lim classes) (statement trees guard_trees lim classes s)
    unfolding statement
    gives_statement = go (form_of s)
      where
        go : (o : Option Form)
            → Gives (CodeWithin lim classes) (elim o [ None ↦ bad 0 | Some f ↦ ended s (next (word (word_of f) s 0) (λ at _. rest trees guard_trees lim classes s f at)) ])
        go None = tt
        go (Some f) = gives_ended _ s _ (gives_next _ (word (word_of f) s 0) _ (λ at _. gives_rest f at))
