-- A `new` names one of the classes, and has at most one argument more than its text has bytes. Assumes nothing.
use Rattle.std.specs.Prelude.{Option, None, Some}
use Prim.Native.Nat.{ℕ, ◌+◌, ◌-◌, ◌≤◌, ◌<◌}
use Prim.Native.Char.{code}
use mathlib.Core.Bool.{Bool, true, false}
use mathlib.Core.List.{List, [], ◌∷◌}
use mathlib.Core.Path.{◌≡◌, refl, ap}
use native.Mathlib.Omega.{arith}
use lib.Dec.{eqb}
use lib.ListN.{length, length-append}
use Rattle.terms.specs.declared.Limits.{Limits}
use Rattle.terms.specs.Bytes.{Text, byte_at}
use Rattle.terms.specs.Expressions.{Reading}
use Rattle.terms.specs.Guards.{GuardReading}
use Rattle.terms.specs.Parsed.{Parsed, got, bad, next, mapped, word, ended}
use Rattle.terms.proofs.Gives.{Gives, gives_of, gives_then, gives_mapped, gives_any, gives_next, gives_decimal, gives_ended, gives_joining}
use Rattle.code.specs.declared.Form.{Form}
use Rattle.code.specs.Statements.{new_of, Statement, skip, set, new, call, get, await, if, else, fi, while, od, return}
use Rattle.code.specs.Reader.{word_of, form_of, comma, operand, listed, arguments, rest, statement}

module _ {A G : Type 0} (R : Reading A) (Q : GuardReading A G) (lim : Limits) (classes : ℕ) (s : Text) where
  gives_listed : (more at : ℕ) → Gives (λ (es : List A). length es ≤ more + 1) (listed R Q lim classes s more at)
  unfolding listed
  gives_listed more at =
      gives_next _ (operand R Q lim classes s at) _ (λ p a.
      gives_joining (λ left (es : List A). length es + left ≤ more + 1) (λ _. Unit {0}) (λ es. length es ≤ more + 1) comma _ s (operand R Q lim classes s)
      (λ at. gives_any (operand R Q lim classes s at))
      (λ left o es e h _. omega (arith, length-append es (e ∷ [])))
      (λ left es h. omega arith)
      more p (a ∷ []) (omega arith))

  gives_arguments : (more at : ℕ) → Gives (λ (es : List A). length es ≤ more + 1) (arguments R Q lim classes s more at)
  unfolding arguments
  gives_arguments more at = go (eqb (byte_at s at) (code " "))
    where
      go : (t : Bool) → Gives (λ (es : List A). length es ≤ more + 1) (elim t [ true ↦ listed R Q lim classes s more (at + 1) | false ↦ got at [] ])
      go true = gives_listed more (at + 1)
      go false = omega arith

  -- a statement that is a `new` names one of the classes, and has at most one argument more than the text has bytes
  abbrev Small : Statement A G → Type 0
  Small st = (m : ℕ × ℕ) → new_of st ≡ Some m → (m.0 ≤ classes - 1) × (m.1 ≤ length s + 1)

  no_new : (st : Statement A G) → new_of st ≡ None → Small st
  no_new st e m f = absurd (let z : ◌≡◌ {A = ℕ} 0 1 = cc in omega arith)

  one_new : (st : Statement A G) (k l : ℕ) → new_of st ≡ Some (k, l) → k ≤ classes - 1 → l ≤ length s + 1 → Small st
  one_new st k l e b h m f =
      let g : (k, l) ≡ m = cc in
      let y : k ≡ m.0 = ap (λ (x : ℕ × ℕ). x.0) g in
      let z : l ≡ m.1 = ap (λ (x : ℕ × ℕ). x.1) g in
      (omega arith, omega arith)

  -- a form that is no `new`
  gives_none : {B : Type 0} (f : B → Statement A G) (q : Parsed B) → ((b : B) → new_of (f b) ≡ None) → Gives Small (mapped f q)
  gives_none {B} f q e = gives_mapped (λ _. Unit) Small f q (λ b _. no_new (f b) (e b)) (gives_any q)

  gives_rest : (f : Form) (at : ℕ) → Gives Small (rest R Q lim classes s f at)
  unfolding rest new_of
  gives_rest Form.Skip at = no_new skip refl
  gives_rest Form.Set at = gives_next _ _ _ (λ p x. gives_none (set x) _ (λ a. refl))
  gives_rest Form.New at = gives_next _ _ _ (λ p x. gives_then _ _ _ _ (gives_decimal (classes - 1) s p) (λ q k b.
      gives_mapped (λ (es : List A). length es ≤ length s + 1) _ (new x k) _ (λ es h. one_new (new x k es) k (length es) refl b h) (gives_arguments (length s) q)))
  gives_rest Form.Call at = gives_next _ _ _ (λ p x. gives_next _ _ _ (λ q a. gives_next _ _ _ (λ r j. gives_none (call x a j) _ (λ es. refl))))
  gives_rest Form.Get at = gives_next _ _ _ (λ p x. gives_none (get x) _ (λ y. refl))
  gives_rest Form.Await at = gives_none await _ (λ g. refl)
  gives_rest Form.If at = gives_none if _ (λ a. refl)
  gives_rest Form.Else at = no_new else refl
  gives_rest Form.Fi at = no_new fi refl
  gives_rest Form.While at = gives_none while _ (λ a. refl)
  gives_rest Form.Od at = no_new od refl
  gives_rest Form.Return at = gives_none return _ (λ a. refl)

  gives_statement : Gives Small (statement R Q lim classes s)
  unfolding statement
  gives_statement = go (form_of s)
    where
      go : (o : Option Form)
          → Gives Small (elim o [ None ↦ bad 0 | Some f ↦ ended s (next (word (word_of f) s 0) (λ at _. rest R Q lim classes s f at)) ])
      go None = tt
      go (Some f) = gives_ended _ s _ (gives_next _ (word (word_of f) s 0) _ (λ at _. gives_rest f at))

-- a `new` that was read: its class, and how many arguments it has
module _ {A G : Type 0} (R : Reading A) (Q : GuardReading A G) (lim : Limits) (classes : ℕ) (s : Text) (p : ℕ) (st : Statement A G) (n : ℕ × ℕ)
    (e : statement R Q lim classes s ≡ got p st) (f : new_of st ≡ Some n) where
  small : (n.0 ≤ classes - 1) × (n.1 ≤ length s + 1)
  small = gives_of _ _ p st e (gives_statement R Q lim classes s) n f

  pub new_class : 0 < classes → n.0 < classes
  new_class h = omega (arith, small.0)

  pub new_count : n.1 ≤ length s + 1
  new_count = small.1
