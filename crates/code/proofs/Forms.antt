-- The form of a code value, by the tests that the code makes. Assumes nothing.
use Rattle.std.specs.Prelude.{None, Some}
use Prim.Native.Nat.{ℕ}
use mathlib.Core.Path.{◌≡◌}
use borrow.Author.Tests.{eq-eqb, ne_eqb}
use Rattle.terms.specs.declared.Limits.{Limits}
use Rattle.terms.specs.Bytes.{Text, byte_at}
use Rattle.terms.specs.Expressions.{Reading}
use Rattle.terms.specs.Guards.{GuardReading}
use Rattle.terms.specs.Parsed.{bad, next, word, ended}
use Rattle.code.specs.declared.Form.{Form}
use Rattle.code.specs.Reader.{beginning, initials, form_of, word_of, rest, statement}

-- a byte that begins none of the forms
pub beginning_none : (b : ℕ) → (b ≡ 110 → ⊥) → (b ≡ 99 → ⊥) → (b ≡ 103 → ⊥) → (b ≡ 97 → ⊥) → (b ≡ 105 → ⊥) → (b ≡ 101 → ⊥) → (b ≡ 102 → ⊥) → (b ≡ 119 → ⊥) → (b ≡ 111 → ⊥) → (b ≡ 114 → ⊥)
    → beginning b initials ≡ None
unfolding beginning
beginning_none b n c g a i e f w o r =
    rw (ne_eqb b 110 n, ne_eqb b 99 c, ne_eqb b 103 g, ne_eqb b 97 a, ne_eqb b 105 i, ne_eqb b 101 e, ne_eqb b 102 f, ne_eqb b 119 w, ne_eqb b 111 o, ne_eqb b 114 r, beginning)

module _ (s : Text) where
  pub form_other : (byte_at s 0 ≡ 115 → ⊥) → form_of s ≡ beginning (byte_at s 0) initials
  unfolding form_of
  form_other n = rw (ne_eqb (byte_at s 0) 115 n, form_of)

  pub form_skip : byte_at s 0 ≡ 115 → byte_at s 1 ≡ 107 → form_of s ≡ Some Form.Skip
  unfolding form_of
  form_skip e f = rw (eq-eqb (byte_at s 0) 115 e, eq-eqb (byte_at s 1) 107 f, form_of)

  pub form_set : byte_at s 0 ≡ 115 → (byte_at s 1 ≡ 107 → ⊥) → form_of s ≡ Some Form.Set
  unfolding form_of
  form_set e n = rw (eq-eqb (byte_at s 0) 115 e, ne_eqb (byte_at s 1) 107 n, form_of)

-- a code value, by its form
module _ {A G : Type 0} (R : Reading A) (Q : GuardReading A G) (lim : Limits) (classes : ℕ) (s : Text) where
  pub statement_none : form_of s ≡ None → statement R Q lim classes s ≡ bad 0
  unfolding statement
  statement_none e = rw (e, statement)

  pub statement_some : (f : Form) → form_of s ≡ Some f
      → statement R Q lim classes s ≡ ended s (next (word (word_of f) s 0) (λ at _. rest R Q lim classes s f at))
  unfolding statement
  statement_some f e = rw (e, statement)
