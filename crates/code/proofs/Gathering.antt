-- A list of arguments as the code gathers it: one more after some is one more. Assumes nothing.
use Rattle.std.specs.Prelude.{None, Some}
use Prim.Native.Nat.{ℕ, ◌+◌}
use mathlib.Core.List.{List, [], ◌∷◌, ◌++◌}
use mathlib.Core.Path.{◌≡◌, refl, ap, ◌∙◌}
use borrow.Author.Tests.{eq-eqb, ne_eqb}
use Rattle.whole.specs.Whole.{Worked}
use Rattle.terms.specs.declared.Limits.{Limits}
use Rattle.terms.specs.Bytes.{Text, byte_at}
use Rattle.terms.specs.Vocabulary.Answers.{surroundings}
use Rattle.terms.specs.Expressions.{Reading}
use Rattle.terms.specs.Guards.{GuardReading}
use Rattle.terms.specs.Parsed.{Parsed, got, bad, mapped, repeated, joining}
use Rattle.terms.specs.Values.{values, guard_values}
use Rattle.terms.proofs.Following.{respects_joining, mapped_id, mapped_got, mapped_bad}
use Rattle.code.specs.declared.Arguments.{Arguments}
use Rattle.code.specs.Vocabulary.Answers.{no_arguments, with_one, gathered}
use Rattle.code.proofs.Ending.{after_got, after_bad}
use Rattle.code.specs.Reader as Grammar
use Rattle.code.specs.Vocabulary.Parts as Parts
use Rattle.code.specs.declared.statements.Reader.{Reader}

pub gathered_more : (a : Arguments) (ws : List Worked) (w : Worked) → gathered a (ws ++ (w ∷ [])) ≡ with_one (gathered a ws) w
unfolding gathered
gathered_more a [] w = refl
gathered_more a (v ∷ ws) w = gathered_more (with_one a v) ws w

gathered_none : (a : Arguments) → gathered a [] ≡ a
unfolding gathered
gathered_none a = refl

-- the list that is read, gathered, is what is gathered while it is read
pub gathers : (a : Arguments) (s : Text) (item : ℕ → Parsed Worked) (more at : ℕ) (ws : List Worked)
    → mapped (gathered a) (repeated (joining Grammar.comma (λ _ es e. es ++ (e ∷ [])) s item) more at ws)
    ≡ repeated (joining Grammar.comma (λ _. with_one) s item) more at (gathered a ws)
gathers a s item =
    respects_joining (gathered a) (λ e. e) Grammar.comma (λ _ es e. es ++ (e ∷ [])) (λ _. with_one) s (λ _. gathered_more a) item item (λ at. mapped_id (item at))

-- one more is one more
pub one_more_lem : (a : Arguments) (w : Worked) (r : Arguments) → r ≡ with_one a w → r.count ≡ a.count + 1
unfolding with_one
one_more_lem a (Some z) r e = ap (λ (x : Arguments). x.count) e
one_more_lem a None r e = ap (λ (x : Arguments). x.count) e

-- a comma, or none
module _ (b : ℕ) where
  pub comma_some : b ≡ 44 → Grammar.comma b ≡ Some tt
  unfolding Grammar.comma
  comma_some e = ap Grammar.comma e

  pub comma_none : (b ≡ 44 → ⊥) → Grammar.comma b ≡ None
  unfolding Grammar.comma
  comma_none n = rw (ne_eqb b 44 n, Grammar.comma)

-- the number of classes does not bear on arguments
pub any_classes : {A G : Type 0} (R : Reading A) (Q : GuardReading A G) (lim : Limits) (classes : ℕ) (s : Text) (more at : ℕ)
    → Grammar.arguments R Q lim classes s more at ≡ Grammar.arguments R Q lim 0 s more at
unfolding Grammar.arguments Grammar.listed Grammar.operand
any_classes R Q lim classes s more at = refl

-- a space and a list, by what the code finds
module _ (r : Reader) (most at : ℕ) where
  list_read : ℕ → Parsed (List Worked)
  list_read = Grammar.arguments (values (surroundings r.cells.now r.around.here)) (guard_values (surroundings r.cells.now r.around.here)) r.around.limits r.classes r.text.now most

  unspaced : (byte_at r.text.now at ≡ 32 → ⊥) → list_read at ≡ got at []
  unfolding list_read Grammar.arguments
  unspaced n = rw (ne_eqb (byte_at r.text.now at) 32 n, Grammar.arguments)

  pub arguments_none : (byte_at r.text.now at ≡ 32 → ⊥) → Parts.arguments r most at ≡ got at no_arguments
  unfolding list_read
  arguments_none n = ap (mapped (gathered no_arguments)) (unspaced n) ∙ mapped_got (gathered no_arguments) at [] ∙ ap (got at) (gathered_none no_arguments)

  module _ (e : byte_at r.text.now at ≡ 32) (p : ℕ) where
    spaced : list_read at ≡ Grammar.listed (values (surroundings r.cells.now r.around.here)) (guard_values (surroundings r.cells.now r.around.here)) r.around.limits r.classes r.text.now most (at + 1)
    unfolding list_read Grammar.arguments
    spaced = rw (eq-eqb (byte_at r.text.now at) 32 e, Grammar.arguments)

    pub arguments_bad : Parts.expression r (at + 1) ≡ bad p → Parts.arguments r most at ≡ bad p
    unfolding list_read Grammar.listed Grammar.operand
    arguments_bad f = ap (mapped (gathered no_arguments)) (spaced ∙ after_bad _ p _ f) ∙ mapped_bad (gathered no_arguments) p

    pub arguments_got : (w : Worked) → Parts.expression r (at + 1) ≡ got p w → Parts.arguments r most at ≡ Parts.more_arguments r most p (with_one no_arguments w)
    unfolding list_read Grammar.listed Grammar.operand
    arguments_got w f =
        ap (mapped (gathered no_arguments)) (spaced ∙ after_got _ p w _ f)
        ∙ gathers no_arguments r.text.now _ most p (w ∷ [])
        ∙ ap (Parts.more_arguments r most p) (gathered_more no_arguments [] w ∙ ap (λ b. with_one b w) (gathered_none no_arguments))
