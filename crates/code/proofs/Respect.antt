-- A map which respects the operations respects the reading of code values: the statement read with its values worked out is the statement
-- of the trees read, worked out. Assumes nothing.
use Rattle.std.specs.Prelude.{Option, None, Some}
use Prim.Native.Nat.{ℕ, ◌+◌}
use Prim.Native.Char.{code}
use mathlib.Core.Bool.{Bool, true, false}
use mathlib.Core.List.{List, [], ◌∷◌, ◌++◌, map}
use mathlib.Core.Path.{◌≡◌, refl, sym, ap, ◌∙◌}
use lib.Dec.{eqb}
use lib.ListN.{length}
use Rattle.terms.specs.Bytes.{Text, byte_at}
use Rattle.terms.specs.Expressions.{Reading, brackets}
use Rattle.terms.specs.Guards.{GuardReading}
use Rattle.terms.specs.declared.Limits.{Limits}
use Rattle.terms.specs.Leaves.{decimal}
use Rattle.terms.specs.Parsed.{got, bad, next, mapped, word, ended, closed, repeated, joining}
use Rattle.terms.specs.Trees.{trees, guard_trees}
use Rattle.terms.specs.Values.{Surroundings, values, guard_values, value_of, guard_of}
use Rattle.terms.proofs.Following.{mapped_mapped, mapped_twice, mapped_got, mapped_bad, next_same, mapped_next, respects_next, respects_closed, respects_ended, respects_joining}
use Rattle.terms.proofs.Respect.{Respects, GuardRespects, respects_expression, respects_guard, fold_respects, fold_guard_respects}
use Rattle.code.specs.declared.Form.{Form}
use Rattle.code.specs.Statements.{Statement, skip, set, new, call, get, await, if, else, fi, while, od, return, map_statement}
use Rattle.code.specs.Reader.{word_of, form_of, last_method, arguments_after, comma, operand, listed, arguments, target, rest, statement}

map_append : {A B : Type 0} (h : A → B) (s t : List A) → map h (s ++ t) ≡ map h s ++ map h t
map_append h [] t = refl
map_append h (a ∷ s) t = ap (h a ∷◌) (map_append h s t)

module _ {A B G H : Type 0} {R : Reading A} {S : Reading B} {Q : GuardReading A G} {P : GuardReading B H} {h : A → B} {k : G → H}
    (r : Respects R S h) (q : GuardRespects Q P h k) (lim : Limits) (classes : ℕ) (s : Text) where
  respects_operand : (at : ℕ) → mapped h (operand R Q lim classes s at) ≡ operand S P lim classes s at
  unfolding operand
  respects_operand = respects_expression r lim s brackets

  respects_listed : (more at : ℕ) → mapped (map h) (listed R Q lim classes s more at) ≡ listed S P lim classes s more at
  unfolding listed
  respects_listed more at =
      respects_next h (map h) (operand R Q lim classes s at) _ (λ p b. repeated (joining comma (λ _ es e. es ++ (e ∷ [])) s (operand S P lim classes s)) more p (b ∷ []))
      (λ p a. respects_joining (map h) h comma _ (λ _ es e. es ++ (e ∷ [])) s (λ _ es e. map_append h es (e ∷ [])) _ _ respects_operand more p (a ∷ []))
      ∙ ap (λ q. next q (λ p b. repeated (joining comma (λ _ es e. es ++ (e ∷ [])) s (operand S P lim classes s)) more p (b ∷ []))) (respects_operand at)

  respects_arguments : (more at : ℕ) → mapped (map h) (arguments R Q lim classes s more at) ≡ arguments S P lim classes s more at
  unfolding arguments
  respects_arguments more at = go (eqb (byte_at s at) (code " "))
    where
      go : (b : Bool) → mapped (map h) (elim b [ true ↦ listed R Q lim classes s more (at + 1) | false ↦ got at [] ])
          ≡ elim b [ true ↦ listed S P lim classes s more (at + 1) | false ↦ got at [] ]
      go true = respects_listed more (at + 1)
      go false = mapped_got (map h) at []

  -- one operand, and what a form makes of it
  respects_one : (f : A → Statement A G) (g : B → Statement B H) → ((a : A) → map_statement h k (f a) ≡ g (h a))
      → (at : ℕ) → mapped (map_statement h k) (mapped f (operand R Q lim classes s at)) ≡ mapped g (operand S P lim classes s at)
  respects_one f g e at =
      mapped_twice (map_statement h k) f (λ a. g (h a)) e _ ∙ sym (mapped_mapped g h _) ∙ ap (mapped g) (respects_operand at)

  -- a list of arguments, and what a form makes of it
  respects_many : (f : List A → Statement A G) (g : List B → Statement B H) → ((es : List A) → map_statement h k (f es) ≡ g (map h es))
      → (more at : ℕ) → mapped (map_statement h k) (mapped f (arguments R Q lim classes s more at)) ≡ mapped g (arguments S P lim classes s more at)
  respects_many f g e more at =
      mapped_twice (map_statement h k) f (λ es. g (map h es)) e _ ∙ sym (mapped_mapped g (map h) _) ∙ ap (mapped g) (respects_arguments more at)

  respects_rest : (f : Form) (at : ℕ) → mapped (map_statement h k) (rest R Q lim classes s f at) ≡ rest S P lim classes s f at
  unfolding rest target map_statement
  respects_rest Form.Skip at = mapped_got _ at skip
  respects_rest Form.Set at = mapped_next _ _ _ ∙ next_same _ _ _ (λ p x. respects_one (set x) (set x) (λ a. refl) p)
  respects_rest Form.New at =
      mapped_next _ _ _ ∙ next_same _ _ _ (λ p x.
      mapped_next _ _ _ ∙ next_same _ _ _ (λ n j. respects_many (new x j) (new x j) (λ es. refl) (length s) n))
  respects_rest Form.Call at =
      mapped_next _ _ _ ∙ next_same _ _ _ (λ p x.
      respects_next h _ _ _ (λ n b. next (decimal last_method s n) (λ i j. mapped (call x b j) (arguments S P lim classes s arguments_after i)))
      (λ n a. mapped_next _ _ _ ∙ next_same _ _ _ (λ i j. respects_many (call x a j) (call x (h a) j) (λ es. refl) arguments_after i))
      ∙ ap (λ t. next t (λ n b. next (decimal last_method s n) (λ i j. mapped (call x b j) (arguments S P lim classes s arguments_after i))))
      (respects_closed h (code " ") s _ ∙ ap (closed (code " ") s) (respects_operand p)))
  respects_rest Form.Get at = mapped_next _ _ _ ∙ next_same _ _ _ (λ p x. mapped_twice _ (get x) (get x) (λ y. refl) _)
  respects_rest Form.Await at =
      mapped_twice _ await (λ g. await (k g)) (λ g. refl) _ ∙ sym (mapped_mapped await k _) ∙ ap (mapped await) (respects_guard r q lim s brackets at)
  respects_rest Form.If at = respects_one if if (λ a. refl) at
  respects_rest Form.Else at = mapped_got _ at else
  respects_rest Form.Fi at = mapped_got _ at fi
  respects_rest Form.While at = respects_one while while (λ a. refl) at
  respects_rest Form.Od at = mapped_got _ at od
  respects_rest Form.Return at = respects_one return return (λ a. refl) at

  -- a whole code value
  pub respects_statement : mapped (map_statement h k) (statement R Q lim classes s) ≡ statement S P lim classes s
  unfolding statement
  respects_statement = go (form_of s)
    where
      go : (o : Option Form) → mapped (map_statement h k) (elim o [ None ↦ bad 0 | Some f ↦ ended s (next (word (word_of f) s 0) (λ at _. rest R Q lim classes s f at)) ])
          ≡ elim o [ None ↦ bad 0 | Some f ↦ ended s (next (word (word_of f) s 0) (λ at _. rest S P lim classes s f at)) ]
      go None = mapped_bad _ 0
      go (Some f) =
          respects_ended (map_statement h k) s _
          ∙ ap (ended s) (mapped_next (map_statement h k) (word (word_of f) s 0) _ ∙ next_same (word (word_of f) s 0) _ _ (λ at _. respects_rest f at))

-- the statement read with its values worked out directly is the statement of trees, worked out
pub statement_of_tree : (e : Surroundings) (lim : Limits) (classes : ℕ) (s : Text)
    → mapped (map_statement (value_of e) (guard_of e)) (statement trees guard_trees lim classes s) ≡ statement (values e) (guard_values e) lim classes s
unfolding value_of guard_of
statement_of_tree e lim classes s = respects_statement (fold_respects (values e)) (fold_guard_respects (values e) (guard_values e)) lim classes s
