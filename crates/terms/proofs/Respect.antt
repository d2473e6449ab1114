-- A map which respects the operations respects reading; so the value read directly is the value of the tree read. Assumes nothing.
use Prim.Native.Nat.{ℕ, zero, suc, ◌+◌}
use Prim.Native.Char.{code}
use mathlib.Core.Path.{◌≡◌, refl, sym, ap, ◌∙◌}
use lib.ListN.{length}
use Rattle.whole.specs.declared.Operator.{Operator}
use Rattle.terms.specs.declared.Start.{Start}
use Rattle.terms.specs.declared.Variable.{Variable}
use Rattle.terms.specs.Bytes.{Text, byte_at}
use Rattle.terms.specs.declared.Limits.{Limits}
use Rattle.terms.specs.Parsed.{Parsed, bad, mapped, closed}
use Rattle.terms.specs.Expressions.{Reading, start_of, star, sign, comparison, factor_by, factor, product, sum, comparing, expression}
use Rattle.terms.specs.declared.AtomStart.{AtomStart}
use Rattle.terms.specs.declared.Junction.{Junction}
use Rattle.terms.specs.Guards.{GuardReading, atom_start_of, ampersand, bar, atom_by, atom, conjunction, disjunction, guard}
use Rattle.terms.specs.Trees.{trees, guard_trees, fold, fold_guard}
use Rattle.terms.specs.Vocabulary.Nothing.{nothing, guard_nothing}
use Rattle.terms.specs.Values.{Surroundings, values, guard_values, value_of, guard_of}
use Rattle.terms.proofs.Following.{mapped_mapped, mapped_twice, mapped_bad, respects_closed, respects_series}

-- a map from what one reading gives to what another gives, which respects each operation
pub record Respects {A B : Type 0} (R : Reading A) (S : Reading B) (h : A → B) : Type 0 where
  pub numbers : (n : ℕ) → h (R.number n) ≡ S.number n
  pub variables : (x : Variable) → h (R.variable x) ≡ S.variable x
  pub selves : h R.self ≡ S.self
  pub callers : h R.caller ≡ S.caller
  pub operators : (o : Operator) (a b : A) → h (R.apply o a b) ≡ S.apply o (h a) (h b)

module _ {A B : Type 0} {R : Reading A} {S : Reading B} {h : A → B} (r : Respects R S h) (lim : Limits) (s : Text) where
  -- a factor's parts, where the two readings of what is inside brackets agree
  module _ (inside : ℕ → Parsed A) (inside' : ℕ → Parsed B) (insides : (at : ℕ) → mapped h (inside at) ≡ inside' at) where
    respects_start : (b : Start) (at : ℕ) → mapped h (factor_by R lim s b inside at) ≡ factor_by S lim s b inside' at
    unfolding factor_by
    respects_start Start.Decimal at = mapped_twice h _ _ r.numbers _
    respects_start Start.Variable at = mapped_twice h _ _ r.variables _
    respects_start Start.Itself at = mapped_twice h _ _ (λ _. r.selves) _
    respects_start Start.Caller at = mapped_twice h _ _ (λ _. r.callers) _
    respects_start Start.Opening at = insides at
    respects_start Start.Nothing at = mapped_bad h at

    respects_factor : (at : ℕ) → mapped h (factor R lim s inside at) ≡ factor S lim s inside' at
    unfolding factor
    respects_factor at = respects_start (start_of (byte_at s at)) at

    respects_comparing : (at : ℕ) → mapped h (comparing R lim s inside at) ≡ comparing S lim s inside' at
    unfolding comparing sum product
    respects_comparing =
        respects_series h comparison _ _ s r.operators _ _
        (respects_series h sign _ _ s r.operators _ _
        (respects_series h star _ _ s r.operators _ _ respects_factor (length s))
        (length s))
        1

  -- what one reading gives, mapped, is what the other gives
  pub respects_expression : (left at : ℕ) → mapped h (expression R lim s left at) ≡ expression S lim s left at
  unfolding expression
  respects_expression zero = respects_comparing bad bad (mapped_bad h)
  respects_expression (suc left) =
      respects_comparing _ _
      (λ at. respects_closed h (code ")") s _ ∙ ap (closed (code ")") s) (respects_expression left (at + 1)))

-- the same for guards, with a map for the expressions in them
pub record GuardRespects {A B G H : Type 0} (Q : GuardReading A G) (P : GuardReading B H) (h : A → B) (k : G → H) : Type 0 where
  pub waits : k Q.wait ≡ P.wait
  pub replies : (x : Variable) → k (Q.reply x) ≡ P.reply x
  pub tests : (a : A) → k (Q.test a) ≡ P.test (h a)
  pub junctions : (j : Junction) (a b : G) → k (Q.join j a b) ≡ P.join j (k a) (k b)

module _ {A B G H : Type 0} {R : Reading A} {S : Reading B} {Q : GuardReading A G} {P : GuardReading B H} {h : A → B} {k : G → H}
    (r : Respects R S h) (q : GuardRespects Q P h k) (lim : Limits) (s : Text) where
  module _ (test : ℕ → Parsed A) (test' : ℕ → Parsed B) (testing : (at : ℕ) → mapped h (test at) ≡ test' at)
      (inside : ℕ → Parsed G) (inside' : ℕ → Parsed H) (insides : (at : ℕ) → mapped k (inside at) ≡ inside' at) where
    respects_atom_start : (b : AtomStart) (at : ℕ) → mapped k (atom_by R Q lim s b test inside at) ≡ atom_by S P lim s b test' inside' at
    unfolding atom_by
    respects_atom_start AtomStart.Wait at = mapped_twice k _ _ (λ _. q.waits) _
    respects_atom_start AtomStart.Reply at = mapped_twice k _ _ q.replies _
    respects_atom_start AtomStart.Test at =
        mapped_twice k _ _ q.tests _ ∙ sym (mapped_mapped P.test h (test at)) ∙ ap (mapped P.test) (testing at)
    respects_atom_start AtomStart.Guard at = insides at
    respects_atom_start AtomStart.Nothing at = mapped_bad k at

    respects_atom : (at : ℕ) → mapped k (atom R Q lim s test inside at) ≡ atom S P lim s test' inside' at
    unfolding atom
    respects_atom at = respects_atom_start (atom_start_of (byte_at s at)) at

    respects_disjunction : (at : ℕ) → mapped k (disjunction R Q lim s test inside at) ≡ disjunction S P lim s test' inside' at
    unfolding disjunction conjunction
    respects_disjunction =
        respects_series k bar _ _ s q.junctions _ _
        (respects_series k ampersand _ _ s q.junctions _ _ respects_atom (length s))
        (length s)

  pub respects_guard : (left at : ℕ) → mapped k (guard R Q lim s left at) ≡ guard S P lim s left at
  unfolding guard
  respects_guard zero = respects_disjunction bad bad (mapped_bad h) bad bad (mapped_bad k)
  respects_guard (suc left) =
      respects_disjunction
      _ _ (λ at. respects_closed h (code "]") s _ ∙ ap (closed (code "]") s) (respects_expression r lim s left (at + 1)))
      _ _ (λ at. respects_closed k (code ")") s _ ∙ ap (closed (code ")") s) (respects_guard left (at + 1)))

-- a tree worked out by a reading respects it
pub fold_respects : {A : Type 0} (R : Reading A) → Respects trees R (fold R)
unfolding fold
fold_respects R = record { numbers = λ n. refl; variables = λ x. refl; selves = refl; callers = refl; operators = λ o a b. refl }

pub fold_guard_respects : {A G : Type 0} (R : Reading A) (Q : GuardReading A G) → GuardRespects guard_trees Q (fold R) (fold_guard R Q)
unfolding fold_guard
fold_guard_respects R Q = record { waits = refl; replies = λ x. refl; tests = λ a. refl; junctions = λ j a b. refl }

-- the value read directly is the value of the tree read
pub value_of_tree : (e : Surroundings) (lim : Limits) (s : Text) (left at : ℕ)
    → mapped (value_of e) (expression trees lim s left at) ≡ expression (values e) lim s left at
unfolding value_of
value_of_tree e lim s = respects_expression (fold_respects (values e)) lim s

pub guard_of_tree : (e : Surroundings) (lim : Limits) (s : Text) (left at : ℕ)
    → mapped (guard_of e) (guard trees guard_trees lim s left at) ≡ guard (values e) (guard_values e) lim s left at
unfolding guard_of
guard_of_tree e lim s = respects_guard (fold_respects (values e)) (fold_guard_respects (values e) (guard_values e)) lim s

-- and whatever is read, *nothing* accepts the same texts and refuses at the same places
pub accepted_alike : {A : Type 0} (R : Reading A) (lim : Limits) (s : Text) (left at : ℕ)
    → mapped (λ _. tt) (expression R lim s left at) ≡ expression nothing lim s left at
accepted_alike R lim s =
    respects_expression
    (record { numbers = λ n. refl; variables = λ x. refl; selves = refl; callers = refl; operators = λ o a b. refl })
    lim s

pub guard_accepted_alike : {A G : Type 0} (R : Reading A) (Q : GuardReading A G) (lim : Limits) (s : Text) (left at : ℕ)
    → mapped (λ _. tt) (guard R Q lim s left at) ≡ guard nothing guard_nothing lim s left at
guard_accepted_alike R Q lim s =
    respects_guard
    (record { numbers = λ n. refl; variables = λ x. refl; selves = refl; callers = refl; operators = λ o a b. refl })
    (record { waits = refl; replies = λ x. refl; tests = λ a. refl; junctions = λ j a b. refl })
    lim s
