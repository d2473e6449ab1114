-- Quiet speaks of all choices and of no order: a search in any order that has all five kinds finds none exactly then. Assumes nothing.
use Rattle.std.specs.Prelude.{Option, None, Some}
use Prim.Native.Nat.{ℕ, zero, suc, ◌+◌, ◌≤◌, ◌<◌}
use mathlib.Core.Bool.{Bool, true, false, ◌&&◌, false≢true}
use mathlib.Core.List.{List, [], ◌∷◌, ◌++◌}
use mathlib.Core.Logic.{◌⊎◌, inl, inr}
use mathlib.Core.Path.{◌≡◌, refl, sym, ap, subst, ◌∙◌}
use native.Mathlib.Omega.{arith}
use borrow.Author.Tests.{eqb-true, eqb-false}
use lib.Dec.{eqb}
use Rattle.whole.proofs.Both.{both, both_left, both_right}
use Rattle.layout.specs.Layout.{Cells}
use Rattle.layout.specs.Stages.{up_to}
use Rattle.model.specs.Model.{Model}
use Rattle.whole.proofs.Each.{each_to, to_each}
use Rattle.rules.specs.declared.Choice.{Choice}
use Rattle.rules.specs.declared.Kind.{Kind}
use Rattle.rules.specs.declared.Kind.TheVariants as Kind
use Rattle.rules.specs.Kinds.{kinds, kind_of, in_use, choose}
use Rattle.rules.specs.Next.{Next, refused, moved}
use Rattle.rules.specs.Step.{next}
use Rattle.rules.proofs.Chosen.{next_chosen, up_to_some}
use Rattle.engine.specs.Drive.{choices_of, choices_in, first_accepted, is_refused, quiet_at, quiet_in, is_quiet}

-- a kind is in a list
abbrev Has : Kind → List Kind → Type 0
Has k [] = ⊥
Has k (j ∷ js) = (j ≡ k) ⊎ Has k js

-- an order has all five kinds
abbrev pub HasAll : List Kind → Type 0
HasAll order = (k : Kind) → Has k order

-- the kinds themselves have
pub kinds_all : HasAll kinds
kinds_all Kind.Exec = inl refl
kinds_all Kind.Arrive = inr (inl refl)
kinds_all Kind.Bind = inr (inr (inl refl))
kinds_all Kind.Start = inr (inr (inr (inl refl)))
kinds_all Kind.Deliver = inr (inr (inr (inr (inl refl))))

module _ (m : Model) (c : Cells) where
  -- a choice is refused, and every choice of a list is
  abbrev Refused : Choice → Type 0
  Refused choice = is_refused (next m c choice) ≡ true

  abbrev AllRefused : List Choice → Type 0
  AllRefused [] = Unit {0}
  AllRefused (choice ∷ choices) = Refused choice × AllRefused choices

  -- a search goes past a choice that is refused, and finds one that is not
  past_refused : (choice : Choice) (choices : List Choice) → Refused choice → first_accepted m c (choice ∷ choices) ≡ first_accepted m c choices
  unfolding first_accepted is_refused
  past_refused choice choices r = go (next m c choice) refl r
    where
      go : (n : Next) → next m c choice ≡ n → is_refused n ≡ true → first_accepted m c (choice ∷ choices) ≡ first_accepted m c choices
      go (refused i) e r = rw (e, first_accepted)
      go (moved ws) e r = absurd (false≢true r)

  finds_accepted : (choice : Choice) (choices : List Choice) → first_accepted m c (choice ∷ choices) ≡ None → Refused choice
  unfolding first_accepted is_refused
  finds_accepted choice choices f = go (next m c choice) refl
    where
      go : (n : Next) → next m c choice ≡ n → is_refused (next m c choice) ≡ true
      go (refused i) e = ap is_refused e
      go (moved ws) e = cc (rw (e, first_accepted) at f)

  -- so it finds none exactly where every choice is refused
  none_refused : (choices : List Choice) → first_accepted m c choices ≡ None → AllRefused choices
  none_refused [] f = tt
  none_refused (choice ∷ choices) f =
      let r = finds_accepted choice choices f in
      (r, none_refused choices (sym (past_refused choice choices r) ∙ f))

  refused_none : (choices : List Choice) → AllRefused choices → first_accepted m c choices ≡ None
  unfolding first_accepted
  refused_none [] r = refl
  refused_none (choice ∷ choices) r = past_refused choice choices r.0 ∙ refused_none choices r.1

  -- of two lists, one behind the other
  both_refused : (a b : List Choice) → AllRefused a → AllRefused b → AllRefused (a ++ b)
  both_refused [] b r s = s
  both_refused (choice ∷ a) b r s = (r.0, both_refused a b r.1 s)

  first_refused : (a b : List Choice) → AllRefused (a ++ b) → AllRefused a
  first_refused [] b r = tt
  first_refused (choice ∷ a) b r = (r.0, first_refused a b r.1)

  second_refused : (a b : List Choice) → AllRefused (a ++ b) → AllRefused b
  second_refused [] b r = r
  second_refused (choice ∷ a) b r = second_refused a b r.1

  -- the choices of a kind from a number on
  of_kind : (k : Kind) (more n : ℕ) → ((i : ℕ) → n ≤ i → i < n + more → Refused (choose k i)) → AllRefused (choices_of k more n)
  unfolding choices_of
  of_kind k zero n r = tt
  of_kind k (suc more) n r = (r n (omega arith) (omega arith), of_kind k more (n + 1) (λ i l h. r i (omega arith) (omega arith)))

  in_kind : (k : Kind) (more n : ℕ) → AllRefused (choices_of k more n) → (i : ℕ) → n ≤ i → i < n + more → Refused (choose k i)
  unfolding choices_of
  in_kind k zero n r i l h = absurd (omega arith)
  in_kind k (suc more) n r i l h = go (eqb i n) refl (in_kind k more (n + 1) r.1 i)
    where
      go : (b : Bool) → eqb i n ≡ b → (n + 1 ≤ i → i < n + 1 + more → Refused (choose k i)) → Refused (choose k i)
      go true e later = subst (λ j. Refused (choose k j)) (sym (eqb-true i n e)) r.0
      go false e later = let ne = eqb-false i n e in later (omega arith) (omega arith)

  -- a kind is quiet exactly where its choices are all refused
  kind_refused : (k : Kind) → quiet_at m c k ≡ true → AllRefused (choices_of k (in_use c k) 1)
  unfolding quiet_at
  kind_refused k q = of_kind k (in_use c k) 1 (λ i l h. each_to _ (in_use c k) q i l (omega arith))

  refused_kind : (k : Kind) → AllRefused (choices_of k (in_use c k) 1) → quiet_at m c k ≡ true
  unfolding quiet_at
  refused_kind k r = to_each _ (in_use c k) (λ i l h. in_kind k (in_use c k) 1 r i l (omega arith))

  -- and so are the kinds of an order
  quiet_refused : (order : List Kind) → ((k : Kind) → quiet_at m c k ≡ true) → AllRefused (choices_in order c)
  unfolding choices_in
  quiet_refused [] q = tt
  quiet_refused (k ∷ ks) q = both_refused (choices_of k (in_use c k) 1) (choices_in ks c) (kind_refused k (q k)) (quiet_refused ks q)

  refused_quiet : (order : List Kind) → AllRefused (choices_in order c) → (k : Kind) → Has k order → quiet_at m c k ≡ true
  unfolding choices_in
  refused_quiet [] r k h = absurd h
  refused_quiet (j ∷ js) r k (inl e) =
      subst (λ i. quiet_at m c i ≡ true) e (refused_kind j (first_refused (choices_of j (in_use c j) 1) (choices_in js c) r))
  refused_quiet (j ∷ js) r k (inr h) = refused_quiet js (second_refused (choices_of j (in_use c j) 1) (choices_in js c) r) k h

  -- quiet in all kinds, and in each
  each_quiet : (order : List Kind) → quiet_in m c order ≡ true → (k : Kind) → Has k order → quiet_at m c k ≡ true
  unfolding quiet_in
  each_quiet [] q k h = absurd h
  each_quiet (j ∷ js) q k (inl e) = subst (λ i. quiet_at m c i ≡ true) e (both_left (quiet_at m c j) (quiet_in m c js) q)
  each_quiet (j ∷ js) q k (inr h) = each_quiet js (both_right (quiet_at m c j) (quiet_in m c js) q) k h

  quiet_each : (order : List Kind) → ((k : Kind) → quiet_at m c k ≡ true) → quiet_in m c order ≡ true
  unfolding quiet_in
  quiet_each [] q = refl
  quiet_each (j ∷ js) q = both (quiet_at m c j) (quiet_in m c js) (q j) (quiet_each js q)

  -- a search in any order that has all five kinds finds none exactly where the cells are quiet
  pub quiet_found : (order : List Kind) → is_quiet m c ≡ true → first_accepted m c (choices_in order c) ≡ None
  unfolding is_quiet
  quiet_found order q = refused_none (choices_in order c) (quiet_refused order (λ k. each_quiet kinds q k (kinds_all k)))

  pub found_quiet : (order : List Kind) → HasAll order → first_accepted m c (choices_in order c) ≡ None → is_quiet m c ≡ true
  unfolding is_quiet
  found_quiet order all f = quiet_each kinds (λ k. refused_quiet order (none_refused (choices_in order c) f) k (all k))

  -- quiet: every choice is refused, whatever its kind and its number
  pub quiet_all : is_quiet m c ≡ true → (choice : Choice) → is_refused (next m c choice) ≡ true
  unfolding is_quiet quiet_at next is_refused
  quiet_all q choice = by_kind (kind_of choice.kind) refl
    where
      by_number : (k : Kind) → kind_of choice.kind ≡ Some k → (f : Option ℕ) → up_to (in_use c k) choice.number ≡ f → is_refused (next m c choice) ≡ true
      by_number k e None f = rw (e, next, f)
      by_number k e (Some n) f =
          let h = up_to_some (in_use c k) choice.number n f in
          let r = each_to _ (in_use c k) (each_quiet kinds q k (kinds_all k)) n h.0 h.1 in
          rw (e, next, f) (ap is_refused (sym (next_chosen m c k n h.0 h.1)) ∙ r)

      by_kind : (f : Option Kind) → kind_of choice.kind ≡ f → is_refused (next m c choice) ≡ true
      by_kind None e = rw (e, next)
      by_kind (Some k) e = by_number k e (up_to (in_use c k) choice.number) refl

  pub all_quiet : ((choice : Choice) → is_refused (next m c choice) ≡ true) → is_quiet m c ≡ true
  unfolding is_quiet quiet_at
  all_quiet r = quiet_each kinds (λ k. to_each _ (in_use c k) (λ i l h. r (choose k i)))
