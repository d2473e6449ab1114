-- What holds along a whole run: configurations, lives, and the rows of calls that were issued. Assumes nothing; that a step keeps a configuration is a
-- parameter.
use Prim.Native.Nat.{ℕ}
use mathlib.Core.Bool.{Bool, true, false}
use mathlib.Core.List.{List, [], ◌∷◌, ◌++◌, append-nil, append_assoc}
use mathlib.Core.Logic.{◌⊎◌, inl, inr}
use mathlib.Core.Path.{◌≡◌, refl, sym, ap, subst, ◌∙◌}
use native.Mathlib.Omega.{arith}
use borrow.Author.Tests.{leb-true, leb-false}
use lib.Dec.{leb}
use lib.IntN.{pos}
use Rattle.whole.specs.Whole.{eq_z}
use Rattle.layout.specs.Layout.{Cells, Write, of_call, caller, callee, method, args, value}
use Rattle.layout.specs.Stages.{rows_in_use, stage_of, running}
use Rattle.layout.proofs.Open.{layout_open}
use Rattle.model.specs.Accepted.{AcceptedModel}
use Rattle.model.specs.Model.{Model}
use Rattle.cells.specs.Configuration.{is_configuration}
use Rattle.cells.specs.Fresh.{fresh}
use Rattle.rules.specs.declared.Choice.{Choice}
use Rattle.rules.specs.Events.{Event, issuing, spawning, arriving, binding, returning, events_of, first_events}
use Rattle.rules.specs.Next.{Next, refused, moved, cells_after}
use Rattle.rules.specs.Step.{next}
use Rattle.engine.specs.Run.{run_cells}
use Rattle.engine.proofs.Mixtures.{run_append}
use Rattle.promises.specs.Histories.{cells_at, happenings, subject, about, Among, StepOf, happens_in}
use Rattle.promises.specs.Lives.{Issued}
use Rattle.promises.proofs.Acting.{acts}
use Rattle.promises.proofs.Acts.{Act}
use Rattle.promises.proofs.Alive.{Alive, rows_after}
use Rattle.promises.proofs.Amongst.{among_left, among_cases, among_about}
use Rattle.promises.proofs.Happened.{Happened, what_happened, answers}
use Rattle.promises.proofs.Kept.{kept_caller, kept_callee, kept_method, kept_args, kept_value}
use Rattle.promises.proofs.Lived.{LivedTo, Living, about_own, about_other}
use Rattle.promises.proofs.Spared.{answered_by}
use Rattle.promises.proofs.StaysAlive.{act_alive}

-- a label with an event is issued
pub issued_of : {c : Cells} {h : List Event} → Alive c h → (e : Event) → Among e h → Issued c (subject e)
issued_of {c} {h} alive e i = go (leb 1 (subject e)) (leb (subject e) (rows_in_use c)) refl refl
  where
    none : (Issued c (subject e) → ⊥) → ⊥
    none n = subst (Among e) (alive.unborn (subject e) n) (among_about e h i)

    go : (a b : Bool) → leb 1 (subject e) ≡ a → leb (subject e) (rows_in_use c) ≡ b → Issued c (subject e)
    go true true s t = (leb-true 1 (subject e) s, leb-true (subject e) (rows_in_use c) t)
    go true false s t = absurd (none (λ (low, high). omega (arith, leb-false (subject e) (rows_in_use c) t)))
    go false b s t = absurd (none (λ (low, high). omega (arith, leb-false 1 (subject e) s)))

-- a running call has not returned
not_returned : (l : ℕ) (b : Bool) (life : List Event) → LivedTo l b running life → Among (returning l) life → ⊥
not_returned l true life e i = go (subst (Among (returning l)) e i)
  where
    go : Among (returning l) (spawning l ∷ []) → ⊥
    go (inl s) = let z : ◌≡◌ {A = ℕ} 0 1 = cc in omega arith
    go (inr n) = n
not_returned l false life e i = go (subst (Among (returning l)) e i)
  where
    go : Among (returning l) (issuing l ∷ arriving l ∷ binding l ∷ []) → ⊥
    go (inl s) = let z : ◌≡◌ {A = ℕ} 0 1 = cc in omega arith
    go (inr (inl s)) = let z : ◌≡◌ {A = ℕ} 0 1 = cc in omega arith
    go (inr (inr (inl s))) = let z : ◌≡◌ {A = ℕ} 0 1 = cc in omega arith
    go (inr (inr (inr n))) = n

-- the row of a label as it was issued
pub record SameCall (c d : Cells) (l : ℕ) : Type 0 where
  pub issued : Issued d l
  pub caller_same : of_call d l caller ≡ of_call c l caller
  pub callee_same : of_call d l callee ≡ of_call c l callee
  pub method_same : of_call d l method ≡ of_call c l method
  pub args_same : of_call d l args ≡ of_call c l args

module _ (m : Model) (accepted : AcceptedModel m)
    (keeps : (c : Cells) (choice : Choice) → is_configuration m c ≡ true → is_configuration m (cells_after c (next m c choice)) ≡ true) where
  -- configurations
  pub run_configured : (c : Cells) → is_configuration m c ≡ true → (choices : List Choice) → is_configuration m (run_cells m c choices) ≡ true
  unfolding run_cells
  run_configured c is [] = is
  run_configured c is (choice ∷ choices) = run_configured (cells_after c (next m c choice)) (keeps c choice is) choices

  module _ (c : Cells) (is : is_configuration m c ≡ true) (choice : Choice) where
    -- lives
    pub step_alive : (h : List Event) → Alive c h → Alive (cells_after c (next m c choice)) (h ++ events_of m c choice)
    unfolding cells_after events_of
    step_alive h alive = go (next m c choice) refl
      where
        go : (n : Next) → next m c choice ≡ n → Alive (cells_after c (next m c choice)) (h ++ events_of m c choice)
        go (refused i) e = rw (e, cells_after, events_of, append-nil h) alive
        go (moved ws) e =
            subst (λ n. Alive (cells_after c n) (h ++ events_of m c choice)) (sym e) (act_alive m accepted c is choice h alive (acts m c choice ws e))

    -- what happened in a step
    pub step_happened : (e : Event) → Among e (events_of m c choice) → Happened m c choice (cells_after c (next m c choice)) e
    unfolding cells_after events_of
    step_happened e h = go (next m c choice) refl
      where
        go : (n : Next) → next m c choice ≡ n → Happened m c choice (cells_after c (next m c choice)) e
        go (refused i) f = absurd (rw (f, events_of) at h)
        go (moved ws) f = subst (λ n. Happened m c choice (cells_after c n) e) (sym f) (what_happened m accepted c is choice (acts m c choice ws f) e h)

    -- rows
    pub step_same : (l : ℕ) → Issued c l → SameCall c (cells_after c (next m c choice)) l
    unfolding cells_after
    step_same l i = go (next m c choice) refl
      where
        go : (n : Next) → next m c choice ≡ n → SameCall c (cells_after c (next m c choice)) l
        go (refused k) e =
            subst (λ n. SameCall c (cells_after c n) l) (sym e)
            (record { issued = i; caller_same = refl; callee_same = refl; method_same = refl; args_same = refl })
        go (moved ws) e =
            let a = acts m c choice ws e in
            subst (λ n. SameCall c (cells_after c n) l) (sym e) (record {
              issued = let w = rows_after a is in let j = i.1 in (i.0, omega arith);
              caller_same = kept_caller a l i.1;
              callee_same = kept_callee a l i.1;
              method_same = kept_method a l i.1;
              args_same = kept_args a l i.1;
            })

    -- the value of a call that has returned
    pub step_value : (h : List Event) → Alive c h → (l : ℕ) → Among (returning l) h → of_call (cells_after c (next m c choice)) l value ≡ of_call c l value
    unfolding cells_after subject
    step_value h alive l r = go (next m c choice) refl
      where
        i : Issued c l
        i = issued_of alive (returning l) r

        idle : stage_of c l ≡ pos running → ⊥
        idle s = by (alive.living l i)
          where
            by : Living c l (about l h) → ⊥
            by (n, t, lived) =
                let same : n ≡ running = cc in
                not_returned l (eq_z (of_call c l caller) (pos 0)) (about l h)
                (subst (λ n. LivedTo l (eq_z (of_call c l caller) (pos 0)) n (about l h)) same lived) (among_about (returning l) h r)

        other : {ws : List Write} {es : List Event} (a : Act m c choice ws es) → l ≡ answered_by a → ⊥
        other a e = by (answers accepted is a)
          where
            by : (answered_by a ≡ 0) ⊎ (stage_of c (answered_by a) ≡ pos running) → ⊥
            by (inl z) = let low = i.0 in omega arith
            by (inr s) = idle (subst (λ k. stage_of c k ≡ pos running) (sym e) s)

        go : (n : Next) → next m c choice ≡ n → of_call (cells_after c (next m c choice)) l value ≡ of_call c l value
        go (refused k) e = ap (λ n. of_call (cells_after c n) l value) e
        go (moved ws) e =
            let a = acts m c choice ws e in
            ap (λ n. of_call (cells_after c n) l value) e ∙ kept_value a l i.1 (other a)

  -- along a list of choices
  pub run_alive : (c : Cells) → is_configuration m c ≡ true → (h : List Event) → Alive c h → (choices : List Choice)
      → Alive (run_cells m c choices) (h ++ happenings m c choices)
  unfolding run_cells happenings
  run_alive c is h alive [] = rw append-nil alive
  run_alive c is h alive (choice ∷ choices) =
      rw (← append_assoc h (events_of m c choice) (happenings m (cells_after c (next m c choice)) choices))
      (run_alive (cells_after c (next m c choice)) (keeps c choice is) (h ++ events_of m c choice) (step_alive c is choice h alive) choices)

  -- a label stays one call
  pub run_same : (c : Cells) → is_configuration m c ≡ true → (l : ℕ) → Issued c l → (choices : List Choice) → SameCall c (run_cells m c choices) l
  unfolding run_cells
  run_same c is l i [] = record { issued = i; caller_same = refl; callee_same = refl; method_same = refl; args_same = refl }
  run_same c is l i (choice ∷ choices) =
      let first = step_same c is choice l i in
      let rest = run_same (cells_after c (next m c choice)) (keeps c choice is) l first.issued choices in
      record {
        issued = rest.issued;
        caller_same = rest.caller_same ∙ first.caller_same;
        callee_same = rest.callee_same ∙ first.callee_same;
        method_same = rest.method_same ∙ first.method_same;
        args_same = rest.args_same ∙ first.args_same;
      }

  -- and what returned keeps its value
  pub run_value : (c : Cells) → is_configuration m c ≡ true → (h : List Event) → Alive c h → (l : ℕ) → Among (returning l) h → (choices : List Choice)
      → of_call (run_cells m c choices) l value ≡ of_call c l value
  unfolding run_cells
  run_value c is h alive l r [] = refl
  run_value c is h alive l r (choice ∷ choices) =
      run_value (cells_after c (next m c choice)) (keeps c choice is) (h ++ events_of m c choice) (step_alive c is choice h alive) l
      (among_left (returning l) h (events_of m c choice) r) choices
      ∙ step_value c is choice h alive l r

-- the fresh cells: call 1 runs
pub fresh_alive : Alive fresh first_events
unfolding layout_open fresh subject
fresh_alive = record {
  unborn = λ l n. about_other (spawning 1) l (λ s. n (omega arith, omega arith));
  living = λ l (low, high).
      let one : l ≡ 1 = omega arith in
      subst (λ k. Living fresh k (about k first_events)) (sym one) (running, refl, about_own (spawning 1) 1 refl);
}

-- what happened in a list of choices happened in a step of it
pub step_of : (m : Model) (e : Event) (done todo : List Choice) → Among e (happenings m (cells_at m done) todo)
    → (s : StepOf (done ++ todo)) × happens_in m s e
unfolding happenings run_cells
step_of m e done [] h = absurd h
step_of m e done (choice ∷ todo) h =
    by (among_cases e (events_of m (cells_at m done) choice) (happenings m (cells_after (cells_at m done) (next m (cells_at m done) choice)) todo) h) (step_of m e (done ++ (choice ∷ [])) todo)
  where
    more : (done ++ (choice ∷ [])) ++ todo ≡ done ++ (choice ∷ todo)
    more = append_assoc done (choice ∷ []) todo

    by : Among e (events_of m (cells_at m done) choice) ⊎ Among e (happenings m (cells_after (cells_at m done) (next m (cells_at m done) choice)) todo)
        → (Among e (happenings m (cells_at m (done ++ (choice ∷ []))) todo) → (s : StepOf ((done ++ (choice ∷ [])) ++ todo)) × happens_in m s e)
        → (s : StepOf (done ++ (choice ∷ todo))) × happens_in m s e
    by (inl i) later = (record { before = done; choice = choice; after = todo; whole = refl }, i)
    by (inr i) later =
        subst (λ choices. (s : StepOf choices) × happens_in m s e) more
        (later (subst (λ c. Among e (happenings m c todo)) (sym (run_append m fresh done (choice ∷ []))) i))
