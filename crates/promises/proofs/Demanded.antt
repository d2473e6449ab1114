-- Demand 3 holds after every list of choices. Assumes nothing; that the fresh cells are a configuration and that a step keeps one are parameters.
use Rattle.std.specs.Prelude.{Some}
use Prim.Native.Nat.{ℕ, ◌≤◌}
use mathlib.Core.Bool.{true, false}
use mathlib.Core.List.{List, [], ◌∷◌, ◌++◌, map}
use mathlib.Core.Logic.{◌⊎◌, inl, inr}
use mathlib.Core.Path.{◌≡◌, refl, sym, ap, subst, ◌∙◌}
use native.Mathlib.Omega.{arith}
use borrow.Author.Tests.{ne_eqb}
use lib.IntN.{pos}
use lib.ListN.{length}
use Rattle.whole.specs.Whole.{eq_z}
use Rattle.layout.specs.Layout.{Cells, all_cells, of_call, caller, callee, value}
use Rattle.layout.specs.Stages.{rows_in_use, objects_in_use, label_of, stage_of, replied}
use Rattle.layout.proofs.Open.{layout_open}
use Rattle.terms.specs.Bytes.{Text}
use Rattle.code.specs.Statements.{Code}
use Rattle.model.specs.Accepted.{AcceptedModel}
use Rattle.model.specs.Judge.{model, judged}
use Rattle.model.specs.Model.{Model}
use Rattle.cells.specs.Configuration.{is_configuration}
use Rattle.cells.specs.Fresh.{fresh}
use Rattle.cells.specs.Standing.{Standing}
use Rattle.rules.specs.declared.Choice.{Choice}
use Rattle.rules.specs.Events.{Event, issuing, spawning, returning, taking, events_of, first_events}
use Rattle.rules.specs.Next.{cells_after}
use Rattle.rules.specs.Step.{next}
use Rattle.engine.specs.Run.{run_cells}
use Rattle.engine.specs.Entries.{start}
use Rattle.engine.specs.Mixtures.{Entry, leave_all}
use Rattle.engine.proofs.Mixtures.{run_append, mixture_run}
use Rattle.promises.specs.Histories.{cells_at, happenings, history, subject, about, Among, StepOf, cells_before, cells_next, happens_in, Performs}
use Rattle.promises.specs.Lives.{Issued, OneCall, TakenBy, CallerLess, stages_after, Demand3}
use Rattle.promises.proofs.Acting.{up_to_is}
use Rattle.promises.proofs.Acts.{Running}
use Rattle.promises.proofs.Alive.{Alive}
use Rattle.promises.proofs.Amongst.{among_right, among_cases, about_among}
use Rattle.promises.proofs.Configured.{runs_what, named_by}
use Rattle.promises.proofs.Happened.{Happened, IssuedNow, SpawnedNow, ReturnedNow, TakenNow}
use Rattle.promises.proofs.Lived.{LivedTo, Living, lived_begun, lived_staged}
use Rattle.promises.proofs.Runs.{issued_of, SameCall, run_configured, step_alive, step_happened, run_alive, run_same, run_value, fresh_alive, step_of}

-- a running call performs its line
performs_of : (m : Model) {choices : List Choice} (s : StepOf choices) (o l : ℕ) (at : Standing) (line : Code) → Running m (cells_before m s) s.choice o l at
    → at.statement ≡ line → Performs m s o l line
unfolding label_of
performs_of m s o l at line r reads = record {
  chosen = r.chosen;
  runs = up_to_is (rows_in_use (cells_before m s)) _ l r.runs;
  at = at;
  stands = r.stands;
  reads = reads;
}

-- a call of stage 6 with a caller was issued, and has returned
replied_lived : (c : Cells) (l o : ℕ) (es : List Event) → Living c l es → stage_of c l ≡ pos replied → of_call c l caller ≡ pos o → 1 ≤ o
    → Among (issuing l) es × Among (returning l) es
unfolding eq_z
replied_lived c l o es (s, st, lived) six by low =
    let same : s ≡ replied = cc in
    let b : eq_z (of_call c l caller) (pos 0) ≡ false = ap (λ z. eq_z z (pos 0)) by ∙ ne_eqb o 0 (λ z. omega arith) in
    let five : LivedTo l false replied es = subst (λ b. LivedTo l b replied es) b (subst (λ s. LivedTo l (eq_z (of_call c l caller) (pos 0)) s es) same lived) in
    (subst (Among (issuing l)) (sym five) (inl refl), subst (Among (returning l)) (sym five) (inr (inr (inr (inl refl)))))

module _ (m : Model) (accepted : AcceptedModel m) (fresh_is : is_configuration m fresh ≡ true)
    (keeps : (c : Cells) (choice : Choice) → is_configuration m c ≡ true → is_configuration m (cells_after c (next m c choice)) ≡ true) where
  -- after any choices: a configuration, and the lives
  pub configured_at : (choices : List Choice) → is_configuration m (cells_at m choices) ≡ true
  configured_at choices = run_configured m accepted keeps fresh fresh_is choices

  -- and every label has lived as its stage says
  pub alive_at : (choices : List Choice) → Alive (cells_at m choices) (history m choices)
  unfolding history
  alive_at choices = run_alive m accepted keeps fresh fresh_is first_events fresh_alive choices

  -- what happened by some choices, other than the start's, happened in a step
  step_in : (choices : List Choice) (e : Event) → (e ≡ spawning 1 → ⊥) → Among e (history m choices) → (s : StepOf choices) × happens_in m s e
  unfolding history run_cells
  step_in choices e ne h = by (among_cases e first_events (happenings m fresh choices) h)
    where
      by : Among e first_events ⊎ Among e (happenings m fresh choices) → (s : StepOf choices) × happens_in m s e
      by (inl (inl s)) = absurd (ne s)
      by (inl (inr n)) = absurd n
      by (inr i) = step_of m e [] choices i

  module _ {choices : List Choice} (s : StepOf choices) where
    -- the cells at the end are those that the rest of the choices leads to
    at_end : cells_at m choices ≡ run_cells m (cells_next m s) s.after
    unfolding run_cells
    at_end = ap (cells_at m) s.whole ∙ run_append m fresh s.before (s.choice ∷ s.after)

    -- the cells after the step: a configuration, its lives, and what happened
    next_configured : is_configuration m (cells_next m s) ≡ true
    next_configured = keeps (cells_before m s) s.choice (configured_at s.before)

    next_alive : Alive (cells_next m s) (history m s.before ++ events_of m (cells_before m s) s.choice)
    next_alive = step_alive m accepted keeps (cells_before m s) (configured_at s.before) s.choice (history m s.before) (alive_at s.before)

    happened_in : (e : Event) → happens_in m s e → Happened m (cells_before m s) s.choice (cells_next m s) e
    happened_in e h = step_happened m accepted keeps (cells_before m s) (configured_at s.before) s.choice e h

    in_history : (e : Event) → happens_in m s e → Among e (history m s.before ++ events_of m (cells_before m s) s.choice)
    in_history e h = among_right e (history m s.before) (events_of m (cells_before m s) s.choice) h

    -- a label of an event is the same call at the end
    same_at_end : (e : Event) → happens_in m s e → SameCall (cells_next m s) (cells_at m choices) (subject e)
    same_at_end e h =
        subst (λ d. SameCall (cells_next m s) d (subject e)) (sym at_end)
        (run_same m accepted keeps (cells_next m s) next_configured (subject e) (issued_of next_alive e (in_history e h)) s.after)

    -- and the value of one that returned stays
    value_at_end : (l : ℕ) → happens_in m s (returning l) → of_call (cells_at m choices) l value ≡ of_call (cells_next m s) l value
    value_at_end l h =
        ap (λ d. of_call d l value) at_end
        ∙ run_value m accepted keeps (cells_next m s) next_configured _ next_alive l (in_history (returning l) h) s.after

    -- (b)
    pub one_call : (l : ℕ) → happens_in m s (issuing l) → OneCall m s (cells_at m choices) l
    unfolding Happened subject
    one_call l h =
        let n : IssuedNow m (cells_before m s) s.choice (cells_next m s) l = happened_in (issuing l) h in
        let e : SameCall (cells_next m s) (cells_at m choices) l = same_at_end (issuing l) h in
        record {
          object = n.o;
          label = n.k;
          x = n.x;
          e = n.e;
          j = n.j;
          es = n.es;
          performs = performs_of m s n.o n.k n.at _ n.run n.reads;
          caller = e.caller_same ∙ n.row.caller_is;
          callee = n.works ∙ ap Some (sym (e.callee_same ∙ n.row.callee_is));
          method = e.method_same ∙ n.row.method_is;
          args = e.args_same ∙ n.row.args_is;
        }

    pub one_spawned : (l : ℕ) → happens_in m s (spawning l) → CallerLess (cells_at m choices) l (objects_in_use (cells_next m s))
    unfolding Happened subject
    one_spawned l h =
        let n : SpawnedNow m (cells_before m s) s.choice (cells_next m s) l = happened_in (spawning l) h in
        let e : SameCall (cells_next m s) (cells_at m choices) l = same_at_end (spawning l) h in
        record {
          caller = e.caller_same ∙ n.row.caller_is;
          callee = e.callee_same ∙ n.row.callee_is;
          method = e.method_same ∙ n.row.method_is;
        }

  -- (d)
  pub very_value : {choices : List Choice} (s : StepOf choices) (l : ℕ) → happens_in m s (taking l) → TakenBy m s l
  unfolding Happened
  very_value s l h =
      let n : TakenNow m (cells_before m s) s.choice (cells_next m s) l = happened_in s (taking l) h in
      let c = cells_before m s in
      let i : Issued c l = (n.reply.low, n.reply.high) in
      let lived = replied_lived c l n.o (about l (history m s.before)) ((alive_at s.before).living l i) n.reply.stage_is n.reply.caller_is n.run.low in
      let asked = step_in s.before (issuing l) (λ e. let z : ◌≡◌ {A = ℕ} 0 1 = cc in omega arith) (about_among (issuing l) l (history m s.before) lived.0) in
      let back = step_in s.before (returning l) (λ e. let z : ◌≡◌ {A = ℕ} 0 1 = cc in omega arith) (about_among (returning l) l (history m s.before) lived.1) in
      let call = one_call asked.0 l asked.1 in
      let r : ReturnedNow m (cells_before m back.0) back.0.choice (cells_next m back.0) l = happened_in back.0 (returning l) back.1 in
      let by : call.object ≡ n.o = let e = call.caller in let f = n.reply.caller_is in cc in
      record {
        object = n.o;
        label = n.k;
        x = n.x;
        y = n.y;
        performs = performs_of m s n.o n.k n.at _ n.run n.reads;
        issue = asked.0;
        issued = asked.1;
        asked = call;
        asker = by;
        return = back.0;
        returned = back.1;
        callee = r.o;
        e = r.e;
        returns = performs_of m back.0 r.o l r.at _ r.run r.reads;
        same = r.works ∙ ap Some (sym (n.same ∙ value_at_end back.0 l back.1));
      }

  -- call 1 of the fresh cells is the same call at the end
  first_call_lem : (choices : List Choice) → CallerLess (cells_at m choices) 1 1
  unfolding layout_open fresh
  first_call_lem choices =
      let e = run_same m accepted keeps fresh fresh_is 1 (omega arith, omega arith) choices in
      record { caller = e.caller_same; callee = e.callee_same; method = e.method_same }

  -- the theorem
  pub demanded : (choices : List Choice) → Demand3 m choices
  demanded choices =
      let alive = alive_at choices in
      let is = configured_at choices in
      record {
        unissued = alive.unborn;
        life = λ l i. let (s, st, lived) = alive.living l i in lived_begun l (about l (history m choices)) (eq_z (of_call (cells_at m choices) l caller) (pos 0)) s lived;
        call = λ s l h. one_call s l h;
        spawned = λ s l h. one_spawned s l h;
        first = first_call_lem choices;
        stage = λ l i.
            let (s, st, lived) = alive.living l i in
            subst (λ z. Among z (map pos (stages_after (about l (history m choices))))) (sym st)
            (lived_staged l (about l (history m choices)) (eq_z (of_call (cells_at m choices) l caller) (pos 0)) s lived);
        reply = λ s l h. very_value s l h;
        runs = runs_what m (cells_at m choices) is;
        named = λ l (low, high) s. named_by m (cells_at m choices) is l low high s;
      }

  -- and so after every mixture of entries behind a start, refused ones among them: the cells are those of some choices, after which it holds
  pub demanded_entries : (text : Text) → judged text ≡ model m → (lent : Cells) → length lent ≡ all_cells → (es : List Entry)
      → (choices : List Choice) × (leave_all text (start text lent).cells es ≡ cells_at m choices) × Demand3 m choices
  demanded_entries text is lent long es = let r = mixture_run text m is lent long es in (r.0, r.1, demanded r.0)
