-- Every mixture of entries is a run: after a start, whatever step, run and drive are asked with the same text, refused or not, the cells are those
-- of some list of choices from the start. Assumes nothing.
use Rattle.std.specs.Prelude.{Option, None, Some}
use Prim.Native.Nat.{ℕ, zero, suc, ◌+◌}
use mathlib.Core.Bool.{Bool, true, false}
use mathlib.Core.List.{List, [], ◌∷◌, ◌++◌}
use mathlib.Core.Path.{◌≡◌, refl, sym, ap, subst, ◌∙◌}
use borrow.Author.Tests.{eq-eqb}
use lib.Dec.{leb, eqb}
use lib.IntN.{ℤ}
use lib.ListN.{length}
use Rattle.whole.specs.Refusals.{accepted, no_configuration, answers_differ, budget_too_large}
use Rattle.layout.specs.Layout.{Cells, all_cells}
use Rattle.terms.specs.Bytes.{Text}
use Rattle.model.specs.Judge.{model, judged}
use Rattle.model.specs.Model.{Model}
use Rattle.cells.specs.Configuration.{is_configuration}
use Rattle.cells.specs.Fresh.{fresh}
use Rattle.rules.specs.declared.Choice.{Choice}
use Rattle.rules.specs.declared.Kind.{Kind}
use Rattle.rules.specs.Next.{Next, refused, moved, cells_after}
use Rattle.rules.specs.Step.{next}
use Rattle.engine.specs.Drive.{most_steps, choices_in, first_accepted, driven}
use Rattle.engine.specs.Entries.{Outcome, at_no_line, outcome, on_model, on_configuration, start, step, run, drove_to, drive_in}
use Rattle.engine.specs.Mixtures.{Entry, stepping, running, driving, leaves, leave_all}
use Rattle.engine.specs.Run.{run_cells, run_answers}

-- a run of two lists, one behind the other
pub run_append : (m : Model) (c : Cells) (a b : List Choice) → run_cells m c (a ++ b) ≡ run_cells m (run_cells m c a) b
unfolding run_cells
run_append m c [] b = refl
run_append m c (choice ∷ a) b = run_append m (cells_after c (next m c choice)) a b

-- cells that some list of choices leads to
abbrev pub RunTo : Model → Cells → Cells → Type 0
RunTo m c d = (choices : List Choice) × (d ≡ run_cells m c choices)

-- none at all leads to the same cells
stays : (m : Model) (c d : Cells) → d ≡ c → RunTo m c d
unfolding run_cells
stays m c d e = ([], e)

-- the choice that a search finds leads to the cells that it gives
found_next : (m : Model) (c : Cells) (choices : List Choice) (found : Choice × Cells) → first_accepted m c choices ≡ Some found
    → found.1 ≡ cells_after c (next m c found.0)
unfolding first_accepted
found_next m c [] found e = cc
found_next m c (choice ∷ choices) found e = go (next m c choice) refl (found_next m c choices found)
  where
    go : (n : Next) → next m c choice ≡ n → (first_accepted m c choices ≡ Some found → found.1 ≡ cells_after c (next m c found.0))
        → found.1 ≡ cells_after c (next m c found.0)
    go (refused i) f later = later (rw (f, first_accepted) at e)
    go (moved ws) f later =
        let h : (choice, cells_after c (moved ws)) ≡ found = cc (rw (f, first_accepted) at e) in
        rw (← h) (ap (cells_after c) (sym f))

-- a drive is a run of the choices that it finds
pub drive_run : (m : Model) (order : List Kind) (budget steps : ℕ) (c : Cells) → RunTo m c (driven m order budget steps c).cells
unfolding driven run_cells
drive_run m order zero steps c = ([], refl)
drive_run m order (suc budget) steps c = go (first_accepted m c (choices_in order c)) refl (drive_run m order budget (steps + 1))
  where
    go : (f : Option (Choice × Cells)) → first_accepted m c (choices_in order c) ≡ f
        → ((d : Cells) → RunTo m d (driven m order budget (steps + 1) d).cells) → RunTo m c (driven m order (suc budget) steps c).cells
    go None e later = ([], rw (e, driven))
    go (Some found) e later =
        let r = later found.1 in (
          found.0 ∷ r.0,
          rw (e, driven) (r.1 ∙ ap (λ d. run_cells m d r.0) (found_next m c (choices_in order c) found e)),
        )

-- what is done with the model of an accepted text and a configuration is a run, and so the entry is: a refusal leaves the cells
module _ (s : Text) (m : Model) (is : judged s ≡ model m) (c : Cells) (answers : List ℤ) (go : Model → Outcome) where
  on_model_lem : RunTo m c (go m).cells → RunTo m c (on_model s c answers go).cells
  unfolding on_model outcome
  on_model_lem r = by_length (eqb (length c) all_cells) refl
    where
      by_length : (b : Bool) → eqb (length c) all_cells ≡ b → RunTo m c (on_model s c answers go).cells
      by_length true e = rw (is, on_model, e) r
      by_length false e = rw (is, on_model, e) (stays m c c refl)

module _ (s : Text) (m : Model) (is : judged s ≡ model m) (c : Cells) (answers : List ℤ) (go : Model → Outcome) where
  -- the same behind the test of the configuration
  on_configuration_lem : RunTo m c (go m).cells → RunTo m c (on_configuration s c answers go).cells
  unfolding on_configuration outcome
  on_configuration_lem r = on_model_lem s m is c answers _ (by_test (is_configuration m c) refl)
    where
      by_test : (b : Bool) → is_configuration m c ≡ b
          → RunTo m c (elim (is_configuration m c) as (λ t. Outcome) [ true ↦ go m | false ↦ outcome (at_no_line no_configuration) c answers ]).cells
      by_test true e = rw e r
      by_test false e = rw e (stays m c c refl)

module _ (s : Text) (m : Model) (is : judged s ≡ model m) where
  -- each entry is a run from the cells that it is lent
  pub leaves_run : (c : Cells) (e : Entry) → RunTo m c (leaves s c e)
  unfolding leaves step run drive_in outcome drove_to
  leaves_run c (stepping choice) = on_configuration_lem s m is c [] _ (choice ∷ [], refl)
  leaves_run c (running choices answers) = on_configuration_lem s m is c answers _ (by_answers (eqb (length answers) (length choices)) refl)
    where
      by_answers : (b : Bool) → eqb (length answers) (length choices) ≡ b
          → RunTo m c (elim (eqb (length answers) (length choices)) as (λ t. Outcome) [
            | true ↦ outcome (at_no_line accepted) (run_cells m c choices) (run_answers m c choices)
            | false ↦ outcome (at_no_line answers_differ) c answers
          ]).cells
      by_answers true e = rw e (choices, refl)
      by_answers false e = rw e (stays m c c refl)
  leaves_run c (driving order budget) = on_configuration_lem s m is c [] _ (by_budget (leb budget most_steps) refl)
    where
      by_budget : (b : Bool) → leb budget most_steps ≡ b
          → RunTo m c (elim (leb budget most_steps) as (λ t. Outcome) [
            | true ↦ drove_to m (driven m order budget 0 c)
            | false ↦ outcome (at_no_line budget_too_large) c []
          ]).cells
      by_budget true e = rw e (drive_run m order budget 0 c)
      by_budget false e = rw e (stays m c c refl)

  -- and so are several
  pub leave_all_run : (c : Cells) (es : List Entry) → RunTo m c (leave_all s c es)
  unfolding leave_all
  leave_all_run c [] = stays m c c refl
  leave_all_run c (e ∷ es) =
      let first = leaves_run c e in
      let rest = leave_all_run (leaves s c e) es in
      (first.0 ++ rest.0, rest.1 ∙ ap (λ d. run_cells m d rest.0) first.1 ∙ sym (run_append m c first.0 rest.0))

  -- an accepted start leaves the fresh cells, whatever it was lent
  pub start_fresh : (c : Cells) → length c ≡ all_cells → (start s c).cells ≡ fresh
  unfolding start on_model outcome
  start_fresh c e = rw (is, on_model, eq-eqb (length c) all_cells e)

  -- after a start, every mixture of entries is a run from the fresh cells
  pub mixture_run : (c : Cells) → length c ≡ all_cells → (es : List Entry) → RunTo m fresh (leave_all s (start s c).cells es)
  mixture_run c e es = subst (λ d. RunTo m d (leave_all s (start s c).cells es)) (start_fresh c e) (leave_all_run (start s c).cells es)
