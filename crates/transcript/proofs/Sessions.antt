-- What the runner writes, by the verdict on the model: the bytes of `refusal`, or those of `report` on the answers and the cells that the run
-- leaves. Assumes nothing.
use mathlib.Core.Bool.{true}
use mathlib.Core.List.{[]}
use mathlib.Core.Path.{◌≡◌, refl, sym, ap, ◌∙◌}
use borrow.Author.Tests.{eq-eqb}
use lib.ListN.{length}
use Rattle.whole.specs.Refusals.{accepted}
use Rattle.layout.specs.Layout.{Cells, all_cells}
use Rattle.terms.specs.Bytes.{Text}
use Rattle.text.specs.declared.Verdict.{Verdict}
use Rattle.model.specs.Judge.{Judged, refusal, model, judged}
use Rattle.model.specs.Model.{Model}
use Rattle.model.proofs.AcceptedJudged.{model_accepted}
use Rattle.cells.specs.Configuration.{is_configuration}
use Rattle.cells.specs.Fresh.{fresh}
use Rattle.cells.proofs.Freshly.{fresh_is}
use Rattle.engine.specs.Entries.{outcome, at_no_line, on_model, start}
use Rattle.engine.specs.Run.{run_cells, run_answers}
use Rattle.session.specs.Choices.{choices_from}
use Rattle.session.specs.Runner.{report, ran, runner}
use Rattle.transcript.specs.Vocabulary.Reported.{refusal_lines}

module _ (s input : Text) where
  runner_refused : (v : Verdict) → judged s ≡ refusal v → runner s input ≡ refusal_lines v
  unfolding runner refusal_lines
  runner_refused v e = rw (e, runner)

  runner_ran : (m : Model) → judged s ≡ model m
      → runner s input ≡ report (run_answers m fresh (choices_from input)) (run_cells m fresh (choices_from input))
  unfolding runner ran
  runner_ran m e = rw (e, runner)

-- and by `start`, of the text and of cells of the right number
module _ (s : Text) (c : Cells) (n : length c ≡ all_cells) where
  start_refused : (v : Verdict) → judged s ≡ refusal v → start s c ≡ outcome v c []
  unfolding start on_model
  start_refused v e = rw (e, start, on_model)

  start_accepted : (m : Model) → judged s ≡ model m → start s c ≡ outcome (at_no_line accepted) fresh []
  unfolding start on_model
  start_accepted m e = rw (e, eq-eqb (length c) all_cells n, start, on_model)

  -- a text that `start` refuses
  pub session_refused : ((start s c).verdict.number ≡ accepted → ⊥) → (input : Text) → runner s input ≡ refusal_lines (start s c).verdict
  unfolding outcome at_no_line
  session_refused h input = go (judged s) refl
    where
      go : (j : Judged) → judged s ≡ j → runner s input ≡ refusal_lines (start s c).verdict
      go (refusal v) e = runner_refused s input v e ∙ ap (λ o. refusal_lines o.verdict) (sym (start_refused v e))
      go (model m) e = absurd (h (ap (λ o. o.verdict.number) (start_accepted m e)))

  -- one that it accepts: the run goes from the cells that it leaves, a configuration
  module _ (m : Model) (e : judged s ≡ model m) (d : Cells) (is : d ≡ (start s c).cells) where
    freshly : d ≡ fresh
    unfolding outcome
    freshly = is ∙ ap (λ o. o.cells) (start_accepted m e)

    pub session_configured : is_configuration m d ≡ true
    session_configured = ap (is_configuration m) freshly ∙ fresh_is m (model_accepted s m e)

    pub session_ran : (input : Text) → runner s input ≡ report (run_answers m d (choices_from input)) (run_cells m d (choices_from input))
    session_ran input =
        runner_ran s input m e ∙ sym (ap (λ d. report (run_answers m d (choices_from input)) (run_cells m d (choices_from input))) freshly)
