-- `runner::session`: what is written is the refusal of the text, or the report of what was played from the start.
use Rattle.std.proofs.Common.{◌≡◌, ℕ, List, ◌∙◌, sym, ap, rules, length}
use mathlib.Core.Path.{ap₂}
use lib.IntN.{ℤ}
use Rattle.layout.specs.Layout.{Cells, all_cells}
use Rattle.terms.specs.Bytes.{Text}
use Rattle.model.specs.Judge.{model, judged}
use Rattle.model.specs.Vocabulary.Known.{model_of}
use Rattle.engine.specs.Entries.{start}
use Rattle.engine.specs.Run.{run_cells, run_answers}
use Rattle.session.specs.Choices.{choices_from}
use Rattle.session.specs.Runner.{report, runner}
use Rattle.transcript.specs.Vocabulary.Front.{at_front}
use Rattle.transcript.specs.Vocabulary.Reported.{refusal_lines}
use Rattle.transcript.proofs.Sessions.{session_refused, session_ran}
use Rattle.transcript.proofs.Storing.{take_front}
use Rattle.runner.proofs.session.Goals as goal

-- bytes at the front, said in another way
told : (t u old new : Text) (r : ℕ) → t ≡ u → r ≡ length t → new ≡ at_front t old → (r ≡ length u) × (new ≡ at_front u old)
told t u old new r e n f = (n ∙ ap length e, f ∙ ap (λ t. at_front t old) e)

pub returns-in-Err-clause-value : goal.returns-in-Err-clause-value
returns-in-Err-clause-value c =
    let v = c.in-Err.ensures.value in
    let e = session_refused c.args.text.now _ (search rules) (λ z. c.in-Err.ensures.refused (ap (λ v. v.number) v ∙ z)) c.args.input.now in
    (told _ _ _ _ _ (sym (e ∙ ap refusal_lines (sym v))) c.refusal.ensures.value c.refusal.ensures.out_after).0

pub returns-in-Err-clause-out_after : goal.returns-in-Err-clause-out_after
returns-in-Err-clause-out_after c =
    let v = c.in-Err.ensures.value in
    let e = session_refused c.args.text.now _ (search rules) (λ z. c.in-Err.ensures.refused (ap (λ v. v.number) v ∙ z)) c.args.input.now in
    (told _ _ _ _ _ (sym (e ∙ ap refusal_lines (sym v))) c.refusal.ensures.value c.refusal.ensures.out_after).1

-- what is reported of what was played, of the text that the program is of
reported : (s t input : Text) (c d e : Cells) (played : List ℤ) → t ≡ s → length c ≡ all_cells → judged s ≡ model (model_of s) → d ≡ (start s c).cells
    → played ≡ run_answers (model_of t) d (choices_from input) → e ≡ run_cells (model_of t) d (choices_from input) → report played e ≡ runner s input
reported s t input c d e played of_text n accepted cells answers after =
    ap₂ report answers after ∙ ap (λ t. report (run_answers (model_of t) d (choices_from input)) (run_cells (model_of t) d (choices_from input))) of_text
    ∙ sym (session_ran s c n (model_of s) accepted d cells input)

pub returns-in-Ok-clause-value : goal.returns-in-Ok-clause-value
returns-in-Ok-clause-value c =
    let s = c.in-Ok.ensures in
    let p = c.play-count.ensures in
    let e = reported c.args.text.now _ c.args.input.now _ _ _ _ s.of_text (search rules) s.accepted s.cells_after (take_front _ _ _ _ p.answers_after p.value) p.cells_after in
    (told _ _ _ _ _ e c.report.ensures.value c.report.ensures.out_after).0

pub returns-in-Ok-clause-out_after : goal.returns-in-Ok-clause-out_after
returns-in-Ok-clause-out_after c =
    let s = c.in-Ok.ensures in
    let p = c.play-count.ensures in
    let e = reported c.args.text.now _ c.args.input.now _ _ _ _ s.of_text (search rules) s.accepted s.cells_after (take_front _ _ _ _ p.answers_after p.value) p.cells_after in
    (told _ _ _ _ _ e c.report.ensures.value c.report.ensures.out_after).1
