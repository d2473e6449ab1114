-- `forms::took_reply`: the reply that was found is written down as taken, and then its value is stored as `set` stores one.
use Rattle.std.proofs.Common.{sym, ap, ◌∙◌}
use Rattle.whole.proofs.Ranges.{handed}
use Rattle.whole.specs.Vocabulary.Refusing as Refusing
use Rattle.layout.proofs.Numbers.{label_some, label_none}
use Rattle.layout.specs.Stages.{reply_for}
use Rattle.layout.specs.Vocabulary.Found.{as_label}
use Rattle.terms.specs.Vocabulary.Answers.{surroundings}
use Rattle.rules.specs.Exec as Exec
use Rattle.forms.proofs.Written.{there, not_found, assigned_then, done_with}
use Rattle.forms.proofs.took_reply.Goals as goal

pub returns-in_err-from : goal.returns-in_err-from
unfolding Refusing.number_of Exec.took_reply Exec.here surroundings
returns-in_err-from c m st at =
    let a = c.args in
    let found = c.reply_for.ensures ∙ ap (λ z. as_label (reply_for a.cells.now a.running.here.object.0 z)) (handed _ _ c.held-held.type_inv c.held-held.ensures) in
    not_found _ _ _ _ _ _ c.in_err-from.ensures.value c.from_residual.ensures.1 (λ none. rw (label_none _ (sym found ∙ none), Exec.took_reply))

pub returns : goal.returns
unfolding Exec.took_reply Exec.here surroundings
returns c m st at =
    let a = c.args in
    let h = a.running.here in
    let found = c.reply_for.ensures ∙ ap (λ z. as_label (reply_for a.cells.now h.object.0 z)) (handed _ _ c.held-held.type_inv c.held-held.ensures) in
    let d = c.to_stage.new.cells in
    rw (label_some _ _ (sym found ∙ there _ _ _ c.in_ok-from.ensures.value), Exec.took_reply)
    (assigned_then _ _ _ _ c.to_stage.ensures m _ _ st _ a.y _
    (done_with d _ (Exec.assigned m d h.object.0 h.label.0 st a.y) _ _ _ (handed _ _ c.of_call-z.type_inv c.of_call-z.ensures) (c.assigned.ensures m st at)))
