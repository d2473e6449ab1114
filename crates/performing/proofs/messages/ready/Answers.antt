-- `performing::messages::ready`: where the call stands is a line of the text, which is read as its statement is.
use Rattle.std.proofs.Common.{refl, sym, ap, ◌∙◌}
use Rattle.model.specs.Vocabulary.Known.{model_of}
use Rattle.rules.specs.Messages as Messages
use Rattle.lookup.proofs.Reading.{line_said}
use Rattle.performing.proofs.Choosing.{stands_kept, ready_there, ready_got, not_bad}
use Rattle.performing.proofs.messages.ready.Goals as goal

pub returns-in-Err : goal.returns-in-Err
returns-in-Err c =
    let st = stands_kept _ _ _ _ _ (c.standing_of.ensures _ _ c.table.ensures.belongs) _ _ c.program.view_is c.table.ensures.value refl _ c.in-Some.is in
    absurd (not_bad _ _ _ (line_said _ _ _ c.program.invariant _ _ _ st _ _ c.statement.ensures) _ c.in-Err.is)

pub returns-in-Ok : goal.returns-in-Ok
returns-in-Ok c =
    let h = c.args.here in
    let st = stands_kept _ _ _ _ _ (c.standing_of.ensures _ _ c.table.ensures.belongs) _ _ c.program.view_is c.table.ensures.value refl _ c.in-Some.is in
    c.ready_at.ensures
    ∙ ready_got _ _ _ (line_said _ _ _ c.program.invariant _ _ _ st _ _ c.statement.ensures) _ _ c.in-Ok.is
    ∙ sym (ready_there _ _ _ _ _ st.stands)
    ∙ ap (λ p. Messages.ready (model_of p.text) c.args.cells.now h.object.0 h.label.0) c.program.view_is
