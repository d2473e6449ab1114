-- `performing::statements::exec`: the running label, where its call stands, and the statement that was read there.
use Rattle.std.proofs.Common.{refl, sym, ap, subst, ◌∙◌}
use Rattle.whole.specs.Vocabulary.Refusing as Refusing
use Rattle.whole.proofs.Ranges.{handed}
use Rattle.layout.specs.Stages.{label_of}
use Rattle.layout.specs.Vocabulary.Found.{as_label}
use Rattle.layout.proofs.Numbers.{label_some, label_none}
use Rattle.model.specs.Vocabulary.Belonging.{Belongs}
use Rattle.model.specs.Vocabulary.Known.{model_of}
use Rattle.rules.specs.Exec as Exec
use Rattle.lookup.proofs.Reading.{few_classes, lined, line_shapes, line_said, line_small}
use Rattle.forms.specs.Vocabulary.Done.{Done}
use Rattle.forms.proofs.MakingLaws.{same_done}
use Rattle.forms.proofs.Written.{there, not_found}
use Rattle.performing.proofs.Spoken.{small, read_still, same_left, same_right, read_fine, exec_idle, exec_past, exec_performs}
use Rattle.performing.proofs.Choosing.{stands_nowhere, stands_kept}
use Rattle.performing.proofs.statements.exec.Goals as goal

pub performed-requires-clause-lined : goal.performed-requires-clause-lined
performed-requires-clause-lined c =
    let st = stands_kept _ _ _ _ _ (c.standing_of.ensures _ _ c.table-table.ensures.belongs) _ _ c.program.view_is c.table-table.ensures.value refl _ (there _ _ _ c.in_ok-at.ensures.value) in
    lined _ _ _ c.program.invariant _ _ _ st

pub performed-requires-clause-small : goal.performed-requires-clause-small
performed-requires-clause-small c =
    let st = stands_kept _ _ _ _ _ (c.standing_of.ensures _ _ c.table-table.ensures.belongs) _ _ c.program.view_is c.table-table.ensures.value refl _ (there _ _ _ c.in_ok-at.ensures.value) in
    let said = read_still _ _ _ _ c.map_err.ensures.cases (line_said _ _ _ c.program.invariant _ _ _ st _ _ c.statement.ensures) in
    small _ (few_classes _ _ _ c.program.invariant) _ (line_small _ _ _ c.program.invariant _ _ _ st _) _ _
    (same_left _ _ _ c.in_ok-statement.was said) (same_right _ _ _ c.in_ok-statement.was said)

pub returns-in_err-label : goal.returns-in_err-label
unfolding Refusing.number_of
returns-in_err-label c =
    let cells = c.args.cells.now in
    let running = c.of_object-running in
    let found = c.label_of.ensures ∙ ap (λ z. as_label (label_of cells z)) (handed _ _ running.type_inv running.ensures) in
    not_found _ _ _ _ _ _ c.in_err-label.ensures.value c.from_residual.ensures.1 (λ none. exec_idle _ _ _ (label_none _ (sym found ∙ none)))

pub returns-in_err-at : goal.returns-in_err-at
unfolding Refusing.number_of
returns-in_err-at c =
    let cells = c.args.cells.now in
    let running = c.of_object-running in
    let found = c.label_of.ensures ∙ ap (λ z. as_label (label_of cells z)) (handed _ _ running.type_inv running.ensures) in
    let label = label_some _ _ (sym found ∙ there _ _ _ c.in_ok-label.ensures.value) in
    not_found _ _ _ _ _ _ c.in_err-at.ensures.value c.from_residual-in_err-at.ensures.1
    (λ none. exec_past _ _ _ _ label (stands_nowhere _ _ _ _ _ (c.standing_of.ensures _ _ c.table-table.ensures.belongs) none))

pub returns-in_err-statement : goal.returns-in_err-statement
returns-in_err-statement c =
    let st = stands_kept _ _ _ _ _ (c.standing_of.ensures _ _ c.table-table.ensures.belongs) _ _ c.program.view_is c.table-table.ensures.value refl _ (there _ _ _ c.in_ok-at.ensures.value) in
    let said = read_still _ _ _ _ c.map_err.ensures.cases (line_said _ _ _ c.program.invariant _ _ _ st _ _ c.statement.ensures) in
    absurd (read_fine _ _ _ said c.in_err-statement.was)

pub returns : goal.returns
returns c =
    let cells = c.args.cells.now in
    let running = c.of_object-running in
    let found = c.label_of.ensures ∙ ap (λ z. as_label (label_of cells z)) (handed _ _ running.type_inv running.ensures) in
    let label = label_some _ _ (sym found ∙ there _ _ _ c.in_ok-label.ensures.value) in
    let st = stands_kept _ _ _ _ _ (c.standing_of.ensures _ _ c.table-table.ensures.belongs) _ _ c.program.view_is c.table-table.ensures.value refl _ (there _ _ _ c.in_ok-at.ensures.value) in
    let said = read_still _ _ _ _ c.map_err.ensures.cases (line_said _ _ _ c.program.invariant _ _ _ st _ _ c.statement.ensures) in
    let belongs = subst (λ p. Belongs p.text c.table-table.result (model_of p.text)) (sym c.program.view_is) c.table-table.ensures.belongs in
    subst (λ p. Done cells (Exec.exec (model_of p.text) cells c.args.o.0) c.performed.result c.performed.new.cells) c.program.view_is
    (same_done _ _ _ _ _ (exec_performs _ _ _ _ label _ st.stands)
    (c.performed.ensures _ _ _ _ belongs (refl, line_shapes _ _ _ c.program.invariant _ _ _ st)
    (same_left _ _ _ c.in_ok-statement.was said) (same_right _ _ _ c.in_ok-statement.was said)))
