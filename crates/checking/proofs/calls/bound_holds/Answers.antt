-- `checking::calls::bound_holds`: where the call stands, its line holds as the statement there says.
use Rattle.std.proofs.Common.{◌+◌, get_or, sym, ap, subst, ◌∙◌}
use Rattle.layout.specs.Layout.{most_locals, of_call, local}
use Rattle.code.specs.Vocabulary.Shapes.{shape_at}
use Rattle.code.proofs.Shapes.{shape_of_number}
use Rattle.model.specs.Vocabulary.Known.{Known, model_of}
use Rattle.cells.specs.Configuration.{zero_from}
use Rattle.lookup.specs.Vocabulary.Found.{StandingIs, StandingSaid}
use Rattle.lookup.specs.Vocabulary.Programs.{Kept}
use Rattle.lookup.proofs.Reading.{line_shape}
use Rattle.checking.proofs.Said.{standing}
use Rattle.checking.proofs.Tests.{passed}
use Rattle.checking.proofs.calls.bound_holds.Goals as goal

pub returns-then-locals_zero : goal.returns-then-locals_zero
unfolding StandingSaid
returns-then-locals_zero c =
    let a = c.args in
    let v = c.program.view_is in
    let k = subst (λ (p : Kept). Known p.text p.table p.shapes) v c.program.invariant in
    let found : StandingIs c.table.result (model_of a.program.now.text) a.cells.now a.l.0 c.in-Some.at = c.in-Some.ensures _ _ c.table.ensures.belongs in
    let d = subst (λ t. StandingIs t (model_of a.program.now.text) a.cells.now a.l.0 c.in-Some.at) c.table.ensures.value found in
    let shape = c.shape.ensures ∙ ap (λ (p : Kept). get_or p.shapes (c.in-Some.at.body.first + c.in-Some.at.line) 0) v ∙ line_shape _ _ _ k _ _ _ d in
    let zero = c.if-locals_zero.ensures ∙ ap (λ n. zero_from most_locals n (λ i. of_call a.cells.now a.l.0 (local i))) d.of.locals in
    standing _ _ _ _ _ d.statement _ d.stands
    (passed _ _ (sym zero) (c.line_holds.ensures _ d.statement (c.from-shape.ensures ∙ ap shape_at shape ∙ shape_of_number _)))
