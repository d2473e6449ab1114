-- `forms::making::issued`: no callee, no row for the call, or the call issued and its label stored.
use Rattle.std.proofs.Common.{◌<◌, sym, ap, ◌∙◌, arith, to_z-of_z}
use Rattle.layout.specs.Stages.{object_of}
use Rattle.layout.specs.Vocabulary.Found.{as_object}
use Rattle.whole.specs.Vocabulary.Refusing as Refusing
use Rattle.forms.proofs.Written.{there, not_found}
use Rattle.forms.proofs.MakingLaws.{refused_done, number_after, object_some, object_none, no_callee, no_row, issued_done}
use Rattle.forms.proofs.making.issued.Goals as goal

pub returns-in_err-to : goal.returns-in_err-to
unfolding Refusing.number_of
returns-in_err-to c m st zs at v n =
    let told = sym (c.object_of.ensures ∙ ap (λ z. as_object (object_of c.args.cells.now z)) (to_z-of_z c.ranges.z)) in
    not_found _ _ _ _ _ _ c.in_err-to.ensures.value c.from_residual.ensures.1 (λ none. no_callee m _ _ _ st _ _ _ zs (object_none _ (told ∙ none)))

pub returns-then-rows : goal.returns-then-rows
unfolding Refusing.number_of
returns-then-rows c m st zs at v n =
    let told = sym (c.object_of.ensures ∙ ap (λ z. as_object (object_of c.args.cells.now z)) (to_z-of_z c.ranges.z)) in
    let callee = object_some _ _ (told ∙ there _ _ _ c.in_ok-to.ensures.value) in
    refused_done _ _ _ (no_row m _ _ _ st _ _ _ zs _ callee (omega (arith, c.if-rows.true, c.rows_in_use-rows.ensures)))

pub returns : goal.returns
returns c m st zs at v n =
    let told = sym (c.object_of.ensures ∙ ap (λ z. as_object (object_of c.args.cells.now z)) (to_z-of_z c.ranges.z)) in
    let callee = object_some _ _ (told ∙ there _ _ _ c.in_ok-to.ensures.value) in
    let few : c.rows_in_use-rows.result < 256 = omega (arith, c.if-rows.false) in
    issued_done m _ _ _ st _ _ _ zs _ callee _ _ _ _ (omega (arith, c.if-rows.false, c.rows_in_use-rows.ensures)) (c.with_call.ensures zs v n)
    (number_after _ few _ c.rows_in_use-rows.ensures) (c.assigned.ensures m st at)
