-- `performing::messages::start`: the tests of a start one after the other; a call that is in use has a callee.
use Rattle.std.proofs.Common.{true, false, sym, ap, ◌∙◌, arith}
use Rattle.std.specs.Prelude.{ok_or}
use Rattle.whole.specs.Vocabulary.Refusing as Refusing
use Rattle.whole.specs.declared.refusals.Refusal.TheVariants.{OutOfRange}
use Rattle.rules.specs.Messages as Messages
use Rattle.forms.proofs.Written.{there, worked_out_lem, did_not_fit, tested_true, is_zero, is_other}
use Rattle.performing.proofs.Choosing.{must_passed, must_failed, callee_found, start_busy, start_idle}
use Rattle.performing.proofs.messages.start.Goals as goal

pub returns-then-not-in_stage : goal.returns-then-not-in_stage
unfolding Messages.start Messages.start_in Refusing.number_of
returns-then-not-in_stage c = must_failed _ _ _ _ (sym c.in_stage.ensures ∙ c.if-not-in_stage.true)

pub returns-then-of_object-ne0 : goal.returns-then-of_object-ne0
returns-then-of_object-ne0 c =
    let callee = c.of_call-callee in
    let found = callee_found _ _ _ callee.type_inv callee.ensures c.requires.callee_in_use _ c.object_of.ensures _ _ c.in_ok-object.ensures.value in
    start_busy _ _ _ _ (sym c.in_stage.ensures ∙ c.if-not-in_stage.false) found _ c.of_object.ensures
    (is_other _ c.of_object.type_inv c.if-of_object-ne0.true)

pub returns-in_err-guard : goal.returns-in_err-guard
returns-in_err-guard c =
    let callee = c.of_call-callee in
    let found = callee_found _ _ _ callee.type_inv callee.ensures c.requires.callee_in_use _ c.object_of.ensures _ _ c.in_ok-object.ensures.value in
    start_idle _ _ _ _ (sym c.in_stage.ensures ∙ c.if-not-in_stage.false) found _ c.of_object.ensures
    (is_zero _ c.of_object.type_inv c.if-of_object-ne0.false) _ _
    (did_not_fit _ _ _ _ _ (c.in_err-guard.ensures.value ∙ ap (λ w. ok_or w OutOfRange) c.ready.ensures) c.from_residual-in_err-guard.ensures.1)

pub returns-then-not-is_true : goal.returns-then-not-is_true
unfolding Refusing.number_of
returns-then-not-is_true c =
    let callee = c.of_call-callee in
    let found = callee_found _ _ _ callee.type_inv callee.ensures c.requires.callee_in_use _ c.object_of.ensures _ _ c.in_ok-object.ensures.value in
    start_idle _ _ _ _ (sym c.in_stage.ensures ∙ c.if-not-in_stage.false) found _ c.of_object.ensures
    (is_zero _ c.of_object.type_inv c.if-of_object-ne0.false) _ _
    (worked_out_lem _ _ _ _ c.in_ok-guard.guard _ (sym c.ready.ensures ∙ there _ _ _ c.in_ok-guard.ensures.value)
    (must_failed _ _ _ _ (tested_true _ false _ (omega arith) c.is_true.ensures c.if-not-is_true.true)))

pub returns : goal.returns
returns c =
    let callee = c.of_call-callee in
    let found = callee_found _ _ _ callee.type_inv callee.ensures c.requires.callee_in_use _ c.object_of.ensures _ _ c.in_ok-object.ensures.value in
    start_idle _ _ _ _ (sym c.in_stage.ensures ∙ c.if-not-in_stage.false) found _ c.of_object.ensures
    (is_zero _ c.of_object.type_inv c.if-of_object-ne0.false) _ _
    (worked_out_lem _ _ _ _ c.in_ok-guard.guard _ (sym c.ready.ensures ∙ there _ _ _ c.in_ok-guard.ensures.value)
    (must_passed _ _ _ _ _ _ (tested_true _ true _ (omega arith) c.is_true.ensures c.if-not-is_true.false) c.started.ensures))
