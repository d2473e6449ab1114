-- `performing::messages::bind`: a call in stage 2 is bound where its callee's class has the method.
use Rattle.std.proofs.Common.{sym, ◌∙◌}
use Rattle.whole.specs.Vocabulary.Refusing as Refusing
use Rattle.rules.specs.Messages as Messages
use Rattle.forms.proofs.Written.{all_written, there, not_found}
use Rattle.forms.proofs.MakingLaws.{same_done}
use Rattle.performing.proofs.Choosing.{must_failed, bound_none, bound_some}
use Rattle.performing.proofs.messages.bind.Goals as goal

pub returns-then-not-in_stage : goal.returns-then-not-in_stage
unfolding Messages.bind Refusing.number_of
returns-then-not-in_stage c s m b = must_failed _ _ _ _ (sym c.in_stage.ensures ∙ c.if-not-in_stage.true)

pub returns-in_err-ok_or : goal.returns-in_err-ok_or
unfolding Refusing.number_of
returns-in_err-ok_or c s m b =
    let queued = sym c.in_stage.ensures ∙ c.if-not-in_stage.false in
    not_found _ _ _ _ _ _ c.in_err-ok_or.ensures.value c.from_residual.ensures.1 (bound_none _ m _ _ queued _ (c.body_of.ensures s m b))

pub returns : goal.returns
returns c s m b =
    let queued = sym c.in_stage.ensures ∙ c.if-not-in_stage.false in
    same_done _ _ _ _ _ (bound_some _ m _ _ queued _ (c.body_of.ensures s m b) _ (there _ _ _ c.in_ok-ok_or.ensures.value))
    (all_written _ _ _ c.to_stage.ensures)
