-- `performing::messages::moved_on`: the stage that was asked for, or the number that refuses.
use Rattle.std.proofs.Common.{sym, ◌∙◌}
use Rattle.forms.proofs.Written.{all_written}
use Rattle.performing.proofs.Choosing.{must_passed, must_failed}
use Rattle.performing.proofs.messages.moved_on.Goals as goal

pub returns : goal.returns
returns c = must_passed _ _ _ _ _ _ (sym c.in_stage.ensures ∙ c.if-not-in_stage.false) (all_written _ _ _ c.to_stage.ensures)

pub returns-then-not-in_stage : goal.returns-then-not-in_stage
returns-then-not-in_stage c = must_failed _ _ _ _ (sym c.in_stage.ensures ∙ c.if-not-in_stage.true)
