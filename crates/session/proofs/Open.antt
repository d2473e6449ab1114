-- A proof that computes with the definitions of this crate and of all below it says `unfolding session_open`. Assumes nothing.
use Rattle.session.specs.Choices
use Rattle.session.specs.Runner
use Rattle.session.specs.Shown
use Rattle.engine.proofs.Open.{engine_open}

unfoldable pub session_open : Unit {0}
unfolding engine_open Choices.digits_from Choices.digits_alone Choices.kind_name Choices.no_choice Choices.choice_of Choices.choices_from
    Runner.answer_lines Runner.accepted_in Runner.refused_in Runner.report Runner.ran Runner.runner Shown.shown_from Shown.shown
    Shown.shown_line
session_open = tt
