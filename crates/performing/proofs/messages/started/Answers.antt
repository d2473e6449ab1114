-- `performing::messages::started`: the stage is written first, and then the callee's running label.
use Rattle.std.proofs.Common.{ap, ◌∙◌, arith, w32}
use mir.ValLaws.{to_z_pos}
use Rattle.layout.specs.Layout.{written, to_object, running_label}
use Rattle.rules.specs.Messages as Messages
use Rattle.forms.proofs.Written.{all_written, then}
use Rattle.performing.proofs.messages.started.Goals as goal

pub returns : goal.returns
unfolding Messages.started
returns c =
    let h = c.args.here in
    let d = c.to_stage.new.cells in
    all_written _ _ _
    (then _ _ _ _ c.to_stage.ensures _
    (c.to_object.ensures ∙ ap (λ z. written d (to_object h.object.0 running_label z)) (to_z_pos w32 h.label.0 (omega arith))))
