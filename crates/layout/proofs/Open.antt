-- A proof that computes with the definitions of this crate and of all below it says `unfolding layout_open`. Assumes nothing.
use Rattle.layout.specs.Vocabulary.Found
use Rattle.layout.specs.Layout
use Rattle.layout.specs.Stages
use Rattle.whole.proofs.Open.{whole_open}

unfoldable pub layout_open : Unit {0}
unfolding whole_open Found.as_label Found.as_object Found.placed Found.call_placed Found.field_cell Found.held_at Found.put_at Found.zeros Found.zeros_in Layout.is_row Layout.stands Layout.cell_of Layout.place_of Layout.read Layout.write
    Layout.written Layout.of_object Layout.to_object Layout.row_of Layout.of_call Layout.to_call Layout.row_from Layout.padded Layout.new_object
    Layout.new_call Stages.objects_in_use Stages.rows_in_use Stages.up_to Stages.object_of Stages.label_of Stages.stage_of Stages.in_stage
    Stages.in_stages Stages.staged Stages.is_reply Stages.reply_for
layout_open = tt
