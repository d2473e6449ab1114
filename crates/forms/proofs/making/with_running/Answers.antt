-- `forms::making::with_running`: an object leaves the calls as many as they were, so the label that was read before is the next one.
use Rattle.std.proofs.Common.{◌+◌, [], refl, ap, ◌∙◌, arith}
use Rattle.layout.specs.Layout.{written, padded}
use Rattle.layout.specs.Stages.{running, rows_in_use}
use Rattle.rules.specs.Exec.{next_object, next_row, with_object, with_call}
use Rattle.forms.proofs.MakingLaws.{padded_whole, rows_kept, running_made}
use Rattle.forms.proofs.making.with_running.Goals as goal

pub with_call-requires : goal.with_call-requires
with_call-requires c =
    let attributes = c.args.attributes.now in
    let kept =
    ap rows_in_use (c.with_object.ensures attributes (padded_whole _ attributes c.told-attributes))
    ∙ rows_kept c.args.cells.now c.args.class _ attributes c.requires.all_cells c.requires.objects_within in
    omega (arith, kept)

pub returns : goal.returns
unfolding next_object next_row padded
returns c m o l st zs runs v =
    let cells = c.args.cells.now in
    let attributes = c.args.attributes.now in
    let kept =
    ap rows_in_use (c.with_object.ensures attributes (padded_whole _ attributes c.told-attributes))
    ∙ rows_kept cells c.args.class _ attributes c.requires.all_cells c.requires.objects_within in
    let object = ap (◌+ 1) c.objects_in_use.ensures in
    let label = ap (◌+ 1) c.rows_in_use.ensures in
    let d = c.with_object.new.cells in
    running_made m cells o l st c.args.class zs _ _ runs kept
    (c.with_object.ensures zs v ∙ ap (λ l. written cells (with_object cells c.args.class l zs)) label)
    (c.with_call.ensures [] refl refl ∙ ap (λ o. written d (with_call d running 0 o 0 [])) object)
