-- `transcript::shown::Front::put`: the bytes stand behind those before, and nothing else was changed. Assumes nothing.
use mathlib.Core.Path.{refl, ap, ◌∙◌}
use lib.ListN.{length}
use lib.Seq.{length-sets}
use Rattle.transcript.proofs.Storing.{put_is}
use Rattle.transcript.proofs.shown.Front.put.Goals as goal

pub returns : goal.returns
returns c =
    let old = c.args.self.now.out.now in
    let e = put_is old c.args.bytes.now c.copy_from_slice.new.self c.args.self.now.at c.copy_from_slice.ensures.after c.requires in
    record { same_reference = refl; room = ap length e ∙ length-sets old c.args.self.now.at c.args.bytes.now; put = e; behind = refl }
