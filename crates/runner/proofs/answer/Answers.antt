-- `runner::answer`: what was taken of the input, and what is written for it.
use Rattle.std.proofs.Common.{List, ℕ, OnOk, take, subst}
use Rattle.std.specs.Io.KnownBytes.{Appends}
use Rattle.transcript.proofs.Storing.{take_front}
use Rattle.runner.proofs.answer.Goals as goal

pub returns : goal.returns
returns g c =
    let s = c.session-written.ensures in
    let taken = take c.read_full-given.result c.read_full-given.new.room in
    let bytes = take_front _ _ _ c.session-written.result s.out_after s.value in (
      taken,
      c.read_full-given.ensures.taken,
      subst (λ (text : List ℕ). OnOk c.write_all.result (Appends (g.W.Write.contents c.args.out.now) (g.W.Write.contents c.write_all.new.self) text)) bytes c.write_all.ensures.bytes,
    )
