-- `lookup::standing_of`: a line below the number of the body's lines is one of them, and its statement is in the model.
use Rattle.std.specs.Prelude.{None}
use Rattle.std.proofs.Common.{◌<◌, length, sym, ap, subst, ◌∙◌, arith}
use Rattle.whole.specs.Whole.{natural}
use Rattle.whole.proofs.Ranges.{handed}
use Rattle.model.proofs.TableRows.{item_at}
use Rattle.cells.specs.Standing.{body_of}
use Rattle.lookup.specs.Vocabulary.Found.{IndexSaid, BodyIs, BodySaid, StandingSaid}
use Rattle.lookup.proofs.Saying.{stands_past, stands_at}
use Rattle.lookup.proofs.standing_of.Goals as goal

pub returns-in_err-line : goal.returns-in_err-line
unfolding BodySaid StandingSaid
returns-in_err-line c s m b =
    let f = c.of_call in
    let h : BodyIs c.args.table.now m (body_of m c.args.cells.now c.args.l.0) c.in_ok-body.body = c.in_ok-body.ensures s m b in
    rw c.from_residual-in_err-line.ensures
    (stands_past m _ _ h.body h.is _ h.count (subst (λ z. IndexSaid z c.in_ok-body.body.count None) (handed _ _ f.type_inv f.ensures) c.in_err-line.ensures))

pub returns : goal.returns
unfolding IndexSaid BodySaid StandingSaid
returns c s m b =
    let f = c.of_call in
    let said = c.in_ok-line.ensures in
    let line_is = ap natural (sym (handed _ _ f.type_inv f.ensures)) ∙ said.0 in
    let h : BodyIs c.args.table.now m (body_of m c.args.cells.now c.args.l.0) c.in_ok-body.body = c.in_ok-body.ensures s m b in
    let below : c.in_ok-line.line < length h.body.code = omega (arith, h.count, said.1) in
    let x = item_at h.body.code _ below in
    record { of = h; statement = x.0; there = x.1; stands = stands_at m _ _ h.body h.is _ line_is x.0 x.1 }
