-- `code::partners::partner_before`: the line that ends the count is the partner, and the search never passes the first line.
use mathlib.Core.Path.{sym, ◌∙◌}
use native.Mathlib.Omega.{arith}
use Rattle.code.proofs.Counting.{counted_backward}
use Rattle.code.proofs.Going.{backward_most, ends_backward, met_backward, goes_backward}
use Rattle.code.proofs.partners.partner_before.Goals as goal

pub returns-in-None : goal.returns-in-None
returns-in-None c =
    let l = c.loop-j in
    let met = counted_backward _ _ l.closed _ _ c.from-shape.ensures c.opens.ensures c.closes.ensures in
    sym (met_backward c.args.lines.now c.args.i l.j l.closed l.invariant.1 c.loop-j-test.true (omega arith) c.requires.i_in_bounds (sym met ∙ sym c.counted.ensures ∙ c.in-None.is))

pub loop-j-preserved : goal.loop-j-preserved
loop-j-preserved c =
    let l = c.loop-j in
    let met = counted_backward _ _ l.closed _ _ c.from-shape.ensures c.opens.ensures c.closes.ensures in
    let e = sym met ∙ sym c.counted.ensures ∙ c.in-Some.is in
    let m = backward_most l.closed _ _ e in
    (omega arith, goes_backward c.args.lines.now c.args.i l.j l.closed l.invariant.1 c.loop-j-test.true (omega arith) c.requires.i_in_bounds _ e)

pub returns : goal.returns
returns c =
    let l = c.loop-j in
    absurd (ends_backward c.args.lines.now c.args.i l.j l.closed l.invariant.1 (omega arith))
