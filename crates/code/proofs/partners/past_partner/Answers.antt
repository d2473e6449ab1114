-- `code::partners::past_partner`: the line that ends the count is the partner, and the search never passes the last line.
use mathlib.Core.Path.{sym, ◌∙◌}
use native.Mathlib.Omega.{arith}
use Rattle.code.proofs.Counting.{counted_onward}
use Rattle.code.proofs.Going.{onward_most, ends_onward, met_onward, goes_onward}
use Rattle.code.proofs.partners.past_partner.Goals as goal

pub returns-in-None : goal.returns-in-None
returns-in-None c =
    let l = c.loop-j in
    let met = counted_onward _ _ l.opened _ _ c.from-shape.ensures c.closes.ensures c.opens.ensures in
    let partner = met_onward c.args.lines.now c.args.i l.j l.opened l.invariant.1 c.loop-j-test.true (sym met ∙ sym c.counted.ensures ∙ c.in-None.is) in
    omega arith

pub loop-j-preserved : goal.loop-j-preserved
loop-j-preserved c =
    let l = c.loop-j in
    let met = counted_onward _ _ l.opened _ _ c.from-shape.ensures c.closes.ensures c.opens.ensures in
    let e = sym met ∙ sym c.counted.ensures ∙ c.in-Some.is in
    let m = onward_most l.opened _ _ e in
    (omega arith, goes_onward c.args.lines.now c.args.i l.j l.opened l.invariant.1 c.loop-j-test.true _ (omega arith) e)

pub returns : goal.returns
returns c =
    let l = c.loop-j in
    absurd (ends_onward c.args.lines.now c.args.i l.j l.opened l.invariant.1 (omega arith))
