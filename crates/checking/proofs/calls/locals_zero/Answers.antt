-- `checking::calls::locals_zero`: what the calls of the closure answered is whether the locals are 0.
use Rattle.std.proofs.Common.{rules}
use Rattle.whole.proofs.Ranges.{handed}
use Rattle.checking.proofs.Counting.{zero_from_is}
use Rattle.checking.proofs.calls.locals_zero.Goals as goal

pub returns : goal.returns
returns c =
    zero_from_is _ _ _ _ (λ e i h k. let p = c.all_between.ensures.each e i h k in search (rules, p, handed))
    (λ e. let p = c.all_between.ensures.some e in (p.0, p.1, p.2, search (rules, p.3, handed)))
