-- `checking::all_calls`: what the calls of the closure answered is whether each call holds.
use Rattle.std.proofs.Common.{rules}
use Rattle.checking.proofs.Counting.{all_to_is}
use Rattle.checking.proofs.all_calls.Goals as goal

pub returns : goal.returns
returns c =
    all_to_is _ _ _ (λ e i h k. let p = c.all_between.ensures.each e i h k in search (rules, p))
    (λ e. let p = c.all_between.ensures.some e in (p.0, p.1, p.2, search (rules, p.3)))
