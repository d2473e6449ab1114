-- `transcript::reports::answer_lines`: the lines of no answers are none, and another line is put behind those before. Assumes nothing.
use borrow.Author.Rules.{rules}
use lib.IntN.{pos}
use lib.ListN.{get_or}
use mathlib.Core.Path.{◌≡◌, sym, ap, ◌∙◌}
use native.Mathlib.Omega.{arith}
use Rattle.whole.specs.Whole.{nat}
use Rattle.transcript.proofs.Reporting.{lines_none, lines_more}
use Rattle.transcript.proofs.Storing.{adds_none, adds_after, adds_as, line_as}
use Rattle.transcript.proofs.reports.answer_lines.Goals as goal

pub loop-answer-init : goal.loop-answer-init
loop-answer-init c = record { added = adds_as (sym lines_none) (adds_none c.args.front.now); upper_bound = omega arith }

pub loop-answer-preserved : goal.loop-answer-preserved
loop-answer-preserved c =
    let zs = c.args.answers.now in
    let l = c.loop-answer in
    let n : c.natural.result ≡ nat (get_or zs l.answer-index (pos 0)) = c.natural.ensures ∙ ap nat (search rules) in
    let more = lines_more zs l.answer-index c.loop-answer-test.true in
    record {
      added = adds_as more (adds_after l.invariant.added (line_as _ _ _ c.line.ensures.adds n));
      upper_bound = omega (arith, c.line.ensures.upper_bound);
    }
