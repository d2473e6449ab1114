-- `transcript::reports::report`: the lines of the answers, and each of the four lines behind those before. Assumes nothing.
use borrow.Author.Rules.{rules}
use native.Mathlib.Omega.{arith}
use Rattle.whole.specs.Whole.{nat}
use Rattle.layout.specs.Layout as Layout
use Rattle.terms.specs.Bytes.{bytes}
use Rattle.session.specs.Shown.{shown_line}
use Rattle.session.specs.Runner as Runner
use Rattle.transcript.specs.Vocabulary.Front.{Adds}
use Rattle.transcript.proofs.Reporting.{nat_handed}
use Rattle.transcript.proofs.Storing.{adds_after, line_as, front_length, front_is}
use Rattle.transcript.proofs.reports.report.Goals as goal

pub returns : goal.returns
unfolding Runner.report
returns c =
    let answers = c.args.answers.now in
    let cells = c.args.cells.now in
    let accepted : Adds (shown_line (bytes "accepted=") (Runner.accepted_in answers)) c.answer_lines.new.front c.line.new.self = search (rules, line_as) in
    let refused : Adds (shown_line (bytes "refused=") (Runner.refused_in answers)) c.line.new.self c.line-2.new.self = search (rules, line_as) in
    let objects : Adds (shown_line (bytes "objects=") (nat (Layout.read cells Layout.objects))) c.line-2.new.self c.line-3.new.self = search (rules, line_as, nat_handed) in
    let calls : Adds (shown_line (bytes "calls=") (nat (Layout.read cells Layout.calls))) c.line-3.new.self c.line-4.new.self = search (rules, line_as, nat_handed) in
    let written : Adds (Runner.report answers cells) c.new-front.result c.line-4.new.self =
    adds_after (adds_after (adds_after (adds_after c.answer_lines.ensures.adds accepted) refused) objects) calls in
    record { value = search (rules, front_length written); out_after = search (rules, front_is written); upper_bound = omega arith }
