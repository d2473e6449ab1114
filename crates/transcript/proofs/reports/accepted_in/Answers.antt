-- `transcript::reports::accepted_in`: how many answers pass the filter. Assumes nothing.
use Rattle.std.proofs.Common.{rules, sym, ◌∙◌, ◌≡◌, pos}
use Rattle.std.specs.List.{count_by}
use Rattle.whole.specs.Whole.{eq_z}
use Rattle.transcript.proofs.Reporting.{accepted_counted}
use Rattle.transcript.proofs.reports.accepted_in.Goals as goal

pub returns-clause-value : goal.returns-clause-value
returns-clause-value c =
    let zs = c.args.answers.now in
    let counted : c.count.result ≡ count_by (λ z. eq_z z (pos 0)) zs = search rules in
    counted ∙ sym (accepted_counted zs)
