-- No second result fits: what the contract of each public function says, as it is read from the function, leaves one answer and one content of
-- the memory that was lent. Assumes nothing.
use mathlib.Core.Path.{◌≡◌, sym, ◌∙◌}
use borrow.Fn.Kinds.{ended_of}
use borrow.Fn.World.{ArgsD, ResD}
use contract.Lifetimes.{Lfts}
use denote.Triple.Clauses.{AtExit}
use Rattle.transcript.specs.contracts.choices.choice_of as choice-of
use Rattle.transcript.proofs.choices.choice_of.Kinds as choice-of-kinds
use Rattle.transcript.proofs.choices.choice_of.Reads as choice-of-reads
use Rattle.transcript.specs.contracts.choices.line_end as line-end
use Rattle.transcript.proofs.choices.line_end.Kinds as line-end-kinds
use Rattle.transcript.proofs.choices.line_end.Reads as line-end-reads
use Rattle.transcript.specs.contracts.choices.part_read as part-read
use Rattle.transcript.proofs.choices.part_read.Kinds as part-read-kinds
use Rattle.transcript.proofs.choices.part_read.Reads as part-read-reads
use Rattle.transcript.specs.contracts.reports.report as report
use Rattle.transcript.proofs.reports.report.Kinds as report-kinds
use Rattle.transcript.proofs.reports.report.Reads as report-reads
use Rattle.transcript.specs.contracts.reports.refusal as refusal
use Rattle.transcript.proofs.reports.refusal.Kinds as refusal-kinds
use Rattle.transcript.proofs.reports.refusal.Reads as refusal-reads

-- choice_of: the choice of a line
pub only_choice_of : (κs : Lfts 1) (a : ArgsD choice-of.signature κs) (x y : ResD choice-of.signature κs) (s t : AtExit (ended_of 1 choice-of-kinds.ps choice-of-kinds.r) κs)
    → choice-of-reads.Post κs a x s → choice-of-reads.Post κs a y t → x ≡ y
only_choice_of κs a x y s t p q = p ∙ sym q

-- line_end: the place where it ends
pub only_line_end : (κs : Lfts 1) (a : ArgsD line-end.signature κs) (x y : ResD line-end.signature κs) (s t : AtExit (ended_of 1 line-end-kinds.ps line-end-kinds.r) κs)
    → line-end-reads.Post κs a x s → line-end-reads.Post κs a y t → x ≡ y
only_line_end κs a x y s t p q = p ∙ sym q

-- part_read: the bytes that are read
pub only_part_read : (κs : Lfts 1) (a : ArgsD part-read.signature κs) (x y : ResD part-read.signature κs) (s t : AtExit (ended_of 1 part-read-kinds.ps part-read-kinds.r) κs)
    → part-read-reads.Post κs a x s → part-read-reads.Post κs a y t → x.now ≡ y.now
only_part_read κs a x y s t p q = p ∙ sym q

-- report: how many bytes, and the bytes
pub only_report : (κs : Lfts 3) (a : ArgsD report.signature κs) (x y : ResD report.signature κs) (s t : AtExit (ended_of 3 report-kinds.ps report-kinds.r) κs)
    → report-reads.Post κs a x s → report-reads.Post κs a y t → (x ≡ y) × (s.1.1.0.now ≡ t.1.1.0.now)
only_report κs a x y s t p q = (p.0 ∙ sym q.0, p.1.0 ∙ sym q.1.0)

-- refusal: the same
pub only_refusal : (κs : Lfts 1) (a : ArgsD refusal.signature κs) (x y : ResD refusal.signature κs) (s t : AtExit (ended_of 1 refusal-kinds.ps refusal-kinds.r) κs)
    → refusal-reads.Post κs a x s → refusal-reads.Post κs a y t → (x ≡ y) × (s.1.0.now ≡ t.1.0.now)
only_refusal κs a x y s t p q = (p.0 ∙ sym q.0, p.1.0 ∙ sym q.1.0)
