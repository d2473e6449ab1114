-- No second result fits drive's contract: as it is read from the function, it leaves one verdict, one number of steps, one answer to quiet and
-- one list of cells. Assumes nothing.
use mathlib.Core.Path.{◌≡◌, sym, ap, ◌∙◌}
use borrow.Fn.Kinds.{ended_of}
use borrow.Fn.World.{ArgsD, ResD}
use contract.Lifetimes.{Lfts}
use denote.Triple.Clauses.{AtExit}
use Rattle.entries.specs.declared.driving.Drove.{Drove}
use Rattle.entries.specs.contracts.driving.drive as drive
use Rattle.entries.proofs.driving.drive.Kinds as drive-kinds
use Rattle.entries.proofs.driving.drive.Reads as drive-reads

-- two of the code's structs are one where their fields are
same_drove : (x y : Drove) → x.verdict ≡ y.verdict → x.steps ≡ y.steps → x.quiet ≡ y.quiet → x ≡ y
same_drove x y v n q =
    ap {B = Drove} (λ v. record { verdict = v; steps = x.steps; quiet = x.quiet }) v
    ∙ ap {B = Drove} (λ n. record { verdict = y.verdict; steps = n; quiet = x.quiet }) n
    ∙ ap {B = Drove} (λ q. record { verdict = y.verdict; steps = y.steps; quiet = q }) q

-- two results, each with the cells afterwards, that the contract allows for one text, one list of cells and one budget
pub only_drive : (κs : Lfts 2) (lent : ArgsD drive.signature κs) (x y : ResD drive.signature κs) (s t : AtExit (ended_of 2 drive-kinds.ps drive-kinds.r) κs)
    → drive-reads.Post κs lent x s → drive-reads.Post κs lent y t → (x ≡ y) × (s.1.0.now ≡ t.1.0.now)
only_drive κs lent x y s t p q =
    (same_drove x y (p.0 ∙ sym q.0) (p.1.0 ∙ sym q.1.0) (p.1.1.0 ∙ sym q.1.1.0), p.1.1.1 ∙ sym q.1.1.1)
