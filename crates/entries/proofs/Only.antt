-- No second result fits: what an entry's own contract says, as it is read from the function, leaves one verdict and one list of cells. Assumes
-- nothing.
use mathlib.Core.Path.{◌≡◌, sym, ◌∙◌}
use borrow.Fn.Kinds.{ended_of}
use borrow.Fn.World.{ArgsD, ResD}
use contract.Lifetimes.{Lfts}
use denote.Triple.Clauses.{AtExit}
use Rattle.entries.specs.contracts.start as start
use Rattle.entries.proofs.start.Kinds as start-kinds
use Rattle.entries.proofs.start.Reads as start-reads
use Rattle.entries.specs.contracts.step as step
use Rattle.entries.proofs.step.Kinds as step-kinds
use Rattle.entries.proofs.step.Reads as step-reads

-- start: two verdicts, each with the cells afterwards, that its contract allows for one text and one list of cells
pub only_start : (κs : Lfts 2) (lent : ArgsD start.signature κs) (x y : ResD start.signature κs) (s t : AtExit (ended_of 2 start-kinds.ps start-kinds.r) κs)
    → start-reads.Post κs lent x s → start-reads.Post κs lent y t → (x ≡ y) × (s.1.0.now ≡ t.1.0.now)
only_start κs lent x y s t p q = (p.0 ∙ sym q.0, p.1 ∙ sym q.1)

-- step: the same, for one text, one list of cells and one choice
pub only_step : (κs : Lfts 2) (lent : ArgsD step.signature κs) (x y : ResD step.signature κs) (s t : AtExit (ended_of 2 step-kinds.ps step-kinds.r) κs)
    → step-reads.Post κs lent x s → step-reads.Post κs lent y t → (x ≡ y) × (s.1.0.now ≡ t.1.0.now)
only_step κs lent x y s t p q = (p.0 ∙ sym q.0, p.1 ∙ sym q.1)
