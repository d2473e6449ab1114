-- No second result fits: what an entry's own contract says, as it is read from the function, leaves one answer and one list of cells. The theorem of
-- `creol_run` is over the clauses themselves, in every model of the logic. Assumes nothing.
use mathlib.Core.Path.{◌≡◌, sym, ◌∙◌}
use seplogic.Ra.Ura.{Ura}
use base.Logic.{SProp, ent, via}
use prog.Memory.{Memory}
use prog.Routine.{Routine}
use types.Logic.{Logic}
use borrow.Fn.Kinds.{ended_of}
use borrow.Fn.World.{ArgsD, ResD}
use contract.Lifetimes.{Lfts}
use contract.Monad.{Fun, conj, conj_l, conj_r, fact, fact_i, fact_use}
use denote.Triple.Clauses.{AtExit}
use denote.Triple.Entry.{Args, Res}
use Rattle.entries.proofs.OnlyRun.{together}
use Rattle.creol.specs.contracts.creol_judge.{signature}
use Rattle.creol.proofs.creol_judge.Kinds as kinds
use Rattle.creol.proofs.creol_judge.Reads as reads
use Rattle.creol.specs.contracts.creol_drive as drive
use Rattle.creol.proofs.creol_drive.Kinds as drive-kinds
use Rattle.creol.proofs.creol_drive.Reads as drive-reads
use Rattle.creol.specs.contracts.creol_run as creol-run
use Rattle.creol.specs.contracts.creol_start as start
use Rattle.creol.proofs.creol_start.Kinds as start-kinds
use Rattle.creol.proofs.creol_start.Reads as start-reads
use Rattle.creol.specs.contracts.creol_step as step
use Rattle.creol.proofs.creol_step.Kinds as step-kinds
use Rattle.creol.proofs.creol_step.Reads as step-reads

-- creol_judge: two answers that its contract allows for one text are one
pub only_judge : (κs : Lfts 1) (text : ArgsD signature κs) (x y : ResD signature κs) (s t : AtExit (ended_of 1 kinds.ps kinds.r) κs)
    → reads.Post κs text x s → reads.Post κs text y t → x ≡ y
only_judge κs text x y s t p q = p ∙ sym q

-- creol_start: two answers, each with the cells afterwards, that its contract allows for one text and one list of cells
pub only_start : (κs : Lfts 2) (lent : ArgsD start.signature κs) (x y : ResD start.signature κs) (s t : AtExit (ended_of 2 start-kinds.ps start-kinds.r) κs)
    → start-reads.Post κs lent x s → start-reads.Post κs lent y t → (x ≡ y) × (s.1.0.now ≡ t.1.0.now)
only_start κs lent x y s t p q = (p.0 ∙ sym q.0, p.1 ∙ sym q.1)

-- creol_step: the same, for one text, one list of cells, one kind and one number
pub only_step : (κs : Lfts 2) (lent : ArgsD step.signature κs) (x y : ResD step.signature κs) (s t : AtExit (ended_of 2 step-kinds.ps step-kinds.r) κs)
    → step-reads.Post κs lent x s → step-reads.Post κs lent y t → (x ≡ y) × (s.1.0.now ≡ t.1.0.now)
only_step κs lent x y s t p q = (p.0 ∙ sym q.0, p.1 ∙ sym q.1)

module _ {M : Type 1} {𝓤 : Ura M} (𝓛 : Logic 𝓤) (mem : Memory → SProp 𝓤) (run : Routine → Fun 𝓤) (κs : Lfts 4) (lent : Args creol-run.signature κs) where
  -- what creol_run's contract says of an answer, with the lent slices as they are at exit
  abbrev Says : Res creol-run.signature κs → AtExit creol-run.ended κs → SProp 𝓤
  Says = (creol-run.clauses 𝓛 mem run κs lent).ensures tt

  -- creol_run: the same, with the answers afterwards, for one text, one list of cells, one of choices and one of answers
  pub only_run : (x y : Res creol-run.signature κs) (s t : AtExit creol-run.ended κs)
      → ent 𝓤 (conj 𝓤 (Says x s) (Says y t)) (fact 𝓤 ((x ≡ y) × (s.1.0.now ≡ t.1.0.now) × (s.1.1.1.0.now ≡ t.1.1.1.0.now)))
  only_run x y s t =
      fact_use 𝓤 _ (via 𝓤 _ (conj_l 𝓤 (Says x s) (Says y t)) (together 𝓤 _ _ _)) (λ p.
      fact_use 𝓤 _ (via 𝓤 _ (conj_r 𝓤 (Says x s) (Says y t)) (together 𝓤 _ _ _)) (λ q.
      fact_i 𝓤 _ _ (p.0 ∙ sym q.0, p.1 ∙ sym q.1, p.2 ∙ sym q.2)))

-- creol_drive: the same as of creol_step, for one text, one list of cells and one budget
pub only_drive : (κs : Lfts 2) (lent : ArgsD drive.signature κs) (x y : ResD drive.signature κs) (s t : AtExit (ended_of 2 drive-kinds.ps drive-kinds.r) κs)
    → drive-reads.Post κs lent x s → drive-reads.Post κs lent y t → (x ≡ y) × (s.1.0.now ≡ t.1.0.now)
only_drive κs lent x y s t p q = (p.0 ∙ sym q.0, p.1 ∙ sym q.1)
