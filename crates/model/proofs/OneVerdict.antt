-- No second verdict fits: what judge's own contract says, as it is read from the function, leaves one answer for a text. Assumes nothing.
use mathlib.Core.Path.{◌≡◌, sym, ◌∙◌}
use borrow.Fn.Kinds.{ended_of}
use borrow.Fn.World.{ArgsD, ResD}
use contract.Lifetimes.{Lfts}
use denote.Triple.Clauses.{AtExit}
use Rattle.model.specs.contracts.judging.judge.{signature}
use Rattle.model.proofs.judging.judge.Kinds as kinds
use Rattle.model.proofs.judging.judge.Reads as reads

pub only_verdict : (κs : Lfts 1) (text : ArgsD signature κs) (x y : ResD signature κs) (s t : AtExit (ended_of 1 kinds.ps kinds.r) κs)
    → reads.Post κs text x s → reads.Post κs text y t → x ≡ y
only_verdict κs text x y s t p q = p ∙ sym q
