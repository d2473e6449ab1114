-- `model::classes::all_classes`: what the loop keeps. What is left of the classes decides.
use Rattle.text.proofs.SoMany.{Passed}
use Rattle.model.specs.ModelText.{read_class}
use Rattle.model.specs.Vocabulary.Leaving.{between, ClassesLeft}
use Rattle.model.proofs.classes.all_classes.Given as goal

abbrev pub invariant-loop-k : goal.invariant-loop-k
invariant-loop-k l =
    Passed l.text (read_class l.count) l.count (between l.initial.table 0) l.initial.here l.here l.k (between l.table l.all)
    (λ m. ClassesLeft l.text l.initial.table l.initial.shapes l.table l.shapes l.count l.k (m, between l.table l.all) l.all)
