-- `model::classes::all_methods`: what the loop keeps. What is left of the methods decides.
use Rattle.text.proofs.SoMany.{Passed}
use Rattle.model.specs.ModelText.{read_method}
use Rattle.model.specs.Vocabulary.Leaving.{between, MethodsLeft}
use Rattle.model.proofs.classes.all_methods.Given as goal

abbrev pub invariant-loop-j : goal.invariant-loop-j
invariant-loop-j l =
    Passed l.text (read_method l.class.classes l.class.attrs l.class.run) l.count (between l.initial.table l.total) l.initial.here l.here l.j (between l.table l.all)
    (λ os. MethodsLeft l.text l.initial.table l.initial.shapes l.table l.shapes l.class l.j l.total (os, between l.table l.all) l.all)
