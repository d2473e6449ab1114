-- `checking::is_configuration`: the counts hold, and a cell behind the rows in use is not 0 or an object does not hold.
use Rattle.std.proofs.Common.{◌≡◌, ◌&&◌, false, sym, ap, ◌∙◌}
use Rattle.whole.specs.Plain.{all_to}
use Rattle.layout.specs.Stages.{objects_in_use, rows_in_use}
use Rattle.model.specs.Vocabulary.Known.{model_of}
use Rattle.cells.specs.Configuration.{object_holds, call_holds}
use Rattle.checking.proofs.Tests.{stopped, passed}
use Rattle.checking.proofs.Whole.{behind_zero, counts_right}
use Rattle.checking.proofs.is_configuration.Goals.{then-unused_zero, else-unused_zero}
use Rattle.checking.proofs.is_configuration.Goals as goal

pub returns-else-all_objects : goal.returns-else-all_objects
returns-else-all_objects c =
    let m = model_of c.args.program.now.text in
    let cells = c.args.cells.now in
    let objects = all_to (objects_in_use cells) (object_holds m cells) in
    let failed : false ≡ behind_zero cells && (objects && all_to (rows_in_use cells) (call_holds m cells)) = elim c.if-unused_zero.branch [
      | then-unused_zero w ↦
          let told = w.all_objects.ensures _ m w.table.ensures.belongs ∙ ap (λ n. all_to n (object_holds m cells)) w.objects_in_use.ensures in
          passed _ _ (sym w.if-unused_zero.ensures) (stopped _ _ (sym told ∙ sym w.value-is ∙ c.if-all_objects.false))
      | else-unused_zero w ↦ stopped _ _ (sym w.if-unused_zero.ensures)
    ] in
    c.if-all_objects.false ∙ failed ∙ counts_right m cells c.requires.all_cells (sym c.if-not-counts_hold.ensures)
