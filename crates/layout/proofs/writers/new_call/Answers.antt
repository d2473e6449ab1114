-- `layout::writers::new_call`: the row that is put is the row of a new call.
use mathlib.Core.Path.{ap₂}
use Rattle.std.proofs.Common.{pos, [], ◌∷◌, ◌++◌, refl, ap, ◌∙◌}
use Rattle.whole.proofs.Ranges.{handed}
use Rattle.layout.specs.Layout.{call, call_rows, call_cells, first_call, stands, cell_of}
use Rattle.layout.specs.Vocabulary.Found.{placed, field_cell, row_to}
use Rattle.layout.proofs.Fields.{row_written}
use Rattle.layout.proofs.writers.new_call.Goals as goal

pub returns : goal.returns
unfolding placed field_cell stands cell_of
returns c =
    let a = c.args in
    c.new_row.ensures
    ∙ ap (λ head. row_to first_call call_rows call_cells a.cells.now a.row 0 (head ++ a.locals.now))
    (ap₂ ◌∷◌ (handed _ _ c.from.type_inv c.from.ensures) (ap₂ ◌∷◌ (handed _ _ c.from-2.type_inv c.from-2.ensures) (ap₂ ◌∷◌ (handed _ _ c.from-3.type_inv c.from-3.ensures) (ap₂ ◌∷◌ (handed _ _ c.from-4.type_inv c.from-4.ensures) (ap (◌∷ pos 0 ∷ pos 0 ∷ pos 0 ∷ []) (handed _ _ c.from-5.type_inv c.from-5.ensures))))))
    ∙ row_written first_call call_rows call_cells (call a.row) a.row (λ f. refl) a.cells.now 0 _
