-- `layout::writers::new_object`: the row that is put is the row of a new object.
use mathlib.Core.Path.{ap₂}
use Rattle.std.proofs.Common.{pos, ◌∷◌, refl, ap, ◌∙◌}
use Rattle.whole.proofs.Ranges.{handed}
use Rattle.layout.specs.Layout.{object, object_rows, object_cells, first_object, stands, cell_of}
use Rattle.layout.specs.Vocabulary.Found.{placed, field_cell, row_to}
use Rattle.layout.proofs.Fields.{row_written}
use Rattle.layout.proofs.writers.new_object.Goals as goal

pub returns : goal.returns
unfolding placed field_cell stands cell_of
returns c =
    let a = c.args in
    c.new_row.ensures
    ∙ ap₂ (λ k l. row_to first_object object_rows object_cells a.cells.now c.from-3.result 0 (k ∷ l ∷ a.attributes.now))
    (handed _ _ c.from.type_inv c.from.ensures) (handed _ _ c.from-2.type_inv c.from-2.ensures)
    ∙ ap (λ o. row_to first_object object_rows object_cells a.cells.now o 0 (pos a.class ∷ pos a.label ∷ a.attributes.now)) c.from-3.ensures
    ∙ row_written first_object object_rows object_cells (object a.o.0) a.o.0 (λ f. refl) a.cells.now 0 _
