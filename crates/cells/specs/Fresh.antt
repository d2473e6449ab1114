-- The configuration that a start writes. Assumes nothing.
use Rattle.std.specs.Prelude.{[], ◌∷◌, ◌++◌, pos, replicate}
use Rattle.layout.specs.Layout.{Cells, all_cells, written, objects, calls, new_object, new_call}
use Rattle.layout.specs.Stages.{running}

-- "Start writes: one object of class 0, attributes 0, running label 1; call 1 with caller 0, callee 1, method 0, stage 4, the rest 0."
unfoldable pub fresh : Cells
fresh =
    written (replicate all_cells (pos 0))
    ((objects, pos 1) ∷ (calls, pos 1) ∷ (new_object 1 0 1 [] ++ new_call 1 running 0 1 0 []))
