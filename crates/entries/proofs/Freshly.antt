-- The cells that a start writes, one part after the other as the code writes them. Assumes nothing.
use mathlib.Core.List.{[], ◌∷◌, ◌++◌}
use mathlib.Core.Path.{◌≡◌, refl, sym, ap, ◌∙◌}
use lib.IntN.{pos}
use lib.ListN.{length, replicate}
use Rattle.layout.specs.Layout.{Cells, all_cells, written, objects, calls, object, call, class, stage, row_from, padded, new_object, new_call}
use Rattle.layout.specs.Stages.{running}
use Rattle.layout.proofs.Writes.{written_append}
use Rattle.cells.specs.Fresh.{fresh}

-- the four writes of a start, on any cells
in_parts : (b : Cells) → written (written (written (written b ((objects, pos 1) ∷ [])) ((calls, pos 1) ∷ [])) (new_object 1 0 1 [])) (new_call 1 running 0 1 0 [])
    ≡ written b ((objects, pos 1) ∷ (calls, pos 1) ∷ (new_object 1 0 1 [] ++ new_call 1 running 0 1 0 []))
unfolding written
in_parts b = sym (written_append _ (new_object 1 0 1 []) (new_call 1 running 0 1 0 []))

-- the row of its object, and that of its call
object_row : row_from (object 1) class (pos 0 ∷ pos 1 ∷ replicate 8 (pos 0)) ≡ new_object 1 0 1 []
unfolding new_object padded
object_row = refl

call_row : row_from (call 1) stage (pos running ∷ pos 0 ∷ pos 1 ∷ pos 0 ∷ pos 0 ∷ pos 0 ∷ pos 0 ∷ pos 0 ∷ replicate 8 (pos 0)) ≡ new_call 1 running 0 1 0 []
unfolding new_call padded
call_row = refl

-- all cells 0, and then the four writes
pub fresh_written : (c d e f g h : Cells) → length c ≡ all_cells → d ≡ replicate (length c) (pos 0) → e ≡ written d ((objects, pos 1) ∷ [])
    → f ≡ written e ((calls, pos 1) ∷ []) → g ≡ written f (row_from (object 1) class (pos 0 ∷ pos 1 ∷ replicate 8 (pos 0)))
    → h ≡ written g (row_from (call 1) stage (pos running ∷ pos 0 ∷ pos 1 ∷ pos 0 ∷ pos 0 ∷ pos 0 ∷ pos 0 ∷ pos 0 ∷ replicate 8 (pos 0))) → h ≡ fresh
unfolding fresh
fresh_written c d e f g h full blank o l object_put call_put =
    call_put ∙ ap (written g) call_row
    ∙ ap (λ g. written g (new_call 1 running 0 1 0 []))
    (object_put ∙ ap (written f) object_row
    ∙ ap (λ f. written f (new_object 1 0 1 [])) (l ∙ ap (λ e. written e ((calls, pos 1) ∷ [])) o))
    ∙ in_parts d
    ∙ ap (λ b. written b ((objects, pos 1) ∷ (calls, pos 1) ∷ (new_object 1 0 1 [] ++ new_call 1 running 0 1 0 [])))
    (blank ∙ ap (λ n. replicate n (pos 0)) full)
