-- Whose reply is in, computed: object 1 issued call 1, whose reply is in, and call 2, which is only answered. Assumes nothing.
use Rattle.std.specs.Prelude.{Option, None, Some}
use mathlib.Core.List.{List, [], ◌∷◌, ◌++◌}
use mathlib.Core.Path.{refl}
use Prim.Native.Nat.{ℕ}
use lib.IntN.{pos, negsuc}
use lib.ListN.{replicate}
use Rattle.whole.proofs.Tables.{Row, ◌is◌, Holds}
use Rattle.layout.specs.Layout.{Cells, all_cells, written, objects, calls, new_call}
use Rattle.layout.specs.Stages.{answered, replied, reply_for, object_of, label_of}
use Rattle.layout.proofs.Open.{layout_open}

two_calls : Cells
two_calls =
    written (replicate all_cells (pos 0))
    ((objects, pos 2) ∷ (calls, pos 2) ∷ new_call 1 replied 1 2 0 [] ++ new_call 2 answered 1 2 0 [])

table : List (Row (Option ℕ))
table =
    -- "a label of stage 6 whose caller is this object"
    (reply_for two_calls 1 (pos 1) is Some 1)
    -- not in another object, not in stage 5, not past the calls issued, not below 1
    ∷ (reply_for two_calls 2 (pos 1) is None)
    ∷ (reply_for two_calls 1 (pos 2) is None)
    ∷ (reply_for two_calls 1 (pos 3) is None)
    ∷ (reply_for two_calls 1 (pos 0) is None)
    ∷ (reply_for two_calls 1 (negsuc 0) is None)
    -- "Object numbers and labels are counted apart"
    ∷ (object_of two_calls (pos 2) is Some 2)
    ∷ (object_of two_calls (pos 3) is None)
    ∷ (label_of two_calls (pos 2) is Some 2)
    ∷ (label_of [] (pos 1) is None)
    ∷ []

holds : Holds table
unfolding layout_open table two_calls
holds = (refl, (refl, (refl, (refl, (refl, (refl, (refl, (refl, (refl, (refl, tt))))))))))
