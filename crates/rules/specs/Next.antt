-- What a rule gives: what it writes, or the number of its refusal. Assumes nothing.
use Rattle.std.specs.Prelude.{ℕ, Bool, true, false, List, [], ◌∷◌, ℤ, Some, None}
use Rattle.whole.specs.Whole.{Worked}
use Rattle.whole.specs.Refusals.{accepted, out_of_range}
use Rattle.layout.specs.Layout.{Cells, Write, written}

-- a choice is refused with a number, or moves the configuration by writing values at places
pub data Next : Type 0 where
  refused : ℕ → Next
  moved : List Write → Next

-- "0 is acceptance."
unfoldable pub answer_of : Next → ℕ
answer_of (refused n) = n
answer_of (moved ws) = accepted

-- the next configuration: "A refusal writes no cell"
unfoldable pub cells_after : Cells → Next → Cells
cells_after c (refused n) = c
cells_after c (moved ws) = written c ws

-- a test that must pass, or the number of its refusal
unfoldable pub must : Bool → ℕ → Next → Next
must true n k = k
must false n k = refused n

-- 29, "a value out of range": what is done with a value that was worked out
unfoldable pub working : Worked → (ℤ → Next) → Next
working (Some z) k = k z
working None k = refused out_of_range

-- the same for several, from the left
unfoldable pub working_all : List Worked → (List ℤ → Next) → Next
working_all [] k = k []
working_all (w ∷ ws) k = working w (λ z. working_all ws (λ zs. k (z ∷ zs)))
