-- Vocabulary of the code: one count of open blocks, by which a partner is found. Assumes nothing.
use Rattle.std.specs.Prelude.{ℕ, zero, suc, ◌+◌, Bool, true, false, Option, None, Some}
use Rattle.code.specs.declared.Shape.{Shape}
use Rattle.code.specs.Blocks.{Block, opening, closing}

-- there is a block
unfoldable pub present : Option Block → Bool
present None = false
present (Some b) = true

-- a line leaves a block or not, and enters one or not: the count after it, or none where it leaves the block that was counted from
unfoldable pub counted_on : Bool → Bool → ℕ → Option ℕ
counted_on false false n = Some n
counted_on false true n = Some (n + 1)
counted_on true enters zero = None
counted_on true false (suc n) = Some n
counted_on true true (suc n) = Some (n + 1)

-- from a line on, what a line closes is left; back from a line, what it opens is
unfoldable pub onward : Shape → ℕ → Option ℕ
onward l n = counted_on (present (closing l)) (present (opening l)) n

unfoldable pub backward : Shape → ℕ → Option ℕ
backward l n = counted_on (present (opening l)) (present (closing l)) n
