-- Vocabulary of the code: what was read, as one number, and what it was read in. Assumes nothing.
use Rattle.std.specs.Prelude.{ℕ, ◌+◌, ◌*◌, ◌^◌, min, ℤ, Some, None, Result, Ok, Err}
use Rattle.std.specs.Int.{w32}
use Rattle.std.proofs.Common.{of_z}
use Rattle.whole.specs.Whole.{Worked}
use Rattle.terms.specs.declared.Around.{Around}

-- a place, as far as it is told
abbrev pub place : ℕ → ℕ
place p = min p 65535

-- the 32 bits of a value
abbrev pub bits : ℤ → ℕ
bits z = of_z w32 z

-- place + 2^16 * kind + 2^32 * value: the kind is 0 for a value, 1 for one out of range, 2 for a refusal
unfoldable pub packed_at : ℕ → Worked → ℕ
packed_at p (Some z) = place p + bits z * 2 ^ 32
packed_at p None = place p + 2 ^ 16

unfoldable pub packed_value : Result (ℕ × Worked) ℕ → ℕ
packed_value (Ok (p, w)) = packed_at p w
packed_value (Err p) = place p + 2 * 2 ^ 16

-- what a term is read in, of its numbers
unfoldable pub around : ℕ → ℕ → ℕ → ℕ → Around
around attrs locals object label =
    record { limits = record { attrs = attrs; locals = locals }; here = record { object = record { 0 = object }; label = record { 0 = label } } }
