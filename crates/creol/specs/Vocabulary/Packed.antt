-- Vocabulary of the code: an answer as one number. Assumes nothing.
use Rattle.std.specs.Prelude.{ℕ, ◌+◌, ◌*◌, ◌^◌, Bool, true, false}
use Rattle.text.specs.declared.Verdict.{Verdict}
use Rattle.engine.specs.Entries.{Outcome}

-- number + 2^8 * column + 2^16 * line + 2^32 * steps + 2^48 * quiet: a verdict on a text has no column, no steps and is not quiet
unfoldable pub packed : Verdict → ℕ
packed v = v.number + v.line * 2 ^ 16

-- 1 where a drive is quiet
unfoldable pub quietly : Bool → ℕ
quietly true = 1
quietly false = 0

-- a drive's answer
unfoldable pub packed_drive : Verdict → ℕ → Bool → ℕ
packed_drive v steps quiet = packed v + steps * 2 ^ 32 + quietly quiet * 2 ^ 48

abbrev pub packed_outcome : Outcome → ℕ
packed_outcome o = packed_drive o.verdict o.steps o.quiet
