-- Decimals and variables. Assumes nothing.
use Rattle.std.specs.Prelude.{ℕ, ◌+◌, ◌*◌, true, false, leb, ltb, eqb, length, Option, None, Some}
use Prim.Native.Char.{code}
use Rattle.terms.specs.Bytes.{Text, byte_at, digit}
use Rattle.terms.specs.Parsed.{Parsed, got, bad, mapped, repeated}
use Rattle.terms.specs.declared.Limits.{Limits}
use Rattle.terms.specs.declared.Variable.{Variable}
use Rattle.terms.specs.declared.Variable.TheVariants.{Attribute, Local}

-- one digit more, as long as the number is at most `most`: the digit that takes it past that has no valid continuation
unfoldable pub counting : ℕ → Text → ℕ → ℕ → Option (Parsed ℕ)
counting most s at n = elim (digit (byte_at s at)) [
  | None ↦ None
  | Some d ↦ Some (elim (leb (n * 10 + d) most) [ true ↦ got (at + 1) (n * 10 + d) | false ↦ bad at ])
]

-- "A decimal has no leading zero, except 0 itself." A decimal from 0 to `most`
unfoldable pub decimal : ℕ → Text → ℕ → Parsed ℕ
decimal most s at = elim (digit (byte_at s at)) [
  | None ↦ bad at
  | Some d ↦ elim (leb d most) [
    | true ↦ elim (eqb d 0) [ true ↦ got (at + 1) 0 | false ↦ repeated (counting most s) (length s) (at + 1) d ]
    | false ↦ bad at
  ]
]

-- a letter's digit, below its limit. A variable outside its range is refused at its letter, and so is a letter that has no variable
unfoldable pub numbered : ℕ → Text → ℕ → Parsed ℕ
numbered limit s at = elim (ltb 0 limit) [
  | false ↦ bad at
  | true ↦ elim (digit (byte_at s (at + 1))) [
    | None ↦ bad (at + 1)
    | Some d ↦ elim (ltb d limit) [ true ↦ got (at + 2) d | false ↦ bad at ]
  ]
]

-- "X and Y are variables: a0..a7 below attrs, v0..v7 below locals."
unfoldable pub variable : Limits → Text → ℕ → Parsed Variable
variable lim s at = elim (eqb (byte_at s at) (code "a")) [
  | true ↦ mapped Attribute (numbered lim.attrs s at)
  | false ↦ elim (eqb (byte_at s at) (code "v")) [ true ↦ mapped Local (numbered lim.locals s at) | false ↦ bad at ]
]
