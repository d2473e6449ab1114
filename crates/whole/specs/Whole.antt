-- Whole numbers of 32 bits: what is in range, what each operator gives, and what is true. Assumes nothing.
use Rattle.std.specs.Prelude.{ℕ, Bool, true, false, ◌&&◌, not, ltb, eqb, ℤ, pos, negsuc, ◌+ℤ◌, ◌-ℤ◌, ◌*ℤ◌, Option, None, Some}
use Rattle.std.specs.Int.Signed.{mag, lt_z, le_z}
use Rattle.whole.specs.declared.Operator.{Operator}
use Rattle.whole.specs.declared.Operator.TheVariants.{Plus, Minus, Times, Less, Equal}

-- what working an expression out gives: a value, or none where a result is out of range
abbrev pub Worked : Type 0
Worked = Option ℤ

-- "Every value is a whole number from -2147483648 to 2147483647."
-- `mag` is n of n and of -(n + 1), so that one bound serves both ends
unfoldable pub in_range : ℤ → Bool
in_range z = ltb (mag z) 2147483648

-- "each intermediate result must be in range"
unfoldable pub within : ℤ → Worked
within z = elim (in_range z) [ true ↦ Some z | false ↦ None ]

-- "(giving 1 or 0)"
abbrev pub truth : Bool → ℤ
truth true = pos 1
truth false = pos 0

unfoldable pub eq_z : ℤ → ℤ → Bool
eq_z (pos a) (pos b) = eqb a b
eq_z (pos a) (negsuc b) = false
eq_z (negsuc a) (pos b) = false
eq_z (negsuc a) (negsuc b) = eqb a b

-- what an operator gives of two numbers in range
unfoldable pub apply : Operator → ℤ → ℤ → Worked
apply Plus x y = within (x +ℤ y)
apply Minus x y = within (x -ℤ y)
apply Times x y = within (x *ℤ y)
apply Less x y = Some (truth (lt_z x y))
apply Equal x y = Some (truth (eq_z x y))

-- "Expressions are worked out left to right": what did not fit on either side does not fit
unfoldable pub applied : Operator → Worked → Worked → Worked
applied o (Some x) (Some y) = apply o x y
applied o (Some x) None = None
applied o None (Some y) = None
applied o None None = None

-- "An expression is true when not 0."
unfoldable pub is_true : ℤ → Bool
is_true z = not (eq_z z (pos 0))

-- a cell that is a natural number, or none
unfoldable pub natural : ℤ → Option ℕ
natural (pos n) = Some n
natural (negsuc n) = None

-- a cell that is known to be a natural number, as that number
unfoldable pub nat : ℤ → ℕ
nat (pos n) = n
nat (negsuc n) = 0

-- a number from one bound to another, both included
unfoldable pub between : ℤ → ℤ → ℤ → Bool
between low high z = le_z low z && le_z z high
