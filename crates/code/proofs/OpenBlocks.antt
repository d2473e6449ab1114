-- Open blocks as one number: how many there are, and which is the innermost. Assumes nothing.
use Rattle.std.specs.Prelude.{Option, None, Some}
use Prim.Native.Nat.{ℕ, zero, suc, ◌+◌, ◌*◌, ◌^◌, ◌/◌, ◌%◌, ◌≤◌, ◌<◌}
use mathlib.Core.Bool.{Bool, true, false}
use mathlib.Core.List.{List, [], ◌∷◌}
use mathlib.Core.Path.{◌≡◌, refl, sym, ap, ◌∙◌}
use native.Mathlib.Nat.{pow-succ', one-le-pow}
use native.Mathlib.Omega.{arith}
use borrow.Author.Tests.{eq-eqb, ne_eqb, leb-true, leb-false, lt-ltb, le-ltb}
use lib.Dec.{eqb, ltb, leb}
use lib.ListN.{length}
use Rattle.whole.specs.Whole.{Worked}
use Rattle.code.specs.Vocabulary.Answers.{as_statement}
use Rattle.code.specs.Blocks.{Block, until_else, until_fi, until_od, shape_of, rank, without}
use Rattle.code.specs.Vocabulary.OpenBlocks.{block_digit, packed_blocks, as_blocks, shape_said}
use Rattle.code.specs.Statements.{Statement, skip, set, new, call, get, await, if, else, fi, while, od, return, map_statement}

-- a digit is from 1 to 3
digit_some : (b : Block) → 1 ≤ block_digit b
unfolding block_digit
digit_some b = omega arith

digit_small : (b : Block) → block_digit b < 4
unfolding block_digit rank
digit_small until_else = omega arith
digit_small until_fi = omega arith
digit_small until_od = omega arith

module _ (b : Block) (bs : List Block) where
  packed_more : packed_blocks (b ∷ bs) ≡ block_digit b + 4 * packed_blocks bs
  unfolding packed_blocks
  packed_more = refl

  -- the innermost block is the last digit, and the others are what is left
  packed_last : packed_blocks (b ∷ bs) % 4 ≡ block_digit b
  packed_last = omega (arith, packed_more, digit_small b)

  packed_left : packed_blocks (b ∷ bs) / 4 ≡ packed_blocks bs
  packed_left = omega (arith, packed_more, digit_small b)

pub packed_nil : packed_blocks [] ≡ 0
unfolding packed_blocks
packed_nil = refl

-- no block is open
pub packed_none : (bs : List Block) → eqb (packed_blocks bs) 0 ≡ eqb (length bs) 0
packed_none [] = ap (λ n. eqb n 0) packed_nil
packed_none (b ∷ bs) =
    ne_eqb (packed_blocks (b ∷ bs)) 0 (λ e. omega (arith, packed_more b bs, digit_some b)) ∙ sym (ne_eqb (length (b ∷ bs)) 0 (λ e. omega arith))

power_more : (n : ℕ) → 4 ^ suc n ≡ 4 * 4 ^ n
power_more n = pow-succ' 4 n

-- a number of at most so many digits is below that power of the base, and one of more digits is not
pub packed_below : (bs : List Block) (n : ℕ) → length bs ≤ n → packed_blocks bs < 4 ^ n
packed_below [] n h = omega (arith, packed_nil, one-le-pow n 4 (omega arith))
packed_below (b ∷ bs) zero h = absurd (omega arith)
packed_below (b ∷ bs) (suc n) h = omega (arith, packed_more b bs, digit_small b, packed_below bs n (omega arith), power_more n)

pub packed_above : (bs : List Block) (n : ℕ) → n < length bs → 4 ^ n ≤ packed_blocks bs
packed_above [] n h = absurd (omega arith)
packed_above (b ∷ bs) zero h = omega (arith, packed_more b bs, digit_some b)
packed_above (b ∷ bs) (suc n) h = omega (arith, packed_more b bs, packed_above bs n (omega arith), power_more n)

-- at most eight blocks are open
module _ (bs : List Block) where
  pub packed_fits : length bs ≤ 8 → packed_blocks bs < 65536
  packed_fits = packed_below bs 8

  packed_exceeds : 8 < length bs → 65536 ≤ packed_blocks bs
  packed_exceeds = packed_above bs 8

  pub packed_deep : ltb (packed_blocks bs) 65536 ≡ leb (length bs) 8
  packed_deep = go (leb (length bs) 8) refl
    where
      go : (t : Bool) → leb (length bs) 8 ≡ t → ltb (packed_blocks bs) 65536 ≡ leb (length bs) 8
      go true e = lt-ltb _ _ (packed_fits (leb-true _ _ e)) ∙ sym e
      go false e = le-ltb _ _ (packed_exceeds (leb-false _ _ e)) ∙ sym e

  pub fits_packed : packed_blocks bs < 65536 → length bs ≤ 8
  fits_packed h = leb-true (length bs) 8 (sym packed_deep ∙ lt-ltb _ _ h)

-- a block closes if it is the innermost
closes_none : (b : Block) → without (Some b) [] ≡ None
unfolding without
closes_none b = refl

module _ (b c : Block) (bs : List Block) where
  closes_same : block_digit b ≡ block_digit c → without (Some b) (c ∷ bs) ≡ Some bs
  unfolding without block_digit
  closes_same e = rw (eq-eqb (rank b) (rank c) (omega arith), without)

  closes_other : (block_digit b ≡ block_digit c → ⊥) → without (Some b) (c ∷ bs) ≡ None
  unfolding without block_digit
  closes_other n = rw (ne_eqb (rank b) (rank c) (λ e. n (ap (◌+ 1) e)), without)

as_some : (bs : List Block) → as_blocks (Some bs) ≡ Some (packed_blocks bs)
unfolding as_blocks
as_some bs = refl

as_none : as_blocks None ≡ None
unfolding as_blocks
as_none = refl

-- what the code gives tells whether the line can stand there, and the blocks after it
pub unmatched_told : (o : Option (List Block)) → as_blocks o ≡ None → o ≡ None
unfolding as_blocks
unmatched_told None e = refl
unmatched_told (Some bs) e = cc

pub open_told : (o : Option (List Block)) (n : ℕ) → as_blocks o ≡ Some n → (bs : List Block) × (o ≡ Some bs) × (n ≡ packed_blocks bs)
unfolding as_blocks
open_told None n e = absurd (let z : ◌≡◌ {A = ℕ} 0 1 = cc in omega arith)
open_told (Some bs) n e = (bs, refl, (cc))

-- what the code works out for a block that is opened, one that is closed, and one that is not the innermost
module _ (b : Block) (d n : ℕ) (e : d ≡ block_digit b) where
  pub blocks_opened : (bs : List Block) → n ≡ packed_blocks bs → d + 4 * n ≡ packed_blocks (b ∷ bs)
  blocks_opened bs f = omega (arith, packed_more b bs)

  pub blocks_closed : (bs : List Block) → n ≡ packed_blocks bs → n % 4 ≡ d → Some (n / 4) ≡ as_blocks (without (Some b) bs)
  blocks_closed [] f h = absurd (omega (arith, packed_nil, digit_some b))
  blocks_closed (c ∷ bs) f h =
      ap Some (ap (◌/ 4) f ∙ packed_left c bs)
      ∙ sym (ap as_blocks (closes_same b c bs (sym e ∙ sym h ∙ ap (◌% 4) f ∙ packed_last c bs)) ∙ as_some bs)

  pub blocks_unmatched : (bs : List Block) → n ≡ packed_blocks bs → (n % 4 ≡ d → ⊥) → None ≡ as_blocks (without (Some b) bs)
  blocks_unmatched [] f h = sym (ap as_blocks (closes_none b) ∙ as_none)
  blocks_unmatched (c ∷ bs) f h =
      sym (ap as_blocks (closes_other b c bs (λ g. h (ap (◌% 4) f ∙ packed_last c bs ∙ sym g ∙ sym e))) ∙ as_none)

-- what a line is, by what the code read of it
pub shape_said_lem : (st : Statement Worked Worked) → shape_said (as_statement st) ≡ shape_of st
unfolding shape_said as_statement shape_of
shape_said_lem skip = refl
shape_said_lem (set x a) = refl
shape_said_lem (new x k es) = refl
shape_said_lem (call x a j es) = refl
shape_said_lem (get x y) = refl
shape_said_lem (await g) = refl
shape_said_lem (if a) = refl
shape_said_lem else = refl
shape_said_lem fi = refl
shape_said_lem (while a) = refl
shape_said_lem od = refl
shape_said_lem (return a) = refl

pub shape_mapped : {A B G H : Type 0} (h : A → B) (k : G → H) (st : Statement A G) → shape_of (map_statement h k st) ≡ shape_of st
unfolding shape_of map_statement
shape_mapped h k skip = refl
shape_mapped h k (set x a) = refl
shape_mapped h k (new x j es) = refl
shape_mapped h k (call x a j es) = refl
shape_mapped h k (get x y) = refl
shape_mapped h k (await g) = refl
shape_mapped h k (if a) = refl
shape_mapped h k else = refl
shape_mapped h k fi = refl
shape_mapped h k (while a) = refl
shape_mapped h k od = refl
shape_mapped h k (return a) = refl
