-- When lines are balanced, when a line fits another, and what a search for a partner makes of it. Assumes nothing.
use Rattle.std.specs.Prelude.{Option, None, Some}
use Prim.Native.Nat.{ℕ, suc, ◌+◌, ◌-◌, ◌≤◌, ◌<◌}
use mathlib.Core.Bool.{Bool, true, false, ◌&&◌}
use mathlib.Core.List.{List, [], ◌∷◌, ◌++◌}
use mathlib.Core.Path.{◌≡◌, refl, ap, ◌∙◌}
use native.Mathlib.Numerals.{add-one}
use native.Mathlib.Omega.{arith}
use borrow.Author.Tests.{eq-eqb}
use lib.ListN.{length, get_or, take, drop, length-drop}
use lib.Seq.{take-suc, drop-cons, get_or-drop}
use Rattle.code.specs.declared.Shape.{Shape}
use Rattle.code.specs.Blocks.{Block, rank, opening, closing, through_all, all_closed, balanced}
use Rattle.code.specs.Partners.{same_block, fits, lines_between, partners, first_from, last_below}
use Rattle.code.proofs.Stacks.{false_true, all_below_lem}

-- lines whose blocks are all closed, and lines that leave one open
pub balanced_yes : (ls : List Shape) → through_all ls [] ≡ Some [] → balanced ls ≡ true
unfolding balanced
balanced_yes ls e = rw e (unfold all_closed in refl)

pub balanced_no : (ls : List Shape) (b : Block) (bs : List Block) → through_all ls [] ≡ Some (b ∷ bs) → balanced ls ≡ false
unfolding balanced
balanced_no ls b bs e = rw e (unfold all_closed in refl)

pub balanced_closed : (ls : List Shape) → balanced ls ≡ true → through_all ls [] ≡ Some []
unfolding balanced all_closed
balanced_closed ls e = closed (through_all ls []) e
  where
    closed : (o : Option (List Block)) → all_closed o ≡ true → o ≡ Some []
    closed None e = absurd (false_true e)
    closed (Some []) e = refl
    closed (Some (b ∷ bs)) e = absurd (false_true e)

-- lines that close a block which was open before them are not balanced
pub not_balanced : (ls : List Shape) (b : Block) (bs : List Block) → through_all ls (b ∷ bs) ≡ Some [] → balanced ls ≡ false
not_balanced ls b bs e = go (balanced ls) refl
  where
    go : (t : Bool) → balanced ls ≡ t → t ≡ false
    go true f = let g = all_below_lem ls [] [] (b ∷ bs) (balanced_closed ls f) in absurd (let z : ◌≡◌ {A = ℕ} 0 1 = cc in omega arith)
    go false f = refl

-- one line fits another, or it opens nothing, or the other closes nothing
module _ (l m : Shape) where
  pub fits_same : (b : Block) → opening l ≡ Some b → closing m ≡ Some b → fits l m ≡ true
  unfolding fits same_block
  fits_same b e f = rw (e, f, same_block) (eq-eqb (rank b) (rank b) refl)

  pub fits_open : opening l ≡ None → fits l m ≡ false
  unfolding fits same_block
  fits_open e = rw (e, same_block)

  pub fits_close : (b : Block) → opening l ≡ Some b → closing m ≡ None → fits l m ≡ false
  unfolding fits same_block
  fits_close b e f = rw (e, f, same_block)

and_false : (a b : Bool) → b ≡ false → a && b ≡ false
and_false true b e = e
and_false false b e = refl

module _ (ls : List Shape) (i j : ℕ) where
  pub partners_yes : fits (get_or ls i Shape.Plain) (get_or ls j Shape.Plain) ≡ true → balanced (lines_between ls i j) ≡ true → partners ls i j ≡ true
  unfolding partners
  partners_yes e f = rw (e, f)

  pub partners_unfit : fits (get_or ls i Shape.Plain) (get_or ls j Shape.Plain) ≡ false → partners ls i j ≡ false
  unfolding partners
  partners_unfit e = rw e

  pub partners_open : balanced (lines_between ls i j) ≡ false → partners ls i j ≡ false
  unfolding partners
  partners_open e = and_false (fits (get_or ls i Shape.Plain) (get_or ls j Shape.Plain)) _ e

-- a search by what its test says at a place
module _ (test : ℕ → Bool) (more j : ℕ) where
  pub first_yes : test j ≡ true → first_from test (suc more) j ≡ Some j
  unfolding first_from
  first_yes e = rw (e, first_from)

  pub first_no : test j ≡ false → first_from test (suc more) j ≡ first_from test more (j + 1)
  unfolding first_from
  first_no e = rw (e, first_from)

module _ (test : ℕ → Bool) (j : ℕ) where
  pub last_yes : test j ≡ true → last_below test (suc j) ≡ Some j
  unfolding last_below
  last_yes e = rw (e, last_below)

  pub last_no : test j ≡ false → last_below test (suc j) ≡ last_below test j
  unfolding last_below
  last_no e = rw (e, last_below)

-- the lines from one to before another, a line longer at its end or at its start
abbrev pub span : ℕ → ℕ → List Shape → List Shape
span f t ls = take (t - f) (drop f ls)

module _ (f t : ℕ) (ls : List Shape) where
  pub span_snoc : f ≤ t → t < length ls → span f (suc t) ls ≡ span f t ls ++ (get_or ls t Shape.Plain ∷ [])
  span_snoc h k =
      let n : suc t - f ≡ suc (t - f) = omega arith in
      let m : f + (t - f) ≡ t = omega arith in
      let d : t - f < length (drop f ls) = rw (length-drop f ls) (omega arith) in
      ap (λ p. take p (drop f ls)) n
      ∙ take-suc (drop f ls) (t - f) Shape.Plain d
      ∙ ap (λ l. span f t ls ++ (l ∷ [])) (get_or-drop f ls (t - f) Shape.Plain ∙ ap (λ p. get_or ls p Shape.Plain) m)

  pub span_cons : f < t → f < length ls → span f t ls ≡ get_or ls f Shape.Plain ∷ span (suc f) t ls
  span_cons h k =
      let n : t - f ≡ suc (t - suc f) = omega arith in
      ap (λ p. take p (drop f ls)) n ∙ ap (take (suc (t - suc f))) (drop-cons ls f Shape.Plain k)

pub span_none : (f : ℕ) (ls : List Shape) → span f f ls ≡ []
span_none f ls = let n : f - f ≡ 0 = omega arith in ap (λ p. take p (drop f ls)) n

pub between_span : (ls : List Shape) (i j : ℕ) → lines_between ls i j ≡ span (suc i) j ls
unfolding lines_between
between_span ls i j = rw (add-one i)
