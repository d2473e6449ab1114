-- Lines run over a stack of open blocks: a line leaves the block that it closes and enters the one that it opens, and what lies below stays.
-- Assumes nothing.
use Rattle.std.specs.Prelude.{Option, None, Some}
use Prim.Native.Nat.{ℕ}
use mathlib.Core.Bool.{Bool, true, false}
use mathlib.Core.List.{List, [], ◌∷◌, ◌++◌}
use mathlib.Core.Path.{◌≡◌, refl, sym, ap, ◌∙◌}
use native.Mathlib.Omega.{arith}
use borrow.Author.Tests.{eqb-true, eq-eqb}
use lib.Dec.{eqb}
use Rattle.code.specs.declared.Shape.{Shape}
use Rattle.code.specs.Blocks.{Block, until_else, until_fi, until_od, rank, opening, closing, without, with, through, through_all}

-- nothing is not something
pub no_some : {A : Type 0} (a : A) → None ≡ Some a → ⊥
no_some a e = let z : ◌≡◌ {A = ℕ} 0 1 = cc in omega arith

-- no test gives both answers
pub false_true : false ≡ true → ⊥
false_true e = let z : ◌≡◌ {A = ℕ} 0 1 = cc in omega arith

-- a rank tells its block
rank_tells : (b c : Block) → rank b ≡ rank c → b ≡ c
unfolding rank
rank_tells until_else until_else e = refl
rank_tells until_else until_fi e = absurd (omega arith)
rank_tells until_else until_od e = absurd (omega arith)
rank_tells until_fi until_else e = absurd (omega arith)
rank_tells until_fi until_fi e = refl
rank_tells until_fi until_od e = absurd (omega arith)
rank_tells until_od until_else e = absurd (omega arith)
rank_tells until_od until_fi e = absurd (omega arith)
rank_tells until_od until_od e = refl

module _ (b c : Block) (bs : List Block) where
  without_yes : eqb (rank b) (rank c) ≡ true → without (Some b) (c ∷ bs) ≡ Some bs
  unfolding without
  without_yes e = rw (e, without)

  without_no : eqb (rank b) (rank c) ≡ false → without (Some b) (c ∷ bs) ≡ None
  unfolding without
  without_no e = rw (e, without)

-- what a block is taken from has it on top
without_with : (o : Option Block) (bs mid : List Block) → without o bs ≡ Some mid → bs ≡ with o mid
without_with None bs mid e = unfold without with in cc
without_with (Some b) [] mid e = absurd (no_some mid (unfold without in e))
without_with (Some b) (c ∷ bs) mid e = go (eqb (rank b) (rank c)) refl
  where
    go : (t : Bool) → eqb (rank b) (rank c) ≡ t → c ∷ bs ≡ with (Some b) mid
    go true f = let g = rank_tells b c (eqb-true _ _ f) in let y = without_yes b c bs f in unfold with in cc
    go false f = absurd (no_some mid (sym (without_no b c bs f) ∙ e))

with_without : (o : Option Block) (mid : List Block) → without o (with o mid) ≡ Some mid
with_without None mid = unfold without with in refl
with_without (Some b) mid = unfold with in without_yes b b mid (eq-eqb (rank b) (rank b) refl)

pub with_append : (o : Option Block) (bs below : List Block) → with o bs ++ below ≡ with o (bs ++ below)
unfolding with
with_append None bs below = refl
with_append (Some b) bs below = refl

module _ (l : Shape) (bs : List Block) where
  through_some : (mid : List Block) → without (closing l) bs ≡ Some mid → through l bs ≡ Some (with (opening l) mid)
  unfolding through
  through_some mid e = rw (e, through)

  through_none : without (closing l) bs ≡ None → through l bs ≡ None
  unfolding through
  through_none e = rw (e, through)

  -- what a line goes through: what lies between the block that it closes and the one that it opens
  through_mid : (after : List Block) → through l bs ≡ Some after
      → (mid : List Block) × (bs ≡ with (closing l) mid) × (after ≡ with (opening l) mid)
  through_mid after e = go (without (closing l) bs) refl
    where
      go : (o : Option (List Block)) → without (closing l) bs ≡ o
          → (mid : List Block) × (bs ≡ with (closing l) mid) × (after ≡ with (opening l) mid)
      go None f = absurd (no_some after (sym (through_none f) ∙ e))
      go (Some mid) f = let g = through_some mid f in (mid, without_with (closing l) bs mid f, cc)

pub through_with : (l : Shape) (mid : List Block) → through l (with (closing l) mid) ≡ Some (with (opening l) mid)
through_with l mid = through_some l (with (closing l) mid) mid (with_without (closing l) mid)

module _ (l : Shape) (ls : List Shape) (bs : List Block) where
  pub all_some : (after : List Block) → through l bs ≡ Some after → through_all (l ∷ ls) bs ≡ through_all ls after
  unfolding through_all
  all_some after e = rw (e, through_all)

  all_none : through l bs ≡ None → through_all (l ∷ ls) bs ≡ None
  unfolding through_all
  all_none e = rw (e, through_all)

  -- a first line and the lines after it
  pub all_mid : (end : List Block) → through_all (l ∷ ls) bs ≡ Some end
      → (mid : List Block) × (bs ≡ with (closing l) mid) × (through_all ls (with (opening l) mid) ≡ Some end)
  all_mid end e = go (through l bs) refl
    where
      go : (o : Option (List Block)) → through l bs ≡ o
          → (mid : List Block) × (bs ≡ with (closing l) mid) × (through_all ls (with (opening l) mid) ≡ Some end)
      go None f = absurd (no_some end (sym (all_none f) ∙ e))
      go (Some after) f =
          let t = through_mid l bs after f in
          (t.0, t.1, ap (through_all ls) (sym t.2) ∙ sym (all_some after f) ∙ e)

pub all_with : (l : Shape) (ls : List Shape) (mid : List Block) → through_all (l ∷ ls) (with (closing l) mid) ≡ through_all ls (with (opening l) mid)
all_with l ls mid = all_some l ls (with (closing l) mid) (with (opening l) mid) (through_with l mid)

pub all_nil : (bs : List Block) → through_all [] bs ≡ Some bs
unfolding through_all
all_nil bs = refl

-- lines and more lines
pub all_append : (ls ms : List Shape) (bs mid : List Block) → through_all ls bs ≡ Some mid → through_all (ls ++ ms) bs ≡ through_all ms mid
all_append [] ms bs mid e = let f = all_nil bs in let g : bs ≡ mid = cc in ap (through_all ms) g
all_append (l ∷ ls) ms bs mid e =
    let t = all_mid l ls bs mid e in
    ap (through_all (l ∷ (ls ++ ms))) t.1 ∙ all_with l (ls ++ ms) t.0 ∙ all_append ls ms _ mid t.2

pub all_split : (ls ms : List Shape) (bs end : List Block) → through_all (ls ++ ms) bs ≡ Some end
    → (mid : List Block) × (through_all ls bs ≡ Some mid) × (through_all ms mid ≡ Some end)
all_split [] ms bs end e = (bs, all_nil bs, e)
all_split (l ∷ ls) ms bs end e =
    let t = all_mid l (ls ++ ms) bs end e in
    let r = all_split ls ms _ end t.2 in
    (r.0, ap (through_all (l ∷ ls)) t.1 ∙ all_with l ls t.0 ∙ r.1, r.2)

-- what lies below the blocks that lines go through stays
pub all_below_lem : (ls : List Shape) (bs end below : List Block) → through_all ls bs ≡ Some end → through_all ls (bs ++ below) ≡ Some (end ++ below)
all_below_lem [] bs end below e = let f = all_nil bs in let g : bs ≡ end = cc in all_nil (bs ++ below) ∙ ap (λ s. Some (s ++ below)) g
all_below_lem (l ∷ ls) bs end below e =
    let t = all_mid l ls bs end e in
    ap (λ s. through_all (l ∷ ls) (s ++ below)) t.1
    ∙ ap (through_all (l ∷ ls)) (with_append (closing l) t.0 below)
    ∙ all_with l ls (t.0 ++ below)
    ∙ ap (through_all ls) (sym (with_append (opening l) t.0 below))
    ∙ all_below_lem ls _ end below t.2
