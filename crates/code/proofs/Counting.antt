-- The count of open blocks is the length of their stack. Assumes nothing.
use Rattle.std.specs.Prelude.{Option, None, Some}
use Prim.Native.Nat.{ℕ, zero, suc, ◌+◌, ◌-◌, ◌≤◌}
use mathlib.Core.Bool.{Bool, true, false}
use mathlib.Core.List.{List, [], ◌∷◌, ◌++◌}
use mathlib.Core.Path.{◌≡◌, refl, sym, ap, ◌∙◌}
use native.Mathlib.Numerals.{add-one}
use native.Mathlib.Omega.{arith}
use lib.ListN.{length}
use Rattle.code.specs.declared.Shape.{Shape}
use Rattle.code.specs.Blocks.{Block, opening, closing, with}
use Rattle.code.specs.Vocabulary.Counting.{present, counted_on, onward, backward}
use Rattle.code.proofs.Stacks.{no_some, false_true}

falls : (n : ℕ) → counted_on true false (suc n) ≡ Some n
unfolding counted_on
falls n = refl

-- the count after a line that leaves a block or not and enters one or not
module _ (exits enters : Bool) (n : ℕ) where
  pub counted_out : exits ≡ true → n ≡ 0 → counted_on exits enters n ≡ None
  counted_out e z = rw (e, z) (go enters)
    where
      go : (b : Bool) → counted_on true b 0 ≡ None
      go true = unfold counted_on in refl
      go false = unfold counted_on in refl

  pub counted_across : exits ≡ true → enters ≡ true → (n ≡ 0 → ⊥) → counted_on exits enters n ≡ Some n
  counted_across e f z = rw (e, f) (go n z)
    where
      go : (m : ℕ) → (m ≡ 0 → ⊥) → counted_on true true m ≡ Some m
      go zero z = absurd (z refl)
      go (suc m) z = unfold counted_on in ap Some (add-one m)

  pub counted_down : exits ≡ true → enters ≡ false → (n ≡ 0 → ⊥) → counted_on exits enters n ≡ Some (n - 1)
  counted_down e f z = rw (e, f) (go n z)
    where
      go : (m : ℕ) → (m ≡ 0 → ⊥) → counted_on true false m ≡ Some (m - 1)
      go zero z = absurd (z refl)
      go (suc m) z = let d : m ≡ suc m - 1 = omega arith in falls m ∙ ap Some d

  pub counted_up : exits ≡ false → enters ≡ true → counted_on exits enters n ≡ Some (n + 1)
  counted_up e f = rw (e, f) (unfold counted_on in refl)

  pub counted_level : exits ≡ false → enters ≡ false → counted_on exits enters n ≡ Some n
  counted_level e f = rw (e, f) (unfold counted_on in refl)

-- a line adds at most one
pub counted_most : (exits enters : Bool) (n m : ℕ) → counted_on exits enters n ≡ Some m → m ≤ n + 1
unfolding counted_on
counted_most false false n m e = let f : n ≡ m = cc in omega arith
counted_most false true n m e = let f : n + 1 ≡ m = cc in omega arith
counted_most true false zero m e = absurd (no_some m e)
counted_most true true zero m e = absurd (no_some m e)
counted_most true false (suc n) m e = let f : n ≡ m = cc in omega arith
counted_most true true (suc n) m e = let f : n + 1 ≡ m = cc in omega arith

-- a block that is there
pub present_some : (o : Option Block) → present o ≡ true → (b : Block) × (o ≡ Some b)
unfolding present
present_some None e = absurd (false_true e)
present_some (Some b) e = (b, refl)

-- by what a shape closes and opens
module _ (l m : Shape) (n : ℕ) (a b : Bool) (same : m ≡ l) where
  pub counted_onward : a ≡ present (closing m) → b ≡ present (opening m) → counted_on a b n ≡ onward l n
  unfolding onward
  counted_onward e f = cc

  pub counted_backward : a ≡ present (opening m) → b ≡ present (closing m) → counted_on a b n ≡ backward l n
  unfolding backward
  counted_backward e f = cc

-- the same over a stack
module _ (bs : List Block) where
  counted_stays : (e : Option Block) → counted_on false (present e) (length bs) ≡ Some (length (with e bs))
  unfolding present with
  counted_stays None = counted_level false false (length bs) refl refl
  counted_stays (Some b) = counted_up false true (length bs) refl refl ∙ ap Some (add-one (length bs))

  counted_falls : (e : Option Block) → counted_on true (present e) (suc (length bs)) ≡ Some (length (with e bs))
  unfolding present with
  counted_falls None =
      let d : suc (length bs) - 1 ≡ length bs = omega arith in
      counted_down true false (suc (length bs)) refl refl (λ z. omega arith) ∙ ap Some d
  counted_falls (Some b) = counted_across true true (suc (length bs)) refl refl (λ z. omega arith)

-- a line met over the blocks bs, which lie above the block counted from: it leaves that block, or it goes on above it
pub data Meets (o e : Option Block) (b : Block) (outer bs mid : List Block) : Type 0 where
  leaves : bs ≡ [] → o ≡ Some b → counted_on (present o) (present e) (length bs) ≡ None → Meets o e b outer bs mid
  goes : (ds : List Block) → bs ≡ with o ds → mid ≡ ds ++ (b ∷ outer)
      → counted_on (present o) (present e) (length bs) ≡ Some (length (with e ds)) → Meets o e b outer bs mid

pub meets : (o e : Option Block) (b : Block) (outer bs mid : List Block) → bs ++ (b ∷ outer) ≡ with o mid → Meets o e b outer bs mid
unfolding with present
meets None e b outer bs mid h = goes bs refl (sym h) (counted_stays bs e)
meets (Some c) e b outer [] mid h = leaves refl (cc) (counted_out true (present e) 0 refl refl)
meets (Some c) e b outer (d ∷ ds) mid h = goes ds (cc) (cc) (counted_falls ds e)
