-- Where lines whose blocks close go: a partner is always there, and a jump stays inside where the last line is a `return`. Assumes nothing.
use Rattle.std.specs.Prelude.{Option, None, Some}
use Prim.Native.Nat.{ℕ, zero, suc, ◌+◌, ◌-◌, ◌≤◌, ◌<◌}
use mathlib.Core.Bool.{Bool, true, false}
use mathlib.Core.List.{List, []}
use mathlib.Core.Path.{◌≡◌, refl, sym, ap, subst, ◌∙◌}
use native.Mathlib.Omega.{arith}
use borrow.Author.Tests.{ltb-true, ltb-false}
use lib.Dec.{ltb}
use lib.ListN.{length, get_or, take, drop, drop_of_length-le}
use Rattle.code.specs.declared.Shape.{Shape}
use Rattle.code.specs.Blocks.{Block, until_else, until_fi, until_od, shape_number, opening, closing, with, through_all}
use Rattle.code.specs.Partners.{ahead, behind, goes_from, goes_to}
use Rattle.code.specs.Vocabulary.Counting.{present, counted_on, onward, backward}
use Rattle.code.proofs.Searches.{at_line, Onward, onward_begins, onward_ends, onward_met, onward_goes, Backward, backward_begins, backward_ends, backward_met, backward_goes}
use Rattle.code.proofs.Stacks.{no_some, false_true, all_nil}

-- only a line that closes a block leaves the one that was counted from
onward_closes : (l : Shape) (n : ℕ) → onward l n ≡ None → present (closing l) ≡ true
unfolding onward
onward_closes l n e = go (present (closing l)) (present (opening l)) e
  where
    go : (c o : Bool) → counted_on c o n ≡ None → c ≡ true
    go true o f = refl
    go false true f = absurd (no_some (n + 1) (unfold counted_on in sym f))
    go false false f = absurd (no_some n (unfold counted_on in sym f))

-- the partner ahead: after the line, among the lines, and one that closes a block
abbrev pub Ahead : List Shape → ℕ → ℕ → Type 0
Ahead ls i j = (i < j) × (j < length ls) × (present (closing (get_or ls j Shape.Plain)) ≡ true)

module _ (ls : List Shape) (i : ℕ) where
  -- a search forward meets the partner before the lines end
  searched_ahead : (left j n : ℕ) → Onward ls i j n → i < j → length ls ≤ j + left → Ahead ls i (ahead ls i)
  searched_ahead zero j n s k h = absurd (onward_ends ls i j n s (omega arith))
  searched_ahead (suc left) j n s k h = go (ltb j (length ls)) refl (searched_ahead left)
    where
      go : (t : Bool) → ltb j (length ls) ≡ t → ((j n : ℕ) → Onward ls i j n → i < j → length ls ≤ j + left → Ahead ls i (ahead ls i))
          → Ahead ls i (ahead ls i)
      go false e later = absurd (onward_ends ls i j n s (ltb-false _ _ e))
      go true e later = met (onward (get_or ls j Shape.Plain) n) refl
        where
          inside : j < length ls
          inside = ltb-true _ _ e

          met : (o : Option ℕ) → onward (get_or ls j Shape.Plain) n ≡ o → Ahead ls i (ahead ls i)
          met None f = subst (Ahead ls i) (sym (onward_met ls i j n s inside f)) (k, inside, onward_closes _ n f)
          met (Some m) f = later (j + 1) m (onward_goes ls i j n s inside m k f) (omega arith) (omega arith)

  -- a search back meets the partner before the lines begin
  searched_behind : i < length ls → (j n : ℕ) → Backward ls i j n → j ≤ i → behind ls i < i
  searched_behind h zero n s k = absurd (backward_ends ls i n s)
  searched_behind h (suc j) n s k = met (backward (get_or ls j Shape.Plain) n) refl (searched_behind h j)
    where
      met : (o : Option ℕ) → backward (get_or ls j Shape.Plain) n ≡ o → ((n : ℕ) → Backward ls i j n → j ≤ i → behind ls i < i) → behind ls i < i
      met None f later = omega (arith, backward_met ls i j n s (omega arith) h f)
      met (Some m) f later = later m (backward_goes ls i j n s (omega arith) h m f) (omega arith)

-- lines whose blocks close, at one of them
module _ (ls : List Shape) (closes : through_all ls [] ≡ Some []) (i : ℕ) (inside : i < length ls) where
  -- a line that opens a block has a partner ahead: a search for it never comes to the end
  pub partner_ahead : (b : Block) → opening (get_or ls i Shape.Plain) ≡ Some b → Ahead ls i (ahead ls i)
  partner_ahead b e = searched_ahead ls i (length ls) (i + 1) 0 (onward_begins ls i b closes inside e) (omega arith) (omega arith)

  -- a line that closes a block has a partner behind
  pub partner_behind : (b : Block) → closing (get_or ls i Shape.Plain) ≡ Some b → behind ls i < i
  partner_behind b e = searched_behind ls i inside i 0 (backward_begins ls i b closes inside e) (omega arith)

-- a `return` opens and closes no block: where it is the last line, none is open before it
pub last_outside : (ls : List Shape) → through_all ls [] ≡ Some [] → 0 < length ls → get_or ls (length ls - 1) Shape.Plain ≡ Shape.Return
    → through_all (take (length ls - 1) ls) [] ≡ Some []
unfolding opening closing with
last_outside ls closes h e =
    let i = length ls - 1 in
    let s = at_line ls i closes (omega arith) in
    let before : through_all (take i ls) [] ≡ Some s.0 = s.1 ∙ ap (λ l. Some (with (closing l) s.0)) e in
    let n : length ls ≤ suc i = omega arith in
    let after : through_all [] s.0 ≡ Some [] = ap (λ l. through_all l s.0) (sym (drop_of_length-le ls n)) ∙ ap (λ l. through_all (drop (suc i) ls) (with (opening l) s.0)) (sym e) ∙ s.2 in
    before ∙ sym (all_nil s.0) ∙ after

-- a `return` stays where it is
pub return_stays : (ls : List Shape) (i : ℕ) → get_or ls i Shape.Plain ≡ Shape.Return → goes_to ls i ≡ i
unfolding goes_to goes_from
return_stays ls i e = ap (λ l. goes_from l ls i) e

-- a `return` closes no block
return_closes : (l : Shape) → l ≡ Shape.Return → present (closing l) ≡ true → ⊥
unfolding present closing
return_closes l e f = false_true (sym (ap (λ l. present (closing l)) e) ∙ f)

-- where the last line is a `return`
module _ (ls : List Shape) (ends : get_or ls (length ls - 1) Shape.Plain ≡ Shape.Return) where
  -- a line that is none has a line after it
  pub line_after : (i : ℕ) → i < length ls → (get_or ls i Shape.Plain ≡ Shape.Return → ⊥) → i + 1 < length ls
  line_after i inside n = go (ltb (i + 1) (length ls)) refl
    where
      go : (t : Bool) → ltb (i + 1) (length ls) ≡ t → i + 1 < length ls
      go true e = ltb-true _ _ e
      go false e =
          let l : length ls ≤ i + 1 = ltb-false _ _ e in
          let z : i ≡ length ls - 1 = omega arith in
          absurd (n (ap (λ j. get_or ls j Shape.Plain) z ∙ ends))

  -- and where blocks close too, what a line goes to is one of the lines
  pub goes_inside : through_all ls [] ≡ Some [] → (i : ℕ) → i < length ls → goes_to ls i < length ls
  unfolding goes_to goes_from opening closing shape_number
  goes_inside closes i inside = go (get_or ls i Shape.Plain) refl
    where
      onto : (l : Shape) → get_or ls i Shape.Plain ≡ l → (shape_number l ≡ shape_number Shape.Return → ⊥) → i + 1 < length ls
      onto l e n = line_after i inside (λ f. n (ap shape_number (sym e ∙ f)))

      over : (b : Block) → opening (get_or ls i Shape.Plain) ≡ Some b → ahead ls i + 1 < length ls
      over b e = let p = partner_ahead ls closes i inside b e in line_after (ahead ls i) p.1 (λ f. return_closes _ f p.2)

      go : (l : Shape) → get_or ls i Shape.Plain ≡ l → goes_from l ls i < length ls
      go Shape.If e = over until_else (ap opening e)
      go Shape.Else e = over until_fi (ap opening e)
      go Shape.While e = over until_od (ap opening e)
      go Shape.Od e = omega (arith, partner_behind ls closes i inside until_od (ap closing e))
      go Shape.Fi e = onto _ e (λ z. omega arith)
      go Shape.Return e = inside
      go Shape.Await e = onto _ e (λ z. omega arith)
      go Shape.Plain e = onto _ e (λ z. omega arith)
