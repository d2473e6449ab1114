-- The two searches as the code makes them: over the numbers of the lines, by the answers of its enum. Assumes nothing.
use Rattle.std.specs.Prelude.{Some, None}
use Prim.Native.Nat.{ℕ, suc, ◌+◌, ◌-◌, ◌≤◌, ◌<◌}
use mathlib.Core.Bool.{true}
use mathlib.Core.List.{List, []}
use mathlib.Core.Path.{◌≡◌, sym, ap, subst, ◌∙◌}
use native.Mathlib.Omega.{arith}
use lib.ListN.{length, get_or}
use Rattle.code.specs.declared.Shape.{Shape}
use Rattle.code.specs.Blocks.{opening, closing, through_all}
use Rattle.code.specs.Vocabulary.Shapes.{shape_at, shapes_in}
use Rattle.code.specs.Vocabulary.Counting.{present, onward, backward}
use Rattle.code.specs.Partners.{ahead, behind, goes_from, goes_to}
use Rattle.code.proofs.Counting.{present_some, counted_most}
use Rattle.code.proofs.Searches.{Onward, onward_begins, onward_ends, onward_met, onward_goes, Backward, backward_begins, backward_ends, backward_met, backward_goes}
use Rattle.code.proofs.Shapes.{shapes_length, shapes_at_lem}

-- a line adds at most one
pub onward_most : (n k m : ℕ) → onward (shape_at k) n ≡ Some m → m ≤ n + 1
unfolding onward
onward_most n k m e = counted_most _ _ n m e

pub backward_most : (n k m : ℕ) → backward (shape_at k) n ≡ Some m → m ≤ n + 1
unfolding backward
backward_most n k m e = counted_most _ _ n m e

module _ (lines : List ℕ) (i : ℕ) where
  pub begins_onward : i < length lines → through_all (shapes_in lines) [] ≡ Some [] → present (opening (shape_at (get_or lines i 0))) ≡ true
      → Onward (shapes_in lines) i (i + 1) 0
  begins_onward h w e =
      let l = shapes_length lines in
      let p = present_some (opening (get_or (shapes_in lines) i Shape.Plain)) (ap (λ s. present (opening s)) (shapes_at_lem lines i h) ∙ e) in
      onward_begins (shapes_in lines) i p.0 w (omega arith) p.1

  pub begins_backward : i < length lines → through_all (shapes_in lines) [] ≡ Some [] → present (closing (shape_at (get_or lines i 0))) ≡ true
      → Backward (shapes_in lines) i i 0
  begins_backward h w e =
      let l = shapes_length lines in
      let p = present_some (closing (get_or (shapes_in lines) i Shape.Plain)) (ap (λ s. present (closing s)) (shapes_at_lem lines i h) ∙ e) in
      backward_begins (shapes_in lines) i p.0 w (omega arith) p.1

  module _ (j n : ℕ) where
    pub ends_onward : Onward (shapes_in lines) i j n → length lines ≤ j → ⊥
    ends_onward s h = let l = shapes_length lines in onward_ends (shapes_in lines) i j n s (omega arith)

    pub ends_backward : Backward (shapes_in lines) i j n → j ≤ 0 → ⊥
    ends_backward s h = let z : j ≡ 0 = omega arith in backward_ends (shapes_in lines) i n (subst (λ k. Backward (shapes_in lines) i k n) z s)

    module _ (s : Onward (shapes_in lines) i j n) (h : j < length lines) where
      pub met_onward : onward (shape_at (get_or lines j 0)) n ≡ None → ahead (shapes_in lines) i ≡ j
      met_onward e =
          let l = shapes_length lines in
          onward_met (shapes_in lines) i j n s (omega arith) (ap (λ t. onward t n) (shapes_at_lem lines j h) ∙ e)

      pub goes_onward : (m : ℕ) → i < j → onward (shape_at (get_or lines j 0)) n ≡ Some m → Onward (shapes_in lines) i (j + 1) m
      goes_onward m k e =
          let l = shapes_length lines in
          onward_goes (shapes_in lines) i j n s (omega arith) m k (ap (λ t. onward t n) (shapes_at_lem lines j h) ∙ e)

    module _ (s : Backward (shapes_in lines) i j n) (h : 0 < j) (k : j ≤ i) (inside : i < length lines) where
      above : Backward (shapes_in lines) i (suc (j - 1)) n
      above = let z : j ≡ suc (j - 1) = omega arith in subst (λ t. Backward (shapes_in lines) i t n) z s

      pub met_backward : backward (shape_at (get_or lines (j - 1) 0)) n ≡ None → behind (shapes_in lines) i ≡ j - 1
      met_backward e =
          let l = shapes_length lines in
          backward_met (shapes_in lines) i (j - 1) n above (omega arith) (omega arith)
          (ap (λ t. backward t n) (shapes_at_lem lines (j - 1) (omega arith)) ∙ e)

      pub goes_backward : (m : ℕ) → backward (shape_at (get_or lines (j - 1) 0)) n ≡ Some m → Backward (shapes_in lines) i (j - 1) m
      goes_backward m e =
          let l = shapes_length lines in
          backward_goes (shapes_in lines) i (j - 1) n above (omega arith) (omega arith) m
          (ap (λ t. backward t n) (shapes_at_lem lines (j - 1) (omega arith)) ∙ e)

-- where a line goes, by the shape that the code finds there
pub goes_by : (lines : List ℕ) (i : ℕ) (s : Shape) → i < length lines → s ≡ shape_at (get_or lines i 0) → goes_to (shapes_in lines) i ≡ goes_from s (shapes_in lines) i
unfolding goes_to
goes_by lines i s h e = ap (λ t. goes_from t (shapes_in lines) i) (shapes_at_lem lines i h ∙ sym e)
