-- A partner found by one count of open blocks: the line that leaves the block counted from is the partner. Assumes nothing.
use Rattle.std.specs.Prelude.{Option, None, Some}
use Prim.Native.Nat.{ℕ, suc, ◌+◌, ◌-◌, ◌≤◌, ◌<◌}
use mathlib.Core.Bool.{false}
use mathlib.Core.List.{List, [], ◌∷◌, ◌++◌}
use mathlib.Core.Path.{◌≡◌, refl, sym, ap, ◌∙◌}
use native.Mathlib.Numerals.{add-one}
use native.Mathlib.Omega.{arith}
use lib.ListN.{length, get_or, take, drop, drop_of_length-le}
use lib.Seq.{take-suc, drop-cons, split_at}
use Rattle.code.specs.declared.Shape.{Shape}
use Rattle.code.specs.Blocks.{Block, opening, closing, with, through_all}
use Rattle.code.specs.Vocabulary.Counting.{present, counted_on, onward, backward}
use Rattle.code.specs.Partners.{lines_between, partners, first_from, last_below, or_end, ahead, behind}
use Rattle.code.proofs.Stacks.{no_some, with_append, all_nil, all_mid, all_with, all_append, all_split}
use Rattle.code.proofs.Counting.{Meets, leaves, goes, meets}
use Rattle.code.proofs.Matching.{balanced_yes, balanced_no, not_balanced, fits_same, fits_open, fits_close, partners_yes, partners_unfit, partners_open, first_yes, first_no, last_yes, last_no, span, span_snoc, span_cons, span_none, between_span}

-- a whole method at one of its lines: the blocks open before the line, and those after it closed by the lines that follow
pub at_line : (ls : List Shape) (i : ℕ) → through_all ls [] ≡ Some [] → i < length ls
    → (mid : List Block) × (through_all (take i ls) [] ≡ Some (with (closing (get_or ls i Shape.Plain)) mid))
    × (through_all (drop (suc i) ls) (with (opening (get_or ls i Shape.Plain)) mid) ≡ Some [])
at_line ls i w h =
    let s = all_split (take i ls) (get_or ls i Shape.Plain ∷ drop (suc i) ls) [] [] (ap (λ l. through_all l []) (sym (split_at ls i Shape.Plain h)) ∙ w) in
    let t = all_mid (get_or ls i Shape.Plain) (drop (suc i) ls) s.0 [] s.2 in
    (t.0, s.1 ∙ ap Some t.1, t.2)

same_some : {A : Type 0} (m n : A) → Some m ≡ Some n → m ≡ n
same_some m n e = cc

-- blocks above another are not none
not_closed : (bs : List Block) (b : Block) (outer : List Block) → Some (bs ++ (b ∷ outer)) ≡ Some [] → ⊥
not_closed [] b outer e = let z : ◌≡◌ {A = ℕ} 0 1 = cc in omega arith
not_closed (c ∷ bs) b outer e = let z : ◌≡◌ {A = ℕ} 0 1 = cc in omega arith

-- the search forward from line i, at line j with the count n
pub record Onward (ls : List Shape) (i j n : ℕ) : Type 0 where
  pub block : Block
  pub outer : List Block
  pub inner : List Block
  pub opens : opening (get_or ls i Shape.Plain) ≡ Some block
  pub count : n ≡ length inner
  pub passed : through_all (span (suc i) j ls) [] ≡ Some inner
  pub rest : through_all (drop j ls) (inner ++ (block ∷ outer)) ≡ Some []
  pub search : first_from (partners ls i) (length ls) (i + 1) ≡ first_from (partners ls i) (length ls + suc i - j) j

module _ (ls : List Shape) (i : ℕ) where
  pub onward_begins : (b : Block) → through_all ls [] ≡ Some [] → i < length ls → opening (get_or ls i Shape.Plain) ≡ Some b → Onward ls i (i + 1) 0
  onward_begins b w h e =
      let s = at_line ls i w h in
      let f : through_all (drop (suc i) ls) (b ∷ s.0) ≡ Some [] = unfold with in rw e at s.2 in
      let n : length ls + suc i - (i + 1) ≡ length ls = omega arith in
      record {
        block = b;
        outer = s.0;
        inner = [];
        opens = e;
        count = refl;
        passed = ap (λ j. through_all (span (suc i) j ls) []) (add-one i) ∙ ap (λ l. through_all l []) (span_none (suc i) ls) ∙ all_nil [];
        rest = ap (λ j. through_all (drop j ls) (b ∷ s.0)) (add-one i) ∙ f;
        search = ap (λ k. first_from (partners ls i) k (i + 1)) (sym n);
      }

  module _ (j n : ℕ) (s : Onward ls i j n) where
    -- the lines cannot end before the partner
    pub onward_ends : length ls ≤ j → ⊥
    onward_ends h =
        let below = s.inner ++ (s.block ∷ s.outer) in
        not_closed s.inner s.block s.outer (sym (all_nil below) ∙ ap (λ l. through_all l below) (sym (drop_of_length-le ls h)) ∙ s.rest)

    module _ (h : j < length ls) where
      onward_meets : (mid : List Block)
          × Meets (closing (get_or ls j Shape.Plain)) (opening (get_or ls j Shape.Plain)) s.block s.outer s.inner mid
          × (through_all (drop (suc j) ls) (with (opening (get_or ls j Shape.Plain)) mid) ≡ Some [])
      onward_meets =
          let below = s.inner ++ (s.block ∷ s.outer) in
          let r = all_mid (get_or ls j Shape.Plain) (drop (suc j) ls) below [] (ap (λ l. through_all l below) (sym (drop-cons ls j Shape.Plain h)) ∙ s.rest) in
          (r.0, meets _ _ s.block s.outer s.inner r.0 r.1, r.2)

      onward_counted : onward (get_or ls j Shape.Plain) n
          ≡ counted_on (present (closing (get_or ls j Shape.Plain))) (present (opening (get_or ls j Shape.Plain))) (length s.inner)
      unfolding onward
      onward_counted = ap (counted_on _ _) s.count

      ahead_some : first_from (partners ls i) (length ls) (i + 1) ≡ Some j → ahead ls i ≡ j
      unfolding ahead or_end
      ahead_some e = ap (or_end ls) e

      more_left : length ls + suc i - j ≡ suc (length ls + suc i - (j + 1))
      more_left = omega arith

      -- the line that leaves the block is the partner
      pub onward_met : onward (get_or ls j Shape.Plain) n ≡ None → ahead ls i ≡ j
      onward_met e = go onward_meets.0 onward_meets.1
        where
          go : (mid : List Block) → Meets (closing (get_or ls j Shape.Plain)) (opening (get_or ls j Shape.Plain)) s.block s.outer s.inner mid → ahead ls i ≡ j
          go mid (leaves none-inner closes c) =
              let b = balanced_yes (lines_between ls i j) (ap (λ l. through_all l []) (between_span ls i j) ∙ s.passed ∙ ap Some none-inner) in
              let p = partners_yes ls i j (fits_same _ _ s.block s.opens closes) b in
              ahead_some (s.search ∙ ap (λ k. first_from (partners ls i) k j) more_left ∙ first_yes (partners ls i) _ j p)
          go mid (goes ds with-inner is-mid c) = absurd (no_some _ (sym e ∙ onward_counted ∙ c))

      -- a line within leaves the search with its new count
      pub onward_goes : (m : ℕ) → i < j → onward (get_or ls j Shape.Plain) n ≡ Some m → Onward ls i (j + 1) m
      onward_goes m k e = go onward_meets.0 onward_meets.1 onward_meets.2
        where
          -- it closes nothing, or a block that was opened since
          no_partner : (ds : List Block) (o : Option Block) → closing (get_or ls j Shape.Plain) ≡ o → s.inner ≡ with o ds → partners ls i j ≡ false
          no_partner ds None c w = partners_unfit ls i j (fits_close _ _ s.block s.opens c)
          no_partner ds (Some b) c w =
              partners_open ls i j (balanced_no _ b ds (ap (λ l. through_all l []) (between_span ls i j) ∙ s.passed ∙ ap Some (unfold with in w)))

          go : (mid : List Block) → Meets (closing (get_or ls j Shape.Plain)) (opening (get_or ls j Shape.Plain)) s.block s.outer s.inner mid
              → through_all (drop (suc j) ls) (with (opening (get_or ls j Shape.Plain)) mid) ≡ Some [] → Onward ls i (j + 1) m
          go mid (leaves none-inner closes c) rest = absurd (no_some m (sym c ∙ sym onward_counted ∙ e))
          go mid (goes ds with-inner is-mid c) rest =
              let l = get_or ls j Shape.Plain in
              let f : Some m ≡ Some (length (with (opening l) ds)) = sym e ∙ onward_counted ∙ c in
              record {
                block = s.block;
                outer = s.outer;
                inner = with (opening l) ds;
                opens = s.opens;
                count = same_some _ _ f;
                passed =
                    ap (λ t. through_all (span (suc i) t ls) []) (add-one j)
                    ∙ ap (λ t. through_all t []) (span_snoc (suc i) j ls k h)
                    ∙ all_append (span (suc i) j ls) (l ∷ []) [] s.inner s.passed
                    ∙ ap (through_all (l ∷ [])) with-inner
                    ∙ all_with l [] ds
                    ∙ all_nil (with (opening l) ds);
                rest =
                    ap (λ t. through_all (drop t ls) (with (opening l) ds ++ (s.block ∷ s.outer))) (add-one j)
                    ∙ ap (through_all (drop (suc j) ls)) (with_append (opening l) ds (s.block ∷ s.outer) ∙ ap (with (opening l)) (sym is-mid))
                    ∙ rest;
                search =
                    s.search
                    ∙ ap (λ t. first_from (partners ls i) t j) more_left
                    ∙ first_no (partners ls i) _ j (no_partner ds (closing l) refl with-inner);
              }

-- the search back from line i, above line j, with the count n: its mirror, where what a line opens is left
pub record Backward (ls : List Shape) (i j n : ℕ) : Type 0 where
  pub block : Block
  pub outer : List Block
  pub inner : List Block
  pub closes : closing (get_or ls i Shape.Plain) ≡ Some block
  pub count : n ≡ length inner
  pub passed : through_all (span j i ls) inner ≡ Some []
  pub rest : through_all (take j ls) [] ≡ Some (inner ++ (block ∷ outer))
  pub search : last_below (λ k. partners ls k i) i ≡ last_below (λ k. partners ls k i) j

module _ (ls : List Shape) (i : ℕ) where
  pub backward_begins : (b : Block) → through_all ls [] ≡ Some [] → i < length ls → closing (get_or ls i Shape.Plain) ≡ Some b → Backward ls i i 0
  backward_begins b w h e =
      let s = at_line ls i w h in
      let f : through_all (take i ls) [] ≡ Some (b ∷ s.0) = unfold with in rw e at s.1 in
      record {
        block = b;
        outer = s.0;
        inner = [];
        closes = e;
        count = refl;
        passed = ap (λ l. through_all l []) (span_none i ls) ∙ all_nil [];
        rest = f;
        search = refl;
      }

  -- the lines cannot begin after the partner
  pub backward_ends : (n : ℕ) → Backward ls i 0 n → ⊥
  backward_ends n s = not_closed s.inner s.block s.outer (sym s.rest ∙ all_nil [])

  module _ (j n : ℕ) (s : Backward ls i (suc j) n) (before : j < i) (within : i < length ls) where
    inside : j < length ls
    inside = omega arith

    backward_meets : (mid : List Block)
        × Meets (opening (get_or ls j Shape.Plain)) (closing (get_or ls j Shape.Plain)) s.block s.outer s.inner mid
        × (through_all (take j ls) [] ≡ Some (with (closing (get_or ls j Shape.Plain)) mid))
    backward_meets =
        let l = get_or ls j Shape.Plain in
        let below = s.inner ++ (s.block ∷ s.outer) in
        let r = all_split (take j ls) (l ∷ []) [] below (ap (λ t. through_all t []) (sym (take-suc ls j Shape.Plain inside)) ∙ s.rest) in
        let t = all_mid l [] r.0 below r.2 in
        let f : below ≡ with (opening l) t.0 = same_some _ _ (sym t.2 ∙ all_nil (with (opening l) t.0)) in
        (t.0, meets _ _ s.block s.outer s.inner t.0 f, r.1 ∙ ap Some t.1)

    backward_counted : backward (get_or ls j Shape.Plain) n
        ≡ counted_on (present (opening (get_or ls j Shape.Plain))) (present (closing (get_or ls j Shape.Plain))) (length s.inner)
    unfolding backward
    backward_counted = ap (counted_on _ _) s.count

    back_some : last_below (λ k. partners ls k i) i ≡ Some j → behind ls i ≡ j
    unfolding behind or_end
    back_some e = ap (or_end ls) e

    -- the line that opened the block is the partner
    pub backward_met : backward (get_or ls j Shape.Plain) n ≡ None → behind ls i ≡ j
    backward_met e = go backward_meets.0 backward_meets.1
      where
        go : (mid : List Block) → Meets (opening (get_or ls j Shape.Plain)) (closing (get_or ls j Shape.Plain)) s.block s.outer s.inner mid
            → behind ls i ≡ j
        go mid (leaves none-inner opens c) =
            let b = balanced_yes (lines_between ls j i) (ap (λ l. through_all l []) (between_span ls j i) ∙ ap (through_all (span (suc j) i ls)) (sym none-inner) ∙ s.passed) in
            let p = partners_yes ls j i (fits_same _ _ s.block opens s.closes) b in
            back_some (s.search ∙ last_yes (λ k. partners ls k i) j p)
        go mid (goes ds with-inner is-mid c) = absurd (no_some _ (sym e ∙ backward_counted ∙ c))

    -- a line within leaves the search with its new count
    pub backward_goes : (m : ℕ) → backward (get_or ls j Shape.Plain) n ≡ Some m → Backward ls i j m
    backward_goes m e = go backward_meets.0 backward_meets.1 backward_meets.2
      where
        -- it opens nothing, or a block that is closed before line i
        no_partner : (ds : List Block) (o : Option Block) → opening (get_or ls j Shape.Plain) ≡ o → s.inner ≡ with o ds → partners ls j i ≡ false
        no_partner ds None c w = partners_unfit ls j i (fits_open _ _ c)
        no_partner ds (Some b) c w =
            let v : s.inner ≡ b ∷ ds = unfold with in w in
            let p = ap (λ l. through_all l (b ∷ ds)) (between_span ls j i) ∙ ap (through_all (span (suc j) i ls)) (sym v) ∙ s.passed in
            partners_open ls j i (not_balanced _ b ds p)

        go : (mid : List Block) → Meets (opening (get_or ls j Shape.Plain)) (closing (get_or ls j Shape.Plain)) s.block s.outer s.inner mid
            → through_all (take j ls) [] ≡ Some (with (closing (get_or ls j Shape.Plain)) mid) → Backward ls i j m
        go mid (leaves none-inner opens c) rest = absurd (no_some m (sym c ∙ sym backward_counted ∙ e))
        go mid (goes ds with-inner is-mid c) rest =
            let l = get_or ls j Shape.Plain in
            record {
              block = s.block;
              outer = s.outer;
              inner = with (closing l) ds;
              closes = s.closes;
              count = same_some _ _ (sym e ∙ backward_counted ∙ c);
              passed =
                  ap (λ t. through_all t (with (closing l) ds)) (span_cons j i ls before inside)
                  ∙ all_with l (span (suc j) i ls) ds
                  ∙ ap (through_all (span (suc j) i ls)) (sym with-inner)
                  ∙ s.passed;
              rest =
                  rest ∙ ap Some (ap (with (closing l)) is-mid ∙ sym (with_append (closing l) ds (s.block ∷ s.outer)));
              search =
                  s.search ∙ last_no (λ k. partners ls k i) j (no_partner ds (opening l) refl with-inner);
            }
