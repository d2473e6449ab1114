-- What code lines that were read tell: of each line by itself, and of how all of them open and close blocks. Assumes nothing.
use Rattle.std.specs.Prelude.{Option, None, Some}
use Prim.Native.Nat.{ℕ, zero, suc, ◌+◌, ◌-◌, ◌≤◌, ◌<◌}
use mathlib.Core.Bool.{Bool, true, false}
use mathlib.Core.List.{List, [], ◌∷◌, ◌++◌, map}
use mathlib.Core.Path.{◌≡◌, refl, sym, ap, subst, ◌∙◌}
use native.Mathlib.Omega.{arith}
use borrow.Author.Tests.{leb-true, eqb-true, eq-eqb}
use lib.Dec.{eqb}
use lib.ListN.{length, get_or, take, length-map}
use Rattle.whole.specs.Refusals.{wrong_code, wrong_blocks}
use Rattle.whole.proofs.Both.{both_left, both_right}
use Rattle.terms.specs.declared.Limits.{Limits}
use Rattle.terms.specs.Bytes.{bytes}
use Rattle.terms.specs.Parsed.{Parsed, got, bad}
use Rattle.terms.specs.Trees.{trees, guard_trees}
use Rattle.terms.proofs.Gives.{Gives}
use Rattle.text.specs.InOrder.{wrong, right}
use Rattle.text.proofs.Bringing.{Brings, TakenAs, brings_key, Along, InTurn}
use Rattle.code.specs.declared.Shape.{Shape}
use Rattle.code.specs.Blocks.{Block, is_shape, shape_of, through, through_all}
use Rattle.code.specs.Reader.{statement}
use Rattle.code.specs.Statements.{Code}
use Rattle.code.specs.Vocabulary.Shapes.{shape_at}
use Rattle.code.specs.Within.{CodeWithin}
use Rattle.code.proofs.ReadWithin.{gives_statement}
use Rattle.code.proofs.Shapes.{shape_of_number}
use Rattle.code.proofs.Stacks.{all_nil, all_some}
use Rattle.model.specs.Accepted.{AcceptedBlocks}
use Rattle.model.specs.Bounds.{deepest}
use Rattle.model.specs.ModelText.{SoFar, creations_of, may_stand, standing, code_line}

-- a code line read, where so many stand in its method: what it tells by itself, and how it changes what is carried
pub record LineRead (last : ℕ) (lim : Limits) (classes count i : ℕ) (so : SoFar) (c : Code) (t : SoFar) : Type 0 where
  pub within : CodeWithin lim classes c
  pub through : through (shape_of c) so.blocks ≡ Some t.blocks
  pub stands : may_stand (eqb (i + 1) count) c t.blocks ≡ true
  pub total : t.total ≡ so.total
  pub at : ℕ
  pub line : at ≤ last
  pub creations : t.creations ≡ so.creations ++ creations_of at c

module _ (last : ℕ) (lim : Limits) (classes count i : ℕ) (so : SoFar) where
  -- a statement that may stand at its line
  taken_standing : (at : ℕ) (c : Code) → at ≤ last → CodeWithin lim classes c → (o : Option (List Block)) → through (shape_of c) so.blocks ≡ o
      → TakenAs last (Along (LineRead last lim classes count i so)) (standing at (eqb (i + 1) count) so c o)
  unfolding standing TakenAs
  taken_standing at c n w None e = (omega arith, omega arith)
  taken_standing at c n w (Some bs) e = go (may_stand (eqb (i + 1) count) c bs) refl
    where
      go : (b : Bool) → may_stand (eqb (i + 1) count) c bs ≡ b → TakenAs last (Along (LineRead last lim classes count i so)) (elim b [
        | false ↦ wrong wrong_blocks
        | true ↦ right (c, record { total = so.total; creations = so.creations ++ creations_of at c; blocks = bs })
      ])
      go false f = (omega arith, omega arith)
      go true f = record { within = w; through = e; stands = f; total = refl; at = at; line = n; creations = refl }

  -- a code line, where there is a class
  pub brings_code : 0 < classes → Brings last (Along (LineRead last lim classes count i so)) (code_line lim classes count i so)
  unfolding code_line TakenAs
  brings_code some-class = brings_key last _ (bytes "code=") _ (λ at v n. go at n (statement trees guard_trees lim classes v) (gives_statement lim classes v some-class))
    where
      go : (at : ℕ) → at ≤ last → (p : Parsed Code) → Gives (CodeWithin lim classes) p → TakenAs last (Along (LineRead last lim classes count i so)) (elim p [
        | bad p ↦ wrong wrong_code
        | got p c ↦ standing at (eqb (i + 1) count) so c (through (shape_of c) so.blocks)
      ])
      go at n (bad p) g = (omega arith, omega arith)
      go at n (got p c) g = taken_standing at c n g (through (shape_of c) so.blocks) refl

-- a list of no items
no_items : {A : Type 0} (xs : List A) → length xs ≡ 0 → xs ≡ []
no_items [] e = refl
no_items (x ∷ xs) e = absurd (omega arith)

-- a line that may stand leaves few blocks open
pub may_depth : (last : Bool) (c : Code) (bs : List Block) → may_stand last c bs ≡ true → length bs ≤ deepest
unfolding may_stand
may_depth true c bs e = let z : length bs ≡ 0 = eqb-true _ _ (both_right (is_shape Shape.Return (shape_of c)) _ e) in omega arith
may_depth false c bs e = leb-true _ _ e

-- a last line that may stand is a `return`, and leaves no block open
pub may_last : (c : Code) (bs : List Block) → may_stand true c bs ≡ true → (bs ≡ []) × (shape_of c ≡ Shape.Return)
unfolding may_stand is_shape
may_last c bs e =
    let outside = both_right (is_shape Shape.Return (shape_of c)) (eqb (length bs) 0) e in
    let number = eqb-true _ _ (both_left (is_shape Shape.Return (shape_of c)) _ e) in
    (no_items bs (eqb-true _ _ outside), sym (shape_of_number (shape_of c)) ∙ ap shape_at (sym number) ∙ shape_of_number Shape.Return)

module _ (last : ℕ) (lim : Limits) (classes count : ℕ) where
  -- the lines of a method, or some of them
  abbrev Lines : ℕ → SoFar → List Code → SoFar → Type 0
  Lines = InTurn (LineRead last lim classes count)

  -- lines go through the blocks that are open
  lines_through : (i : ℕ) (so : SoFar) (cs : List Code) (t : SoFar) → Lines i so cs t → through_all (map shape_of cs) so.blocks ≡ Some t.blocks
  lines_through i so [] t r = all_nil so.blocks ∙ ap (λ u. Some u.blocks) r
  lines_through i so (c ∷ cs) t r =
      all_some (shape_of c) (map shape_of cs) so.blocks r.0.blocks r.1.through ∙ lines_through (i + 1) r.0 cs t r.2

  -- before all of them
  none_passed : (so : SoFar) (bs : List Block) → length so.blocks ≤ deepest → through_all [] so.blocks ≡ Some bs → length bs ≤ deepest
  none_passed so bs h e = let f = all_nil so.blocks in let g : so.blocks ≡ bs = cc in subst (λ x. length x ≤ deepest) g h

  -- after each of them few blocks are open
  lines_depth : (i : ℕ) (so : SoFar) (cs : List Code) (t : SoFar) → Lines i so cs t → length so.blocks ≤ deepest
      → (n : ℕ) (bs : List Block) → through_all (take n (map shape_of cs)) so.blocks ≡ Some bs → length bs ≤ deepest
  lines_depth i so cs t r h zero bs e = none_passed so bs h e
  lines_depth i so [] t r h (suc n) bs e = none_passed so bs h e
  lines_depth i so (c ∷ cs) t r h (suc n) bs e =
      lines_depth (i + 1) r.0 cs t r.2 (may_depth _ c r.0.blocks r.1.stands) n bs
      (sym (all_some (shape_of c) (take n (map shape_of cs)) so.blocks r.0.blocks r.1.through) ∙ e)

  -- the last of them is a `return`, and no block is open after it
  lines_end : (i : ℕ) (so : SoFar) (cs : List Code) (t : SoFar) → Lines i so cs t → i + length cs ≡ count → 0 < length cs
      → (t.blocks ≡ []) × (get_or (map shape_of cs) (length cs - 1) Shape.Plain ≡ Shape.Return)
  lines_end i so [] t r e h = absurd (omega arith)
  lines_end i so (c ∷ []) t r e h =
      let l = may_last c r.0.blocks (subst (λ b. may_stand b c r.0.blocks ≡ true) (eq-eqb (i + 1) count e) r.1.stands) in
      (ap (λ u. u.blocks) (sym r.2) ∙ l.0, l.1)
  lines_end i so (c ∷ (d ∷ cs)) t r e h =
      let l = lines_end (i + 1) r.0 (d ∷ cs) t r.2 (omega arith) (omega arith) in
      let n : length (c ∷ (d ∷ cs)) - 1 ≡ suc (length (d ∷ cs) - 1) = omega arith in
      (l.0, ap (λ k. get_or (map shape_of (c ∷ (d ∷ cs))) k Shape.Plain) n ∙ l.1)

  -- a method's lines, from no open block on
  pub lines_accepted : (so : SoFar) (cs : List Code) (t : SoFar) → Lines 0 so cs t → so.blocks ≡ [] → length cs ≡ count → 0 < count
      → AcceptedBlocks (map shape_of cs)
  lines_accepted so cs t r none_open e h =
      let end = lines_end 0 so cs t r (omega arith) (omega arith) in
      record {
        close = ap (through_all (map shape_of cs)) (sym none_open) ∙ lines_through 0 so cs t r ∙ ap Some end.0;
        depth = λ i bs f. lines_depth 0 so cs t r (omega (arith, ap length none_open)) i bs (ap (through_all (take i (map shape_of cs))) none_open ∙ f);
        ends = ap (λ n. get_or (map shape_of cs) (n - 1) Shape.Plain) (length-map cs shape_of) ∙ end.1;
      }
