-- A code value by what the code read of it, and by the blocks that are open. Assumes nothing.
use Rattle.std.specs.Prelude.{Option, None, Some, Result, Ok, Err}
use Prim.Native.Nat.{ℕ, ◌≤◌, ◌<◌}
use mathlib.Core.Bool.{Bool, true, false}
use mathlib.Core.List.{List, [], ◌∷◌, ◌++◌}
use mathlib.Core.Path.{◌≡◌, refl, sym, ap, subst, ◌∙◌}
use native.Mathlib.Omega.{arith}
use borrow.Author.Tests.{eq-eqb, ne_eqb}
use lib.Dec.{ltb, eqb}
use lib.ListN.{length, get_or}
use Rattle.whole.specs.Refusals.{wrong_blocks}
use Rattle.layout.specs.Layout.{Cells}
use Rattle.terms.specs.Bytes.{Text}
use Rattle.terms.specs.declared.Around.{Around}
use Rattle.terms.specs.Parsed.{got, bad}
use Rattle.terms.specs.Trees.{trees, guard_trees}
use Rattle.text.specs.InOrder.{Taken, wrong, right}
use Rattle.code.specs.declared.Arguments.{Arguments}
use Rattle.code.specs.declared.Shape.{Shape}
use Rattle.code.specs.declared.Statement as Declared
use Rattle.code.specs.Blocks.{Block, is_shape, shape_of, shape_number, through}
use Rattle.code.specs.Reader.{statement}
use Rattle.code.specs.Statements.{Code, new_of}
use Rattle.code.specs.Vocabulary.Creating.{new_said}
use Rattle.code.specs.Vocabulary.OpenBlocks.{packed_blocks}
use Rattle.code.specs.Vocabulary.Readers.{statement_read}
use Rattle.code.proofs.NewCounts.{new_class, new_count}
use Rattle.code.proofs.OpenBlocks.{packed_none, packed_deep}
use Rattle.code.proofs.Told.{Told, told_bad, told_got}
use Rattle.whole.specs.declared.refusals.Refusal.TheVariants as Refusal
use Rattle.whole.specs.Vocabulary.Refusing.{number_of}
use Rattle.model.specs.declared.MethodHead.{MethodHead}
use Rattle.model.specs.declared.Stated.{Stated}
use Rattle.model.specs.ModelText.{SoFar, creations_of, may_stand, standing}
use Rattle.model.specs.Vocabulary.Creations.{new_number}
use Rattle.model.specs.Vocabulary.Standing.{stood, limits_of, value_taken, CodeSaid}

-- shapes with one number are one
unfoldable shape_back : ℕ → Shape
shape_back n = get_or (Shape.If ∷ Shape.Else ∷ Shape.Fi ∷ Shape.While ∷ Shape.Od ∷ Shape.Return ∷ Shape.Await ∷ Shape.Plain ∷ []) n Shape.Plain

back : (l : Shape) → shape_back (shape_number l) ≡ l
unfolding shape_back shape_number
back Shape.If = refl
back Shape.Else = refl
back Shape.Fi = refl
back Shape.While = refl
back Shape.Od = refl
back Shape.Return = refl
back Shape.Await = refl
back Shape.Plain = refl

pub shape_apart : (l m : Shape) → shape_number l ≡ shape_number m → l ≡ m
shape_apart l m e = sym (back l) ∙ ap shape_back e ∙ back m

-- whether a line may stand where it stands, by the tests that the code makes
module _ (c : Code) (bs : List Block) where
  pub last_return : (n : ℕ) → n ≡ packed_blocks bs → Shape.Return ≡ shape_of c → eqb n 0 ≡ may_stand true c bs
  unfolding may_stand is_shape
  last_return n e h = ap (λ k. eqb k 0) e ∙ packed_none bs ∙ sym (rw (eq-eqb _ _ (ap shape_number h)) refl)

  pub last_other : (Shape.Return ≡ shape_of c → ⊥) → false ≡ may_stand true c bs
  unfolding may_stand is_shape
  last_other h = sym (rw (ne_eqb _ _ (λ e. h (shape_apart Shape.Return (shape_of c) e))) refl)

  pub not_last : (n : ℕ) → n ≡ packed_blocks bs → ltb n 65536 ≡ may_stand false c bs
  unfolding may_stand
  not_last n e = ap (λ k. ltb k 65536) e ∙ packed_deep bs

-- the blocks that are open after a line, where it may stand and where it may not
module _ (last : Bool) (c : Code) where
  pub stood_none : (o : Option (List Block)) → o ≡ None → stood last c o ≡ None
  unfolding stood
  stood_none o e = ap (stood last c) e

  module _ (o : Option (List Block)) (bs : List Block) (e : o ≡ Some bs) where
    pub stood_some : may_stand last c bs ≡ true → stood last c o ≡ Some bs
    unfolding stood
    stood_some f = ap (stood last c) e ∙ rw (f, stood) refl

    pub stood_not : may_stand last c bs ≡ false → stood last c o ≡ None
    unfolding stood
    stood_not f = ap (stood last c) e ∙ rw (f, stood) refl

  -- so it is refused, or may stand there and is taken
  module _ (at : ℕ) (so : SoFar) where
    unfoldable pub Taking : Option (List Block) → Taken (Code × SoFar) → Type 0
    Taking None x = x ≡ wrong wrong_blocks
    Taking (Some bs) x = (may_stand last c bs ≡ true) × (x ≡ right (c, record { total = so.total; creations = so.creations ++ creations_of at c; blocks = bs }))

    pub taking : (o : Option (List Block)) → Taking (stood last c o) (standing at last so c o)
    unfolding stood standing Taking
    taking None = refl
    taking (Some bs) = go (may_stand last c bs) refl
      where
        go : (b : Bool) → may_stand last c bs ≡ b → Taking (elim b [ true ↦ Some bs | false ↦ None ]) (elim b [
          | false ↦ wrong wrong_blocks
          | true ↦ right (c, record { total = so.total; creations = so.creations ++ creations_of at c; blocks = bs })
        ])
        go true f = (f, refl)
        go false f = refl

-- what the code read of a value, with no cells lent
module _ (cells : Cells) (a : Around) (m : MethodHead) (l : a.limits ≡ limits_of m) (value : Text) (r : Result (Declared.Statement × Arguments) ℕ)
    (q : r ≡ statement_read cells a m.classes value) where
  -- it is no statement
  pub code_bad : (last : Bool) (bs : List Block) (p : ℕ) → r ≡ Err p → CodeSaid value m last bs (Err Refusal.WrongCode)
  unfolding CodeSaid number_of
  code_bad last bs p g at total cs =
      let e : statement trees guard_trees (limits_of m) m.classes value ≡ bad p =
      subst (λ x. statement trees guard_trees x m.classes value ≡ bad p) l (told_bad cells a m.classes value r q p g) in
      rw (e, value_taken)

  module _ (said : Declared.Statement) (es : Arguments) (g : r ≡ Ok (said, es)) where
    pub told : Told cells a m.classes value said es
    told = told_got cells a m.classes value r q said es g

    tree : statement trees guard_trees (limits_of m) m.classes value ≡ got (length value) told.code
    tree = subst (λ x. statement trees guard_trees x m.classes value ≡ got (length value) told.code) l told.tree

    -- the bounds of a `new`, by which it has a place in the table
    module _ (some-class : 0 < m.classes) (few : m.classes ≤ 16) where
      class_below : (n : ℕ × ℕ) → new_of told.code ≡ Some n → n.0 < 16
      class_below n f = omega (arith, new_class trees guard_trees (limits_of m) m.classes value _ told.code n tree f some-class)

      pub new_fits_lem : length value ≤ 120 → (k n : ℕ) → new_said said es.count ≡ Some (k, n) → (k < 16) × (n ≤ 121)
      new_fits_lem h k n o =
          let new : new_of told.code ≡ Some (k, n) = sym told.creates ∙ o in
          (class_below (k, n) new, omega (arith, new_count trees guard_trees (limits_of m) m.classes value _ told.code (k, n) tree new))

    module _ (last : Bool) (bs : List Block) where
      -- it may not stand
      pub code_stuck : stood last told.code (through (shape_of told.code) bs) ≡ None → CodeSaid value m last bs (Err Refusal.WrongBlocks)
      unfolding CodeSaid Taking number_of
      code_stuck f at total cs = rw (tree, value_taken) (rw f at (taking last told.code at (record { total = total; creations = cs; blocks = bs }) (through (shape_of told.code) bs)))

      -- it may
      pub code_stands : 0 < m.classes → m.classes ≤ 16 → (d : Stated) (left : List Block) → stood last told.code (through (shape_of told.code) bs) ≡ Some left
          → d.blocks ≡ packed_blocks left → d.shape ≡ shape_number (shape_of told.code) → d.new ≡ new_number (new_said said es.count)
          → CodeSaid value m last bs (Ok d)
      unfolding CodeSaid
      code_stands some-class few d left f b s n = record {
        code = told.code;
        after = left;
        tree = tree;
        stands = f;
        blocks = b;
        shape = s;
        new = n ∙ ap new_number told.creates;
        class = class_below some-class few;
      }
