-- What parts above look up in the table and the shapes of a text, without opening them: the number of classes, the counts of a class and of a
-- method, the bytes and the shape of a code line, and the shapes of a whole method. Assumes nothing.
use Rattle.std.specs.Prelude.{Some, slice_get}
use Prim.Native.Nat.{ℕ, suc, ◌+◌, ◌≤◌}
use mathlib.Core.List.{List, [], ◌∷◌, map}
use mathlib.Core.Path.{◌≡◌, refl, ap, ap₂, ◌∙◌}
use native.Mathlib.Nat.{zero-add}
use native.Mathlib.Numerals.{add-one}
use native.Mathlib.Omega.{arith}
use lib.ListN.{length, get_or, take, drop}
use lib.Seq.{drop-cons}
use Rattle.whole.specs.Lists.{EachFrom}
use Rattle.terms.specs.Bytes.{Text}
use Rattle.terms.specs.declared.Limits.{Limits}
use Rattle.terms.specs.Parsed.{got}
use Rattle.terms.specs.Trees.{trees, guard_trees}
use Rattle.code.specs.Blocks.{shape_of, shape_number}
use Rattle.code.specs.Reader.{statement}
use Rattle.code.specs.Statements.{Code}
use Rattle.code.specs.Vocabulary.Shapes.{shapes_in}
use Rattle.code.proofs.Shapes.{shapes_of_numbers}
use Rattle.model.specs.Bounds.{all_lines, most_methods}
use Rattle.model.specs.Model.{Method, Class, Model}
use Rattle.model.specs.Vocabulary.Belonging.{value_in, CodeTold, ShapeTold, MethodTold, ClassTold, Belongs, Shaped}
use Rattle.model.specs.Vocabulary.Table.{Table, row_at, class_row, method_row, code_row, classes_in}
use Rattle.model.proofs.TableRows.{each_at}

-- a text, the table that belongs to it, and the model that it gives: how many classes it has
pub classes_at : (s : Text) (t : Table) (m : Model) → Belongs s t m → classes_in t ≡ length m
unfolding Belongs
classes_at s t m b = b.0

-- the row of a class: its counts, and every method has a row of its own
pub record ClassRow (t : Table) (k : ℕ) (c : Class) : Type 0 where
  pub attrs : (row_at t (class_row k)).0 ≡ c.attrs
  pub given : (row_at t (class_row k)).1 ≡ c.given
  pub run : (row_at t (class_row k)).2 ≡ c.run
  pub methods : (row_at t (class_row k)).3 ≡ length c.methods
  pub few : length c.methods ≤ most_methods

-- the row of a method: its counts, and every code line has a row of its own
pub record MethodRow (t : Table) (k j : ℕ) (o : Method) : Type 0 where
  pub params : (row_at t (method_row k j)).0 ≡ o.params
  pub locals : (row_at t (method_row k j)).1 ≡ o.locals
  pub lines : (row_at t (method_row k j)).2 ≡ length o.code
  pub few : (row_at t (method_row k j)).3 + length o.code ≤ all_lines

-- what a table tells of each code line of a model, at a class
module _ (t : Table) (Told : Limits → ℕ → Code → Type 0) (m : Model) (b : EachFrom (ClassTold t all_lines Told) 0 m) (k : ℕ) (c : Class) (e : slice_get m k ≡ Some c) where
  class_told : ClassTold t all_lines Told k c
  class_told = each_at _ 0 m k c b e (zero-add k)

  -- at a method of the class, and at a code line of it
  module _ (j : ℕ) (o : Method) (f : slice_get c.methods j ≡ Some o) where
    method_told : MethodTold t all_lines Told c.attrs k j o
    unfolding ClassTold
    method_told = each_at _ 0 c.methods j o class_told.5 f (zero-add j)

    line_told : (i : ℕ) (st : Code) → slice_get o.code i ≡ Some st → Told (record { attrs = c.attrs; locals = o.locals }) ((row_at t (method_row k j)).3 + i) st
    unfolding MethodTold
    line_told i st g = each_at _ (row_at t (method_row k j)).3 o.code i st method_told.4 g refl

-- the table of a text that gives a model
module _ (s : Text) (t : Table) (m : Model) (b : Belongs s t m) (k : ℕ) (c : Class) (e : slice_get m k ≡ Some c) where
  pub class_at : ClassRow t k c
  unfolding Belongs ClassTold
  class_at = let r = class_told t _ m b.1 k c e in record { attrs = r.0; given = r.1; run = r.2; methods = r.3; few = r.4 }

  module _ (j : ℕ) (o : Method) (f : slice_get c.methods j ≡ Some o) where
    pub method_at : MethodRow t k j o
    unfolding Belongs MethodTold
    method_at = let r = method_told t _ m b.1 k c e j o f in record { params = r.0; locals = r.1; lines = r.2; few = r.3 }

    -- the bytes of a code line lie within the text and, read, they are the statement of the model
    pub line_at : (i : ℕ) (st : Code) → slice_get o.code i ≡ Some st → (let r = row_at t (code_row ((row_at t (method_row k j)).3 + i)) in
        (r.0 + r.1 ≤ length s) × (statement trees guard_trees (record { attrs = c.attrs; locals = o.locals }) (length m) (value_in s r) ≡ got r.1 st))
    unfolding Belongs CodeTold
    line_at = line_told t _ m b.1 k c e j o f

-- the part of the shapes that some code lines have
part_numbers : (x : List ℕ) (lim : Limits) (n : ℕ) (cs : List Code) → n + length cs ≤ length x → EachFrom (ShapeTold x lim) n cs
    → take (length cs) (drop n x) ≡ map shape_number (map shape_of cs)
unfolding EachFrom ShapeTold
part_numbers x lim n [] h told = refl
part_numbers x lim n (c ∷ cs) h told =
    ap (take (suc (length cs))) (drop-cons x n 0 (omega arith))
    ∙ ap₂ ◌∷◌ told.0 (rw (add-one n) at (part_numbers x lim (n + 1) cs (omega arith) told.1))

-- the shapes of a text that gives a model
module _ (t : Table) (x : List ℕ) (m : Model) (b : Shaped t x m) (k : ℕ) (c : Class) (e : slice_get m k ≡ Some c)
    (j : ℕ) (o : Method) (f : slice_get c.methods j ≡ Some o) where
  -- of one line
  pub shape_at_lem : (i : ℕ) (st : Code) → slice_get o.code i ≡ Some st → get_or x ((row_at t (method_row k j)).3 + i) 0 ≡ shape_number (shape_of st)
  unfolding Shaped ShapeTold
  shape_at_lem = line_told t _ m b.1 k c e j o f

  -- of a whole method, as the finder of a block's partner takes them
  pub method_shapes : shapes_in (take (length o.code) (drop (row_at t (method_row k j)).3 x)) ≡ map shape_of o.code
  unfolding MethodTold Shaped
  method_shapes =
      let r = method_told t _ m b.1 k c e j o f in
      ap shapes_in (part_numbers x _ (row_at t (method_row k j)).3 o.code (omega (arith, r.3, b.0)) r.4) ∙ shapes_of_numbers (map shape_of o.code)
