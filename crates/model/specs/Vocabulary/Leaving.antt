-- Vocabulary of the code: what a reading leaves of the table, and what is carried from line to line by it. Assumes nothing.
use Rattle.std.specs.Prelude.{ℕ, ◌+◌, ◌*◌, ◌≤◌, true, List, [], ◌≡◌, eqb, length}
use Rattle.whole.specs.Lists.{EachFrom}
use Rattle.terms.specs.Bytes.{Text}
use Rattle.code.specs.Blocks.{Block}
use Rattle.code.specs.Statements.{Code}
use Rattle.code.specs.Vocabulary.OpenBlocks.{packed_blocks}
use Rattle.model.specs.declared.ClassHead.{ClassHead}
use Rattle.model.specs.declared.MethodHead.{MethodHead}
use Rattle.model.specs.Bounds.{most_classes, all_lines}
use Rattle.model.specs.Model.{Method, Class, Model}
use Rattle.model.specs.ModelText.{SoFar, may_stand}
use Rattle.model.specs.Vocabulary.Belonging.{MethodTold, ClassTold, LineTold}
use Rattle.model.specs.Vocabulary.Creations.{creations_in}
use Rattle.model.specs.Vocabulary.Standing.{limits_of}
use Rattle.model.specs.Vocabulary.Table.{Table, Same, classes_in}

-- what is carried from line to line, by a table that tells the first code lines: all `lines=` together, and the open blocks
abbrev pub so_far : Table → ℕ → ℕ → List Block → SoFar
so_far t told total bs = record { total = total; creations = creations_in t told; blocks = bs }

-- the same from method to method
abbrev pub between : Table → ℕ → SoFar
between t total = so_far t total total []

-- a text, its table and the shapes of its lines before a reading, and both after it
module _ (s : Text) (t : Table) (x : List ℕ) (u : Table) (y : List ℕ) where
  -- what a code line leaves, where all `lines=` together are known: the open blocks, and its own row
  pub record LineLeft (m : MethodHead) (i total : ℕ) (got : Code × SoFar) (n : ℕ) : Type 0 where
    pub blocks : List Block
    pub so : got.1 ≡ so_far u (m.first + i + 1) total blocks
    pub number : n ≡ packed_blocks blocks
    pub stands : may_stand (eqb (i + 1) m.count) got.0 blocks ≡ true
    pub kept : Same t x u y 16 128 (m.first + i)
    pub told : LineTold s m.classes u y (limits_of m) (m.first + i) got.0

  -- what a longer reading leaves, with so many code lines read before it: its own rows, where so many rows are as they were
  pub record Left {A : Type 0} (Told : A → ℕ → Type 0) (classes methods total : ℕ) (got : A × SoFar) (n : ℕ) : Type 0 where
    pub so : got.1 ≡ between u n
    pub more : total ≤ n
    pub most : n ≤ all_lines
    pub kept : Same t x u y classes methods total
    pub told : Told got.0 n

  -- all code lines of a method
  abbrev pub CodeLeft : MethodHead → List Code × SoFar → ℕ → Type 0
  CodeLeft m = Left
      (λ cs n. (length cs ≡ m.count) × (n ≡ m.first + m.count) × EachFrom (LineTold s m.classes u y (limits_of m)) m.first cs)
      16 128 m.first

  -- a method, and so many methods of a class
  abbrev pub MethodLeft : ClassHead → ℕ → ℕ → Method × SoFar → ℕ → Type 0
  MethodLeft c j total = Left (λ o n. MethodTold u n (LineTold s c.classes u y) c.attrs c.index j o) 16 (8 * c.index + j) total

  abbrev pub MethodsLeft : ClassHead → ℕ → ℕ → List Method × SoFar → ℕ → Type 0
  MethodsLeft c count total = Left
      (λ os n. (length os ≡ count) × EachFrom (MethodTold u n (LineTold s c.classes u y) c.attrs c.index) 0 os)
      16 (8 * c.index) total

  -- a class, and so many of the classes
  abbrev pub ClassLeft : ℕ → ℕ → ℕ → Class × SoFar → ℕ → Type 0
  ClassLeft classes k total = Left (λ c n. ClassTold u n (LineTold s classes u y) k c) k (8 * k) total

  abbrev pub ClassesLeft : ℕ → ℕ → Model × SoFar → ℕ → Type 0
  ClassesLeft classes count = Left (λ m n. (length m ≡ count) × EachFrom (ClassTold u n (LineTold s classes u y)) 0 m) 0 0 0

  -- the whole text, with the model's own row
  abbrev pub ModelLeft : Model × SoFar → ℕ → Type 0
  ModelLeft = Left
      (λ m n. (classes_in u ≡ length m) × (length m ≤ most_classes) × EachFrom (ClassTold u n (LineTold s (length m) u y)) 0 m)
      0 0 0
