-- Vocabulary of the code: what a code value is, as the code gives it: a statement that may stand where it stands. Assumes nothing.
use Rattle.std.specs.Prelude.{ℕ, ◌<◌, Bool, true, false, List, ◌≡◌, length, Option, None, Some, Result, Ok, Err}
use Rattle.whole.specs.Refusals.{wrong_code}
use Rattle.whole.specs.declared.refusals.Refusal.{Refusal}
use Rattle.whole.specs.Vocabulary.Refusing.{number_of}
use Rattle.terms.specs.Bytes.{Text}
use Rattle.terms.specs.declared.Limits.{Limits}
use Rattle.terms.specs.Parsed.{got, bad}
use Rattle.terms.specs.Trees.{trees, guard_trees}
use Rattle.text.specs.InOrder.{Taken, wrong}
use Rattle.code.specs.Blocks.{Block, shape_of, shape_number, through}
use Rattle.code.specs.Reader.{statement}
use Rattle.code.specs.Statements.{Code, new_of}
use Rattle.code.specs.Vocabulary.OpenBlocks.{packed_blocks}
use Rattle.model.specs.declared.MethodHead.{MethodHead}
use Rattle.model.specs.declared.Stated.{Stated}
use Rattle.model.specs.Bounds.{most_classes}
use Rattle.model.specs.ModelText.{Creation, SoFar, may_stand, standing}
use Rattle.model.specs.Vocabulary.Creations.{new_number}

-- the blocks that are open after a line, if it may stand there
unfoldable pub stood : Bool → Code → Option (List Block) → Option (List Block)
stood last c None = None
stood last c (Some bs) = elim (may_stand last c bs) [ true ↦ Some bs | false ↦ None ]

-- what the variables of a method's code are below
abbrev pub limits_of : MethodHead → Limits
limits_of m = record { attrs = m.attrs; locals = m.locals }

-- what a code value is taken for, with what is carried, as `code_line` says
abbrev pub value_taken : Limits → ℕ → Bool → SoFar → ℕ → Text → Taken (Code × SoFar)
value_taken lim classes last so at value = elim (statement trees guard_trees lim classes value) [
  | bad p ↦ wrong wrong_code
  | got p c ↦ standing at last so c (through (shape_of c) so.blocks)
]

-- what the code gives of a statement
pub record CodeIs (value : Text) (m : MethodHead) (last : Bool) (bs : List Block) (d : Stated) : Type 0 where
  pub code : Code
  pub after : List Block
  pub tree : statement trees guard_trees (limits_of m) m.classes value ≡ got (length value) code
  pub stands : stood last code (through (shape_of code) bs) ≡ Some after
  pub blocks : d.blocks ≡ packed_blocks after
  pub shape : d.shape ≡ shape_number (shape_of code)
  pub new : d.new ≡ new_number (new_of code)
  pub class : (n : ℕ × ℕ) → new_of code ≡ Some n → n.0 < most_classes

-- what the code gives of a value: what refuses it, whatever else is carried, or the statement
unfoldable pub CodeSaid : Text → MethodHead → Bool → List Block → Result Stated Refusal → Type 0
CodeSaid value m last bs (Err r) =
    (at total : ℕ) (cs : List Creation) → value_taken (limits_of m) m.classes last (record { total = total; creations = cs; blocks = bs }) at value ≡ wrong (number_of r)
CodeSaid value m last bs (Ok d) = CodeIs value m last bs d
