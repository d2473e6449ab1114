-- What the model of an accepted text is like, in the document's words. Assumes nothing.
use Rattle.std.specs.Prelude.{ℕ, ◌-◌, ◌≤◌, List, [], map, ◌≡◌, length, get_or, take, Some, slice_get}
use Rattle.whole.specs.Lists.{Every, EachFrom, total_of}
use Rattle.layout.specs.Layout.{most_attributes, most_locals}
use Rattle.code.specs.declared.Shape.{Shape}
use Rattle.code.specs.Blocks.{Block, shape_of, through_all}
use Rattle.code.specs.Statements.{Code, new_of}
use Rattle.code.specs.Within.{CodeWithin}
use Rattle.model.specs.Bounds.{most_classes, most_methods, most_params, most_lines, all_lines, deepest}
use Rattle.model.specs.Model.{Method, Class, Model}

-- the lines of a method, as far as blocks go
pub record AcceptedBlocks (ls : List Shape) : Type 0 where
  -- "Every `if` has one `else` and one `fi`": each block that is opened is closed
  pub close : through_all ls [] ≡ Some []
  -- "Blocks nest at most 8 deep.": as many at most are open after the first i lines
  pub depth : (i : ℕ) (bs : List Block) → through_all (take i ls) [] ≡ Some bs → length bs ≤ deepest
  -- "A method's last line is a `return` outside all blocks."
  pub ends : get_or ls (length ls - 1) Shape.Plain ≡ Shape.Return

-- a method by its index, in a class with such attrs and run, where there are so many classes
pub record AcceptedMethod (classes attrs run j : ℕ) (b : Method) : Type 0 where
  -- "`params=` 0..4"
  pub params : b.params ≤ most_params
  -- "Where run is 1, method 0 has params 0."
  pub first : run ≡ 1 → j ≡ 0 → b.params ≡ 0
  -- "`locals=` params..8"
  pub locals : (b.params ≤ b.locals) × (b.locals ≤ most_locals)
  -- "`lines=` 1..64"
  pub lines : (1 ≤ length b.code) × (length b.code ≤ most_lines)
  -- how its blocks open and close
  pub blocks : AcceptedBlocks (map shape_of b.code)
  -- "X and Y are variables: a0..a7 below attrs, v0..v7 below locals.", and what else is asked of each line by itself
  pub code : Every (CodeWithin (record { attrs = attrs; locals = b.locals }) classes) b.code

-- a class by its index, where there are so many
pub record AcceptedClass (classes k : ℕ) (c : Class) : Type 0 where
  -- "`attrs=` 0..8"
  pub attrs : c.attrs ≤ most_attributes
  -- "`given=` 0..attrs"
  pub given : c.given ≤ c.attrs
  -- "`run=` 0 or 1"
  pub run : c.run ≤ 1
  -- "Class 0 has given 0 and run 1."
  pub first : k ≡ 0 → (c.given ≡ 0) × (c.run ≡ 1)
  -- "`methods=` run..8"
  pub count : (c.run ≤ length c.methods) × (length c.methods ≤ most_methods)
  -- "then per method", "index from 0"
  pub methods : EachFrom (AcceptedMethod classes c.attrs c.run) 0 c.methods

-- "`new X K E,..` with exactly the given count of class K": of a line that is a `new`, and nothing of another
unfoldable pub AcceptedNew : Model → Code → Type 0
AcceptedNew m c = (n : ℕ × ℕ) → new_of c ≡ Some n → (k : Class) → slice_get m n.0 ≡ Some k → n.1 ≡ k.given

-- a whole model
pub record AcceptedModel (m : Model) : Type 0 where
  -- "`classes=` 1..16"
  pub count : (1 ≤ length m) × (length m ≤ most_classes)
  -- "then per class", "its index from 0"
  pub classes : EachFrom (AcceptedClass (length m)) 0 m
  -- "All `lines=` together are at most 512."
  pub lines : total_of (λ c. total_of (λ b. length b.code) c.methods) m ≤ all_lines
  -- each `new` of each method of each class
  pub news : Every (λ c. Every (λ b. Every (AcceptedNew m) b.code) c.methods) m
