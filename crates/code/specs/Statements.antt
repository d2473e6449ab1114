-- What a code value is, over what a reading gives for its expressions and guards. Assumes nothing.
use Rattle.std.specs.Prelude.{ℕ, List, map, length, Option, None, Some}
use Rattle.terms.specs.declared.Variable.{Variable}
use Rattle.terms.specs.Trees.{Expression, Guard}

-- "A code value is one of": A is what an expression gives, G what a guard gives
pub data Statement (A G : Type 0) : Type 0 where
  skip : Statement A G
  set : Variable → A → Statement A G
  new : Variable → ℕ → List A → Statement A G
  call : Variable → A → ℕ → List A → Statement A G
  get : Variable → Variable → Statement A G
  await : G → Statement A G
  if : A → Statement A G
  else : Statement A G
  fi : Statement A G
  while : A → Statement A G
  od : Statement A G
  return : A → Statement A G

-- a statement as a model holds it
abbrev pub Code : Type 0
Code = Statement Expression Guard

-- what a statement gives when its expressions and guards are put another way
unfoldable pub map_statement : {A B G H : Type 0} → (A → B) → (G → H) → Statement A G → Statement B H
map_statement h k skip = skip
map_statement h k (set x a) = set x (h a)
map_statement h k (new x class es) = new x class (map h es)
map_statement h k (call x a method es) = call x (h a) method (map h es)
map_statement h k (get x y) = get x y
map_statement h k (await g) = await (k g)
map_statement h k (if a) = if (h a)
map_statement h k else = else
map_statement h k fi = fi
map_statement h k (while a) = while (h a)
map_statement h k od = od
map_statement h k (return a) = return (h a)

-- the class that a `new` names, and how many arguments it has; none of another statement
unfoldable pub new_of : {A G : Type 0} → Statement A G → Option (ℕ × ℕ)
new_of skip = None
new_of (set x a) = None
new_of (new x k es) = Some (k, length es)
new_of (call x a j es) = None
new_of (get x y) = None
new_of (await g) = None
new_of (if a) = None
new_of else = None
new_of fi = None
new_of (while a) = None
new_of od = None
new_of (return a) = None
