-- A configuration as facts: what holds of an object, of a call and of the whole, in document 01's words. A row is the function that gives its
-- cells by their fields, so that what holds of a row is said of any row with those cells. Assumes nothing.
use Rattle.std.specs.Prelude.{Some, slice_get}
use Prim.Native.Nat.{ℕ, ◌≤◌, ◌<◌}
use mathlib.Core.Bool.{true}
use mathlib.Core.Path.{◌≡◌}
use mathlib.Core.Logic.{◌≢◌}
use lib.IntN.{ℤ, pos}
use lib.ListN.{length}
use Rattle.whole.specs.Whole.{nat}
use Rattle.layout.specs.Layout
use Rattle.layout.specs.Layout.{Cells, all_cells, object_rows, call_rows, most_attributes, most_locals, read, objects, calls, of_object, of_call}
use Rattle.layout.specs.Stages.{invoked, bound, running, answered, replied, taken, objects_in_use, rows_in_use}
use Rattle.code.specs.declared.Shape.TheVariants as Shape
use Rattle.code.specs.Blocks.{shape_of}
use Rattle.code.specs.Statements.{Code}
use Rattle.code.specs.Reader.{last_method}
use Rattle.model.specs.Bounds.{most_params}
use Rattle.model.specs.Model.{Model, Class, Method, runs}
use Rattle.layout.proofs.Writes.{Fields}
use Rattle.whole.proofs.Tested.{Counts, Number}

-- fields from one of a family on are 0
abbrev pub ZeroFrom : ℕ → ℕ → (ℕ → ℤ) → Type 0
ZeroFrom family from field = (i : ℕ) → from ≤ i → i < family → field i ≡ pos 0

-- "each class exists": the class of a cell
pub record ClassAt (m : Model) (k : ℤ) (class : Class) : Type 0 where
  pub counts : Counts k
  pub there : slice_get m (nat k) ≡ Some class

-- an object with such a row, in a configuration with so many calls, where the call that it names has such a stage and callee
pub record ObjectFacts (m : Model) (calls : ℕ) (stage callee : ℤ) (o : ℕ) (row : Fields) : Type 0 where
  -- "each class exists"
  pub class : Class
  pub exists : ClassAt m (row Layout.class) class
  -- "attributes from attrs on are 0"
  pub attributes : ZeroFrom most_attributes class.attrs (λ i. row (Layout.attribute i))
  -- "an object's running label is 0 or a stage 4 call with that callee"
  pub label : Number 0 calls (row Layout.running_label)
  pub running : 1 ≤ nat (row Layout.running_label) → (stage ≡ pos running) × (callee ≡ pos o)

-- where a call of a class cell, with such method, args and line, stands: "the callee's class has the method, args is its params, line is inside it"
pub record StandsAt (m : Model) (k method args line : ℤ) : Type 0 where
  pub class : Class
  pub body : Method
  pub statement : Code
  pub exists : ClassAt m k class
  pub has : slice_get class.methods (nat method) ≡ Some body
  pub params : args ≡ pos body.params
  pub counts : Counts line
  pub inside : slice_get body.code (nat line) ≡ Some statement

-- "In stages 1 and 2 args is 0..4, v cells from args on and line are 0.", and cleared is
pub record Unbound (row : Fields) : Type 0 where
  pub args : Number 0 most_params (row Layout.args)
  pub locals : ZeroFrom most_locals (nat (row Layout.args)) (λ i. row (Layout.local i))
  pub line : row Layout.line ≡ pos 0
  pub cleared : row Layout.cleared ≡ pos 0

-- "From stage 3"
pub record Bound (m : Model) (k : ℤ) (row : Fields) : Type 0 where
  -- "the callee's class has the method, args is its params, line is inside it"
  pub stands : StandsAt m k (row Layout.method) (row Layout.args) (row Layout.line)
  -- "v cells from locals on are 0"
  pub locals : ZeroFrom most_locals stands.body.locals (λ i. row (Layout.local i))
  -- "it is 1 only in stages 3 and 4 at an await line"
  pub cleared : nat (row Layout.cleared) ≡ 1 → (nat (row Layout.stage) ≤ running) × (shape_of stands.statement ≡ Shape.Await)
  -- "in stage 3 with cleared 0 the line is 0"
  pub first : nat (row Layout.stage) ≡ bound → nat (row Layout.cleared) ≡ 0 → row Layout.line ≡ pos 0
  -- "in 5 to 7 the line is a return"
  pub returned : answered ≤ nat (row Layout.stage) → shape_of stands.statement ≡ Shape.Return

-- "Caller 0 stands only in stages 3, 4 and 7, with method 0 of a class with run 1."
pub record Callerless (m : Model) (k stage method : ℤ) : Type 0 where
  pub bound : bound ≤ nat stage
  pub unanswered : nat stage ≢ answered
  pub unreplied : nat stage ≢ replied
  pub first : method ≡ pos 0
  pub class : Class
  pub exists : ClassAt m k class
  pub runs : runs class ≡ true

-- a call with such a row, among so many objects, where its callee has such a class and running label
pub record CallFacts (m : Model) (objects : ℕ) (k label : ℤ) (l : ℕ) (row : Fields) : Type 0 where
  -- "Stage is 1..7, caller 0..objects, callee 1..objects, method 0..7."
  pub stage : Number invoked taken (row Layout.stage)
  pub caller : Number 0 objects (row Layout.caller)
  pub callee : Number 1 objects (row Layout.callee)
  pub method : Number 0 last_method (row Layout.method)
  -- "each stage 4 call is its callee's running label"
  pub named : nat (row Layout.stage) ≡ running → label ≡ pos l
  -- "Cleared is 0 or 1"
  pub cleared : Number 0 1 (row Layout.cleared)
  -- "Value is 0 below stage 5"
  pub value : nat (row Layout.stage) < answered → row Layout.value ≡ pos 0
  pub unbound : nat (row Layout.stage) < bound → Unbound row
  pub bound : bound ≤ nat (row Layout.stage) → Bound m k row
  pub callerless : nat (row Layout.caller) ≡ 0 → Callerless m k (row Layout.stage) (row Layout.method)

-- an object and a call of some cells
abbrev pub ObjectHolds : Model → Cells → ℕ → Type 0
ObjectHolds m c o =
    let l = nat (of_object c o Layout.running_label) in
    ObjectFacts m (rows_in_use c) (of_call c l Layout.stage) (of_call c l Layout.callee) o (of_object c o)

abbrev pub CallHolds : Model → Cells → ℕ → Type 0
CallHolds m c l =
    let o = nat (of_call c l Layout.callee) in
    CallFacts m (objects_in_use c) (of_object c o Layout.class) (of_object c o Layout.running_label) l (of_call c l)

-- "A configuration of a model has objects 1..32, calls 1..128, and": what holds of each object and each call in use
pub record Configured (m : Model) (c : Cells) : Type 0 where
  -- "2,370 cells"
  pub length : length c ≡ all_cells
  pub objects : Number 1 object_rows (read c objects)
  pub calls : Number 1 call_rows (read c calls)
  pub object : (o : ℕ) → 1 ≤ o → o ≤ objects_in_use c → ObjectHolds m c o
  pub call : (l : ℕ) → 1 ≤ l → l ≤ rows_in_use c → CallHolds m c l
  -- "unused ones 0": what is no row in use reads 0
  pub unused_object : (o f : ℕ) → objects_in_use c < o → of_object c o f ≡ pos 0
  pub unused_call : (l f : ℕ) → rows_in_use c < l → of_call c l f ≡ pos 0
