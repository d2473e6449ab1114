-- "A configuration of a model has ..": condition by condition. Assumes nothing.
use Rattle.std.specs.Prelude.{ℕ, ◌+◌, Bool, true, false, ◌&&◌, ◌||◌, [], ◌∷◌, leb, eqb, ℤ, pos, length, None, Some}
use Rattle.whole.specs.Plain.{all, all_to, all_below, whenever}
use Rattle.whole.specs.Whole.{between, eq_z, nat}
use Rattle.layout.specs.Layout.{Cells, all_cells, object_rows, call_rows, most_attributes, most_locals, Place, header, object, call, place_of, read, objects, calls, of_object, of_call, running_label, attribute, caller, callee, method, args, line, cleared, value, local}
use Rattle.layout.specs.Stages.{invoked, bound, running, answered, taken, nobody, objects_in_use, rows_in_use, label_of, in_stage, in_stages}
use Rattle.code.specs.Statements.{Code}
use Rattle.code.specs.declared.Shape.TheVariants as Shape
use Rattle.code.specs.Blocks.{shape_of, is_shape}
use Rattle.model.specs.Model.{Model, runs}
use Rattle.model.specs.Bounds.{most_params}
use Rattle.code.specs.Reader.{last_method}
use Rattle.cells.specs.Standing.{class_of, standing_of}

-- a cell with a number
abbrev pub is : ℤ → ℕ → Bool
is z n = eq_z z (pos n)

-- fields from one of a family on are 0: `field i` for each i from `from` to below `family`
unfoldable pub zero_from : ℕ → ℕ → (ℕ → ℤ) → Bool
zero_from family from field = all_below family (λ i. whenever (leb from i) (is (field i) 0))

-- a place is in use: the header, and the rows of so many objects and so many calls
unfoldable pub place_in_use : ℕ → ℕ → Place → Bool
place_in_use objects calls (header i) = true
place_in_use objects calls (object o f) = leb o objects
place_in_use objects calls (call r f) = leb r calls

-- the cells from one on are 0, save at places in use
unfoldable pub zero_unless : (Place → Bool) → ℕ → Cells → Bool
zero_unless used i [] = true
zero_unless used i (z ∷ zs) = elim (used (place_of i) || is z 0) [ true ↦ zero_unless used (i + 1) zs | false ↦ false ]

module _ (m : Model) (c : Cells) where
  -- "an object's running label is 0 or a stage 4 call with that callee"
  unfoldable pub running_named : ℕ → Bool
  running_named o = is (of_object c o running_label) 0 || (elim (label_of c (of_object c o running_label)) [
    | None ↦ false
    | Some l ↦ in_stage c l running && is (of_call c l callee) o
  ])

  -- "each class exists; attributes from attrs on are 0"
  unfoldable pub object_holds : ℕ → Bool
  object_holds o = elim (class_of m c o) [
    | None ↦ false
    | Some k ↦ zero_from most_attributes k.attrs (λ i. of_object c o (attribute i)) && running_named o
  ]

  -- "Stage is 1..7, caller 0..objects, callee 1..objects, method 0..7."
  unfoldable pub numbers_hold : ℕ → Bool
  numbers_hold l = all (
      in_stages c l invoked taken
      ∷ between (pos 0) (read c objects) (of_call c l caller)
      ∷ between (pos 1) (read c objects) (of_call c l callee)
      ∷ between (pos 0) (pos last_method) (of_call c l method)
      ∷ [])

  -- "each stage 4 call is its callee's running label"
  unfoldable pub named_by_callee : ℕ → Bool
  named_by_callee l = whenever (in_stage c l running) (is (of_object c (nat (of_call c l callee)) running_label) l)

  -- "In stages 1 and 2 args is 0..4, v cells from args on and line are 0."
  unfoldable pub unbound_holds : ℕ → Bool
  unbound_holds l = all (
      between (pos 0) (pos most_params) (of_call c l args)
      ∷ zero_from most_locals (nat (of_call c l args)) (λ i. of_call c l (local i))
      ∷ is (of_call c l line) 0
      -- "Cleared .. is 1 only in stages 3 and 4": here it is 0
      ∷ is (of_call c l cleared) 0
      ∷ [])

  -- at a line: "Cleared .. is 1 only in stages 3 and 4 at an await line; in stage 3 with cleared 0 the line is 0. .. in 5 to 7 the line is
  -- a return."
  unfoldable pub line_holds : ℕ → Code → Bool
  line_holds l s = all (
      whenever (is (of_call c l cleared) 1) (in_stages c l bound running && is_shape Shape.Await (shape_of s))
      ∷ whenever (in_stage c l bound && is (of_call c l cleared) 0) (is (of_call c l line) 0)
      ∷ whenever (in_stages c l answered taken) (is_shape Shape.Return (shape_of s))
      ∷ [])

  -- "From stage 3 the callee's class has the method, args is its params, line is inside it, v cells from locals on are 0."
  unfoldable pub bound_holds : ℕ → Bool
  bound_holds l = elim (standing_of m c l) [
    | None ↦ false
    | Some s ↦ zero_from most_locals s.body.locals (λ i. of_call c l (local i)) && line_holds l s.statement
  ]

  -- "Caller 0 stands only in stages 3, 4 and 7, with method 0 of a class with run 1."
  unfoldable pub callerless_holds : ℕ → Bool
  callerless_holds l = whenever (eq_z (of_call c l caller) nobody) (all (
      (in_stages c l bound running || in_stage c l taken)
      ∷ is (of_call c l method) 0
      ∷ (elim (class_of m c (nat (of_call c l callee))) [ None ↦ false | Some k ↦ runs k ])
      ∷ []))

  unfoldable pub call_holds : ℕ → Bool
  call_holds l = numbers_hold l && all (
      named_by_callee l
      -- "Cleared is 0 or 1"
      ∷ between (pos 0) (pos 1) (of_call c l cleared)
      -- "Value is 0 below stage 5"
      ∷ (in_stages c l answered taken || is (of_call c l value) 0)
      ∷ (elim (in_stages c l bound taken) [ true ↦ bound_holds l | false ↦ unbound_holds l ])
      ∷ callerless_holds l
      ∷ [])

  -- "2,370 cells of i32, unused ones 0.": every cell whose place is in no row in use is 0
  unfoldable pub unused_hold : Bool
  unused_hold = eqb (length c) all_cells && zero_unless (place_in_use (objects_in_use c) (rows_in_use c)) 0 c

  -- "objects 1..32, calls 1..128", and what holds of each row in use
  unfoldable pub is_configuration : Bool
  is_configuration = elim (between (pos 1) (pos object_rows) (read c objects) && between (pos 1) (pos call_rows) (read c calls)) [
    | true ↦ unused_hold && all_to (objects_in_use c) object_holds && all_to (rows_in_use c) call_holds
    | false ↦ false
  ]
