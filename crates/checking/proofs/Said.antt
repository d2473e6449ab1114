-- What the lookups say of an object and of a bound call is what their tests ask. Assumes nothing.
use Rattle.std.specs.Prelude.{None, Some, slice_get}
use Prim.Native.Nat.{ℕ, ◌≤◌}
use mathlib.Core.Bool.{Bool, false, ◌&&◌}
use mathlib.Core.Path.{◌≡◌, refl, ap, ◌∙◌}
use native.Mathlib.Omega.{arith}
use lib.IntN.{ℤ}
use Rattle.whole.specs.Whole.{natural}
use Rattle.layout.specs.Layout.{Cells, most_attributes, most_locals, of_object, of_call, class, attribute, local}
use Rattle.code.specs.Statements.{Code}
use Rattle.model.specs.Model.{Model, Class, Method, runs}
use Rattle.terms.specs.Bytes.{Text}
use Rattle.model.specs.declared.Row.{Row}
use Rattle.model.specs.Vocabulary.Belonging.{Belongs}
use Rattle.model.specs.Vocabulary.Table.{Table, row_at, class_row}
use Rattle.model.proofs.AcceptedAt.{class_accepted}
use Rattle.model.proofs.Lookup.{class_at}
use Rattle.cells.specs.Standing.{class_of, standing_of}
use Rattle.cells.specs.Configuration.{zero_from, running_named, object_holds, line_holds, bound_holds}
use Rattle.rules.specs.Exec.{class_runs}
use Rattle.lookup.specs.Vocabulary.Found.{ClassSaid}
use Rattle.lookup.specs.Vocabulary.Programs.{Told}

-- a class that was found has few attributes
module _ (t : Table) (told : Told t) (z : ℤ) (k : ℕ) (h : ClassSaid told.model z (Some k)) where
  pub attributes_few : (row_at t (class_row k)).0 ≤ most_attributes
  unfolding ClassSaid
  attributes_few =
      omega (arith, (class_at told.text t told.model told.rows k h.1 h.2).attrs, (class_accepted told.accepted k h.1 h.2).attrs)

-- whether an object's class has run 1
abbrev pub runs_of : Model → Cells → ℕ → Bool
runs_of m c o = elim (class_of m c o) [ None ↦ false | Some k ↦ runs k ]

-- an object's class, found or not
module _ (m : Model) (c : Cells) (o : ℕ) where
  pub classless : ClassSaid m (of_object c o class) None → class_of m c o ≡ None
  unfolding ClassSaid class_of
  classless h = h

  pub of_class : (k : ℕ) (d : Class) → natural (of_object c o class) ≡ Some k → slice_get m k ≡ Some d → class_of m c o ≡ Some d
  unfolding class_of
  of_class k d e f = rw (e, f) refl

  -- the object, by its class
  pub object_classless : class_of m c o ≡ None → false ≡ object_holds m c o
  unfolding object_holds
  object_classless e = rw (e, object_holds) refl

  pub object_by_class : (d : Class) (b : Bool) → class_of m c o ≡ Some d → b ≡ zero_from most_attributes d.attrs (λ i. of_object c o (attribute i)) && running_named m c o
      → b ≡ object_holds m c o
  unfolding object_holds
  object_by_class d b e f = rw (e, object_holds) f

  -- the same by the class's row
  pub object_classed : (s : Text) (t u : Table) (k : ℕ) (r : Row) (holds : Bool) → Belongs s u m → t ≡ u → ClassSaid m (of_object c o class) (Some k)
      → r ≡ row_at t (class_row k) → holds ≡ zero_from most_attributes r.0 (λ i. of_object c o (attribute i)) && running_named m c o
      → holds ≡ object_holds m c o
  unfolding object_holds ClassSaid
  object_classed s t u k r holds b same said row told =
      let attrs = ap (λ (x : Row). x.0) row ∙ ap (λ t. (row_at t (class_row k)).0) same ∙ (class_at s u m b k said.1 said.2).attrs in
      rw (of_class k said.1 said.0 said.2, object_holds)
      (told ∙ ap (λ n. zero_from most_attributes n (λ i. of_object c o (attribute i)) && running_named m c o) attrs)

  -- and whether it runs
  pub runs_classless : class_of m c o ≡ None → false ≡ runs_of m c o
  runs_classless e = rw (e, runs_of) refl

  pub runs_classed : (k : ℕ) (d : Class) → slice_get m k ≡ Some d → class_of m c o ≡ Some d → class_runs m k ≡ runs_of m c o
  unfolding class_runs
  runs_classed k d f e = rw (f, e, class_runs, runs_of) refl

-- a bound call, by where it stands
module _ (m : Model) (c : Cells) (l : ℕ) where
  pub not_standing : standing_of m c l ≡ None → false ≡ bound_holds m c l
  unfolding bound_holds
  not_standing e = rw (e, bound_holds) refl

  pub standing : (b : Method) (i : ℕ) (s : Code) (r : Bool) → standing_of m c l ≡ Some (record { body = b; at = i; statement = s })
      → r ≡ zero_from most_locals b.locals (λ i. of_call c l (local i)) && line_holds m c l s → r ≡ bound_holds m c l
  unfolding bound_holds
  standing b i s r e f = rw (e, bound_holds) f
