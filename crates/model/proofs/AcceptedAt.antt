-- An accepted model at one of its classes, methods and lines; and that each line goes on inside its method. Assumes nothing.
use Rattle.std.specs.Prelude.{Some, slice_get}
use Prim.Native.Nat.{ℕ, zero, suc, ◌+◌, ◌<◌}
use mathlib.Core.List.{List, [], ◌∷◌, map}
use mathlib.Core.Path.{◌≡◌, refl, sym, subst}
use native.Mathlib.Nat.{zero-add}
use native.Mathlib.Omega.{arith}
use lib.ListN.{length, get_or, length-map}
use Rattle.whole.specs.Lists.{Every}
use Rattle.code.specs.declared.Shape.TheVariants as Shape
use Rattle.code.specs.Blocks.{shape_of}
use Rattle.code.specs.Partners.{goes_to}
use Rattle.code.specs.Statements.{Code}
use Rattle.code.specs.Within.{CodeWithin}
use Rattle.code.proofs.Jumps.{line_after, goes_inside}
use Rattle.model.specs.Accepted.{AcceptedMethod, AcceptedClass, AcceptedNew, AcceptedModel}
use Rattle.model.specs.Model.{Method, Class, Model}
use Rattle.model.proofs.TableRows.{item_at, each_at}

-- an item by its place
every_at : {A : Type 0} (P : A → Type 0) (xs : List A) (i : ℕ) (x : A) → Every P xs → slice_get xs i ≡ Some x → P x
unfolding Every
every_at P [] i x h e = absurd (let z : ◌≡◌ {A = ℕ} 0 1 = cc in omega arith)
every_at P (y ∷ xs) zero x h e = let f : y ≡ x = cc in subst P f h.0
every_at P (y ∷ xs) (suc i) x h e = every_at P xs i x h.1 e

-- an accepted model at one of its classes
module _ {m : Model} (a : AcceptedModel m) (k : ℕ) (c : Class) (e : slice_get m k ≡ Some c) where
  -- a class by its index
  pub class_accepted : AcceptedClass (length m) k c
  class_accepted = each_at _ 0 m k c a.classes e (zero-add k)

  module _ (j : ℕ) (b : Method) (f : slice_get c.methods j ≡ Some b) where
    -- a method by its index
    pub method_accepted : AcceptedMethod (length m) c.attrs c.run j b
    method_accepted = each_at _ 0 c.methods j b class_accepted.methods f (zero-add j)

    -- a line by its index
    module _ (i : ℕ) (l : Code) (g : slice_get b.code i ≡ Some l) where
      -- what it is like by itself
      pub line_accepted : CodeWithin (record { attrs = c.attrs; locals = b.locals }) (length m) l
      line_accepted = every_at _ b.code i l method_accepted.code g

      -- if it is a `new`, it has the arguments that its class is given
      pub new_accepted : AcceptedNew m l
      new_accepted = every_at _ b.code i l (every_at _ c.methods j b (every_at _ m k c a.news e) f) g

    -- where a line goes
    module _ (i : ℕ) (inside : i < length b.code) where
      -- a line is one of the shapes
      within : i < length (map shape_of b.code)
      within = subst (λ n. i < n) (sym (length-map b.code shape_of)) inside

      -- what a line goes to is a line of its method
      pub jump_inside : goes_to (map shape_of b.code) i < length b.code
      jump_inside =
          let s = method_accepted.blocks in
          subst (λ n. goes_to (map shape_of b.code) i < n) (length-map b.code shape_of) (goes_inside (map shape_of b.code) s.ends s.close i within)

      -- a line that is no `return` has a line after it
      pub onward_inside : (get_or (map shape_of b.code) i Shape.Plain ≡ Shape.Return → ⊥) → i + 1 < length b.code
      onward_inside n =
          subst (λ n. i + 1 < n) (length-map b.code shape_of) (line_after (map shape_of b.code) method_accepted.blocks.ends i within n)

  -- a class with run 1 has a method 0, which takes no parameters
  pub running : c.run ≡ 1 → (b : Method) × (slice_get c.methods 0 ≡ Some b) × (b.params ≡ 0)
  running u =
      let s = class_accepted in
      let b = item_at c.methods 0 (omega arith) in
      (b.0, b.1, (method_accepted 0 b.0 b.1).first u refl)

-- there is a class 0, which is given nothing and runs
pub starting : {m : Model} → AcceptedModel m → (c : Class) × (slice_get m 0 ≡ Some c) × (c.given ≡ 0) × (c.run ≡ 1)
starting {m} a =
    let c = item_at m 0 a.count.0 in
    let f = (class_accepted a 0 c.0 c.1).first refl in
    (c.0, c.1, f.0, f.1)
