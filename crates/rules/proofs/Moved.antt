-- What a rule that moved has passed: the tests before it, the values that it worked out, and the number that it was chosen by. Assumes nothing.
use Rattle.std.specs.Prelude.{Option, None, Some}
use Prim.Native.Nat.{ℕ, suc}
use mathlib.Core.Bool.{Bool, true, false}
use mathlib.Core.List.{List, [], ◌∷◌}
use mathlib.Core.Path.{◌≡◌, refl, ap}
use native.Mathlib.Omega.{arith}
use lib.IntN.{ℤ}
use lib.ListN.{length}
use Rattle.whole.specs.Whole.{Worked}
use Rattle.whole.specs.Refusals.{not_in_use, object_idle, past_the_end}
use Rattle.layout.specs.Layout.{Cells, Write, of_object, running_label}
use Rattle.layout.specs.Stages.{up_to, label_of}
use Rattle.model.specs.Model.{Model}
use Rattle.cells.specs.Standing.{Standing, standing_of}
use Rattle.rules.specs.declared.Choice.{Choice}
use Rattle.rules.specs.Exec.{here, worked_out, performed, exec}
use Rattle.rules.specs.declared.Kind.{Kind}
use Rattle.rules.specs.Kinds.{kind_of, in_use}
use Rattle.rules.specs.Next.{Next, refused, moved, must, working, working_all}
use Rattle.rules.specs.Step.{ruled, next}

-- a refusal is no move
pub refused_moved : {n : ℕ} {ws : List Write} → refused n ≡ moved ws → ⊥
refused_moved e = let z : ◌≡◌ {A = ℕ} 0 1 = cc in omega arith

-- a test that was passed
pub must_moved : (b : Bool) (n : ℕ) (k : Next) (ws : List Write) → must b n k ≡ moved ws → (b ≡ true) × (k ≡ moved ws)
unfolding must
must_moved true n k ws e = (refl, e)
must_moved false n k ws e = absurd (refused_moved e)

-- a value that was worked out, and several
pub working_moved : (w : Worked) (k : ℤ → Next) (ws : List Write) → working w k ≡ moved ws → (z : ℤ) × (w ≡ Some z) × (k z ≡ moved ws)
unfolding working
working_moved (Some z) k ws e = (z, refl, e)
working_moved None k ws e = absurd (refused_moved e)

pub all_moved : (vs : List Worked) (k : List ℤ → Next) (ws : List Write) → working_all vs k ≡ moved ws → (zs : List ℤ) × (length zs ≡ length vs) × (k zs ≡ moved ws)
unfolding working_all
all_moved [] k ws e = ([], refl, e)
all_moved (v ∷ vs) k ws e =
    let (z, f, g) = working_moved v (λ z. working_all vs (λ zs. k (z ∷ zs))) ws e in
    let (zs, n, h) = all_moved vs (λ zs. k (z ∷ zs)) ws g in
    (z ∷ zs, ap suc n, h)

module _ (m : Model) (c : Cells) where
  -- a choice that moved is the rule of its kind at a number in use
  pub next_moved : (choice : Choice) (ws : List Write) → next m c choice ≡ moved ws
      → (k : Kind) × (n : ℕ) × (kind_of choice.kind ≡ Some k) × (up_to (in_use c k) choice.number ≡ Some n) × (ruled m c k n ≡ moved ws)
  unfolding next
  next_moved choice ws e = kinds (kind_of choice.kind) refl e
    where
      numbers : (k : Kind) (x : Option ℕ) → up_to (in_use c k) choice.number ≡ x → (elim x [ None ↦ refused not_in_use | Some n ↦ ruled m c k n ]) ≡ moved ws
          → (n : ℕ) × (up_to (in_use c k) choice.number ≡ Some n) × (ruled m c k n ≡ moved ws)
      numbers k None f e = absurd (refused_moved e)
      numbers k (Some n) f e = (n, f, e)

      kinds : (x : Option Kind) → kind_of choice.kind ≡ x
          → (elim x [ None ↦ refused not_in_use | Some k ↦ elim (up_to (in_use c k) choice.number) [ None ↦ refused not_in_use | Some n ↦ ruled m c k n ] ]) ≡ moved ws
          → (k : Kind) × (n : ℕ) × (kind_of choice.kind ≡ Some k) × (up_to (in_use c k) choice.number ≡ Some n) × (ruled m c k n ≡ moved ws)
      kinds None f e = absurd (refused_moved e)
      kinds (Some k) f e = let (n, g, h) = numbers k (up_to (in_use c k) choice.number) refl e in (k, n, f, g, h)

  -- an exec that moved is a line performed by the object's running call
  pub exec_moved : (o : ℕ) (ws : List Write) → exec m c o ≡ moved ws
      → (l : ℕ) × (at : Standing) × (label_of c (of_object c o running_label) ≡ Some l) × (standing_of m c l ≡ Some at)
      × (performed m c o l at (worked_out (here c o l) at.statement) ≡ moved ws)
  unfolding exec
  exec_moved o ws e = labels (label_of c (of_object c o running_label)) refl e
    where
      standings : (l : ℕ) (x : Option Standing) → standing_of m c l ≡ x
          → (elim x [ None ↦ refused past_the_end | Some at ↦ performed m c o l at (worked_out (here c o l) at.statement) ]) ≡ moved ws
          → (at : Standing) × (standing_of m c l ≡ Some at) × (performed m c o l at (worked_out (here c o l) at.statement) ≡ moved ws)
      standings l None f e = absurd (refused_moved e)
      standings l (Some at) f e = (at, f, e)

      labels : (x : Option ℕ) → label_of c (of_object c o running_label) ≡ x
          → (elim x [ None ↦ refused object_idle | Some l ↦ elim (standing_of m c l) [ None ↦ refused past_the_end | Some at ↦ performed m c o l at (worked_out (here c o l) at.statement) ] ]) ≡ moved ws
          → (l : ℕ) × (at : Standing) × (label_of c (of_object c o running_label) ≡ Some l) × (standing_of m c l ≡ Some at)
          × (performed m c o l at (worked_out (here c o l) at.statement) ≡ moved ws)
      labels None f e = absurd (refused_moved e)
      labels (Some l) f e = let (at, g, h) = standings l (standing_of m c l) refl e in (l, at, f, g, h)
