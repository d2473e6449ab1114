-- "Drive. With a budget 0..10,000 of accepted steps: each time the first accepted choice": over any order of the kinds. Assumes nothing.
use Rattle.std.specs.Prelude.{ℕ, zero, suc, ◌+◌, Bool, true, false, ◌&&◌, List, [], ◌∷◌, ◌++◌, Option, None, Some}
use Rattle.whole.specs.Plain.{all_to}
use Rattle.layout.specs.Layout.{Cells}
use Rattle.model.specs.Model.{Model}
use Rattle.rules.specs.declared.Choice.{Choice}
use Rattle.rules.specs.declared.Kind.{Kind}
use Rattle.rules.specs.Kinds.{kinds, in_use, choose}
use Rattle.rules.specs.Next.{Next, refused, moved, cells_after}
use Rattle.rules.specs.Step.{next}

-- "With a budget 0..10,000"
abbrev pub most_steps : ℕ
most_steps = 10000

-- "exec 1.., arrive 1.., bind 1.., start 1.., deliver 1...": the kinds by their numbers
abbrev pub exec_first : List Kind
exec_first = kinds

-- the choices of a kind from a number on, so many
unfoldable pub choices_of : Kind → ℕ → ℕ → List Choice
choices_of k zero n = []
choices_of k (suc more) n = choose k n ∷ choices_of k more (n + 1)

-- the choices of the kinds of a list, in their order
unfoldable pub choices_in : List Kind → Cells → List Choice
choices_in [] c = []
choices_in (k ∷ ks) c = choices_of k (in_use c k) 1 ++ choices_in ks c

-- the first accepted choice of a list, with the cells that it leads to
unfoldable pub first_accepted : Model → Cells → List Choice → Option (Choice × Cells)
first_accepted m c [] = None
first_accepted m c (choice ∷ choices) = elim (next m c choice) [
  | moved ws ↦ Some (choice, cells_after c (moved ws))
  | refused n ↦ first_accepted m c choices
]

-- a choice is refused
unfoldable pub is_refused : Next → Bool
is_refused (refused n) = true
is_refused (moved ws) = false

-- "quiet: yes exactly when no choice is accepted": of no kind, and at no number in use
unfoldable pub quiet_at : Model → Cells → Kind → Bool
quiet_at m c k = all_to (in_use c k) (λ n. is_refused (next m c (choose k n)))

unfoldable pub quiet_in : Model → Cells → List Kind → Bool
quiet_in m c [] = true
quiet_in m c (k ∷ ks) = quiet_at m c k && quiet_in m c ks

unfoldable pub is_quiet : Model → Cells → Bool
is_quiet m c = quiet_in m c kinds

-- where a drive ends, and after how many steps: "It ends at the budget or when none is accepted."
pub record Driven : Type 0 where
  pub cells : Cells
  pub steps : ℕ

unfoldable pub driven : Model → List Kind → ℕ → ℕ → Cells → Driven
driven m order zero steps c = record { cells = c; steps = steps }
driven m order (suc budget) steps c = elim (first_accepted m c (choices_in order c)) [
  | None ↦ record { cells = c; steps = steps }
  | Some found ↦ driven m order budget (steps + 1) found.1
]
