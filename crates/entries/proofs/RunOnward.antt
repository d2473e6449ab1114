-- A run, choice by choice: what is still to be done from the cells that it has come to gives the whole, and they are a configuration. Assumes
-- nothing.
use Prim.Native.Nat.{ℕ, ◌+◌, ◌≤◌, ◌<◌}
use mathlib.Core.Bool.{true}
use mathlib.Core.List.{List, [], ◌∷◌, ◌++◌, append_assoc, append-nil}
use mathlib.Core.Path.{◌≡◌, refl, sym, ap, ap₂, ◌∙◌}
use native.Mathlib.Numerals.{add-one}
use lib.IntN.{ℤ, pos}
use lib.ListN.{length, set, take}
use lib.Seq.{take_all, take-suc-set}
use Rattle.layout.specs.Layout.{Cells}
use Rattle.model.specs.Accepted.{AcceptedModel}
use Rattle.model.specs.Model.{Model}
use Rattle.cells.specs.Configuration.{is_configuration}
use Rattle.rules.specs.declared.Choice.{Choice}
use Rattle.rules.specs.Next.{Next, refused, moved, answer_of, cells_after}
use Rattle.rules.specs.Step.{next}
use Rattle.rules.proofs.Kept.{keeps}
use Rattle.engine.specs.Run.{run_cells, run_answers}

-- a choice, refused or not, keeps a configuration
pub after_keeps : (m : Model) → AcceptedModel m → (c : Cells) → is_configuration m c ≡ true → (choice : Choice) → is_configuration m (cells_after c (next m c choice)) ≡ true
unfolding cells_after
after_keeps m accepted c h choice = go (next m c choice) refl
  where
    go : (n : Next) → next m c choice ≡ n → is_configuration m (cells_after c n) ≡ true
    go (refused i) e = h
    go (moved ws) e = keeps m accepted c h choice ws e

-- after so many choices, with those that are left: the cells, and the answers of which so many are written
pub record Ran (m : Model) (c : Cells) (choices left : List Choice) (d : Cells) (b : List ℤ) (i : ℕ) : Type 0 where
  pub configuration : is_configuration m d ≡ true
  pub cells : run_cells m d left ≡ run_cells m c choices
  pub answers : take i b ++ run_answers m d left ≡ run_answers m c choices

module _ (m : Model) (c : Cells) (choices : List Choice) where
  -- after none
  pub ran_none : is_configuration m c ≡ true → (b : List ℤ) → Ran m c choices choices c b 0
  ran_none h b = record { configuration = h; cells = refl; answers = refl }

  -- one more, performed, whose cells are a configuration
  pub ran_on : (choice : Choice) (left : List Choice) (d : Cells) (b : List ℤ) (i : ℕ) → Ran m c choices (choice ∷ left) d b i → i < length b
      → (e : Cells) (a : List ℤ) → is_configuration m e ≡ true → (e ≡ cells_after d (next m d choice)) × (a ≡ set b i (pos (answer_of (next m d choice)))) → Ran m c choices left e a (i + 1)
  unfolding run_cells run_answers
  ran_on choice left d b i r h e a kept (was, told) =
      let n = next m d choice in
      record {
        configuration = kept;
        cells = ap (λ x. run_cells m x left) was ∙ r.cells;
        answers =
            ap₂ (λ xs x. xs ++ run_answers m x left) (ap₂ take (add-one i) told ∙ take-suc-set b i (pos (answer_of n)) h) was
            ∙ append_assoc (take i b) (pos (answer_of n) ∷ []) _
            ∙ r.answers;
      }

  -- one more, performed: of an accepted model its cells are a configuration
  pub ran_more : AcceptedModel m → (choice : Choice) (left : List Choice) (d : Cells) (b : List ℤ) (i : ℕ) → Ran m c choices (choice ∷ left) d b i → i < length b
      → (e : Cells) (a : List ℤ) → (e ≡ cells_after d (next m d choice)) × (a ≡ set b i (pos (answer_of (next m d choice)))) → Ran m c choices left e a (i + 1)
  ran_more accepted choice left d b i r h e a both =
      ran_on choice left d b i r h e a (ap (is_configuration m) both.0 ∙ after_keeps m accepted d r.configuration choice) both

  -- all of them: the cells, and the answers that are written
  pub ran_ended : (d : Cells) (b : List ℤ) (i : ℕ) → Ran m c choices [] d b i → (d ≡ run_cells m c choices) × (take i b ≡ run_answers m c choices)
  unfolding run_cells run_answers
  ran_ended d b i r = (r.cells, sym (append-nil (take i b)) ∙ r.answers)

  -- with no place behind them
  pub ran_all : (d : Cells) (b : List ℤ) (i : ℕ) → Ran m c choices [] d b i → length b ≤ i → (d ≡ run_cells m c choices) × (b ≡ run_answers m c choices)
  ran_all d b i r h = let e = ran_ended d b i r in (e.0, sym (take_all i b h) ∙ e.1)
