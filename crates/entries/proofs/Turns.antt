-- What the loop of `run_choices` has come to, turn by turn, and what one turn more and the last make of it. Assumes nothing.
use Prim.Native.Nat.{ℕ, ◌+◌, ◌≤◌, ◌<◌}
use native.Mathlib.Numerals.{add-one}
use mathlib.Core.Bool.{true}
use mathlib.Core.List.{List}
use mathlib.Core.Path.{◌≡◌, refl, sym, ap, subst, ◌∙◌}
use lib.IntN.{ℤ, pos}
use lib.ListN.{length, get_or, set, drop, drop_of_length-le}
use lib.Seq.{drop-cons}
use Rattle.layout.specs.Layout.{Cells}
use Rattle.model.specs.Accepted.{AcceptedModel}
use Rattle.model.specs.Model.{Model}
use Rattle.cells.specs.Configuration.{is_configuration}
use Rattle.cells.proofs.Configured.{configured}
use Rattle.rules.specs.declared.Choice.{Choice}
use Rattle.rules.specs.Next.{answer_of, cells_after}
use Rattle.rules.specs.Step.{next}
use Rattle.engine.specs.Run.{run_cells, run_answers}
use Rattle.entries.proofs.RunOnward.{Ran, after_keeps, ran_none, ran_on, ran_all}

-- after so many choices, the cells and the answers: as many cells as at first, and as many answers as choices
pub record Reached (m : Model) (c : Cells) (choices : List Choice) (d : Cells) (b : List ℤ) (i : ℕ) : Type 0 where
  pub same : length d ≡ length c
  pub both : length b ≡ length choices
  pub ran : Ran m c choices (drop i choices) d b i

-- what a place past the end reads as
abbrev pub none : Choice
none = record { kind = pos 0; number = pos 0 }

module _ (m : Model) (c : Cells) (choices : List Choice) where
  -- before the first turn
  pub at_first : is_configuration m c ≡ true → (b : List ℤ) → length b ≡ length choices → Reached m c choices c b 0
  at_first h b both = record { same = refl; both = both; ran = ran_none m c choices h b }

  module _ (d : Cells) (b : List ℤ) (i : ℕ) (s : Reached m c choices d b i) where
    -- the choice of the turn
    abbrev pub chosen : Choice
    chosen = get_or choices i none

    -- what `perform` ensures of the cells that it leaves, and of the answers
    abbrev pub Moved : Cells → Type 0
    Moved e = e ≡ cells_after d (next m d chosen)

    abbrev pub Answered : List ℤ → Type 0
    Answered a = a ≡ set b i (pos (answer_of (next m d chosen)))

    -- the choices that are left
    abbrev Left : List Choice → Type 0
    Left left = Ran m c choices left d b i

    -- one turn more, after which the cells are a configuration
    pub turned : i < length choices → (e : Cells) (a : List ℤ) → is_configuration m e ≡ true → length a ≡ length b → Moved e → Answered a
        → Reached m c choices e a (i + 1)
    turned less e a kept g moved answered = record {
      same = (configured m e kept).length ∙ sym (configured m d s.ran.configuration).length ∙ s.same;
      both = g ∙ s.both;
      ran = subst (λ k. Ran m c choices (drop k choices) e a (i + 1)) (sym (add-one i))
          (ran_on m c choices chosen _ _ _ _ (subst Left (drop-cons choices i none less) s.ran) (subst (i <◌) (sym s.both) less) e a kept (moved, answered));
    }

    -- one turn more: of an accepted model its cells are a configuration
    pub onward : AcceptedModel m → i < length choices → (e : Cells) (a : List ℤ) → length e ≡ length d → length a ≡ length b → Moved e → Answered a
        → Reached m c choices e a (i + 1)
    onward accepted less e a f g moved answered =
        turned less e a (ap (is_configuration m) moved ∙ after_keeps m accepted d s.ran.configuration chosen) g moved answered

    -- when no choice is left, all are performed
    pub finished : length choices ≤ i → (d ≡ run_cells m c choices) × (b ≡ run_answers m c choices)
    finished over = ran_all m c choices _ _ _ (subst Left (drop_of_length-le choices over) s.ran) (subst (◌≤ i) (sym s.both) over)
