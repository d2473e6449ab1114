-- Demand 3 holds after every list of choices, and behind every mixture of entries, for every accepted model. Assumes nothing.
use mathlib.Core.Bool.{true}
use mathlib.Core.List.{List}
use mathlib.Core.Path.{◌≡◌, refl, sym, subst}
use lib.ListN.{length}
use Rattle.layout.specs.Layout.{Cells, all_cells}
use Rattle.terms.specs.Bytes.{Text}
use Rattle.model.specs.Accepted.{AcceptedModel}
use Rattle.model.specs.Judge.{model, judged}
use Rattle.model.specs.Model.{Model}
use Rattle.model.proofs.AcceptedJudged.{model_accepted}
use Rattle.cells.specs.Configuration.{is_configuration}
use Rattle.cells.proofs.Freshly.{fresh_is}
use Rattle.rules.specs.declared.Choice.{Choice}
use Rattle.rules.specs.Next.{Next, refused, moved, cells_after}
use Rattle.rules.specs.Step.{next}
use Rattle.rules.proofs.Kept.{keeps}
use Rattle.engine.specs.Entries.{start}
use Rattle.engine.specs.Mixtures.{Entry, leave_all}
use Rattle.promises.specs.Histories.{cells_at}
use Rattle.promises.specs.Lives.{Demand3}
use Rattle.promises.proofs.Demanded.{demanded, demanded_entries}

module _ {m : Model} (accepted : AcceptedModel m) where
  -- a choice keeps a configuration, refused or not
  choice_keeps : (c : Cells) (choice : Choice) → is_configuration m c ≡ true → is_configuration m (cells_after c (next m c choice)) ≡ true
  unfolding cells_after
  choice_keeps c choice is = go (next m c choice) refl
    where
      go : (n : Next) → next m c choice ≡ n → is_configuration m (cells_after c (next m c choice)) ≡ true
      go (refused i) e = subst (λ n. is_configuration m (cells_after c n) ≡ true) (sym e) is
      go (moved ws) e = subst (λ n. is_configuration m (cells_after c n) ≡ true) (sym e) (keeps m accepted c is choice ws e)

  -- demand 3: after every list of choices from a start
  pub demand_3 : (choices : List Choice) → Demand3 m choices
  demand_3 choices = demanded m accepted (fresh_is m accepted) choice_keeps choices

-- and so in every use of the engine: behind a start on cells of the right number, and then any mixture of entries on the same text, the cells are
-- those of some list of choices, of which demand 3 holds
pub demand_3_entries : (text : Text) {m : Model} → judged text ≡ model m → (lent : Cells) → length lent ≡ all_cells → (entries : List Entry)
    → (choices : List Choice) × (leave_all text (start text lent).cells entries ≡ cells_at m choices) × Demand3 m choices
demand_3_entries text {m} is lent long entries =
    let accepted = model_accepted text m is in
    demanded_entries m accepted (fresh_is m accepted) (choice_keeps accepted) text is lent long entries
