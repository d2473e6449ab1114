-- Vocabulary of the code: what an entry knows of a text that it has judged and found accepted. Assumes nothing.
use Rattle.std.specs.Prelude.{ℕ, List, [], ◌≡◌}
use Rattle.terms.specs.Bytes.{Text}
use Rattle.model.specs.Judge.{refusal, model, judged}
use Rattle.model.specs.Model.{Model}
use Rattle.model.specs.Vocabulary.Belonging.{Belongs, Shaped}
use Rattle.model.specs.Vocabulary.Table.{Table, Sized}

-- the model of an accepted text; of another, none of its classes
unfoldable pub model_of : Text → Model
model_of s = elim (judged s) [ refusal v ↦ [] | model m ↦ m ]

-- what an entry knows of a text that it has judged, its table and its shapes
pub record Known (s : Text) (t : Table) (x : List ℕ) : Type 0 where
  pub accepted : judged s ≡ model (model_of s)
  pub rows : Belongs s t (model_of s)
  pub shapes : Shaped t x (model_of s)
  pub sized : Sized t x
