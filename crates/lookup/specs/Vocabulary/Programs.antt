-- Vocabulary of the code: what is kept of a text that was accepted, and a table that belongs to one. Assumes nothing.
use Rattle.std.specs.Prelude.{ℕ, List, ◌≡◌, length}
use Rattle.terms.specs.Bytes.{Text}
use Rattle.model.specs.Accepted.{AcceptedModel}
use Rattle.model.specs.Model.{Model}
use Rattle.model.specs.Vocabulary.Belonging.{Belongs}
use Rattle.model.specs.Vocabulary.Table.{Table, table_size}

-- a table that belongs to some text, which gives an accepted model
pub record Told (t : Table) : Type 0 where
  pub sized : length t ≡ table_size
  pub text : Text
  pub model : Model
  pub rows : Belongs text t model
  pub accepted : AcceptedModel model

-- a text, its table, and the shapes of its code lines
pub record Kept : Type 0 where
  pub text : Text
  pub table : Table
  pub shapes : List ℕ
