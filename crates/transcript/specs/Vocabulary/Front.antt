-- Vocabulary of the code: what was put in memory that a caller lent. Assumes nothing.
use Rattle.std.specs.Prelude.{◌+◌, List, ◌++◌, ◌≡◌, length, drop}
use Rattle.std.proofs.lemmas.List.Edits.{sets}
use Rattle.terms.specs.Bytes.{Text}
use Rattle.transcript.specs.declared.shown.Front.{Front}

-- some items at the front; behind them everything is as it was
unfoldable pub at_front : {A : Type 0} → List A → List A → List A
at_front items old = items ++ drop (length items) old

-- bytes put behind those that stand there, in the same memory
pub record Adds (text : Text) (old new : Front) : Type 0 where
  pub same_reference : new.out.ghost_name ≡ old.out.ghost_name
  pub room : length new.out.now ≡ length old.out.now
  pub put : new.out.now ≡ sets old.out.now old.at text
  pub behind : new.at ≡ old.at + length text
