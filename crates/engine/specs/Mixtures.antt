-- A use of the engine: a start, and then any entries on the same text, one after the other, refused ones among them. Assumes nothing.
use Rattle.std.specs.Prelude.{ℕ, List, [], ◌∷◌, ℤ}
use Rattle.layout.specs.Layout.{Cells}
use Rattle.terms.specs.Bytes.{Text}
use Rattle.rules.specs.declared.Choice.{Choice}
use Rattle.rules.specs.declared.Kind.{Kind}
use Rattle.engine.specs.Entries.{step, run, drive_in}

-- an entry that is asked after a start: step with its choice, run with its choices and the answers that it is lent, drive with its order of the
-- kinds and its budget
pub data Entry : Type 0 where
  stepping : Choice → Entry
  running : List Choice → List ℤ → Entry
  driving : List Kind → ℕ → Entry

-- the cells that an entry on a text leaves, of the cells that it is lent
unfoldable pub leaves : Text → Cells → Entry → Cells
leaves s c (stepping choice) = (step s c choice).cells
leaves s c (running choices answers) = (run s c choices answers).cells
leaves s c (driving order budget) = (drive_in order s c budget).cells

-- the cells that several entries on one text leave: each is lent what the one before it left
unfoldable pub leave_all : Text → Cells → List Entry → Cells
leave_all s c [] = c
leave_all s c (e ∷ es) = leave_all s (leaves s c e) es
