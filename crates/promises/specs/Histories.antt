-- The history of a run: what has happened to the calls since the start, read off choices, lines and cells, and never off a stage. Assumes
-- nothing.
use Rattle.std.specs.Prelude.{ℕ, true, false, List, [], ◌∷◌, ◌++◌, ◌⊎◌, ◌≡◌, eqb, pos, Some}
use Rattle.layout.specs.Layout.{Cells, of_object, running_label}
use Rattle.code.specs.Statements.{Code}
use Rattle.model.specs.Model.{Model}
use Rattle.cells.specs.Fresh.{fresh}
use Rattle.cells.specs.Standing.{Standing, standing_of}
use Rattle.rules.specs.declared.Choice.{Choice}
use Rattle.rules.specs.Events.{Event, issuing, spawning, arriving, binding, returning, delivering, taking, events_of, first_events}
use Rattle.rules.specs.declared.Kind.TheVariants as Kind
use Rattle.rules.specs.Kinds.{choose}
use Rattle.rules.specs.Next.{cells_after}
use Rattle.rules.specs.Step.{next}
use Rattle.engine.specs.Run.{run_cells}

-- the cells after some choices from a start; a refused choice leaves them as they are
abbrev pub cells_at : Model → List Choice → Cells
cells_at m choices = run_cells m fresh choices

-- what happens to calls by some choices, one after the other, from some cells on
unfoldable pub happenings : Model → Cells → List Choice → List Event
happenings m c [] = []
happenings m c (choice ∷ choices) = events_of m c choice ++ happenings m (cells_after c (next m c choice)) choices

-- the whole history of some choices from a start: the start itself sets call 1 running
unfoldable pub history : Model → List Choice → List Event
history m choices = first_events ++ happenings m fresh choices

-- the label that an event is about
unfoldable pub subject : Event → ℕ
subject (issuing l) = l
subject (spawning l) = l
subject (arriving l) = l
subject (binding l) = l
subject (returning l) = l
subject (delivering l) = l
subject (taking l) = l

-- the events about a label, in their order
unfoldable pub about : ℕ → List Event → List Event
about l [] = []
about l (e ∷ es) = elim (eqb (subject e) l) [ true ↦ e ∷ about l es | false ↦ about l es ]

-- one of the items of a list
abbrev pub Among : {A : Type 0} → A → List A → Type 0
Among a [] = ⊥
Among a (x ∷ xs) = (a ≡ x) ⊎ Among a xs

-- a step of some choices: those before it, its own, and those after it
pub record StepOf (choices : List Choice) : Type 0 where
  pub before : List Choice
  pub choice : Choice
  pub after : List Choice
  pub whole : choices ≡ before ++ choice ∷ after

module _ (m : Model) {choices : List Choice} (s : StepOf choices) where
  -- the cells before it
  abbrev pub cells_before : Cells
  cells_before = cells_at m s.before

  -- the cells after it
  abbrev pub cells_next : Cells
  cells_next = cells_after cells_before (next m cells_before s.choice)

  -- an event happens in it
  abbrev pub happens_in : Event → Type 0
  happens_in e = Among e (events_of m cells_before s.choice)

  -- in it an object performs a line in its running call
  pub record Performs (o l : ℕ) (line : Code) : Type 0 where
    pub chosen : s.choice ≡ choose Kind.Exec o
    pub runs : of_object cells_before o running_label ≡ pos l
    pub at : Standing
    pub stands : standing_of m cells_before l ≡ Some at
    pub reads : at.statement ≡ line
