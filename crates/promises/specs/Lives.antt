-- Demand 3: each label has one life and is one call for good, its stage says where it is in that life, and a reply brings the very value that was
-- returned. Believed: this page, the history of a run, and the events of a step (rules, Events). Assumes nothing.
use Rattle.std.specs.Prelude.{ℕ, ◌≤◌, List, [], ◌∷◌, map, ◌⊎◌, ◌≡◌, pos, length, take, Some}
use Rattle.whole.specs.Whole.{nat}
use Rattle.whole.specs.Lists.{total_of}
use Rattle.layout.specs.Layout as Layout
use Rattle.layout.specs.Layout.{Cells, of_object, of_call, running_label, read, calls}
use Rattle.layout.specs.Stages.{invoked, queued, bound, running, answered, replied, taken, objects_in_use, rows_in_use, stage_of}
use Rattle.terms.specs.declared.Variable.{Variable}
use Rattle.terms.specs.Trees.{Expression}
use Rattle.terms.specs.Values.{held, value_of}
use Rattle.code.specs.Statements as Code
use Rattle.model.specs.Model.{Model}
use Rattle.rules.specs.declared.Choice.{Choice}
use Rattle.rules.specs.Events.{Event, issuing, spawning, arriving, binding, returning, delivering, taking}
use Rattle.rules.specs.Exec.{here}
use Rattle.promises.specs.Histories.{cells_at, history, about, Among, StepOf, cells_before, cells_next, happens_in, Performs}

-- the whole life of a call that an object issues
abbrev pub issued_life : ℕ → List Event
issued_life l = issuing l ∷ arriving l ∷ binding l ∷ returning l ∷ delivering l ∷ taking l ∷ []

-- the whole life of one that the start or a creation sets running
abbrev pub spawned_life : ℕ → List Event
spawned_life l = spawning l ∷ returning l ∷ []

-- a non-empty beginning of a list: each of its items at most once, and none without the one before it
abbrev pub BeginningOf : List Event → List Event → Type 0
BeginningOf word es = (n : ℕ) × (1 ≤ n) × (n ≤ length word) × (es ≡ take n word)

-- the stages after the last event of a life that began with issuing
unfoldable pub issued_stages : Event → List ℕ
issued_stages (issuing l) = invoked ∷ []
issued_stages (spawning l) = []
issued_stages (arriving l) = queued ∷ []
issued_stages (binding l) = bound ∷ running ∷ []
issued_stages (returning l) = answered ∷ []
issued_stages (delivering l) = replied ∷ []
issued_stages (taking l) = taken ∷ []

-- the same of a life that began with spawning
unfoldable pub spawned_stages : Event → List ℕ
spawned_stages (issuing l) = []
spawned_stages (spawning l) = bound ∷ running ∷ []
spawned_stages (arriving l) = []
spawned_stages (binding l) = []
spawned_stages (returning l) = taken ∷ []
spawned_stages (delivering l) = []
spawned_stages (taking l) = []

-- the last of some events, behind a first
unfoldable pub last_from : Event → List Event → Event
last_from e [] = e
last_from e (f ∷ es) = last_from f es

-- by the first event and those behind it
unfoldable pub stages_from : Event → List Event → List ℕ
stages_from (issuing l) es = issued_stages (last_from (issuing l) es)
stages_from (spawning l) es = spawned_stages (last_from (spawning l) es)
stages_from (arriving l) es = []
stages_from (binding l) es = []
stages_from (returning l) es = []
stages_from (delivering l) es = []
stages_from (taking l) es = []

-- the stages that a call can be in, by the history of its label
unfoldable pub stages_after : List Event → List ℕ
stages_after [] = []
stages_after (e ∷ es) = stages_from e es

-- a label of 1..calls
abbrev pub Issued : Cells → ℕ → Type 0
Issued c l = (1 ≤ l) × (l ≤ rows_in_use c)

module _ (m : Model) {choices : List Choice} (s : StepOf choices) where
  -- a step that issues a label, and the row of that label in some later cells: "caller this object, callee the value of E, method J", and as many
  -- arguments as the line has
  pub record OneCall (d : Cells) (l : ℕ) : Type 0 where
    pub object : ℕ
    pub label : ℕ
    pub x : Variable
    pub e : Expression
    pub j : ℕ
    pub es : List Expression
    pub performs : Performs m s object label (Code.call x e j es)
    pub caller : of_call d l Layout.caller ≡ pos object
    pub callee : value_of (here (cells_before m s) object label) e ≡ Some (of_call d l Layout.callee)
    pub method : of_call d l Layout.method ≡ pos j
    pub args : of_call d l Layout.args ≡ pos (length es)

-- a step in which an object takes the reply of a label
module _ (m : Model) {choices : List Choice} (s : StepOf choices) where
  pub record TakenBy (l : ℕ) : Type 0 where
    pub object : ℕ
    pub label : ℕ
    pub x : Variable
    pub y : Variable
    pub performs : Performs m s object label (Code.get x y)
    -- the label was issued before, by that same object
    pub issue : StepOf s.before
    pub issued : happens_in m issue (issuing l)
    pub asked : OneCall m issue (cells_before m s) l
    pub asker : asked.object ≡ object
    -- its call returned before, by a line `return E`, and Y now holds the very value that E had there
    pub return : StepOf s.before
    pub returned : happens_in m return (returning l)
    pub callee : ℕ
    pub e : Expression
    pub returns : Performs m return callee l (Code.return e)
    pub same : value_of (here (cells_before m return) callee l) e ≡ Some (held (here (cells_next m s) object label) y)

-- a caller-less call: "caller 0, method 0", and its callee
pub record CallerLess (d : Cells) (l o : ℕ) : Type 0 where
  pub caller : of_call d l Layout.caller ≡ pos 0
  pub callee : of_call d l Layout.callee ≡ pos o
  pub method : of_call d l Layout.method ≡ pos 0

-- what holds after each list of choices from a start, refused ones among them; each beginning of a list is such a list, so that this speaks of every
-- moment of a run
pub record Demand3 (m : Model) (choices : List Choice) : Type 0 where
  -- (a) one life: nothing happens to a label that is not issued, and every other has had a beginning of one of the two lives
  pub unissued : (l : ℕ) → (Issued (cells_at m choices) l → ⊥) → about l (history m choices) ≡ []
  pub life : (l : ℕ) → Issued (cells_at m choices) l
      → BeginningOf (issued_life l) (about l (history m choices)) ⊎ BeginningOf (spawned_life l) (about l (history m choices))
  -- (b) one call: a label stays the call that was issued or spawned
  pub call : (s : StepOf choices) (l : ℕ) → happens_in m s (issuing l) → OneCall m s (cells_at m choices) l
  pub spawned : (s : StepOf choices) (l : ℕ) → happens_in m s (spawning l) → CallerLess (cells_at m choices) l (objects_in_use (cells_next m s))
  pub first : CallerLess (cells_at m choices) 1 1
  -- (c) the stage is the history
  pub stage : (l : ℕ) → Issued (cells_at m choices) l → Among (stage_of (cells_at m choices) l) (map pos (stages_after (about l (history m choices))))
  -- (d) the very value
  pub reply : (s : StepOf choices) (l : ℕ) → happens_in m s (taking l) → TakenBy m s l
  -- (e) naming each other: a running label is 0 or an issued call of stage 4 with that callee, and each call of stage 4 is its callee's
  pub runs : (o : ℕ) → 1 ≤ o → o ≤ objects_in_use (cells_at m choices)
      → (of_object (cells_at m choices) o running_label ≡ pos 0)
      ⊎ ((l : ℕ) × (of_object (cells_at m choices) o running_label ≡ pos l) × Issued (cells_at m choices) l
      × (stage_of (cells_at m choices) l ≡ pos running) × (of_call (cells_at m choices) l Layout.callee ≡ pos o))
  pub named : (l : ℕ) → Issued (cells_at m choices) l → stage_of (cells_at m choices) l ≡ pos running
      → of_object (cells_at m choices) (nat (of_call (cells_at m choices) l Layout.callee)) running_label ≡ pos l

-- an event that issues a label: by a `call` line, or by a `new` of a class with run 1 and at the start
unfoldable pub issued_by : Event → ℕ
issued_by (issuing l) = 1
issued_by (spawning l) = 1
issued_by (arriving l) = 0
issued_by (binding l) = 0
issued_by (returning l) = 0
issued_by (delivering l) = 0
issued_by (taking l) = 0

-- "Calls issued equals one, plus accepted `call` lines, plus accepted `new` of classes with run 1."
abbrev pub CallsIssued : Model → List Choice → Type 0
CallsIssued m choices = read (cells_at m choices) calls ≡ pos (total_of issued_by (history m choices))
