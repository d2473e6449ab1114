-- Demand 3 is not empty: in the session of document 01 call 2 lives its whole life, and call 1 suspends and resumes in the middle of its own,
-- computed. Assumes nothing.
use Prim.Native.Nat.{ℕ}
use mathlib.Core.List.{List, [], ◌∷◌, map}
use mathlib.Core.Path.{◌≡◌, refl}
use lib.IntN.{ℤ, pos}
use lib.ListN.{take}
use Rattle.layout.specs.Layout.{of_object, of_call, attribute, value}
use Rattle.layout.specs.Stages.{stage_of}
use Rattle.model.specs.Model.{Model}
use Rattle.model.proofs.Session.{session_texts, session}
use Rattle.rules.specs.declared.Choice.{Choice}
use Rattle.rules.specs.declared.Kind.TheVariants as Kind
use Rattle.rules.specs.Kinds.{choose}
use Rattle.rules.proofs.Scene.{model_of, scenes}
use Rattle.promises.specs.Histories.{cells_at, history, about}
use Rattle.promises.specs.Lives.{issued_life, spawned_life}
use Rattle.promises.proofs.Open.{promises_open}

-- the session's model
unfoldable pub session_model : Model
unfolding scenes session_texts
session_model = model_of session

-- and its choices, of which three are refused
unfoldable pub session_steps : List Choice
session_steps =
    choose Kind.Exec 1 ∷ choose Kind.Exec 1 ∷ choose Kind.Exec 1 ∷ choose Kind.Exec 1 ∷ choose Kind.Start 1 ∷ choose Kind.Arrive 2 ∷ choose Kind.Bind 2 ∷ choose Kind.Start 2
    ∷ choose Kind.Exec 2 ∷ choose Kind.Exec 2 ∷ choose Kind.Start 1 ∷ choose Kind.Deliver 2 ∷ choose Kind.Start 1 ∷ choose Kind.Exec 1 ∷ choose Kind.Exec 1 ∷ choose Kind.Exec 1 ∷ []

-- the stage of call 1 after so many of the choices
abbrev pub call_1 : ℕ → ℤ
call_1 n = stage_of (cells_at session_model (take n session_steps)) 1

-- call 2 is issued, arrives, is bound, returns, is delivered and taken
pub whole_life : about 2 (history session_model session_steps) ≡ issued_life 2
unfolding promises_open session_model session_steps
whole_life = refl

-- its value is 7, and so is a1 of object 1
pub its_value : of_call (cells_at session_model session_steps) 2 value ∷ of_object (cells_at session_model session_steps) 1 (attribute 1) ∷ [] ≡ pos 7 ∷ pos 7 ∷ []
unfolding promises_open session_model session_steps
its_value = refl

-- call 1 is spawned and returns
pub first_life : about 1 (history session_model session_steps) ≡ spawned_life 1
unfolding promises_open session_model session_steps
first_life = refl

-- the stages of call 1: 4, then 3, then 4, and 7 at the end
pub suspended_between : map call_1 (2 ∷ 3 ∷ 13 ∷ 16 ∷ []) ≡ pos 4 ∷ pos 3 ∷ pos 4 ∷ pos 7 ∷ []
unfolding promises_open session_model session_steps
suspended_between = refl
