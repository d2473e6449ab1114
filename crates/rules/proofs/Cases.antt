-- The session of document 01 through the rules alone, computed from the configuration that a start writes. Assumes nothing.
use mathlib.Core.List.{List, [], ◌∷◌, map}
use mathlib.Core.Path.{refl}
use lib.IntN.{ℤ, pos}
use Rattle.whole.proofs.Tables.{Row, ◌is◌, Holds}
use Rattle.layout.specs.Layout.{Cells, read, objects, calls, of_object, of_call, attribute, stage, value}
use Rattle.terms.specs.Bytes.{bytes}
use Rattle.model.specs.Model.{Model}
use Rattle.model.proofs.Session.{session_texts, session, session_with}
use Rattle.cells.specs.Fresh.{fresh}
use Rattle.rules.specs.declared.Choice.{Choice}
use Rattle.rules.specs.declared.Kind.TheVariants as Kind
use Rattle.rules.specs.Kinds.{choose}
use Rattle.rules.specs.Next.{answer_of, cells_after}
use Rattle.rules.specs.Step.{next}
use Rattle.rules.proofs.Open.{rules_open}
use Rattle.rules.proofs.Scene.{model_of, scenes}

-- the answers to some choices, and then what some reading of the last cells gives
follow : Model → (Cells → List ℤ) → Cells → List Choice → List ℤ
follow m shown c [] = shown c
follow m shown c (k ∷ ks) =
    let n = next m c k in
    pos (answer_of n) ∷ follow m shown (cells_after c n) ks

session_choices : List Choice
session_choices =
    choose Kind.Exec 1 ∷ choose Kind.Exec 1 ∷ choose Kind.Exec 1 ∷ choose Kind.Exec 1 ∷ choose Kind.Start 1 ∷ choose Kind.Arrive 2 ∷ choose Kind.Bind 2 ∷ choose Kind.Start 2
    ∷ choose Kind.Exec 2 ∷ choose Kind.Exec 2 ∷ choose Kind.Start 1 ∷ choose Kind.Deliver 2 ∷ choose Kind.Start 1 ∷ choose Kind.Exec 1 ∷ choose Kind.Exec 1 ∷ choose Kind.Exec 1 ∷ []

-- objects, calls, a1 of object 1, and the stages and values of both calls
shown : Cells → List ℤ
shown c =
    read c objects ∷ read c calls ∷ of_object c 1 (attribute 1)
    ∷ of_call c 1 stage ∷ of_call c 1 value ∷ of_call c 2 stage ∷ of_call c 2 value ∷ []

table : List (Row (List ℤ))
table =
    (follow (model_of session) shown fresh session_choices is
    map pos (0 ∷ 0 ∷ 0 ∷ 27 ∷ 25 ∷ 0 ∷ 0 ∷ 0 ∷ 0 ∷ 0 ∷ 25 ∷ 0 ∷ 0 ∷ 0 ∷ 0 ∷ 0 ∷ 2 ∷ 2 ∷ 7 ∷ 7 ∷ 7 ∷ 7 ∷ 7 ∷ []))
    -- `if`, `else` and `fi` are a step each: false goes past the else, and the else past the fi
    ∷ (follow
    (model_of (session_with (bytes "lines=6\ncode=if a0\ncode=set a1 5\ncode=else\ncode=set a0 1\ncode=fi\ncode=return a0\n")))
    shown fresh (choose Kind.Exec 1 ∷ choose Kind.Exec 1 ∷ choose Kind.Exec 1 ∷ choose Kind.Exec 1 ∷ choose Kind.Exec 1 ∷ []) is
    map pos (0 ∷ 0 ∷ 0 ∷ 0 ∷ 27 ∷ 1 ∷ 1 ∷ 0 ∷ 7 ∷ 1 ∷ 0 ∷ 0 ∷ []))
    -- a caller-less call: never delivered; a label not in use and a kind that is none
    ∷ (follow (model_of (session_with (bytes "lines=1\ncode=return 9\n")))
    shown fresh (choose Kind.Exec 1 ∷ choose Kind.Deliver 1 ∷ choose Kind.Start 1 ∷ choose Kind.Arrive 2 ∷ choose Kind.Exec 2 ∷ []) is
    map pos (0 ∷ 26 ∷ 23 ∷ 12 ∷ 12 ∷ 1 ∷ 1 ∷ 0 ∷ 7 ∷ 9 ∷ 0 ∷ 0 ∷ []))
    ∷ []

holds : Holds table
unfolding rules_open scenes session_texts table follow session_choices shown
holds = (refl, (refl, (refl, tt)))
