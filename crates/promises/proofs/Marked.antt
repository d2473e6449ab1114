-- The cases that document 01 marks (●): one table of what the definitions compute beside what the document says, under one statement.
-- Assumes nothing.
use Prim.Native.Nat.{ℕ}
use mathlib.Core.List.{List, [], ◌∷◌, ◌++◌, map}
use mathlib.Core.Path.{refl}
use lib.IntN.{ℤ, pos, negsuc}
use lib.ListN.{replicate, length}
use Rattle.whole.specs.Whole.{truth}
use Rattle.whole.proofs.Tables.{Row, ◌is◌, Holds}
use Rattle.layout.specs.Layout.{Cells, all_cells, of_object, of_call, attribute, local}
use Rattle.terms.specs.Bytes.{Text, bytes}
use Rattle.model.specs.Judge.{judge}
use Rattle.model.proofs.Session.{session_texts, session, session_with, storing}
use Rattle.engine.specs.Entries.{Outcome, start, run, drive}
use Rattle.session.specs.Choices.{choices_from}
use Rattle.session.specs.Runner.{runner}
use Rattle.session.proofs.Open.{session_open}

-- the choices of the session
session_choices : Text
session_choices =
    bytes "exec=1\nexec=1\nexec=1\nexec=1\nstart=1\narrive=2\nbind=2\nstart=2\nexec=2\nexec=2\nstart=1\ndeliver=2\nstart=1\n"
    ++ bytes "exec=1\nexec=1\nexec=1\n"

-- "here with 0 0 0 27 25 0 0 0 0 0 25 0 0 0 0 0, then `accepted=13`, `refused=3`, `objects=2`, `calls=2`"
session_writes : Text
session_writes =
    bytes "answer=0\nanswer=0\nanswer=0\nanswer=27\nanswer=25\nanswer=0\nanswer=0\nanswer=0\nanswer=0\nanswer=0\nanswer=25\nanswer=0\n"
    ++ bytes "answer=0\nanswer=0\nanswer=0\nanswer=0\naccepted=13\nrefused=3\nobjects=2\ncalls=2\n"

-- the session's model with its `get` a second time
twice : Text
twice =
    session_with
    (bytes "lines=6\ncode=new a0 1 3\ncode=call v0 a0 0 4\ncode=await v0?\ncode=get v0 a1\ncode=get v0 a1\ncode=return a1\n")

-- the entries, from a start on cells that hold anything: here -1
started : Text → Cells
started s = (start s (replicate all_cells (negsuc 0))).cells

ran : Text → Text → Outcome
ran s input = run s (started s) (choices_from input) (replicate (length (choices_from input)) (negsuc 0))

-- what is shown of each: the number and line of a verdict; the number, steps and quiet of a drive; the answer of a step, and v0 after it
judged_as : Text → List ℤ
judged_as s = pos (judge s).number ∷ pos (judge s).line ∷ []

driven_as : ℕ → List ℤ
driven_as budget =
    let o = drive session (started session) budget in
    pos o.verdict.number ∷ pos o.steps ∷ truth o.quiet ∷ []

stored_as : Text → List ℤ
stored_as e =
    let o = ran (storing e) (bytes "exec=1\n") in
    o.answers ++ (of_call o.cells 1 (local 0) ∷ [])

pub table : List (Row (List ℤ))
table =
    -- "this session": its bytes, and "At the end a1 of object 1 is 7."
    (map pos (runner session session_choices) is map pos session_writes)
    ∷ (of_object (ran session session_choices).cells 1 (attribute 1) ∷ [] is pos 7 ∷ [])
    -- "drive with budget 12 gives 12, not quiet"; "13 gives 13, quiet"; "0 gives 0, not quiet"
    ∷ (driven_as 12 is pos 0 ∷ pos 12 ∷ pos 0 ∷ [])
    ∷ (driven_as 13 is pos 0 ∷ pos 13 ∷ pos 1 ∷ [])
    ∷ (driven_as 0 is pos 0 ∷ pos 0 ∷ pos 0 ∷ [])
    -- "2147483647+1 is 29"; "0-2147483647-1 is -2147483648"; "46340*46340 is 2147395600", "46341*46341 is 29"
    ∷ (stored_as (bytes "2147483647+1") is pos 29 ∷ pos 0 ∷ [])
    ∷ (stored_as (bytes "0-2147483647-1") is pos 0 ∷ negsuc 2147483647 ∷ [])
    ∷ (stored_as (bytes "46340*46340") is pos 0 ∷ pos 2147395600 ∷ [])
    ∷ (stored_as (bytes "46341*46341") is pos 29 ∷ pos 0 ∷ [])
    -- "a second get on a taken label is 33"
    ∷ ((ran twice session_choices).answers is map pos (0 ∷ 0 ∷ 0 ∷ 27 ∷ 25 ∷ 0 ∷ 0 ∷ 0 ∷ 0 ∷ 0 ∷ 25 ∷ 0 ∷ 0 ∷ 0 ∷ 0 ∷ 33 ∷ []))
    -- "`1<2<3` is 5"; "empty text is 3 at line 1"
    ∷ (judged_as (storing (bytes "1<2<3")) is pos 5 ∷ pos 12 ∷ [])
    ∷ (judged_as [] is pos 3 ∷ pos 1 ∷ [])
    ∷ []

-- every row of the table computes what document 01 says
pub marked : Holds table
unfolding session_open session_texts table session_choices session_writes twice started ran judged_as driven_as stored_as
marked = (refl, (refl, (refl, (refl, (refl, (refl, (refl, (refl, (refl, (refl, (refl, (refl, tt))))))))))))
