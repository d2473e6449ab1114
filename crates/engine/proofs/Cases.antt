-- The order of the entries' tests, computed: "Every entry judges the text first, then 10, then (start excepted) 11, then 13 or 14, then the
-- choice". Every row is a whole outcome, so that a refusal's cells and answers are seen to be the ones that were lent. Assumes nothing.
use Prim.Native.Nat.{ℕ, ◌+◌, ◌-◌}
use mathlib.Core.Bool.{true, false}
use mathlib.Core.List.{List, [], ◌∷◌, ◌++◌}
use mathlib.Core.Path.{refl}
use lib.IntN.{ℤ, pos, negsuc}
use lib.ListN.{replicate}
use Rattle.whole.proofs.Tables.{Row, ◌is◌, Holds}
use Rattle.layout.specs.Layout.{Cells, all_cells, object, call, written, to_object, running_label, stage, value}
use Rattle.layout.specs.Stages.{taken}
use Rattle.terms.specs.Bytes.{Text, bytes}
use Rattle.model.proofs.Session.{session_texts, session_with}
use Rattle.cells.specs.Fresh.{fresh}
use Rattle.rules.specs.declared.Choice.{Choice}
use Rattle.rules.specs.declared.Kind.TheVariants as Kind
use Rattle.rules.specs.Kinds.{choose}
use Rattle.engine.specs.Drive.{most_steps}
use Rattle.engine.specs.Entries.{Outcome, start, step, run, drive}
use Rattle.engine.proofs.Open.{engine_open}

-- a model that returns 9 at once, and a text that is refused with 3 at its line 24
good_text : Text
good_text = session_with (bytes "lines=1\ncode=return 9\n")

bad_text : Text
bad_text = good_text ++ bytes "\n"

-- cells that are too few, cells that are too many, and cells that are no configuration: the running call is not its callee's
short : Cells
short = replicate (all_cells - 1) (negsuc 0)

long : Cells
long = fresh ++ (pos 0 ∷ [])

broken : Cells
broken = written fresh (to_object 1 running_label (pos 0))

-- the cells after the return
returned : Cells
returned = written fresh ((call 1 value, pos 9) ∷ (call 1 stage, pos taken) ∷ (object 1 running_label, pos 0) ∷ [])

-- a choice that is refused with 12, one that is accepted, and one that is refused with 26
choices : List Choice
choices = choose Kind.Exec 2 ∷ choose Kind.Exec 1 ∷ choose Kind.Deliver 1 ∷ []

-- answers as many as the choices, and one fewer
three : List ℤ
three = negsuc 0 ∷ negsuc 1 ∷ negsuc 2 ∷ []

two : List ℤ
two = negsuc 0 ∷ negsuc 1 ∷ []

-- a verdict, and what an entry leaves that has no steps to tell; and a drive that came to its end
leaving : ℕ → ℕ → Cells → List ℤ → Outcome
leaving n at c answers = record {
  verdict = record { number = n; line = at };
  cells = c;
  answers = answers;
  steps = 0;
  quiet = false;
}

drove : ℕ → Cells → Outcome
drove n c = record { verdict = record { number = 0; line = 0 }; cells = c; answers = []; steps = n; quiet = true }

first_table : List (Row Outcome)
first_table =
    -- "Every entry judges the text first": whatever else is wrong
    (start bad_text short is leaving 3 24 short [])
    ∷ (step bad_text short (choose Kind.Exec 2) is leaving 3 24 short [])
    ∷ (run bad_text short choices two is leaving 3 24 short two)
    ∷ (drive bad_text short (most_steps + 1) is leaving 3 24 short [])
    ∷ (run bad_text broken choices two is leaving 3 24 broken two)
    -- "then 10"
    ∷ (start good_text short is leaving 10 0 short [])
    ∷ (start good_text long is leaving 10 0 long [])
    ∷ (step good_text long (choose Kind.Exec 2) is leaving 10 0 long [])
    ∷ (run good_text short choices two is leaving 10 0 short two)
    ∷ (drive good_text short (most_steps + 1) is leaving 10 0 short [])
    ∷ []

first : Holds first_table
unfolding engine_open session_texts good_text bad_text short long broken choices three two leaving drove first_table
first = (refl, (refl, (refl, (refl, (refl, (refl, (refl, (refl, (refl, (refl, tt))))))))))

then_table : List (Row Outcome)
then_table =
    -- "then (start excepted) 11"
    (start good_text broken is leaving 0 0 fresh [])
    ∷ (step good_text broken (choose Kind.Exec 2) is leaving 11 0 broken [])
    ∷ (run good_text broken choices two is leaving 11 0 broken two)
    ∷ (run good_text broken choices three is leaving 11 0 broken three)
    ∷ (drive good_text broken (most_steps + 1) is leaving 11 0 broken [])
    -- "then 13 or 14", at the limit and past it
    ∷ (run good_text fresh choices two is leaving 13 0 fresh two)
    ∷ (run good_text fresh [] two is leaving 13 0 fresh two)
    ∷ (drive good_text fresh 10001 is leaving 14 0 fresh [])
    ∷ (drive good_text fresh 10000 is drove 1 returned)
    -- quiet is worked out at the end always: after no step, on cells where nothing is accepted
    ∷ (drive good_text returned 0 is drove 0 returned)
    ∷ (drive good_text fresh 1 is drove 1 returned)
    -- "then the choice"
    ∷ (step good_text fresh (choose Kind.Exec 2) is leaving 12 0 fresh [])
    ∷ (step good_text fresh (choose Kind.Arrive 1) is leaving 20 0 fresh [])
    ∷ (step good_text fresh (choose Kind.Exec 1) is leaving 0 0 returned [])
    -- "12 and 20 to 33 inside a run fill only their own place in the answers"
    ∷ (run good_text fresh choices three is leaving 0 0 returned (pos 12 ∷ pos 0 ∷ pos 26 ∷ []))
    ∷ []

then : Holds then_table
unfolding engine_open session_texts good_text bad_text short long broken returned choices three two leaving drove then_table
then = (refl, (refl, (refl, (refl, (refl, (refl, (refl, (refl, (refl, (refl, (refl, (refl, (refl, (refl, (refl, tt)))))))))))))))
