-- Vocabulary of the code: what the tests that every entry begins with make of it, and the verdict that it gives. Assumes nothing.
use Rattle.std.specs.Prelude.{List, ◌≢◌, ◌≡◌, ℤ, Result, Ok, Err}
use Rattle.whole.specs.Refusals.{accepted}
use Rattle.layout.specs.Layout.{Cells}
use Rattle.text.specs.declared.Verdict.{Verdict}
use Rattle.model.specs.Model.{Model}
use Rattle.engine.specs.Entries.{Outcome, outcome, at_no_line}

-- an entry by its tests: what it gives, by the answers that are lent and by what it does with the model once they are passed
abbrev pub Tests : Type 0
Tests = List ℤ → (Model → Outcome) → Outcome

-- one of the tests refuses: every entry gives this verdict, which is no acceptance, and leaves what was lent
pub record Refuses (tests : Tests) (c : Cells) (v : Verdict) : Type 0 where
  pub number : v.number ≢ accepted
  pub gives : (answers : List ℤ) (go : Model → Outcome) → tests answers go ≡ outcome v c answers

-- all are passed: every entry goes on with this model
pub record GoesOn (tests : Tests) (m : Model) : Type 0 where
  pub gives : (answers : List ℤ) (go : Model → Outcome) → tests answers go ≡ go m

-- the verdict of an entry that was refused, or was not
abbrev pub verdict_of : {A : Type 0} → Result A Verdict → Verdict
verdict_of (Ok a) = at_no_line accepted
verdict_of (Err v) = v
