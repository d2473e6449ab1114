-- Vocabulary of the code: what a search for the first accepted choice found and left, and what a drive gives. Assumes nothing.
use Rattle.std.specs.Prelude.{Bool, true, false, List, ◌≡◌, Option, None, Some, Result, Ok, Err}
use Rattle.layout.specs.Layout.{Cells}
use Rattle.text.specs.declared.Verdict.{Verdict}
use Rattle.model.specs.Model.{Model}
use Rattle.rules.specs.declared.Choice.{Choice}
use Rattle.engine.specs.Drive.{first_accepted}
use Rattle.entries.specs.declared.driving.Drove.{Drove}

-- a search: one choice was accepted, and the cells are those that it leads to; or none, and they are as they were
unfoldable pub Led : Option (Choice × Cells) → Cells → Bool → Cells → Type 0
Led None c r d = (r ≡ false) × (d ≡ c)
Led (Some found) c r d = (r ≡ true) × (d ≡ found.1)

-- a search over a list of choices
abbrev pub First : Model → Cells → List Choice → Bool → Cells → Type 0
First m c choices r d = Led (first_accepted m c choices) c r d

-- a drive that was refused, or was not: "A refused drive gives 0 steps, not quiet."
abbrev pub drove_of : Result Drove Verdict → Drove
drove_of (Ok drove) = drove
drove_of (Err v) = record { verdict = v; steps = 0; quiet = false }
