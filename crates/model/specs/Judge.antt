-- The verdict on every list of bytes, and the model that an accepted text gives. Assumes nothing.
use Rattle.std.specs.Prelude.{ℕ, true, false, List, [], ◌∷◌, ltb, eqb, length, None, Some, slice_get}
use Rattle.whole.specs.Refusals.{accepted, text_too_long, broken_line, wrong_key, wrong_code}
use Rattle.terms.specs.Bytes.{Text}
use Rattle.text.specs.declared.Verdict.{Verdict}
use Rattle.text.specs.InOrder.{LinesRead, failed, after}
use Rattle.text.specs.Lines.{lines, sound, longest_text}
use Rattle.model.specs.Model.{Model}
use Rattle.model.specs.ModelText.{Creation, SoFar, read_model}

-- a text is refused with a verdict, or gives a model
pub data Judged : Type 0 where
  refusal : Verdict → Judged
  model : Model → Judged

-- the arguments that a class is to be given
unfoldable pub given_to : Model → ℕ → ℕ
given_to m k = elim (slice_get m k) [ None ↦ 0 | Some c ↦ c.given ]

-- "a wrong count of its arguments is 5 at its line, judged only in a text that passes otherwise"
unfoldable pub counts_judged : Model → List Creation → Judged
counts_judged m [] = model m
counts_judged m (c ∷ cs) = elim (eqb c.count (given_to m c.class)) [
  | true ↦ counts_judged m cs
  | false ↦ refusal (record { number = wrong_code; line = c.at })
]

-- the end of the text: "lines left over" are 3, or 2 where the first of them is broken
unfoldable pub end_judged : LinesRead (Model × SoFar) → Judged
end_judged (failed v) = refusal v
end_judged (after r at []) = counts_judged r.0 r.1.creations
end_judged (after r at (l ∷ ls)) = elim (sound l) [
  | false ↦ refusal (record { number = broken_line; line = at })
  | true ↦ refusal (record { number = wrong_key; line = at })
]

-- the whole text: "text too long (line 0)", then line by line
unfoldable pub judged : Text → Judged
judged s = elim (ltb longest_text (length s)) [
  | true ↦ refusal (record { number = text_too_long; line = 0 })
  | false ↦ end_judged (read_model 1 (lines s))
]

-- "an acceptance and every number from 10 on give line 0"
unfoldable pub verdict_of : Judged → Verdict
verdict_of (refusal v) = v
verdict_of (model m) = record { number = accepted; line = 0 }

-- judge: number and line for every text
unfoldable pub judge : Text → Verdict
judge s = verdict_of (judged s)
