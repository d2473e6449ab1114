-- Vocabulary of the code: what the definitions read, as the enums that the code gives. Assumes nothing.
use Rattle.std.specs.Prelude.{ℕ, Result, Ok, Err}
use Rattle.layout.specs.Layout.{Cells}
use Rattle.terms.specs.declared.Here.{Here}
use Rattle.terms.specs.Parsed.{Parsed, got, bad}
use Rattle.terms.specs.Values.{Surroundings}

-- the same of a word, of which only its end is told
unfoldable pub as_place : Parsed (Unit {0}) → Result ℕ ℕ
as_place (got at u) = Ok at
as_place (bad at) = Err at

-- what a reader of the code gives: where the reading ended and what was read, or the place of its refusal
unfoldable pub as_result : {A : Type 0} → Parsed A → Result (ℕ × A) ℕ
as_result (got at a) = Ok (at, a)
as_result (bad at) = Err at

-- what a call sees, of the cells lent and the place that the code goes by
unfoldable pub surroundings : Cells → Here → Surroundings
surroundings c h = record { cells = c; object = h.object.0; label = h.label.0 }
