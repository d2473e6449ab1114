-- `transcript::choices::line_end`: the place of the first LF is how many bytes stand before it. Assumes nothing.
use Rattle.std.proofs.Common.{rules, tests, ◌≡◌, ap, ◌+◌, ◌-◌, ◌∙◌, sym, true, false, take, drop, length}
use Rattle.std.proofs.lemmas.Iterator.{YieldsList-from_slice, IsFirst-from_position, index_from_first}
use lib.Dec.{eqb}
use Rattle.text.specs.Lines.{line_feed}
use Rattle.transcript.specs.Vocabulary.InputLines.{line_length}
use Rattle.transcript.proofs.Cutting.{length_none, length_fed, length_next}
use Rattle.transcript.proofs.Storing.{take_rest}
use Rattle.transcript.proofs.choices.line_end.Goals as goal

pub returns : goal.returns
returns c =
    let s = c.args.input.now in
    let at = c.args.at in
    let rest = take (length s - at) (drop at s) in
    let first =
    IsFirst-from_position _ _ c.position.result (λ b. eqb b line_feed ≡ true) (λ b. eqb b line_feed ≡ false) c.position.ensures.ran
    (YieldsList-from_slice rest cc) (λ x q k. search (rules, tests)) (λ x q k. search (rules, tests)) in
    let before =
    index_from_first line_length (λ b. eqb b line_feed ≡ true) (λ b. eqb b line_feed ≡ false) length_none length_fed length_next rest c.position.result first in
    ap (λ n. at + n) (c.unwrap_or.ensures ∙ sym before ∙ ap line_length (take_rest at s))
