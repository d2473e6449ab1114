-- A verdict is small, whatever the text: its number is at most 6, and from 1 on where the text is refused; its line is at most 32,769.
-- Assumes nothing.
use Prim.Native.Nat.{◌≤◌}
use mathlib.Core.Path.{◌≡◌, subst}
use native.Mathlib.Omega.{arith}
use Rattle.terms.specs.Bytes.{Text}
use Rattle.text.specs.declared.Verdict.{Verdict}
use Rattle.model.specs.Judge.{Judged, refusal, model, judged, verdict_of, judge}
use Rattle.model.proofs.AcceptedJudged.{Fair, judged_fair}

-- a text that is refused
pub refusal_number : (s : Text) (v : Verdict) → judged s ≡ refusal v → (1 ≤ v.number) × (v.number ≤ 6)
unfolding Fair
refusal_number s v e = (subst Fair e (judged_fair s)).0

-- the verdict on any text
pub judge_small : (s : Text) → ((judge s).number ≤ 6) × ((judge s).line ≤ 32769)
unfolding judge
judge_small s = go (judged s) (judged_fair s)
  where
    go : (j : Judged) → Fair j → ((verdict_of j).number ≤ 6) × ((verdict_of j).line ≤ 32769)
    go (refusal v) w = unfold verdict_of Fair in (w.0.1, w.1)
    go (model m) w = unfold verdict_of in (omega arith, omega arith)
