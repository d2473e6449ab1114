-- `model::judging::read`: the verdict, and what belongs to a text that is accepted, where its classes are all read.
use Rattle.std.proofs.Common.{Ok}
use Rattle.std.proofs.lemmas.Result.{IfOk-at_ok}
use mathlib.Core.Path.{◌≡◌, sym, ap, ◌∙◌}
use lib.ListN.{drop}
use Rattle.text.specs.InOrder.{after}
use Rattle.text.specs.Lines.{lines}
use Rattle.text.proofs.Onward.{told_got}
use Rattle.model.specs.Judge.{model, judged, end_judged}
use Rattle.model.specs.Model.{Model}
use Rattle.model.specs.Vocabulary.Belonging.{Belongs, Shaped}
use Rattle.model.specs.Vocabulary.Judging.{accepted_or}
use Rattle.model.specs.Vocabulary.Table.{Sized}
use Rattle.model.proofs.Passing.{kept}
use Rattle.model.proofs.Verdicts.{judged_short, all_given, told_end}
use Rattle.model.proofs.judging.read.Goals as goal
use Rattle.model.proofs.judging.read.Goals.{In_ok-total}

-- all that was read
was_read : (c : In_ok-total) → c.model.result ≡ Ok (c.in_ok-total.total, c.in_ok-total.at)
was_read c = kept _ _ _ c.map_err.ensures.cases _ c.in_ok-total.was

pub ended-requires-clause-classes_bound : goal.ended-requires-clause-classes_bound
ended-requires-clause-classes_bound c =
    let l = (told_got _ _ _ _ c.model.ensures.told _ _ (was_read (goal.at.ended-requires-clause-classes_bound c).In_ok-total)).3 in
    rw l.told.0 l.told.1

pub ended-requires-clause-total_bound : goal.ended-requires-clause-total_bound
ended-requires-clause-total_bound c = (told_got _ _ _ _ c.model.ensures.told _ _ (was_read (goal.at.ended-requires-clause-total_bound c).In_ok-total)).3.most

-- both clauses at once
both : (c : goal.After-ended) → (c.ended.result ≡ accepted_or (judged c.args.text.now))
    × ((m : Model) → judged c.args.text.now ≡ model m → Belongs c.args.text.now c.model.new.table m × Shaped c.model.new.table c.model.new.shapes m)
both c =
    let s = c.args.text.now in
    let q = c.in_ok-total.at in
    let t = c.model.new.table in
    let x = c.model.new.shapes in
    let was : c.model.result ≡ Ok (c.in_ok-total.total, q) = kept _ _ _ c.map_err.ensures.cases _ c.in_ok-total.was in
    let g = told_got _ _ _ _ c.model.ensures.told _ q was in
    let m = g.0.0 in
    let l = g.3 in
    told_end s t x _ l.most m l.told.2 _ _ _ _
    (judged_short s c.if-text-gt-LONGEST_TEXT.false ∙ ap end_judged g.1 ∙ ap (λ so. end_judged (after (m, so) q.line (lines (drop q.place s)))) l.so)
    (c.ended.ensures m (all_given s _ _ _ l.most m l.told.2) (sym l.told.0))
    l.told.0
    (IfOk-at_ok (λ _. Sized t x) was c.model.ensures.sized).1

pub returns-clause-value : goal.returns-clause-value
returns-clause-value c = (both c).0

pub returns-clause-belongs : goal.returns-clause-belongs
returns-clause-belongs c = (both c).1
