-- `performing::statements::performed`: each arm does what the definition has at the statement that the code's was made from.
use Rattle.std.proofs.Common.{ℕ, List, ◌≡◌, refl, sym, ap₂, ◌∙◌}
use Rattle.code.specs.Partners.{goes_to}
use Rattle.cells.specs.Standing as Stands
use Rattle.cells.specs.Standing.{shapes_of}
use Rattle.lookup.specs.declared.Standing.{Standing}
use Rattle.lookup.specs.Vocabulary.Found.{shapes_at}
use Rattle.performing.specs.Vocabulary.Parts.{SameLine}
use Rattle.performing.proofs.Spoken.{does, did, did_either}
use Rattle.performing.proofs.statements.performed.Goals as goal

-- the line that was found is the one that the definition has
to_same : (x : List ℕ) (at : Standing) (st : Stands.Standing) (r : ℕ) → SameLine x at st → r ≡ goes_to (shapes_at x at.body) at.line
    → goes_to (shapes_of st.body) st.at ≡ r
to_same x at st r h e = ap₂ goes_to h.1 h.0 ∙ sym e

pub returns-in-Skip : goal.returns-in-Skip
unfolding does
returns-in-Skip c s m st w b at e f = did_either m _ _ _ st _ _ _ _ w _ _ c.in-Skip.is (λ ws. refl) e f (λ ws g. c.onward.ensures m st at.0)

pub returns-in-Set : goal.returns-in-Set
unfolding does
returns-in-Set c s m st w b at e f = did m _ _ _ st _ _ _ w _ _ c.in-Set.is e f (λ ws g. c.set_to.ensures m st at.0)

pub returns-in-New : goal.returns-in-New
unfolding does
returns-in-New c s m st w b at e f = did m _ _ _ st _ _ _ w _ _ c.in-New.is e f (λ ws g. c.creating.ensures m st ws at.0 (sym (c.class_runs-runs.ensures s m b)) g)

pub returns-in-Call : goal.returns-in-Call
unfolding does
returns-in-Call c s m st w b at e f = did m _ _ _ st _ _ _ w _ _ c.in-Call.is e f (λ ws g. c.calling.ensures m st ws at.0 g)

pub returns-in-Get : goal.returns-in-Get
unfolding does
returns-in-Get c s m st w b at e f = did m _ _ _ st _ _ _ w _ _ c.in-Get.is e f (λ ws g. c.took_reply.ensures m st at.0)

pub returns-in-Await : goal.returns-in-Await
unfolding does
returns-in-Await c s m st w b at e f = did m _ _ _ st _ _ _ w _ _ c.in-Await.is e f (λ ws g. c.awaited.ensures m st at.0)

pub returns-in-If : goal.returns-in-If
unfolding does
returns-in-If c s m st w b at e f =
    did_either m _ _ _ st _ _ _ _ w _ _ c.in-If.is (λ ws. refl) e f (λ ws g. c.branched.ensures m st at.0 (to_same _ _ st _ at c.goes_to-in-If.ensures))

pub returns-in-Else : goal.returns-in-Else
unfolding does
returns-in-Else c s m st w b at e f =
    did_either m _ _ _ st _ _ _ _ w _ _ c.in-Else.is (λ ws. refl) e f (λ ws g. c.jumped.ensures m st (to_same _ _ st _ at c.goes_to.ensures))

pub returns-in-Return : goal.returns-in-Return
unfolding does
returns-in-Return c s m st w b at e f = did m _ _ _ st _ _ _ w _ _ c.in-Return.is e f (λ ws g. c.returned.ensures m st)
