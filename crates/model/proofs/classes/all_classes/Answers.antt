-- `model::classes::all_classes`: a class that is refused, one more class, and all of them.
use mathlib.Core.Path.{refl, ◌∙◌}
use native.Mathlib.Omega.{arith}
use Rattle.whole.specs.Lists.{EachFrom}
use Rattle.text.proofs.Onward.{told_got}
use Rattle.text.proofs.SoMany.{passed_none, passed_onward, passed_all}
use Rattle.model.specs.Vocabulary.Belonging.{LineTold, ClassTold}
use Rattle.model.proofs.Passing.{loop_exit}
use Rattle.model.proofs.Framing.{same_self, line_kept, class_kept}
use Rattle.model.proofs.Loops.{left_more}
use Rattle.model.proofs.classes.all_classes.Goals as goal

pub loop-k-init : goal.loop-k-init
unfolding EachFrom
loop-k-init c = passed_none c.requires.placed (record { so = refl; more = omega arith; most = omega arith; kept = same_self _ _ 0 0 0; told = (refl, tt) })

pub returns-in_err-all : goal.returns-in_err-all
returns-in_err-all c = loop_exit c.loop-k.invariant c.loop-k-test.true _ _ _ c.class.ensures c.in_err-all.was c.from_residual.ensures _

pub loop-k-preserved : goal.loop-k-preserved
loop-k-preserved c =
    let i = c.loop-k.invariant in
    let a = c.args in
    let g = told_got _ _ _ _ c.class.ensures _ _ c.in_ok-all.was in
    let l = g.3 in
    passed_onward i c.loop-k-test.true g.0 _ g.1 g.2 l.so
    (left_more (λ t x n. ClassTold t n (LineTold a.text.now a.count t x)) i.held l (omega arith) (omega arith)
    (λ k c d. class_kept l.kept _ _ l.more _ _ (line_kept l.kept a.text.now a.count _ (omega arith)) k c (omega arith) (omega arith)))

pub returns : goal.returns
returns c =
    let i = c.loop-k.invariant in
    let h = i.held in
    passed_all i c.loop-k-test.false _ _ (λ e. record { so = refl; more = h.more; most = h.most; kept = h.kept; told = (h.told.0 ∙ e, h.told.1) })
