-- `model::classes::all_methods`: a method that is refused, one more method, and all of them.
use mathlib.Core.Path.{refl, ◌∙◌}
use native.Mathlib.Omega.{arith}
use Rattle.whole.specs.Lists.{EachFrom}
use Rattle.text.proofs.Onward.{told_got}
use Rattle.text.proofs.SoMany.{passed_none, passed_onward, passed_all}
use Rattle.model.specs.Vocabulary.Belonging.{LineTold, MethodTold}
use Rattle.model.proofs.Passing.{loop_exit}
use Rattle.model.proofs.Framing.{same_self, line_kept, method_kept}
use Rattle.model.proofs.Loops.{left_more}
use Rattle.model.proofs.classes.all_methods.Goals as goal

pub loop-j-init : goal.loop-j-init
unfolding EachFrom
loop-j-init c = passed_none c.requires.placed (record { so = refl; more = omega arith; most = c.requires.count_bound.1; kept = same_self _ _ 16 _ _; told = (refl, tt) })

pub returns-in_err-all : goal.returns-in_err-all
returns-in_err-all c = loop_exit c.loop-j.invariant c.loop-j-test.true _ _ _ c.method.ensures c.in_err-all.was c.from_residual.ensures _

pub loop-j-preserved : goal.loop-j-preserved
loop-j-preserved c =
    let i = c.loop-j.invariant in
    let a = c.args in
    let g = told_got _ _ _ _ c.method.ensures _ _ c.in_ok-all.was in
    let l = g.3 in
    passed_onward i c.loop-j-test.true g.0 _ g.1 g.2 l.so
    (left_more (λ t x n. MethodTold t n (LineTold a.text.now a.class.classes t x) a.class.attrs a.class.index) i.held l (omega arith) (omega arith)
    (λ j o d. method_kept l.kept _ _ l.more _ _ (line_kept l.kept a.text.now a.class.classes _ (omega arith)) _ _ j o (omega arith)))

pub returns : goal.returns
returns c =
    let i = c.loop-j.invariant in
    let h = i.held in
    passed_all i c.loop-j-test.false _ _ (λ e. record { so = refl; more = h.more; most = h.most; kept = h.kept; told = (h.told.0 ∙ e, h.told.1) })
