-- `lookup::body_of`: the callee's cell names the object that was found, and its class the body.
use Rattle.std.specs.Prelude.{Some}
use Rattle.std.proofs.Common.{sym, ap, subst, ◌∙◌}
use Rattle.whole.proofs.Ranges.{handed}
use Rattle.layout.specs.Layout.{of_object, class}
use Rattle.layout.specs.Stages.{object_of}
use Rattle.layout.specs.Vocabulary.Found.{as_object}
use Rattle.lookup.specs.Vocabulary.Found.{ClassSaid, BodySaid}
use Rattle.lookup.proofs.Saying.{object_is, body_bound}
use Rattle.lookup.proofs.body_of.Goals as goal

pub returns : goal.returns
unfolding ClassSaid
returns c s m b =
    let j = c.of_call-2 in
    let n = c.of_call-3 in
    let found = ap (λ z. as_object (object_of c.args.cells.now z)) (sym (handed _ _ c.of_call.type_inv c.of_call.ensures)) ∙ sym c.object_of.ensures in
    let callee_is = object_is _ _ c.requires.callee_in_use c.in_ok-callee.callee (found ∙ c.in_ok-callee.was) in
    let h : ClassSaid m (of_object c.args.cells.now c.in_ok-callee.callee.0 class) (Some c.in_ok-class.class) = c.in_ok-class.ensures.said s m b in
    subst (λ x. BodySaid c.args.table.now m x c.binds_to.result)
    (body_bound m _ _ _ callee_is c.in_ok-class.class h.0 _ _ (handed _ _ j.type_inv j.ensures) (handed _ _ n.type_inv n.ensures))
    (c.binds_to.ensures s m h.1 b h.2)
