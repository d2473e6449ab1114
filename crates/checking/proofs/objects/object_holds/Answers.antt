-- `checking::objects::object_holds`: the class that was found has a row, which tells how many attributes the object has.
use Rattle.std.proofs.Common.{◌<◌, sym, subst, ◌∙◌, arith}
use Rattle.model.specs.Vocabulary.Table.{classes_in}
use Rattle.lookup.proofs.Saying.{class_few}
use Rattle.checking.proofs.Said.{object_classed}
use Rattle.checking.proofs.Tests.{passed, stopped}
use Rattle.checking.proofs.objects.object_holds.Goals as goal

pub row-attrs-requires : goal.row-attrs-requires
row-attrs-requires c =
    let within = subst (λ t. c.in-Some.class < classes_in t) (sym c.table.view_is) c.in-Some.ensures.within in
    record { row_bound = omega (arith, class_few _ c.table.invariant _ within) }

pub returns-then-attributes_zero : goal.returns-then-attributes_zero
returns-then-attributes_zero c s m b =
    object_classed m _ _ s _ _ _ _ _ b c.table.view_is (c.in-Some.ensures.said s m b) c.row-attrs.ensures
    (passed _ _ (sym c.if-attributes_zero.ensures) (c.running_named.ensures m))

pub returns-else-attributes_zero : goal.returns-else-attributes_zero
returns-else-attributes_zero c s m b =
    c.if-attributes_zero.false
    ∙ object_classed m _ _ s _ _ _ _ _ b c.table.view_is (c.in-Some.ensures.said s m b) c.row-attrs.ensures (stopped _ _ (sym c.if-attributes_zero.ensures))
