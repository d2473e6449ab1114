-- `lookup::binds_to`: the row of the class tells how many methods it has, and the method that the cell names is tried.
use Rattle.std.specs.Prelude.{None}
use Rattle.std.proofs.Common.{◌≡◌, ◌<◌, length, sym, ap, subst, ◌∙◌, arith, to_z-of_z}
use Rattle.whole.specs.Whole.{natural}
use Rattle.model.specs.declared.Row.{Row}
use Rattle.model.specs.Vocabulary.Belonging.{Belongs}
use Rattle.model.specs.Vocabulary.Table.{classes_in}
use Rattle.model.proofs.Lookup.{class_at}
use Rattle.model.proofs.TableRows.{item_at}
use Rattle.lookup.proofs.Saying.{class_few, method_few, bound_past, bound_is}
use Rattle.lookup.specs.Vocabulary.Found.{IndexSaid, BodySaid, bound_to, taken}
use Rattle.lookup.proofs.binds_to.Goals as goal

pub row-attrs-requires : goal.row-attrs-requires
row-attrs-requires c =
    let within = subst (λ t. c.args.class < classes_in t) (sym c.table.view_is) c.requires.class_bound in
    record { row_bound = omega (arith, class_few _ c.table.invariant _ within) }

pub takes-requires-clause-class_bound : goal.takes-requires-clause-class_bound
takes-requires-clause-class_bound c =
    class_few _ c.table.invariant _ (subst (λ t. c.args.class < classes_in t) (sym c.table.view_is) c.requires.class_bound)

pub takes-requires-clause-method_bound : goal.takes-requires-clause-method_bound
unfolding IndexSaid
takes-requires-clause-method_bound c =
    let within = subst (λ t. c.args.class < classes_in t) (sym c.table.view_is) c.requires.class_bound in
    omega (arith, method_few _ c.table.invariant _ within, ap (λ (x : Row). x.3) c.row-attrs.ensures, c.in_ok-j.ensures)

pub returns-in_err-j : goal.returns-in_err-j
unfolding BodySaid
returns-in_err-j c s m k b e =
    let at = class_at s _ m (subst (λ t. Belongs s t m) (sym c.table.view_is) b) _ k e in
    rw c.from_residual.ensures
    (subst (λ z. bound_to m c.args.class z c.args.args ≡ None) (to_z-of_z c.ranges.method)
    (bound_past m _ _ _ k e _ (ap (λ (x : Row). x.3) c.row-attrs.ensures ∙ at.methods) c.in_err-j.ensures))

pub returns : goal.returns
unfolding IndexSaid
returns c s m k b e =
    let at = class_at s _ m (subst (λ t. Belongs s t m) (sym c.table.view_is) b) _ k e in
    let said = c.in_ok-j.ensures in
    let h : c.in_ok-j.j < length k.methods = omega (arith, ap (λ (x : Row). x.3) c.row-attrs.ensures, at.methods, said.1) in
    let i = item_at k.methods _ h in
    let method_is = ap natural (sym (to_z-of_z c.ranges.method)) ∙ said.0 in
    subst (λ x. BodySaid c.args.table.now m x c.takes.result)
    (ap (taken i.0) (to_z-of_z c.ranges.args) ∙ sym (bound_is m _ _ _ k e _ method_is i.0 i.1))
    (c.takes.ensures s m k i.0 b e i.1 (ap (λ (x : Row). x.0) c.row-attrs.ensures ∙ at.attrs))
