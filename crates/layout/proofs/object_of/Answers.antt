-- `layout::object_of`: a number that is counted is one that a byte holds.
use Rattle.std.proofs.Common.{◌≡◌, ◌∙◌, sym, ap, arith, pos, true}
use mir.Syntax.{w32}
use mir.ValLaws.{to_z-of_z}
use Rattle.whole.specs.Whole.{between}
use Rattle.layout.proofs.Numbers.{counted_within}
use Rattle.layout.specs.Layout.{read, stands, cell_of, objects}
use Rattle.layout.specs.Stages.{objects_in_use}
use Rattle.layout.proofs.object_of.Goals as goal

pub overflow_cast-result : goal.overflow_cast-result
unfolding read stands cell_of objects_in_use
overflow_cast-result c =
    let e : between (pos 1) (read c.args.cells.now objects) c.args.z ≡ true = sym (c.is_counted.ensures ∙ ap (between (pos 1) _) (to_z-of_z w32 _ c.ranges.z)) ∙ c.if-is_counted.true in
    let w = counted_within _ _ 255 c.requires e in
    rw (to_z-of_z w32 _ c.ranges.z) (w.0, record { fits = omega (arith, w.1) })
