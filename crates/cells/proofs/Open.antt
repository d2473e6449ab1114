-- A proof that computes with the definitions of this crate and of all below it says `unfolding cells_open`. Assumes nothing.
use Rattle.cells.specs.Configuration
use Rattle.cells.specs.Fresh
use Rattle.cells.specs.Standing
use Rattle.model.proofs.Open.{model_open}

unfoldable pub cells_open : Unit {0}
unfolding model_open Configuration.zero_from Configuration.place_in_use Configuration.zero_unless Configuration.running_named
    Configuration.object_holds Configuration.numbers_hold Configuration.named_by_callee Configuration.unbound_holds Configuration.line_holds
    Configuration.bound_holds Configuration.callerless_holds Configuration.call_holds Configuration.unused_hold Configuration.is_configuration
    Fresh.fresh Standing.class_of Standing.body_of Standing.standing_of Standing.shapes_of
cells_open = tt
