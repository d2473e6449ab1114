-- A proof that computes with the definitions of this crate and of all below it says `unfolding promises_open`. Assumes nothing.
use Rattle.promises.specs.Histories
use Rattle.promises.specs.Lives
use Rattle.engine.proofs.Open.{engine_open}

unfoldable pub promises_open : Unit {0}
unfolding engine_open Histories.happenings Histories.history Histories.subject Histories.about Lives.issued_stages Lives.spawned_stages
    Lives.last_from Lives.stages_from Lives.stages_after Lives.issued_by
promises_open = tt
