-- `entries::driving::drive_in`: what its tests refuse.
use Rattle.whole.proofs.Tested.{passed_on}
use Rattle.entries.proofs.Drives.{drive_stopped}
use Rattle.entries.proofs.driving.drive_in.Goals as goal

pub returns-in_err-program : goal.returns-in_err-program
returns-in_err-program c =
    let g = drive_stopped _ _ c.args.order.now c.args.budget _ c.in_err-program.ensures.refused in
    rw (passed_on c.from_residual.ensures.1) record { verdict_value = g.0; steps_value = g.1.0; quiet_value = g.1.1.0; cells_after = g.1.1.1 }
