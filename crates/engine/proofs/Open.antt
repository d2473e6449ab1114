-- A proof that computes with the definitions of this crate and of all below it says `unfolding engine_open`. Assumes nothing.
use Rattle.engine.specs.Drive
use Rattle.engine.specs.Entries
use Rattle.engine.specs.Mixtures
use Rattle.engine.specs.Run
use Rattle.rules.proofs.Open.{rules_open}

unfoldable pub engine_open : Unit {0}
unfolding rules_open Drive.choices_of Drive.choices_in Drive.first_accepted Drive.is_refused Drive.quiet_at Drive.quiet_in Drive.is_quiet
    Drive.driven Entries.at_no_line Entries.outcome Entries.on_model Entries.on_configuration Entries.start Entries.step Entries.run
    Entries.drove_to Entries.drive_in Entries.drive Mixtures.leaves Mixtures.leave_all Run.run_cells Run.run_answers
engine_open = tt
