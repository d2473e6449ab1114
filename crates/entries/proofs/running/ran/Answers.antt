-- `entries::running::ran`: what its tests refuse, and what is performed.
use native.Mathlib.Omega.{arith}
use Rattle.whole.proofs.Tested.{passed_on}
use Rattle.entries.proofs.RunOutcomes.{run_stopped, run_done}
use Rattle.entries.proofs.running.ran.Goals as goal

pub returns-in_err-program : goal.returns-in_err-program
returns-in_err-program c =
    let g = run_stopped _ _ c.args.choices.now c.args.answers.now _ c.in_err-program.ensures.refused in
    rw (passed_on c.from_residual.ensures.1) record { value = g.0; cells_after = g.1.0; answers_after = g.1.1 }

pub returns : goal.returns
returns c =
    let done = c.run_choices.ensures in
    let g = run_done _ _ _ _ _ c.in_ok-program.ensures.goes_on (omega arith) _ _ (done.cells_after, done.answers_after) in
    record { value = g.0; cells_after = g.1.0; answers_after = g.1.1 }
