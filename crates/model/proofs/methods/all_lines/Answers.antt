-- `model::methods::all_lines`: a line that is refused, one more line, and all of them.
use Rattle.model.proofs.Passing.{loop_exit}
use Rattle.model.proofs.Loops.{lines_onward, lines_all}
use Rattle.model.proofs.methods.all_lines.Goals as goal

pub returns-in_err-blocks : goal.returns-in_err-blocks
returns-in_err-blocks c =
    let i = c.loop-i.invariant in
    loop_exit i.passed c.loop-i-test.true _ _ _ (c.code_line.ensures _ i.left i.number) c.in_err-blocks.was c.from_residual.ensures _

pub loop-i-preserved : goal.loop-i-preserved
loop-i-preserved c =
    let i = c.loop-i.invariant in
    lines_onward _ _ _ _ _ _ _ _ _ _ i c.loop-i-test.true _ _ _ (c.code_line.ensures _ i.left i.number) _ _ c.in_ok-blocks.was

pub returns : goal.returns
returns c = lines_all _ _ _ _ _ _ _ _ _ _ c.loop-i.invariant c.loop-i-test.false c.requires.lines_bound.1
