-- `model::code_lines::code_value`: a statement that was read, by the blocks that are open after it.
use Rattle.std.specs.Result.{result_ok}
use Rattle.std.proofs.Common.{◌≡◌, Ok, Err}
use mathlib.Core.Path.{sym, ap, subst, ◌∙◌}
use Rattle.code.specs.Blocks.{shape_of, shape_number}
use Rattle.code.proofs.OpenBlocks.{open_told, unmatched_told}
use Rattle.model.specs.Vocabulary.Creations.{new_number}
use Rattle.model.specs.Vocabulary.Standing.{CodeSaid}
use Rattle.model.proofs.CodeValues.{told, code_stuck, code_stands}
use Rattle.whole.proofs.Tested.{passed_on}
use Rattle.model.proofs.Passing.{kept, lacking}
use Rattle.model.proofs.code_lines.code_value.Goals as goal
use Rattle.model.proofs.code_lines.code_value.Goals.{After-ok_or}

-- the statement that was read
was_read : (c : After-ok_or) → c.statement.result ≡ Ok (c.in_ok-statement.statement, c.in_ok-statement.arguments)
was_read c = kept _ _ _ c.map_err.ensures.cases _ c.in_ok-statement.was

-- its shape
shaped : (c : After-ok_or) → c.shape_of-shape.result ≡ shape_of (told _ _ c.args.method c.around.ensures _ _ c.statement.ensures _ _ (was_read c)).code
shaped c = c.shape_of-shape.ensures ∙ (told _ _ c.args.method c.around.ensures _ _ c.statement.ensures _ _ (was_read c)).shape

-- its blocks are unmatched, or it may not stand there
pub returns-in_err-after : goal.returns-in_err-after
returns-in_err-after c bs e =
    let before = (goal.at.returns-in_err-after c).After-ok_or in
    let none = lacking _ _ _ c.ok_or.ensures.value _ c.in_err-after.was in
    subst (CodeSaid _ _ _ bs) (sym (passed_on c.from_residual-in_err-after.ensures.1 ∙ ap Err none.1))
    (code_stuck _ _ _ c.around.ensures _ _ c.statement.ensures _ _ (was_read before) _ bs
    (unmatched_told _ (sym (c.standing.ensures _ bs (shaped before) e) ∙ none.0)))

-- it stands
pub returns : goal.returns
returns c bs e =
    let before = (goal.at.returns c).After-ok_or in
    let o = open_told _ _ (sym (c.standing.ensures _ bs (shaped before) e) ∙ c.ok_or.ensures.ok_part ∙ ap result_ok c.in_ok-after.was) in
    code_stands _ _ _ c.around.ensures _ _ c.statement.ensures _ _ (was_read before) _ bs c.args.method.within.0 c.args.method.within.1 _ o.0 o.1 o.2
    (c.from.ensures ∙ ap shape_number (shaped before))
    (c.new_number.ensures ∙ ap new_number c.new_of.ensures)
