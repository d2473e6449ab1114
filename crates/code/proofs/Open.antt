-- A proof that computes with the definitions of this crate and of all below it says `unfolding code_open`. Assumes nothing.
use Rattle.code.specs.Vocabulary.Answers
use Rattle.code.specs.Blocks
use Rattle.code.specs.Vocabulary.Shapes
use Rattle.code.specs.Vocabulary.Counting
use Rattle.code.specs.Vocabulary.Creating
use Rattle.code.specs.Vocabulary.OpenBlocks
use Rattle.code.specs.Partners
use Rattle.code.specs.Reader
use Rattle.code.specs.Statements
use Rattle.terms.proofs.Open.{terms_open}

unfoldable pub code_open : Unit {0}
unfolding terms_open Answers.eight Answers.no_arguments Answers.with_one Answers.gathered Answers.as_statement
    Answers.arguments_of Answers.as_code Blocks.shape_of Blocks.shape_number Shapes.shape_at
    Shapes.shapes_in Blocks.is_shape Blocks.rank Blocks.closing Blocks.opening Blocks.without Blocks.with Blocks.through
    Blocks.through_all Blocks.all_closed Blocks.balanced Counting.present Counting.counted_on Counting.onward Counting.backward
    Statements.new_of Creating.new_said OpenBlocks.block_digit OpenBlocks.packed_blocks OpenBlocks.as_blocks OpenBlocks.shape_said
    Partners.same_block Partners.fits Partners.lines_between Partners.partners Partners.first_from Partners.last_below Partners.or_end
    Partners.ahead Partners.behind Partners.goes_from Partners.goes_to Reader.word_of Reader.beginning Reader.form_of Reader.comma
    Reader.operand Reader.listed Reader.arguments Reader.target Reader.rest Reader.statement Statements.map_statement
code_open = tt
