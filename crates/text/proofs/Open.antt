-- A proof that computes with the definitions of this crate and of all below it says `unfolding text_open`. Assumes nothing.
use Rattle.terms.proofs.Open.{terms_open}
use Rattle.text.specs.InOrder
use Rattle.text.specs.Lines
use Rattle.text.specs.Numbers
use Rattle.text.specs.Vocabulary.LineEnds

unfoldable pub text_open : Unit {0}
unfolding terms_open InOrder.done InOrder.◌>>=◌ InOrder.passed InOrder.key_line InOrder.number_line InOrder.each Lines.grown Lines.lines
    Lines.plain_byte Lines.plain_bytes Lines.sound Lines.content LineEnds.first_end LineEnds.sound_end Numbers.number_in
text_open = tt
