-- `code::statements::Reader::space`: by the byte at the place.
use Prim.Native.Nat.{◌+◌}
use borrow.Author.Tests.{eq-eqb, ne_eqb}
use mathlib.Core.List.{[]}
use mathlib.Core.Path.{sym, ap, ◌∙◌}
use Rattle.terms.proofs.Moving.{word_yes, word_no, word_none}
use Rattle.terms.specs.Vocabulary.Answers.{as_place}
use Rattle.code.proofs.statements.Reader.space.Goals as goal

pub returns-then-byte_at-eq32 : goal.returns-then-byte_at-eq32
unfolding as_place
returns-then-byte_at-eq32 c =
    sym (ap as_place (word_yes 32 [] c.args.self.text.now c.args.at (eq-eqb _ 32 (sym c.byte_at.ensures ∙ c.if-byte_at-eq32.true)) ∙ word_none c.args.self.text.now (c.args.at + 1)))

pub returns-else-byte_at-eq32 : goal.returns-else-byte_at-eq32
unfolding as_place
returns-else-byte_at-eq32 c =
    sym (ap as_place (word_no 32 [] c.args.self.text.now c.args.at (ne_eqb _ 32 (λ e. c.if-byte_at-eq32.false (c.byte_at.ensures ∙ e)))))
