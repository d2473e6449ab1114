-- A proof that computes with the definitions of this crate and of all below it says `unfolding terms_open`. Assumes nothing.
use Rattle.terms.specs.Vocabulary.Answers
use Rattle.terms.specs.Bytes
use Rattle.terms.specs.Expressions
use Rattle.terms.specs.Guards
use Rattle.terms.specs.Leaves
use Rattle.terms.specs.Parsed
use Rattle.terms.specs.Trees
use Rattle.terms.specs.Values
use Rattle.layout.proofs.Open.{layout_open}

unfoldable pub terms_open : Unit {0}
unfolding layout_open Answers.as_place Answers.as_result Answers.surroundings
    Bytes.told Bytes.digit Expressions.among Expressions.comparison Expressions.sign Expressions.star
    Expressions.start_of Expressions.factor_by Expressions.factor Expressions.product Expressions.sum Expressions.comparing
    Expressions.expression Guards.ampersand Guards.bar Guards.atom_start_of Guards.atom_by Guards.atom Guards.conjunction
    Guards.disjunction Guards.guard Leaves.counting Leaves.decimal Leaves.numbered Leaves.variable Parsed.next Parsed.mapped
    Parsed.word Parsed.ended Parsed.closed Parsed.opened Parsed.repeated Parsed.joining Parsed.series Trees.fold Trees.fold_guard
    Values.held Values.is_cleared Values.is_replied Values.tested Values.junction Values.joined Values.value_of Values.guard_of
terms_open = tt
