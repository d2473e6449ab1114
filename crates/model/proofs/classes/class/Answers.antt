-- `model::classes::class`: its numbers one after another, each refused or passed, and the row that is left.
use native.Mathlib.Omega.{arith}
use borrow.Author.Rules.{rules}
use Rattle.text.specs.InOrder.{done, ◌>>=◌}
use Rattle.text.specs.Vocabulary.Readings.{Tells}
use Rattle.text.proofs.Onward.{told_got}
use Rattle.model.specs.Model.{Class}
use Rattle.model.specs.ModelText.{read_class}
use Rattle.model.proofs.Passing.{most, most_if}
use Rattle.model.proofs.Puts.{class_put}
use Rattle.model.proofs.classes.class.Goals as goal

pub returns-in_err-at : goal.returns-in_err-at
unfolding Tells read_class ◌>>=◌
returns-in_err-at c = search rules

pub returns-in_err-attrs : goal.returns-in_err-attrs
unfolding Tells read_class ◌>>=◌
returns-in_err-attrs c = search rules

pub returns-in_err-given : goal.returns-in_err-given
unfolding Tells read_class ◌>>=◌
returns-in_err-given c = search rules

pub returns-in_err-run : goal.returns-in_err-run
unfolding Tells read_class ◌>>=◌
returns-in_err-run c = search rules

pub returns-in_err-count : goal.returns-in_err-count
unfolding Tells read_class ◌>>=◌
returns-in_err-count c = search rules

pub returns-in_err-read : goal.returns-in_err-read
unfolding Tells read_class ◌>>=◌
returns-in_err-read c = search rules

pub put-requires-clause-small : goal.put-requires-clause-small
put-requires-clause-small c =
    let attrs = most _ _ _ _ _ _ _ c.number_line-2.ensures c.in_ok-attrs.was in
    let given = most _ _ _ _ _ _ _ c.number_line-3.ensures c.in_ok-given.was in
    let run = most _ _ _ _ _ _ _ c.number_line-4.ensures c.in_ok-run.was in
    let count = most _ _ _ _ _ _ _ c.number_line-5.ensures c.in_ok-count.was in
    (omega (arith, attrs), omega (arith, given, most_if _ _ _ c.most_given.ensures, attrs), omega (arith, run), omega (arith, count))

pub returns : goal.returns
unfolding Tells read_class ◌>>=◌ done
returns c =
    let a = c.args in
    let methods = told_got _ _ _ _ c.all_methods.ensures _ _ c.in_ok-read.was in
    let few = most _ _ _ _ _ _ _ c.number_line-5.ensures c.in_ok-count.was in
    let read : Class = record { attrs = c.in_ok-attrs.attrs; given = c.in_ok-given.given; run = c.in_ok-run.run'; methods = methods.0.0 } in (
      (read, methods.0.1),
      search rules,
      methods.2,
      class_put _ _ _ _ _ a.classes a.k a.total _ _ _ _ _ methods.0.0 methods.0.1 (omega arith) few _ (search rules) c.put.ensures (omega arith, omega arith) methods.3,
    )
