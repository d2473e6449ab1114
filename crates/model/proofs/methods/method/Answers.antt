-- `model::methods::method`: its numbers one after another, each refused or passed, and the row that is left.
use native.Mathlib.Omega.{arith}
use borrow.Author.Rules.{rules}
use Rattle.text.specs.InOrder.{done, ◌>>=◌}
use Rattle.text.specs.Vocabulary.Readings.{Tells}
use Rattle.text.proofs.Onward.{told_got}
use Rattle.model.specs.Model.{Method}
use Rattle.model.specs.ModelText.{lines_begun, read_method}
use Rattle.model.proofs.Passing.{most, most_if}
use Rattle.model.proofs.Puts.{method_put}
use Rattle.model.proofs.methods.method.Goals as goal

pub returns-in_err-at : goal.returns-in_err-at
unfolding Tells read_method ◌>>=◌
returns-in_err-at c = search rules

pub returns-in_err-params : goal.returns-in_err-params
unfolding Tells read_method ◌>>=◌
returns-in_err-params c = search rules

pub returns-in_err-locals : goal.returns-in_err-locals
unfolding Tells read_method ◌>>=◌
returns-in_err-locals c = search rules

pub returns-in_err-count : goal.returns-in_err-count
unfolding Tells read_method ◌>>=◌
returns-in_err-count c = search rules

pub returns-in_err-read : goal.returns-in_err-read
unfolding Tells read_method ◌>>=◌ lines_begun
returns-in_err-read c = search rules

pub put-requires-clause-small : goal.put-requires-clause-small
put-requires-clause-small c =
    let params = most _ _ _ _ _ _ _ c.number_line-2.ensures c.in_ok-params.was in
    let locals = most _ _ _ _ _ _ _ c.number_line-3.ensures c.in_ok-locals.was in
    let count = most _ _ _ _ _ _ _ c.number_line-4.ensures c.in_ok-count.was in
    (omega (arith, params, most_if _ _ _ c.most_params-highest.ensures), omega (arith, locals), omega (arith, count, c.most_lines.ensures), omega (arith, c.requires.method_bound))

pub returns : goal.returns
unfolding Tells read_method ◌>>=◌ done lines_begun
returns c =
    let a = c.args in
    let code = told_got _ _ _ _ c.all_lines.ensures _ _ c.in_ok-read.was in
    let read : Method = record { params = c.in_ok-params.params; locals = c.in_ok-locals.locals; code = code.0.0 } in (
      (read, code.0.1),
      search rules,
      code.2,
      method_put _ _ _ _ _ a.class a.j a.total _ _ _ _ code.0.0 code.0.1 (omega arith) (omega arith) _ (search rules) (rw c.method_place-place.ensures at c.put.ensures) (omega arith, omega arith) code.3,
    )
