-- `code::statements::Reader::arguments`: no space, or a first argument, which leaves room for the others.
use mathlib.Core.Path.{◌≡◌, sym, ap, ◌∙◌}
use native.Mathlib.Omega.{arith}
use Rattle.whole.proofs.Tested.{passed_on}
use Rattle.code.proofs.Gathering.{one_more_lem, arguments_none, arguments_bad, arguments_got}
use Rattle.code.specs.Vocabulary.Answers.{no_arguments, with_one}
use Rattle.code.specs.Vocabulary.Parts as Parts
use Rattle.terms.proofs.Answers.{result_got, result_bad}
use Rattle.terms.specs.Parsed.{got}
use Rattle.terms.specs.Vocabulary.Answers.{as_result}
use Rattle.code.proofs.statements.Reader.arguments.Goals as goal

pub returns-then-byte_at-ne32 : goal.returns-then-byte_at-ne32
unfolding as_result
returns-then-byte_at-ne32 c =
    ap (λ a. as_result (got c.args.at a)) c.none.ensures
    ∙ sym (ap as_result (arguments_none c.args.self c.args.most c.args.at (λ e. c.if-byte_at-ne32.true (c.byte_at.ensures ∙ e))))

pub returns-in_err-at : goal.returns-in_err-at
unfolding as_result
returns-in_err-at c =
    passed_on c.from_residual.ensures.1
    ∙ sym (ap as_result (arguments_bad c.args.self c.args.most c.args.at (sym c.byte_at.ensures ∙ c.if-byte_at-ne32.false) _ (result_bad c.expression.ensures c.in_err-at.was)))

pub with_one-requires : goal.with_one-requires
unfolding no_arguments
with_one-requires c =
    let n : c.none-2.result.count ≡ 0 = ap (λ a. a.count) c.none-2.ensures in omega arith

pub more_arguments-requires : goal.more_arguments-requires
unfolding no_arguments
more_arguments-requires c =
    let n : c.none-2.result.count ≡ 0 = ap (λ a. a.count) c.none-2.ensures in
    let m = one_more_lem _ _ _ c.with_one.ensures in
    omega arith

pub returns : goal.returns
returns c =
    let r = c.args.self in
    c.more_arguments.ensures
    ∙ ap (λ a. as_result (Parts.more_arguments r c.args.most c.in_ok-at.at a)) (c.with_one.ensures ∙ ap (λ a. with_one a c.in_ok-at.value) c.none-2.ensures)
    ∙ sym (ap as_result (arguments_got r c.args.most c.args.at (sym c.byte_at.ensures ∙ c.if-byte_at-ne32.false) _ _ (result_got c.expression.ensures c.in_ok-at.was)))
