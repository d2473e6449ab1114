-- `code::statements::Reader::more_arguments`: one argument more keeps what the loop keeps.
use Prim.Native.Nat.{◌+◌, ◌-◌, ◌<◌, suc, ℕ}
use mathlib.Core.Path.{◌≡◌, sym, ap, ◌∙◌}
use native.Mathlib.Omega.{arith}
use Rattle.whole.proofs.Tested.{passed_on}
use Rattle.code.proofs.Gathering.{comma_some, comma_none, one_more_lem}
use Rattle.code.specs.Vocabulary.Answers.{with_one}
use Rattle.code.specs.Vocabulary.Parts as Parts
use Rattle.code.specs.Reader.{comma}
use Rattle.terms.proofs.Answers.{result_got, result_bad}
use Rattle.terms.proofs.Series.{counted_go, counted_fail, joined_stop}
use Rattle.terms.specs.Parsed.{repeated}
use Rattle.terms.specs.Vocabulary.Answers.{as_result}
use Rattle.code.proofs.statements.Reader.more_arguments.Goals as goal

-- with more to come there is one more than a number
more_is : (most n : ℕ) → n < most → most - n ≡ suc (most - (n + 1))
more_is most n h = omega arith

pub returns-in_err-next : goal.returns-in_err-next
unfolding as_result
returns-in_err-next c =
    let r = c.args.self in
    let l = c.loop in
    passed_on c.from_residual.ensures.1
    ∙ sym (ap as_result (l.invariant.1
    ∙ ap (λ n. Parts.more_arguments r n l.end l.list) (more_is c.args.most l.counter c.loop-test.true)
    ∙ counted_fail comma (λ _. with_one) r.text.now (Parts.expression r) l.end l.list tt (comma_some _ (sym c.byte_at.ensures ∙ c.if-byte_at-ne44.false)) _ _ (result_bad c.expression.ensures c.in_err-next.was)))

pub loop-preserved : goal.loop-preserved
loop-preserved c =
    let r = c.args.self in
    let l = c.loop in
    let n = one_more_lem l.list c.in_ok-next.value _ c.with_one-list.ensures in (
      omega arith,
      l.invariant.1
          ∙ ap (λ n. Parts.more_arguments r n l.end l.list) (more_is c.args.most l.counter c.loop-test.true)
          ∙ counted_go comma (λ _. with_one) r.text.now (Parts.expression r) l.end l.list tt (comma_some _ (sym c.byte_at.ensures ∙ c.if-byte_at-ne44.false)) _ _ _ (result_got c.expression.ensures c.in_ok-next.was)
          ∙ ap (λ a. Parts.more_arguments r (c.args.most - (l.counter + 1)) c.in_ok-next.next a) (sym c.with_one-list.ensures),
    )

pub returns-after-loop : goal.returns-after-loop
unfolding as_result repeated
returns-after-loop c =
    let r = c.args.self in
    let l = c.loop in
    let z : c.args.most - l.counter ≡ 0 = omega arith in
    sym (ap as_result (l.invariant.1 ∙ ap (λ n. Parts.more_arguments r n l.end l.list) z))

pub returns-then-byte_at-ne44 : goal.returns-then-byte_at-ne44
unfolding as_result
returns-then-byte_at-ne44 c =
    let r = c.args.self in
    let l = c.loop in
    sym (ap as_result (l.invariant.1 ∙ joined_stop comma (λ _. with_one) r.text.now (Parts.expression r) l.end l.list _ (comma_none _ (λ e. c.if-byte_at-ne44.true (c.byte_at.ensures ∙ e)))))
