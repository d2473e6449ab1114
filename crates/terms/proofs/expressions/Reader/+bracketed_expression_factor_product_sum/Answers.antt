-- The readers of expressions meet their contracts: what each goal takes from the laws of brackets, of joined items, and of what a reader begins with.
use Rattle.std.proofs.Common.{◌≡◌, ℕ, refl, sym, ap, ◌∙◌, arith}
use Rattle.terms.specs.Bytes.{bytes}
use Rattle.terms.specs.Parsed.{mapped, word}
use Rattle.terms.specs.Expressions.{start_of, star, sign, comparison, factor_by, product, sum, comparing}
use Rattle.terms.specs.Vocabulary.Answers.{as_result}
use Rattle.whole.proofs.Tested.{passed_on}
use Rattle.terms.proofs.Answers.{result_got, result_bad}
use Rattle.terms.proofs.Nesting.{closing_bad, closing_got, closing_none, factor_by_lem, opened_none, opened_some, weight_rank, weight_on, weight_inside}
use Rattle.terms.proofs.Onward.{factors_move, products_move, sums_move, expression_is}
use Rattle.terms.proofs.Series.{operator_within, found, first_fail, first_go, once_stop, once_fail, once_go, joins_stop, joins_fail, joins_nearer, joins_go}
use Rattle.terms.proofs.Starts.{star_zero, sign_zero, comparison_zero, start_within}
use Rattle.terms.proofs.expressions.Reader.+bracketed_expression_factor_product_sum.Goals as goal

pub bracketed-returns-then-left-eq0 : goal.bracketed-returns-then-left-eq0
unfolding as_result
bracketed-returns-then-left-eq0 g t c =
    sym (ap as_result (opened_none _ _ _ _ _ c.if-left-eq0.true))

pub bracketed-expression-requires : goal.bracketed-expression-requires
bracketed-expression-requires g t c κs within =
    (weight_inside _ _ _ _ _ _ c.decreases c.if-left-eq0.false (omega arith), within)

pub bracketed-returns-in_err-p : goal.bracketed-returns-in_err-p
unfolding as_result
bracketed-returns-in_err-p g t c =
    passed_on c.from_residual.ensures.1 ∙ closing_bad as_result _ _ (opened_some _ _ _ _ _ c.if-left-eq0.false) (result_bad c.expression.ensures c.in_err-p.was)

pub bracketed-returns-then-byte_at-close : goal.bracketed-returns-then-byte_at-close
unfolding as_result
bracketed-returns-then-byte_at-close g t c =
    closing_got as_result _ _ (opened_some _ _ _ _ _ c.if-left-eq0.false) (result_got c.expression.ensures c.in_ok-p.was) c.byte_at.ensures c.if-byte_at-close.true

pub bracketed-returns-else-byte_at-close : goal.bracketed-returns-else-byte_at-close
unfolding as_result
bracketed-returns-else-byte_at-close g t c =
    closing_none as_result _ _ (opened_some _ _ _ _ _ c.if-left-eq0.false) (result_got c.expression.ensures c.in_ok-p.was) c.byte_at.ensures c.if-byte_at-close.false

pub factor-named-requires : goal.factor-named-requires
factor-named-requires g t c =
    start_within c.args.self.now.text.now c.args.at _ (ap start_of (sym c.byte_at.ensures) ∙ sym c.start.ensures ∙ c.in-Itself.is) (λ e. let z : ◌≡◌ {A = ℕ} 0 1 = cc in omega arith)

pub factor-named-requires-in-Caller : goal.factor-named-requires-in-Caller
factor-named-requires-in-Caller g t c =
    start_within c.args.self.now.text.now c.args.at _ (ap start_of (sym c.byte_at.ensures) ∙ sym c.start.ensures ∙ c.in-Caller.is) (λ e. let z : ◌≡◌ {A = ℕ} 0 1 = cc in omega arith)

pub factor-bracketed-requires : goal.factor-bracketed-requires
factor-bracketed-requires g t c κs within =
    (weight_rank _ _ _ _ _ _ c.decreases (omega arith) (omega arith), (within.0, (within.1, (start_within c.args.self.now.text.now c.args.at _ (ap start_of (sym c.byte_at.ensures) ∙ sym c.start.ensures ∙ c.in-Opening.is) (λ e. let z : ◌≡◌ {A = ℕ} 0 1 = cc in omega arith), omega arith))))

pub factor-returns-in-Decimal : goal.factor-returns-in-Decimal
unfolding factor_by
factor-returns-in-Decimal g t c =
    factor_by_lem _ _ _ _ _ (c.start.ensures ∙ ap start_of c.byte_at.ensures) c.in-Decimal.is c.number.ensures

pub factor-returns-in-Variable : goal.factor-returns-in-Variable
unfolding factor_by
factor-returns-in-Variable g t c =
    factor_by_lem _ _ _ _ _ (c.start.ensures ∙ ap start_of c.byte_at.ensures) c.in-Variable.is c.variable.ensures

pub factor-returns-in-Opening : goal.factor-returns-in-Opening
unfolding factor_by
factor-returns-in-Opening g t c =
    factor_by_lem _ _ _ _ _ (c.start.ensures ∙ ap start_of c.byte_at.ensures) c.in-Opening.is c.bracketed.ensures

pub factor-returns-in-Itself : goal.factor-returns-in-Itself
unfolding factor_by
factor-returns-in-Itself g t c =
    factor_by_lem _ _ _ _ _ (c.start.ensures ∙ ap start_of c.byte_at.ensures) c.in-Itself.is (c.named.ensures ∙ ap (λ w. as_result (mapped (λ _. w) (word (bytes "self") c.args.self.now.text.now c.args.at))) c.itself.ensures)

pub factor-returns-in-Caller : goal.factor-returns-in-Caller
unfolding factor_by
factor-returns-in-Caller g t c =
    factor_by_lem _ _ _ _ _ (c.start.ensures ∙ ap start_of c.byte_at.ensures) c.in-Caller.is (c.named-in-Caller.ensures ∙ ap (λ w. as_result (mapped (λ _. w) (word (bytes "caller") c.args.self.now.text.now c.args.at))) c.caller.ensures)

pub factor-returns-in-Nothing : goal.factor-returns-in-Nothing
unfolding factor_by as_result
factor-returns-in-Nothing g t c =
    factor_by_lem _ _ _ _ _ (c.start.ensures ∙ ap start_of c.byte_at.ensures) c.in-Nothing.is refl

pub product-factor-requires : goal.product-factor-requires
product-factor-requires g t c κs within =
    (weight_rank _ _ _ _ _ _ c.decreases (omega arith) (omega arith), within)

pub product-returns-in_err-end : goal.product-returns-in_err-end
unfolding product
product-returns-in_err-end g t c =
    passed_on c.from_residual.ensures.1 ∙ first_fail star _ _ _ _ refl (result_bad c.factor.ensures c.in_err-end.was)

pub product-loop-o-init : goal.product-loop-o-init
unfolding product
product-loop-o-init g t c =
    first_go star _ _ _ (factors_move _ _ _ _) (result_got c.factor.ensures c.in_ok-end.was) refl

pub product-overflow_add-end : goal.product-overflow_add-end
product-overflow_add-end g t c =
    let w = operator_within star star_zero c.args.self.now.text.now c.loop-o.end _ (found star c.byte_at.ensures c.star.ensures c.in-Some.is) in omega arith

pub product-factor-requires-in-Some : goal.product-factor-requires-in-Some
product-factor-requires-in-Some g t c κs within =
    let w = operator_within star star_zero c.args.self.now.text.now c.loop-o.end _ (found star c.byte_at.ensures c.star.ensures c.in-Some.is) in
    (weight_on _ _ _ _ _ _ c.decreases (omega arith) (omega (arith, c.loop-o.invariant.later)) (omega arith), within)

pub product-returns-in_err-p : goal.product-returns-in_err-p
product-returns-in_err-p g t c =
    passed_on c.from_residual-in_err-p.ensures.1 ∙ joins_fail c.loop-o.invariant (factors_move _ _ _ _) star_zero (found star c.byte_at.ensures c.star.ensures c.in-Some.is) (result_bad c.factor-in-Some.ensures c.in_err-p.was)

pub product-loop-o-smaller : goal.product-loop-o-smaller
product-loop-o-smaller g t c =
    joins_nearer c.loop-o.invariant (factors_move _ _ _ _) star_zero (found star c.byte_at.ensures c.star.ensures c.in-Some.is) (result_got c.factor-in-Some.ensures c.in_ok-p.was)

pub product-loop-o-preserved : goal.product-loop-o-preserved
product-loop-o-preserved g t c =
    joins_go c.loop-o.invariant (factors_move _ _ _ _) star_zero (found star c.byte_at.ensures c.star.ensures c.in-Some.is) (result_got c.factor-in-Some.ensures c.in_ok-p.was) c.apply-value.ensures

pub product-returns : goal.product-returns
product-returns g t c =
    joins_stop c.loop-o.invariant (found star c.byte_at.ensures c.star.ensures c.in_default.is)

pub sum-product-requires : goal.sum-product-requires
sum-product-requires g t c κs within =
    (weight_rank _ _ _ _ _ _ c.decreases (omega arith) (omega arith), within)

pub sum-returns-in_err-end : goal.sum-returns-in_err-end
unfolding sum
sum-returns-in_err-end g t c =
    passed_on c.from_residual.ensures.1 ∙ first_fail sign _ _ _ _ refl (result_bad c.product.ensures c.in_err-end.was)

pub sum-loop-o-init : goal.sum-loop-o-init
unfolding sum
sum-loop-o-init g t c =
    first_go sign _ _ _ (products_move _ _ _ _) (result_got c.product.ensures c.in_ok-end.was) refl

pub sum-overflow_add-end : goal.sum-overflow_add-end
sum-overflow_add-end g t c =
    let w = operator_within sign sign_zero c.args.self.now.text.now c.loop-o.end _ (found sign c.byte_at.ensures c.sign.ensures c.in-Some.is) in omega arith

pub sum-product-requires-in-Some : goal.sum-product-requires-in-Some
sum-product-requires-in-Some g t c κs within =
    let w = operator_within sign sign_zero c.args.self.now.text.now c.loop-o.end _ (found sign c.byte_at.ensures c.sign.ensures c.in-Some.is) in
    (weight_on _ _ _ _ _ _ c.decreases (omega arith) (omega (arith, c.loop-o.invariant.later)) (omega arith), within)

pub sum-returns-in_err-p : goal.sum-returns-in_err-p
sum-returns-in_err-p g t c =
    passed_on c.from_residual-in_err-p.ensures.1 ∙ joins_fail c.loop-o.invariant (products_move _ _ _ _) sign_zero (found sign c.byte_at.ensures c.sign.ensures c.in-Some.is) (result_bad c.product-in-Some.ensures c.in_err-p.was)

pub sum-loop-o-smaller : goal.sum-loop-o-smaller
sum-loop-o-smaller g t c =
    joins_nearer c.loop-o.invariant (products_move _ _ _ _) sign_zero (found sign c.byte_at.ensures c.sign.ensures c.in-Some.is) (result_got c.product-in-Some.ensures c.in_ok-p.was)

pub sum-loop-o-preserved : goal.sum-loop-o-preserved
sum-loop-o-preserved g t c =
    joins_go c.loop-o.invariant (products_move _ _ _ _) sign_zero (found sign c.byte_at.ensures c.sign.ensures c.in-Some.is) (result_got c.product-in-Some.ensures c.in_ok-p.was) c.apply-value.ensures

pub sum-returns : goal.sum-returns
sum-returns g t c =
    joins_stop c.loop-o.invariant (found sign c.byte_at.ensures c.sign.ensures c.in_default.is)

pub expression-sum-requires : goal.expression-sum-requires
expression-sum-requires g t c κs within =
    (weight_rank _ _ _ _ _ _ c.decreases (omega arith) (omega arith), within)

pub expression-returns-in_err-p : goal.expression-returns-in_err-p
unfolding comparing
expression-returns-in_err-p g t c =
    passed_on c.from_residual.ensures.1 ∙ first_fail comparison _ _ _ _ (expression_is _ _ _ _ _) (result_bad c.sum.ensures c.in_err-p.was)

pub expression-overflow_add-p : goal.expression-overflow_add-p
expression-overflow_add-p g t c =
    let w = operator_within comparison comparison_zero c.args.self.now.text.now c.in_ok-p.p _ (found comparison c.byte_at.ensures c.comparison.ensures c.in-Some.is) in omega arith

pub expression-sum-requires-in-Some : goal.expression-sum-requires-in-Some
expression-sum-requires-in-Some g t c κs within =
    let w = operator_within comparison comparison_zero c.args.self.now.text.now c.in_ok-p.p _ (found comparison c.byte_at.ensures c.comparison.ensures c.in-Some.is) in
    let l = (sums_move _ _ _ _) _ _ _ (result_got c.sum.ensures c.in_ok-p.was) in
    (weight_on _ _ _ _ _ _ c.decreases (omega arith) (omega arith) (omega arith), within)

pub expression-returns-in_err-q-in-Some : goal.expression-returns-in_err-q-in-Some
unfolding comparing
expression-returns-in_err-q-in-Some g t c =
    passed_on c.from_residual-in_err-q-in-Some.ensures.1 ∙ once_fail comparison _ _ _ (sums_move _ _ _ _) (result_got c.sum.ensures c.in_ok-p.was) (expression_is _ _ _ _ _) (found comparison c.byte_at.ensures c.comparison.ensures c.in-Some.is) (result_bad c.sum-in-Some.ensures c.in_err-q-in-Some.was)

pub expression-returns-in-None : goal.expression-returns-in-None
unfolding comparing
expression-returns-in-None g t c =
    once_stop comparison _ _ _ (sums_move _ _ _ _) (result_got c.sum.ensures c.in_ok-p.was) (expression_is _ _ _ _ _) (found comparison c.byte_at.ensures c.comparison.ensures c.in-None.is)

pub expression-returns-in_ok-q-in-Some : goal.expression-returns-in_ok-q-in-Some
unfolding comparing
expression-returns-in_ok-q-in-Some g t c =
    once_go comparison _ _ _ (sums_move _ _ _ _) (result_got c.sum.ensures c.in_ok-p.was) (expression_is _ _ _ _ _) (found comparison c.byte_at.ensures c.comparison.ensures c.in-Some.is) (result_got c.sum-in-Some.ensures c.in_ok-q-in-Some.was) c.apply.ensures
