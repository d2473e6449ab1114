-- The readers of guards meet their contracts, by the same laws as the readers of expressions.
use Rattle.std.proofs.Common.{◌≡◌, ℕ, refl, sym, ap, ◌∙◌, arith}
use Rattle.terms.specs.Bytes.{bytes}
use Rattle.terms.specs.Guards.{ampersand, bar, atom_start_of, atom_by, conjunction, disjunction}
use Rattle.terms.specs.Parsed.{mapped, word}
use Rattle.terms.specs.Vocabulary.Answers.{as_result}
use Rattle.whole.proofs.Tested.{passed_on}
use Rattle.terms.proofs.Answers.{result_got, result_bad}
use Rattle.terms.proofs.Nesting.{closing_bad, closing_got, closing_none, opened_none, opened_some, weight_rank, weight_on, weight_inside}
use Rattle.terms.proofs.Onward.{atoms_move, conjunctions_move, guard_is, atom_by_lem}
use Rattle.terms.proofs.Series.{operator_within, found, first_fail, first_go, joins_stop, joins_fail, joins_nearer, joins_go}
use Rattle.terms.proofs.Starts.{ampersand_zero, bar_zero, atom_within}
use Rattle.terms.proofs.expressions.Reader.+atom_conjunction_guard_nested.Goals as goal

pub nested-returns-then-left-eq0 : goal.nested-returns-then-left-eq0
unfolding as_result
nested-returns-then-left-eq0 g t c =
    sym (ap as_result (opened_none _ _ _ _ _ c.if-left-eq0.true))

pub nested-guard-requires : goal.nested-guard-requires
nested-guard-requires g t c κs within =
    (weight_inside _ _ _ _ _ _ c.decreases c.if-left-eq0.false (omega arith), within)

pub nested-returns-in_err-p : goal.nested-returns-in_err-p
unfolding as_result
nested-returns-in_err-p g t c =
    passed_on c.from_residual.ensures.1 ∙ closing_bad as_result _ _ (opened_some _ _ _ _ _ c.if-left-eq0.false) (result_bad c.guard.ensures c.in_err-p.was)

pub nested-returns-then-byte_at-eq41 : goal.nested-returns-then-byte_at-eq41
unfolding as_result
nested-returns-then-byte_at-eq41 g t c =
    closing_got as_result _ _ (opened_some _ _ _ _ _ c.if-left-eq0.false) (result_got c.guard.ensures c.in_ok-p.was) c.byte_at.ensures c.if-byte_at-eq41.true

pub nested-returns-else-byte_at-eq41 : goal.nested-returns-else-byte_at-eq41
unfolding as_result
nested-returns-else-byte_at-eq41 g t c =
    closing_none as_result _ _ (opened_some _ _ _ _ _ c.if-left-eq0.false) (result_got c.guard.ensures c.in_ok-p.was) c.byte_at.ensures c.if-byte_at-eq41.false

pub atom-named-requires : goal.atom-named-requires
atom-named-requires g t c =
    atom_within c.args.self.now.text.now c.args.at _ (ap atom_start_of (sym c.byte_at.ensures) ∙ sym c.atom_start.ensures ∙ c.in-Wait.is) (λ e. let z : ◌≡◌ {A = ℕ} 0 1 = cc in omega arith)

pub atom-test-requires : goal.atom-test-requires
atom-test-requires g t c =
    atom_within c.args.self.now.text.now c.args.at _ (ap atom_start_of (sym c.byte_at.ensures) ∙ sym c.atom_start.ensures ∙ c.in-Test.is) (λ e. let z : ◌≡◌ {A = ℕ} 0 1 = cc in omega arith)

pub atom-nested-requires : goal.atom-nested-requires
atom-nested-requires g t c κs within =
    (weight_rank _ _ _ _ _ _ c.decreases (omega arith) (omega arith), (within.0, (within.1.0, (within.1.1, atom_within c.args.self.now.text.now c.args.at _ (ap atom_start_of (sym c.byte_at.ensures) ∙ sym c.atom_start.ensures ∙ c.in-Guard.is) (λ e. let z : ◌≡◌ {A = ℕ} 0 1 = cc in omega arith)))))

pub atom-returns-in-Reply : goal.atom-returns-in-Reply
unfolding atom_by
atom-returns-in-Reply g t c =
    atom_by_lem _ _ _ _ _ _ _ (c.atom_start.ensures ∙ ap atom_start_of c.byte_at.ensures) c.in-Reply.is c.reply.ensures

pub atom-returns-in-Test : goal.atom-returns-in-Test
unfolding atom_by
atom-returns-in-Test g t c =
    atom_by_lem _ _ _ _ _ _ _ (c.atom_start.ensures ∙ ap atom_start_of c.byte_at.ensures) c.in-Test.is c.test.ensures

pub atom-returns-in-Guard : goal.atom-returns-in-Guard
unfolding atom_by
atom-returns-in-Guard g t c =
    atom_by_lem _ _ _ _ _ _ _ (c.atom_start.ensures ∙ ap atom_start_of c.byte_at.ensures) c.in-Guard.is c.nested.ensures

pub atom-returns-in-Wait : goal.atom-returns-in-Wait
unfolding atom_by
atom-returns-in-Wait g t c =
    atom_by_lem _ _ _ _ _ _ _ (c.atom_start.ensures ∙ ap atom_start_of c.byte_at.ensures) c.in-Wait.is (c.named.ensures ∙ ap (λ w. as_result (mapped (λ _. w) (word (bytes "wait") c.args.self.now.text.now c.args.at))) c.wait.ensures)

pub atom-returns-in-Nothing : goal.atom-returns-in-Nothing
unfolding atom_by as_result
atom-returns-in-Nothing g t c =
    atom_by_lem _ _ _ _ _ _ _ (c.atom_start.ensures ∙ ap atom_start_of c.byte_at.ensures) c.in-Nothing.is refl

pub conjunction-atom-requires : goal.conjunction-atom-requires
conjunction-atom-requires g t c κs within =
    (weight_rank _ _ _ _ _ _ c.decreases (omega arith) (omega arith), within)

pub conjunction-returns-in_err-end : goal.conjunction-returns-in_err-end
unfolding conjunction
conjunction-returns-in_err-end g t c =
    passed_on c.from_residual.ensures.1 ∙ first_fail ampersand _ _ _ _ refl (result_bad c.atom.ensures c.in_err-end.was)

pub conjunction-loop-j-init : goal.conjunction-loop-j-init
unfolding conjunction
conjunction-loop-j-init g t c =
    first_go ampersand _ _ _ (atoms_move _ _ _ _ _) (result_got c.atom.ensures c.in_ok-end.was) refl

pub conjunction-overflow_add-end : goal.conjunction-overflow_add-end
conjunction-overflow_add-end g t c =
    let w = operator_within ampersand ampersand_zero c.args.self.now.text.now c.loop-j.end _ (found ampersand c.byte_at.ensures c.ampersand.ensures c.in-Some.is) in omega arith

pub conjunction-atom-requires-in-Some : goal.conjunction-atom-requires-in-Some
conjunction-atom-requires-in-Some g t c κs within =
    let w = operator_within ampersand ampersand_zero c.args.self.now.text.now c.loop-j.end _ (found ampersand c.byte_at.ensures c.ampersand.ensures c.in-Some.is) in
    (weight_on _ _ _ _ _ _ c.decreases (omega arith) (omega (arith, c.loop-j.invariant.later)) (omega arith), within)

pub conjunction-returns-in_err-p : goal.conjunction-returns-in_err-p
conjunction-returns-in_err-p g t c =
    passed_on c.from_residual-in_err-p.ensures.1 ∙ joins_fail c.loop-j.invariant (atoms_move _ _ _ _ _) ampersand_zero (found ampersand c.byte_at.ensures c.ampersand.ensures c.in-Some.is) (result_bad c.atom-in-Some.ensures c.in_err-p.was)

pub conjunction-loop-j-smaller : goal.conjunction-loop-j-smaller
conjunction-loop-j-smaller g t c =
    joins_nearer c.loop-j.invariant (atoms_move _ _ _ _ _) ampersand_zero (found ampersand c.byte_at.ensures c.ampersand.ensures c.in-Some.is) (result_got c.atom-in-Some.ensures c.in_ok-p.was)

pub conjunction-loop-j-preserved : goal.conjunction-loop-j-preserved
conjunction-loop-j-preserved g t c =
    joins_go c.loop-j.invariant (atoms_move _ _ _ _ _) ampersand_zero (found ampersand c.byte_at.ensures c.ampersand.ensures c.in-Some.is) (result_got c.atom-in-Some.ensures c.in_ok-p.was) c.join-value.ensures

pub conjunction-returns : goal.conjunction-returns
conjunction-returns g t c =
    joins_stop c.loop-j.invariant (found ampersand c.byte_at.ensures c.ampersand.ensures c.in_default.is)

pub guard-conjunction-requires : goal.guard-conjunction-requires
guard-conjunction-requires g t c κs within =
    (weight_rank _ _ _ _ _ _ c.decreases (omega arith) (omega arith), within)

pub guard-returns-in_err-end : goal.guard-returns-in_err-end
unfolding disjunction
guard-returns-in_err-end g t c =
    passed_on c.from_residual.ensures.1 ∙ first_fail bar _ _ _ _ (guard_is _ _ _ _ _ _) (result_bad c.conjunction.ensures c.in_err-end.was)

pub guard-loop-j-init : goal.guard-loop-j-init
unfolding disjunction
guard-loop-j-init g t c =
    first_go bar _ _ _ (conjunctions_move _ _ _ _ _) (result_got c.conjunction.ensures c.in_ok-end.was) (guard_is _ _ _ _ _ _)

pub guard-overflow_add-end : goal.guard-overflow_add-end
guard-overflow_add-end g t c =
    let w = operator_within bar bar_zero c.args.self.now.text.now c.loop-j.end _ (found bar c.byte_at.ensures c.bar.ensures c.in-Some.is) in omega arith

pub guard-conjunction-requires-in-Some : goal.guard-conjunction-requires-in-Some
guard-conjunction-requires-in-Some g t c κs within =
    let w = operator_within bar bar_zero c.args.self.now.text.now c.loop-j.end _ (found bar c.byte_at.ensures c.bar.ensures c.in-Some.is) in
    (weight_on _ _ _ _ _ _ c.decreases (omega arith) (omega (arith, c.loop-j.invariant.later)) (omega arith), within)

pub guard-returns-in_err-p : goal.guard-returns-in_err-p
guard-returns-in_err-p g t c =
    passed_on c.from_residual-in_err-p.ensures.1 ∙ joins_fail c.loop-j.invariant (conjunctions_move _ _ _ _ _) bar_zero (found bar c.byte_at.ensures c.bar.ensures c.in-Some.is) (result_bad c.conjunction-in-Some.ensures c.in_err-p.was)

pub guard-loop-j-smaller : goal.guard-loop-j-smaller
guard-loop-j-smaller g t c =
    joins_nearer c.loop-j.invariant (conjunctions_move _ _ _ _ _) bar_zero (found bar c.byte_at.ensures c.bar.ensures c.in-Some.is) (result_got c.conjunction-in-Some.ensures c.in_ok-p.was)

pub guard-loop-j-preserved : goal.guard-loop-j-preserved
guard-loop-j-preserved g t c =
    joins_go c.loop-j.invariant (conjunctions_move _ _ _ _ _) bar_zero (found bar c.byte_at.ensures c.bar.ensures c.in-Some.is) (result_got c.conjunction-in-Some.ensures c.in_ok-p.was) c.join-value.ensures

pub guard-returns : goal.guard-returns
guard-returns g t c =
    joins_stop c.loop-j.invariant (found bar c.byte_at.ensures c.bar.ensures c.in_default.is)
