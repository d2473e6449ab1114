-- `code::statements::statement`: by the form and its word, what the definition reads.
use Rattle.std.specs.Prelude.{Err}
use Rattle.std.specs.Option.{ok_or}
use Rattle.std.specs.Result.{result_ok}
use mathlib.Core.Path.{◌≡◌, sym, ap, ◌∙◌}
use Rattle.whole.proofs.Tested.{passed_on}
use Rattle.code.proofs.Ending.{after_got, after_bad, code_bad, code_refused, code_short, code_whole}
use Rattle.code.proofs.Forms.{statement_none, statement_some}
use Rattle.code.specs.Vocabulary.Answers.{said, as_code}
use Rattle.terms.proofs.Answers.{word_got, word_bad, result_got, result_bad}
use Rattle.terms.specs.Parsed.{word, mapped}
use Rattle.terms.specs.Vocabulary.Answers.{as_place}
use Rattle.code.proofs.statements.statement.Goals as goal

pub returns-in_err-form : goal.returns-in_err-form
unfolding as_code
returns-in_err-form c =
    let none = c.ok_or.ensures.ok_part ∙ ap result_ok c.in_err-form.was in
    let e = sym c.in_err-form.was ∙ c.ok_or.ensures.value ∙ ap (λ o. ok_or o 0) none in
    let start : c.in_err-form.field-0.0 ≡ 0 = cc in
    passed_on c.from_residual.ensures.1
    ∙ ap (λ p. Err p) start
    ∙ sym (ap as_code (statement_none _ _ _ _ _ (sym c.form_of.ensures ∙ none)))

pub returns-in_err-at : goal.returns-in_err-at
returns-in_err-at c =
    let s = c.args.s.now in
    let form = sym c.form_of.ensures ∙ c.ok_or.ensures.ok_part ∙ ap result_ok c.in_ok-form.was in
    let w = word_bad _ _ (ap (λ w. as_place (word w s 0)) (sym c.word_of.ensures) ∙ sym c.word.ensures ∙ c.in_err-at.was) in
    passed_on c.from_residual-in_err-at.ensures.1 ∙ sym (ap as_code (statement_some _ _ _ _ _ _ form) ∙ code_bad s _ (after_bad _ _ _ w))

pub returns-in_err-end : goal.returns-in_err-end
returns-in_err-end c =
    let s = c.args.s.now in
    let form = sym c.form_of.ensures ∙ c.ok_or.ensures.ok_part ∙ ap result_ok c.in_ok-form.was in
    let w = word_got _ _ (ap (λ w. as_place (word w s 0)) (sym c.word_of.ensures) ∙ sym c.word.ensures ∙ c.in_ok-at.was) in
    passed_on c.from_residual-in_err-end.ensures.1
    ∙ sym (ap as_code (statement_some _ _ _ _ _ _ form) ∙ code_refused s _ (ap (mapped said) (after_got _ _ _ _ w) ∙ result_bad c.rest.ensures c.in_err-end.was))

pub returns-then-end-s : goal.returns-then-end-s
returns-then-end-s c =
    let s = c.args.s.now in
    let form = sym c.form_of.ensures ∙ c.ok_or.ensures.ok_part ∙ ap result_ok c.in_ok-form.was in
    let w = word_got _ _ (ap (λ w. as_place (word w s 0)) (sym c.word_of.ensures) ∙ sym c.word.ensures ∙ c.in_ok-at.was) in
    sym (ap as_code (statement_some _ _ _ _ _ _ form) ∙ code_whole s _ (ap (mapped said) (after_got _ _ _ _ w) ∙ result_got c.rest.ensures c.in_ok-end.was) c.if-end-s.true)

pub returns-else-end-s : goal.returns-else-end-s
returns-else-end-s c =
    let s = c.args.s.now in
    let form = sym c.form_of.ensures ∙ c.ok_or.ensures.ok_part ∙ ap result_ok c.in_ok-form.was in
    let w = word_got _ _ (ap (λ w. as_place (word w s 0)) (sym c.word_of.ensures) ∙ sym c.word.ensures ∙ c.in_ok-at.was) in
    sym (ap as_code (statement_some _ _ _ _ _ _ form) ∙ code_short s _ (ap (mapped said) (after_got _ _ _ _ w) ∙ result_got c.rest.ensures c.in_ok-end.was) c.if-end-s.false)
