-- `forms::making::calling`: a callee or an argument out of range refuses; else the arguments are the values that the call is issued with.
use Rattle.std.proofs.Common.{refl, sym, ap, ◌∙◌, arith}
use Rattle.whole.specs.Vocabulary.Refusing as Refusing
use Rattle.whole.proofs.Ranges.{handed}
use Rattle.rules.specs.Exec.{issued}
use Rattle.forms.proofs.Gathered.{fits, fits_not, gathered_fit, gathered_unfit}
use Rattle.forms.proofs.MakingLaws.{same_done}
use Rattle.forms.proofs.Written.{there, not_found, worked_out_lem, did_not_fit}
use Rattle.forms.proofs.making.calling.Goals as goal

pub returns-in_err-z : goal.returns-in_err-z
returns-in_err-z c m st ws at is = did_not_fit _ _ _ _ _ c.in_err-z.ensures.value c.from_residual.ensures.1

pub returns-in_err-locals : goal.returns-in_err-locals
unfolding Refusing.number_of
returns-in_err-locals c m st ws at is =
    worked_out_lem _ _ _ _ _ _ (there _ _ _ c.in_ok-z.ensures.value)
    (not_found _ _ _ _ _ _ c.in_err-locals.ensures.value c.from_residual-in_err-locals.ensures.1 (λ none. let u = fits_not _ (sym c.ok.ensures.value ∙ none) in gathered_unfit ws _ is u.0 u.1 _))

pub returns : goal.returns
returns c m st ws at is =
    let fit = fits _ _ (sym c.ok.ensures.value ∙ there _ _ _ c.in_ok-locals.ensures.value) in
    let g = gathered_fit ws _ is _ fit in
    let a = c.args in
    let z = sym (handed c.in_ok-z.z _ (omega arith) refl) in
    worked_out_lem _ _ _ _ c.in_ok-z.z _ (there _ _ _ c.in_ok-z.ensures.value)
    (same_done _ _ _ _ _ (g.works _ ∙ ap (λ z. issued m a.cells.now a.running.here.object.0 a.running.here.label.0 st a.x z a.method g.zs) z)
    (c.issued.ensures m st g.zs at (cc (fit, g.values)) g.count))
