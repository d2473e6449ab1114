-- `forms::making::creating`: arguments that fit are the values that the object is made of, and others refuse.
use Rattle.std.proofs.Common.{sym, ◌∙◌}
use Rattle.whole.specs.Vocabulary.Refusing as Refusing
use Rattle.forms.proofs.Gathered.{fits, fits_not, gathered_fit, gathered_unfit}
use Rattle.forms.proofs.MakingLaws.{same_done}
use Rattle.forms.proofs.Written.{there, not_found}
use Rattle.forms.proofs.making.creating.Goals as goal

pub returns-in_err-attributes : goal.returns-in_err-attributes
unfolding Refusing.number_of
returns-in_err-attributes c m st ws at runs is =
    not_found _ _ _ _ _ _ c.in_err-attributes.ensures.value c.from_residual.ensures.1 (λ none. let u = fits_not _ (sym c.ok.ensures.value ∙ none) in gathered_unfit ws _ is u.0 u.1 _)

pub returns : goal.returns
returns c m st ws at runs is =
    let fit = fits _ _ (sym c.ok.ensures.value ∙ there _ _ _ c.in_ok-attributes.ensures.value) in
    let g = gathered_fit ws _ is _ fit in
    same_done _ _ _ _ _ (g.works _) (c.created.ensures m st g.zs at runs (cc (fit, g.values)))
