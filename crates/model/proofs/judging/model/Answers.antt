-- `model::judging::model`: its numbers one after another, each refused or passed, and the model's own row.
use borrow.Author.Rules.{rules}
use Rattle.text.specs.InOrder.{◌>>=◌}
use Rattle.text.specs.Vocabulary.Readings.{Tells}
use Rattle.text.proofs.Onward.{told_got}
use Rattle.model.specs.ModelText.{read_model}
use Rattle.model.specs.Vocabulary.Creations.{creations_from}
use Rattle.model.proofs.Passing.{most}
use Rattle.model.proofs.Puts.{model_put}
use Rattle.model.proofs.judging.model.Goals as goal

pub returns-in_err-at-clause-told : goal.returns-in_err-at-clause-told
unfolding Tells read_model ◌>>=◌
returns-in_err-at-clause-told c = search rules

pub returns-in_err-count-clause-told : goal.returns-in_err-count-clause-told
unfolding Tells read_model ◌>>=◌
returns-in_err-count-clause-told c = search rules

pub returns-in_err-read-clause-told : goal.returns-in_err-read-clause-told
unfolding Tells read_model ◌>>=◌ creations_from
returns-in_err-read-clause-told c = search rules

pub returns-clause-told : goal.returns-clause-told
unfolding Tells read_model ◌>>=◌ creations_from
returns-clause-told c =
    let few = most _ _ _ _ _ _ _ c.number_line-2.ensures c.in_ok-count.was in
    let classes = told_got _ _ _ _ c.all_classes.ensures _ _ c.in_ok-read.was in
    (classes.0, search rules, classes.2, model_put _ _ _ _ _ _ _ classes.0 few _ (search rules) c.put.ensures classes.3)
