-- A proof that computes with the definitions of this crate and of all below it says `unfolding model_open`. Assumes nothing.
use Rattle.text.proofs.Open.{text_open}
use Rattle.code.proofs.Open.{code_open}
use Rattle.model.specs.Vocabulary.Creations
use Rattle.model.specs.Judge
use Rattle.model.specs.Model
use Rattle.model.specs.ModelText
use Rattle.model.specs.Vocabulary.Table

unfoldable pub model_open : Unit {0}
unfolding code_open text_open Judge.given_to Judge.counts_judged Judge.end_judged ModelText.creations_of ModelText.may_stand ModelText.standing
    ModelText.code_line ModelText.lines_begun ModelText.zero_if ModelText.read_method ModelText.read_class ModelText.read_model Judge.judged
    Judge.verdict_of Judge.judge Creations.new_number Creations.creation_told Creations.creations_from Creations.new_fits Model.runs Model.takes
    Model.method_of Model.binds_to Table.row_at Table.classes_in Table.put
model_open = tt
