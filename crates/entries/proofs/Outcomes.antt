-- What an entry gives, by what the tests before its own part said. Assumes nothing.
use Rattle.std.specs.Prelude.{Ok, Err}
use Prim.Native.Nat.{ℕ}
use mathlib.Core.Bool.{Bool, true, false}
use mathlib.Core.List.{List, []}
use mathlib.Core.Logic.{◌≢◌}
use mathlib.Core.Path.{◌≡◌, refl, sym, ap, ap₂, ◌∙◌}
use native.Mathlib.Omega.{arith}
use borrow.Author.Tests.{eq-eqb, ne_eqb}
use lib.IntN.{ℤ}
use lib.ListN.{length}
use Rattle.whole.specs.Refusals.{accepted, cells_not_all, no_configuration}
use Rattle.whole.specs.Vocabulary.Refusing.{Answer, number_given}
use Rattle.layout.specs.Layout.{Cells, all_cells}
use Rattle.terms.specs.Bytes.{Text}
use Rattle.text.specs.declared.Verdict.{Verdict}
use Rattle.model.specs.Judge.{Judged, refusal, model, judged}
use Rattle.model.specs.Model.{Model}
use Rattle.model.specs.Vocabulary.Judging.{accepted_or}
use Rattle.model.specs.Vocabulary.Known.{model_of}
use Rattle.model.proofs.Knowing.{accepted_text}
use Rattle.model.proofs.VerdictBounds.{refusal_number}
use Rattle.cells.specs.Configuration.{is_configuration}
use Rattle.cells.specs.Fresh.{fresh}
use Rattle.rules.specs.declared.Choice.{Choice}
use Rattle.rules.specs.Step.{next}
use Rattle.forms.specs.Vocabulary.Done.{Done}
use Rattle.engine.specs.Run.{run_cells}
use Rattle.engine.specs.Entries.{Outcome, outcome, at_no_line, on_model, on_configuration, start, step}
use Rattle.entries.specs.Vocabulary.Checked.{Refuses, GoesOn}

-- what judging told of a text that was refused
refused_text : (s : Text) (v : Verdict) → accepted_or (judged s) ≡ Err v → judged s ≡ refusal v
unfolding accepted_or
refused_text s v e = go (judged s) refl
  where
    go : (j : Judged) → judged s ≡ j → judged s ≡ refusal v
    go (refusal w) h = let f : accepted_or (refusal w) ≡ Err v = sym (ap accepted_or h) ∙ e in let g : w ≡ v = cc in h ∙ ap refusal g
    go (model m) h = let f : accepted_or (model m) ≡ Err v = sym (ap accepted_or h) ∙ e in cc

-- the text, then 10
module _ (s : Text) (c : Cells) where
  pub text_refused : (v : Verdict) → accepted_or (judged s) ≡ Err v → Refuses (on_model s c) c v
  unfolding on_model
  text_refused v e =
      let f = refused_text s v e in
      record { number = λ z. omega (arith, (refusal_number s v f).0); gives = λ answers go. rw (f, on_model) }

  module _ (u : Unit {0}) (e : accepted_or (judged s) ≡ Ok u) where
    pub not_all : length c ≢ all_cells → (v : Verdict) → v ≡ at_no_line cells_not_all → Refuses (on_model s c) c v
    unfolding on_model at_no_line
    not_all n v is = record {
      number = λ z. let y : v.number ≡ cells_not_all = ap (λ (w : Verdict). w.number) is in omega arith;
      gives = λ answers go. rw (accepted_text s u e, on_model, ne_eqb (length c) all_cells n) (ap (λ w. outcome w c answers) (sym is));
    }

    pub all_there : length c ≡ all_cells → GoesOn (on_model s c) (model_of s)
    unfolding on_model
    all_there h = record { gives = λ answers go. rw (accepted_text s u e, on_model, eq-eqb (length c) all_cells h) refl }

-- then 11
module _ (s : Text) (c : Cells) where
  pub stopped : (v : Verdict) → Refuses (on_model s c) c v → Refuses (on_configuration s c) c v
  unfolding on_configuration
  stopped v h = record { number = h.number; gives = λ answers go. h.gives answers _ }

  module _ (m : Model) (h : GoesOn (on_model s c) m) where
    -- the model has these cells, or it has not
    with_test : (b : Bool) → is_configuration m c ≡ b → (answers : List ℤ) (go : Model → Outcome)
        → on_configuration s c answers go ≡ elim b [ true ↦ go m | false ↦ outcome (at_no_line no_configuration) c answers ]
    unfolding on_configuration
    with_test b e answers go = h.gives answers _ ∙ ap (λ b. elim b [ true ↦ go m | false ↦ outcome (at_no_line no_configuration) c answers ]) e

    pub not_configured : is_configuration m c ≡ false → (v : Verdict) → v ≡ at_no_line no_configuration → Refuses (on_configuration s c) c v
    unfolding at_no_line
    not_configured e v is = record {
      number = λ z. let y : v.number ≡ no_configuration = ap (λ (w : Verdict). w.number) is in omega arith;
      gives = λ answers go. with_test false e answers go ∙ ap (λ w. outcome w c answers) (sym is);
    }

    pub configured : is_configuration m c ≡ true → GoesOn (on_configuration s c) m
    configured e = record { gives = with_test true e }

-- the parts of an outcome that has no steps
pub record Gives (o : Outcome) (v : Verdict) (c : Cells) (b : List ℤ) : Type 0 where
  pub verdict : v ≡ o.verdict
  pub cells : c ≡ o.cells
  pub answers : b ≡ o.answers
  pub steps : 0 ≡ o.steps
  pub quiet : false ≡ o.quiet

pub gives : (o : Outcome) (v : Verdict) (c : Cells) (b : List ℤ) → o ≡ outcome v c b → Gives o v c b
unfolding outcome
gives o v c b e = record {
  verdict = ap (λ (p : Outcome). p.verdict) (sym e);
  cells = ap (λ (p : Outcome). p.cells) (sym e);
  answers = ap (λ (p : Outcome). p.answers) (sym e);
  steps = ap (λ (p : Outcome). p.steps) (sym e);
  quiet = ap (λ (p : Outcome). p.quiet) (sym e);
}

-- start: refused, and accepted
module _ (s : Text) (c : Cells) where
  pub start_stopped : (v : Verdict) → Refuses (on_model s c) c v → (v ≡ (start s c).verdict) × (c ≡ (start s c).cells)
  unfolding start
  start_stopped v h = let g = gives _ v c [] (h.gives [] _) in (g.verdict, g.cells)

  pub start_goes : (m : Model) → GoesOn (on_model s c) m → (at_no_line accepted ≡ (start s c).verdict) × (fresh ≡ (start s c).cells)
  unfolding start
  start_goes m h = let g = gives _ (at_no_line accepted) fresh [] (h.gives [] _) in (g.verdict, g.cells)

  -- step: refused before the choice, and the choice's own answer
  module _ (choice : Choice) where
    pub step_stopped : (v : Verdict) → Refuses (on_configuration s c) c v → (v ≡ (step s c choice).verdict) × (c ≡ (step s c choice).cells)
    unfolding step
    step_stopped v h = let g = gives _ v c [] (h.gives [] _) in (g.verdict, g.cells)

    pub step_goes : (m : Model) → GoesOn (on_configuration s c) m → (answer : Answer) (d : Cells) → Done c (next m c choice) answer d
        → (at_no_line (number_given answer) ≡ (step s c choice).verdict) × (d ≡ (step s c choice).cells)
    unfolding step run_cells
    step_goes m h answer d done =
        let g = gives _ (at_no_line (number_given answer)) d [] (h.gives [] _ ∙ ap₂ (λ r d. outcome (at_no_line r) d []) (sym done.0) (sym done.1)) in
        (g.verdict, g.cells)
