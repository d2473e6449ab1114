-- What an entry knows of a text that it has judged: number 0 says that it is accepted, and then its rows and shapes belong to it. Assumes
-- nothing.
use Rattle.std.specs.Prelude.{Ok, Err}
use Prim.Native.Nat.{ℕ}
use mathlib.Core.List.{List}
use mathlib.Core.Path.{◌≡◌, refl, sym, ap, ◌∙◌}
use native.Mathlib.Omega.{arith}
use Rattle.terms.specs.Bytes.{Text}
use Rattle.text.specs.declared.Verdict.{Verdict}
use Rattle.model.specs.Judge.{Judged, refusal, model, judged, verdict_of, judge}
use Rattle.model.specs.Model.{Model}
use Rattle.model.specs.Vocabulary.Belonging.{Belongs, Shaped}
use Rattle.model.specs.Vocabulary.Judging.{accepted_or}
use Rattle.model.specs.Vocabulary.Known.{model_of, Known}
use Rattle.model.specs.Vocabulary.Table.{Table, Sized}
use Rattle.model.proofs.CountsOfNew.{verdict_refusal}
use Rattle.model.proofs.VerdictBounds.{refusal_number}
use Rattle.model.proofs.Verdicts.{judge_verdict}

-- the model of an accepted text
pub model_of_lem : (s : Text) (m : Model) → judged s ≡ model m → model_of s ≡ m
unfolding model_of
model_of_lem s m e = rw (e, model_of) refl

-- a text with number 0 gives a model
judged_accepted : (s : Text) → (judge s).number ≡ 0 → judged s ≡ model (model_of s)
judged_accepted s z = go (judged s) refl
  where
    go : (j : Judged) → judged s ≡ j → judged s ≡ model (model_of s)
    go (refusal w) e =
        let f : (judge s).number ≡ w.number = ap (λ (v : Verdict). v.number) (judge_verdict s ∙ ap verdict_of e ∙ verdict_refusal w) in
        absurd (omega (arith, (refusal_number s w e).0))
    go (model m) e = e ∙ ap model (sym (model_of_lem s m e))

-- so much is known where `read` gave number 0
pub known : (s : Text) (t : Table) (x : List ℕ) → Sized t x → (v : Verdict) → v ≡ judge s → v.number ≡ 0
    → ((m : Model) → judged s ≡ model m → Belongs s t m × Shaped t x m) → Known s t x
known s t x sized v e z told =
    let a = judged_accepted s (ap (λ (w : Verdict). w.number) (sym e) ∙ z) in
    let b = told (model_of s) a in
    record { accepted = a; rows = b.0; shapes = b.1; sized = sized }

-- a text that was refused nothing gives a model
pub accepted_text : (s : Text) (u : Unit {0}) → accepted_or (judged s) ≡ Ok u → judged s ≡ model (model_of s)
unfolding accepted_or
accepted_text s u e = go (judged s) refl
  where
    go : (j : Judged) → judged s ≡ j → judged s ≡ model (model_of s)
    go (refusal w) h = let f : accepted_or (refusal w) ≡ Ok u = sym (ap accepted_or h) ∙ e in cc
    go (model m) h = h ∙ ap model (sym (model_of_lem s m h))

-- so much is known where it is accepted, by the three clauses of `read`
pub known_read : (s : Text) (t : Table) (x : List ℕ) → Sized t x → (u : Unit {0}) → accepted_or (judged s) ≡ Ok u
    → ((m : Model) → judged s ≡ model m → Belongs s t m × Shaped t x m) → Known s t x
known_read s t x sized u e told =
    let a = accepted_text s u e in
    let b = told (model_of s) a in
    record { accepted = a; rows = b.0; shapes = b.1; sized = sized }
