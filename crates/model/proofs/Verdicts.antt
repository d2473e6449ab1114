-- The verdict on a text by how it ends, and the table that belongs to it where it is accepted. Assumes nothing.
use Rattle.std.specs.Prelude.{Result, Ok, Err}
use Prim.Native.Nat.{ℕ, suc, ◌+◌, ◌*◌, ◌≤◌, ◌<◌}
use mathlib.Core.Bool.{Bool, true, false}
use mathlib.Core.List.{List, [], ◌∷◌}
use mathlib.Core.Path.{◌≡◌, refl, sym, ap, subst, ◌∙◌}
use native.Mathlib.Omega.{arith}
use borrow.Author.Tests.{lt-ltb, le-ltb}
use lib.ListN.{length, drop}
use lib.Seq.{drop-cons}
use Rattle.whole.specs.Lists.{EachFrom}
use Rattle.std.specs.Result.{MatchResult}
use Rattle.whole.specs.Refusals.{accepted, text_too_long, broken_line, wrong_key}
use Rattle.terms.specs.Bytes.{Text, byte_at}
use Rattle.terms.specs.declared.Limits.{Limits}
use Rattle.text.specs.declared.At.{At}
use Rattle.text.specs.declared.Verdict.{Verdict}
use Rattle.text.specs.InOrder.{failed, after}
use Rattle.text.specs.Lines.{Line, lines, sound, longest_text}
use Rattle.text.specs.Vocabulary.Readings.{read_at, lowest_of, fault, begin}
use Rattle.text.proofs.Cutting.{line_none, lines_some}
use Rattle.code.specs.Statements.{Code}
use Rattle.model.specs.Bounds.{all_lines}
use Rattle.model.specs.Judge.{Judged, refusal, model, counts_judged, end_judged, judged, verdict_of, judge}
use Rattle.model.specs.Model.{Class, Model}
use Rattle.model.specs.ModelText.{SoFar, read_model}
use Rattle.model.specs.Vocabulary.Belonging.{LineTold, ClassTold, Belongs, Shaped}
use Rattle.model.specs.Vocabulary.Creations.{GivenTold}
use Rattle.model.specs.Vocabulary.Judging.{accepted_or}
use Rattle.model.specs.Vocabulary.Table.{Table, row_at, class_row, classes_in}
use Rattle.model.proofs.AcceptedJudged.{Ends, text_ends}
use Rattle.model.proofs.CountsOfNew.{verdict_model, verdict_refusal}
use Rattle.model.proofs.Framing.{same_self, class_kept}
use Rattle.model.proofs.TableRows.{each_keep}

-- the end of a text whose classes are all read, and the first line left over
module _ (r : Model × SoFar) (at : ℕ) where
  end_none : end_judged (after r at []) ≡ counts_judged r.0 r.1.creations
  unfolding end_judged
  end_none = refl

  end_left : (l : Line) (ls : List Line) → end_judged (after r at (l ∷ ls)) ≡ refusal (record { number = lowest_of wrong_key (l ∷ ls); line = at })
  unfolding end_judged lowest_of
  end_left l ls = go (sound l)
    where
      go : (b : Bool) → (let x : Judged = elim b [ false ↦ refusal (record { number = broken_line; line = at }) | true ↦ refusal (record { number = wrong_key; line = at }) ] in
          x ≡ refusal (record { number = elim b [ true ↦ wrong_key | false ↦ broken_line ]; line = at }))
      go true = refl
      go false = refl

-- the same at a place of the text, as the code finds it
module _ (s : Text) (r : Model × SoFar) (p : At) where
  abbrev ended : Judged
  ended = end_judged (after r p.line (lines (drop p.place s)))

  pub left_none : length s ≤ p.place → ended ≡ counts_judged r.0 r.1.creations
  left_none h = ap (λ ls. end_judged (after r p.line ls)) (line_none s p.place h) ∙ end_none r p.line

  pub left_some : p.place < length s → ended ≡ refusal (fault s wrong_key p)
  left_some h =
      let m = lines_some (byte_at s p.place) (drop (suc p.place) s) in
      let cut : lines (drop p.place s) ≡ m.0 ∷ m.1 = ap lines (drop-cons s p.place 0 h) ∙ m.2 in
      ap (λ ls. end_judged (after r p.line ls)) cut ∙ end_left r p.line m.0 m.1 ∙ ap (λ ls. refusal (record { number = lowest_of wrong_key ls; line = p.line })) (sym cut)

-- a text that is too long, and any other by its lines
pub judged_long : (s : Text) → longest_text < length s → judged s ≡ refusal (record { number = text_too_long; line = 0 })
unfolding judged
judged_long s h = rw (lt-ltb _ _ h, judged) refl

pub judged_short : (s : Text) → length s ≤ longest_text → judged s ≡ end_judged (read_at read_model s begin)
unfolding judged
judged_short s h = rw (le-ltb _ _ h, judged) refl

-- a text whose reading is refused
pub end_failed : (v : Verdict) → end_judged (failed v) ≡ refusal v
unfolding end_judged
end_failed v = refl

-- a text that is refused is no model
no_model : (v : Verdict) (m : Model) → refusal v ≡ model m → ⊥
no_model v m e = let z : ◌≡◌ {A = ℕ} 0 1 = cc in omega arith

-- an answer by what it is of: a refusal, or a model
pub refused_as : (v : Verdict) → Err v ≡ accepted_or (refusal v)
unfolding accepted_or
refused_as v = refl

pub accepted_as : (m : Model) → Ok tt ≡ accepted_or (model m)
unfolding accepted_or
accepted_as m = refl

-- the verdict is that of the text as it is judged
pub judge_verdict : (s : Text) → judge s ≡ verdict_of (judged s)
unfolding judge
judge_verdict s = refl

-- and so is the one that an answer tells
module _ (s : Text) where
  pub verdict_accepted : Ok tt ≡ accepted_or (judged s) → record { number = accepted; line = 0 } ≡ judge s
  verdict_accepted e = go (judged s) refl
    where
      go : (j : Judged) → judged s ≡ j → record { number = accepted; line = 0 } ≡ judge s
      go (refusal v) f = absurd (subst (λ q. MatchResult q (λ _. Unit {0}) (λ _. ⊥)) (e ∙ ap accepted_or f ∙ sym (refused_as v)) tt)
      go (model m) f = sym (judge_verdict s ∙ ap verdict_of f ∙ verdict_model m)

  pub verdict_refused : (v : Verdict) → Err v ≡ accepted_or (judged s) → v ≡ judge s
  verdict_refused v e = go (judged s) refl
    where
      go : (j : Judged) → judged s ≡ j → v ≡ judge s
      go (refusal w) f = sym (subst (λ q. MatchResult q (λ _. ⊥) (λ y. y ≡ v)) (e ∙ ap accepted_or f ∙ sym (refused_as w)) refl) ∙ sym (judge_verdict s ∙ ap verdict_of f ∙ verdict_refusal w)
      go (model m) f = absurd (subst (λ q. MatchResult q (λ _. ⊥) (λ _. Unit {0})) (e ∙ ap accepted_or f ∙ sym (accepted_as m)) tt)

-- what `read` says of a text that is refused
pub told_refusal : (s : Text) (t : Table) (x : List ℕ) (v : Verdict) → judged s ≡ refusal v
    → (Err v ≡ accepted_or (judged s)) × ((m : Model) → judged s ≡ model m → Belongs s t m × Shaped t x m)
unfolding accepted_or
told_refusal s t x v e = (sym (ap accepted_or e), λ m f. absurd (no_model v m (sym e ∙ f)))

-- a text whose end gives a model gives the one that was read
end_model : (r : Model × SoFar) (at : ℕ) (ls : List Line) (n : Model) → end_judged (after r at ls) ≡ model n → r.0 ≡ n
unfolding Ends
end_model r at ls n e = (subst (Ends r.0 r.1.creations at) e (text_ends r at ls)).0

-- a table that tells all classes of a model belongs to its text, with its shapes, and tells what each class is to be given
module _ (s : Text) (t : Table) (x : List ℕ) (n : ℕ) (most : n ≤ all_lines) (m : Model) (told : EachFrom (ClassTold t n (LineTold s (length m) t x)) 0 m) where
  all_told : (Q : Limits → ℕ → Code → Type 0) → ((lim : Limits) (i : ℕ) (c : Code) → LineTold s (length m) t x lim i c → Q lim i c) → EachFrom (ClassTold t all_lines Q) 0 m
  all_told Q h = each_keep _ _ 0 m (λ k c _ _. class_kept (same_self t x (suc k) (8 * k + 8) 0) n all_lines most _ Q (λ lim i c _. h lim i c) k c (omega arith) (omega arith)) told

  all_belongs : classes_in t ≡ length m → Belongs s t m
  unfolding Belongs LineTold
  all_belongs e = (e, all_told _ (λ lim i c h. h.0))

  all_shaped : length x ≡ all_lines → Shaped t x m
  unfolding Shaped LineTold
  all_shaped l = (l, all_told _ (λ lim i c h. h.1))

  pub all_given : GivenTold t m
  unfolding ClassTold
  all_given = each_keep _ (λ k (c : Class). (row_at t (class_row k)).1 ≡ c.given) 0 m (λ k c _ _ h. h.1) told

  -- what `read` says of a text whose classes are all read
  pub told_end : (so : SoFar) (at : ℕ) (ls : List Line) (v : Result (Unit {0}) Verdict) → judged s ≡ end_judged (after (m, so) at ls) → v ≡ accepted_or (end_judged (after (m, so) at ls)) → classes_in t ≡ length m → length x ≡ all_lines
      → (v ≡ accepted_or (judged s)) × ((n : Model) → judged s ≡ model n → Belongs s t n × Shaped t x n)
  told_end so at ls v e f b l = (
    f ∙ sym (ap accepted_or e),
    λ n g. subst (λ k. Belongs s t k × Shaped t x k) (end_model (m, so) at ls n (sym e ∙ g)) (all_belongs b, all_shaped l),
  )
