-- What a text is judged to be: it gives a model as the document says, or a refusal with a small number and line. Assumes nothing.
use Rattle.std.specs.Prelude.{Some, slice_get}
use Prim.Native.Nat.{ℕ, suc, ◌≤◌}
use mathlib.Core.Bool.{Bool, true, false}
use mathlib.Core.List.{List, [], ◌∷◌}
use mathlib.Core.Path.{◌≡◌, refl, subst, ◌∙◌}
use native.Mathlib.Omega.{arith}
use borrow.Author.Tests.{ltb-false, eqb-true}
use lib.Dec.{ltb, eqb}
use lib.ListN.{length}
use Rattle.whole.specs.Lists.{Every}
use Rattle.whole.specs.Refusals.{text_too_long, broken_line, wrong_key, wrong_code}
use Rattle.terms.specs.Bytes.{Text}
use Rattle.text.specs.InOrder.{LinesRead, failed, after}
use Rattle.text.specs.Lines.{Line, terminated, unterminated, grown, lines, line_feed, sound, longest_text}
use Rattle.text.proofs.Bringing.{Refusing, Along, Brought}
use Rattle.model.specs.Accepted.{AcceptedNew, AcceptedModel}
use Rattle.model.specs.Judge.{Judged, refusal, model, given_to, counts_judged, end_judged, judged}
use Rattle.model.specs.Model.{Class, Model}
use Rattle.model.specs.ModelText.{Creation, SoFar, read_model}
use Rattle.model.proofs.CountsOfNew.{given_of}
use Rattle.model.proofs.ModelTold.{Before, Noted, ModelRead, brings_model}

-- a class and a count of arguments that fit: "exactly the given count of class K"
abbrev Fitting : Model → ℕ × ℕ → Type 0
Fitting m n = (k : Class) → slice_get m n.0 ≡ Some k → n.1 ≡ k.given

-- what a text is judged to be, by the model and the `new`s that were read of it: the model is given, and each `new` fits; or there is a refusal,
-- at the line of a `new` or at the line that was reached
unfoldable pub Ends : Model → List Creation → ℕ → Judged → Type 0
Ends m cs at (model n) = (m ≡ n) × Noted (Fitting m) cs
Ends m cs at (refusal v) = Refusing v.number × ((last : ℕ) → Before last cs → at ≤ last → v.line ≤ last)

counts_end : (m : Model) (cs : List Creation) (at : ℕ) → Ends m cs at (counts_judged m cs)
unfolding counts_judged Every Ends
counts_end m [] at = (refl, tt)
counts_end m (c ∷ cs) at = go (eqb c.count (given_to m c.class)) refl (counts_judged m cs) (counts_end m cs at)
  where
    go : (b : Bool) → eqb c.count (given_to m c.class) ≡ b → (j : Judged) → Ends m cs at j
        → Ends m (c ∷ cs) at (elim b [ true ↦ j | false ↦ refusal (record { number = wrong_code; line = c.at }) ])
    go true f (model n) w = (w.0, ((λ k g. eqb-true _ _ f ∙ given_of m c.class k g), w.1))
    go true f (refusal v) w = (w.0, λ last h. w.1 last h.1)
    go false f j w = ((omega arith, omega arith), λ last h n. h.0)

pub text_ends : (r : Model × SoFar) (at : ℕ) (ls : List Line) → Ends r.0 r.1.creations at (end_judged (after r at ls))
unfolding end_judged Ends
text_ends r at [] = counts_end r.0 r.1.creations at
text_ends r at (l ∷ ls) = go (sound l)
  where
    go : (b : Bool) → Ends r.0 r.1.creations at (elim b [ false ↦ refusal (record { number = broken_line; line = at }) | true ↦ refusal (record { number = wrong_key; line = at }) ])
    go false = ((omega arith, omega arith), λ last h n. n)
    go true = ((omega arith, omega arith), λ last h n. n)

-- a text has no more lines than bytes
grown_length : (b : ℕ) (ls : List Line) → length (grown b ls) ≤ suc (length ls)
unfolding grown
grown_length b [] = omega arith
grown_length b (terminated l ∷ ls) = omega arith
grown_length b (unterminated l ∷ ls) = omega arith

lines_length : (s : Text) → length (lines s) ≤ length s
unfolding lines
lines_length [] = omega arith
lines_length (b ∷ s) = go (eqb b line_feed) (lines_length s)
  where
    go : (t : Bool) → length (lines s) ≤ length s → length {A = Line} (elim t [ true ↦ terminated [] ∷ lines s | false ↦ grown b (lines s) ]) ≤ suc (length s)
    go true h = omega arith
    go false h = omega (arith, grown_length b (lines s))

-- a model as the document says, or a small refusal
unfoldable pub Fair : Judged → Type 0
Fair (refusal v) = Refusing v.number × (v.line ≤ 32769)
Fair (model m) = AcceptedModel m

end_fair : (x : LinesRead (Model × SoFar)) → ((F : ℕ × ℕ → Type 0) → Brought 32769 (Along (ModelRead 32769 F)) x) → Fair (end_judged x)
unfolding end_judged Fair Brought Ends AcceptedNew
end_fair (failed v) w = w (λ _. Unit {0})
end_fair (after r at ls) w = go (end_judged (after r at ls)) (text_ends r at ls)
  where
    go : (j : Judged) → Ends r.0 r.1.creations at j → Fair j
    go (refusal v) h = let t = w (λ _. Unit {0}) in (h.0, h.1 32769 t.1.before (omega arith))
    go (model m) h =
        let t = (w (Fitting r.0)).1 in
        subst AcceptedModel h.0 (record { count = t.count; classes = t.classes; lines = t.lines; news = t.news h.1 })

-- so is every text judged
pub judged_fair : (s : Text) → Fair (judged s)
unfolding judged Fair
judged_fair s = go (ltb longest_text (length s)) refl
  where
    go : (b : Bool) → ltb longest_text (length s) ≡ b → Fair (elim b [ true ↦ refusal (record { number = text_too_long; line = 0 }) | false ↦ end_judged (read_model 1 (lines s)) ])
    go true e = ((omega arith, omega arith), omega arith)
    go false e = end_fair _ (λ F. brings_model 32769 F 1 (lines s) (omega (arith, lines_length s, ltb-false longest_text (length s) e)))

-- what an accepted model is like
pub model_accepted : (s : Text) (m : Model) → judged s ≡ model m → AcceptedModel m
unfolding Fair
model_accepted s m e = subst Fair e (judged_fair s)
