-- Every label has lived as its stage says, and what is not issued has not lived: each step keeps that. Assumes nothing.
use Prim.Native.Nat.{ℕ, ◌+◌}
use mathlib.Core.Bool.{Bool, true, false}
use mathlib.Core.List.{List, [], ◌∷◌, ◌++◌, append-nil}
use mathlib.Core.Path.{◌≡◌, refl, sym, ap, ap₂, subst, ◌∙◌}
use native.Mathlib.Omega.{arith}
use borrow.Author.Tests.{eqb-true, eqb-false}
use lib.Dec.{eqb}
use lib.IntN.{pos}
use Rattle.whole.specs.Lists.{total_of}
use Rattle.whole.specs.Whole.{eq_z, nat}
use Rattle.layout.specs.Layout.{Cells, Write, written, of_call, caller}
use Rattle.layout.specs.Stages.{rows_in_use, stage_of}
use Rattle.model.specs.Model.{Model}
use Rattle.cells.specs.Configuration.{is_configuration}
use Rattle.rules.specs.declared.Choice.{Choice}
use Rattle.rules.specs.Events.{Event}
use Rattle.rules.specs.Exec.{next_row}
use Rattle.promises.specs.Histories.{subject, about}
use Rattle.promises.specs.Lives.{Issued, issued_by}
use Rattle.promises.proofs.Acts.{Act}
use Rattle.promises.proofs.Configured.{all_cells_lem, calls_counted}
use Rattle.promises.proofs.Counted.{act_counted}
use Rattle.promises.proofs.Kept.{kept_caller, kept_stage}
use Rattle.promises.proofs.Lived.{LivedTo, Living, about_own, about_other, about_append}
use Rattle.promises.proofs.Spared.{moved_by}

-- the lives of all labels, in some cells and after some history
pub record Alive (c : Cells) (h : List Event) : Type 0 where
  pub unborn : (l : ℕ) → (Issued c l → ⊥) → about l h ≡ []
  pub living : (l : ℕ) → Issued c l → Living c l (about l h)

-- a label is another, or that one
by_label : {A : Type 0} (l k : ℕ) → (l ≡ k → A) → ((l ≡ k → ⊥) → A) → A
by_label {A} l k same other = go (eqb l k) refl
  where
    go : (b : Bool) → eqb l k ≡ b → A
    go true e = same (eqb-true l k e)
    go false e = other (eqb-false l k e)

-- a call that goes from a stage to a stage
pub turned : (c d : Cells) (k s t : ℕ) (life es : List Event) → stage_of c k ≡ pos s → stage_of d k ≡ pos t → of_call d k caller ≡ of_call c k caller
    → (LivedTo k (eq_z (of_call c k caller) (pos 0)) s life → LivedTo k (eq_z (of_call c k caller) (pos 0)) t (life ++ es)) → Living c k life → Living d k (life ++ es)
turned c d k s t life es a b e on (n, i, h) =
    let same : n ≡ s = cc in
    (t, b, subst (λ z. LivedTo k (eq_z z (pos 0)) t (life ++ es)) (sym e) (on (subst (λ n. LivedTo k (eq_z (of_call c k caller) (pos 0)) n life) same h)))

-- how many calls there are after a step
pub rows_after : {m : Model} {c : Cells} {choice : Choice} {ws : List Write} {es : List Event} → Act m c choice ws es → is_configuration m c ≡ true
    → rows_in_use (written c ws) ≡ rows_in_use c + total_of issued_by es
unfolding nat rows_in_use
rows_after {m} {c} {choice} a is = ap nat (act_counted m c choice (all_cells_lem m c is) (rows_in_use c) (calls_counted m c is) a)

module _ {m : Model} {c : Cells} {choice : Choice} {ws : List Write} {es : List Event} (a : Act m c choice ws es) (is : is_configuration m c ≡ true)
    (h : List Event) (alive : Alive c h) where
  -- a call that is not moved lives on as it was
  lives_on : (l : ℕ) → Issued c l → (l ≡ moved_by a → ⊥) → about l es ≡ [] → Living (written c ws) l (about l (h ++ es))
  lives_on l (low, high) ne none =
      let (s, st, lived) = alive.living l (low, high) in
      let same : about l (h ++ es) ≡ about l h = about_append l h es ∙ ap (λ t. about l h ++ t) none ∙ append-nil (about l h) in (
        s,
        kept_stage a l high ne ∙ st,
        subst (LivedTo l (eq_z (of_call (written c ws) l caller) (pos 0)) s) (sym same)
            (subst (λ z. LivedTo l (eq_z z (pos 0)) s (about l h)) (sym (kept_caller a l high)) lived),
      )

  -- a step that moves one call at most, and issues none
  pub moves_alive : total_of issued_by es ≡ 0 → ((l : ℕ) → (Issued c l → l ≡ moved_by a → ⊥) → about l es ≡ [])
      → (Issued c (moved_by a) → (life : List Event) → Living c (moved_by a) life → Living (written c ws) (moved_by a) (life ++ about (moved_by a) es))
      → Alive (written c ws) (h ++ es)
  moves_alive none others own = record {
    unborn = λ l n.
        let not-issued : Issued c l → ⊥ = λ (low, high). n (low, omega (arith, rows_after a is)) in
        about_append l h es ∙ ap₂ ◌++◌ (alive.unborn l not-issued) (others l (λ i e. not-issued i));
    living = λ l (low, high).
        let i : Issued c l = (low, omega (arith, rows_after a is)) in
        by_label l (moved_by a)
        (λ e. subst (λ k. Living (written c ws) k (about k (h ++ es))) (sym e)
        (subst (Living (written c ws) (moved_by a)) (sym (about_append (moved_by a) h es))
        (own (subst (Issued c) e i) (about (moved_by a) h) (alive.living (moved_by a) (subst (Issued c) e i)))))
        (λ ne. lives_on l i ne (others l (λ i e. ne e)));
  }

  -- a step that moves none, and of which there is no event
  pub still_alive : es ≡ [] → moved_by a ≡ 0 → Alive (written c ws) (h ++ es)
  unfolding total_of about
  still_alive e z =
      moves_alive (ap (total_of issued_by) e) (λ l n. ap (about l) e) (λ (low, high). absurd (omega arith))

  -- a step that issues the next label
  pub grows_alive : (e : Event) → es ≡ e ∷ [] → issued_by e ≡ 1 → subject e ≡ next_row c → moved_by a ≡ 0 → Living (written c ws) (next_row c) (e ∷ [])
      → Alive (written c ws) (h ++ es)
  unfolding total_of next_row
  grows_alive e is_one one sub none new =
      let n : total_of issued_by es ≡ 1 = ap (total_of issued_by) is_one ∙ ap (λ n. n + 0) one in
      let other : (l : ℕ) → (l ≡ rows_in_use c + 1 → ⊥) → about l es ≡ [] =
      λ l ne. ap (about l) is_one ∙ about_other e l (λ s. ne (sym s ∙ sub)) in
      let own : about (rows_in_use c + 1) (h ++ es) ≡ e ∷ [] =
      about_append (rows_in_use c + 1) h es
      ∙ ap₂ ◌++◌ (alive.unborn (rows_in_use c + 1) (λ (low, high). omega arith)) (ap (about (rows_in_use c + 1)) is_one ∙ about_own e (rows_in_use c + 1) sub) in
      record {
        unborn = λ l n'.
            let not-next : l ≡ rows_in_use c + 1 → ⊥ = λ s. n' (omega arith, omega (arith, rows_after a is)) in
            about_append l h es ∙ ap₂ ◌++◌ (alive.unborn l (λ (low, high). n' (low, omega (arith, rows_after a is)))) (other l not-next);
        living = λ l (low, high).
            by_label l (rows_in_use c + 1)
            (λ s. subst (λ k. Living (written c ws) k (about k (h ++ es))) (sym s) (subst (Living (written c ws) (rows_in_use c + 1)) (sym own) new))
            (λ ne. lives_on l (low, omega (arith, rows_after a is)) (λ s. omega arith) (other l ne));
      }
