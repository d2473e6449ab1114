-- Each rule keeps the lives: case by case. Assumes nothing.
use Prim.Native.Nat.{ℕ, ◌+◌, ◌≤◌}
use mathlib.Core.Bool.{Bool, true, false}
use mathlib.Core.List.{List, [], ◌∷◌, ◌++◌, append_assoc}
use mathlib.Core.Path.{◌≡◌, refl, sym, ap, subst, ◌∙◌}
use native.Mathlib.Omega.{arith}
use borrow.Author.Tests.{ne_eqb}
use lib.IntN.{ℤ, pos}
use Rattle.whole.specs.Lists.{total_of}
use Rattle.whole.specs.Whole.{eq_z, nat}
use Rattle.layout.specs.Layout.{Cells, Place, call, call_rows, Write, written, of_call, to_call, to_object, running_label, stage, caller, callee, cleared, value}
use Rattle.layout.specs.Stages.{stage_of, staged, invoked, queued, bound, running, answered, replied, taken}
use Rattle.layout.proofs.Laws.{length_written}
use Rattle.model.specs.Accepted.{AcceptedModel}
use Rattle.model.specs.Model.{Model}
use Rattle.cells.specs.Configuration.{is_configuration}
use Rattle.cells.specs.Standing.{Standing}
use Rattle.cells.proofs.Configured.{configured}
use Rattle.cells.proofs.FromTest.{stage_is}
use Rattle.layout.proofs.Writes.{written_append}
use Rattle.rules.specs.declared.Choice.{Choice}
use Rattle.rules.specs.Events.{Event, issuing, spawning, arriving, binding, returning, delivering, taking}
use Rattle.rules.specs.Exec.{stored, next_object, next_row, with_object, with_call, onward, suspended, freed, stage_returned}
use Rattle.rules.specs.declared.Kind.{Kind}
use Rattle.rules.specs.Messages.{started}
use Rattle.rules.proofs.Messaging.{label_row}
use Rattle.layout.proofs.Sparing.{last_in_row}
use Rattle.promises.specs.Histories.{subject, about}
use Rattle.promises.specs.Lives.{Issued, issued_by}
use Rattle.promises.proofs.Acts.{Act, Chosen, goes, jumps, stores, crosses, creates, spawns, issues, takes, suspends, returns, arrives, binds, starts, delivers}
use Rattle.promises.proofs.Alive.{Alive, turned, moves_alive, still_alive, grows_alive}
use Rattle.promises.proofs.Configured.{all_cells_lem}
use Rattle.promises.proofs.Kept.{kept_caller}
use Rattle.promises.proofs.Lived.{LivedTo, Living, about_own, about_other, on_arriving, on_binding, on_delivering, on_taking, on_returning, on_ending, on_suspending, on_starting}
use Rattle.promises.proofs.Rows.{new_call_lem, field_reads, unstaged}
use Rattle.promises.proofs.Spared.{moved_by, scratch, own_field, tail_scratch}
use Rattle.promises.proofs.Subjects.{replied_for, running_issued, running_stage, spawn_label, issue_label, take_label}
use Rattle.promises.proofs.Untouched.{AtOnly, only_append, only_call, only_object}

-- one event of an issued label is about no other
other_than : (c : Cells) (e : Event) (k : ℕ) → subject e ≡ k → Issued c k → (l : ℕ) → (Issued c l → l ≡ k → ⊥) → about l (e ∷ []) ≡ []
other_than c e k sub i l n = about_other e l (λ s. let same : k ≡ l = sym sub ∙ s in n (subst (Issued c) same i) (sym same))

module _ {m : Model} {c : Cells} {choice : Choice} {ws : List Write} {es : List Event} (a : Act m c choice ws es) (is : is_configuration m c ≡ true)
    (h : List Event) (alive : Alive c h) (i : Issued c (moved_by a)) (s t : ℕ) (before : stage_of c (moved_by a) ≡ pos s)
    (after : stage_of (written c ws) (moved_by a) ≡ pos t) where
  -- one call goes from a stage to a stage, by one event or by none
  by_event : (e : Event) → es ≡ e ∷ [] → subject e ≡ moved_by a → issued_by e ≡ 0
      → ((life : List Event) → LivedTo (moved_by a) (eq_z (of_call c (moved_by a) caller) (pos 0)) s life
      → LivedTo (moved_by a) (eq_z (of_call c (moved_by a) caller) (pos 0)) t (life ++ (e ∷ [])))
      → Alive (written c ws) (h ++ es)
  unfolding total_of
  by_event e one sub none on =
      moves_alive a is h alive (ap (total_of issued_by) one ∙ ap (λ n. n + 0) none)
      (λ l n. ap (about l) one ∙ other_than c e (moved_by a) sub i l n)
      (λ i life live.
      subst (λ u. Living (written c ws) (moved_by a) (life ++ u)) (sym (ap (about (moved_by a)) one ∙ about_own e (moved_by a) sub))
      (turned c (written c ws) (moved_by a) s t life (e ∷ []) before after (kept_caller a (moved_by a) i.1) (on life) live))

  -- by none
  by_none : es ≡ []
      → ((life : List Event) → LivedTo (moved_by a) (eq_z (of_call c (moved_by a) caller) (pos 0)) s life
      → LivedTo (moved_by a) (eq_z (of_call c (moved_by a) caller) (pos 0)) t (life ++ []))
      → Alive (written c ws) (h ++ es)
  unfolding total_of about
  by_none none on =
      moves_alive a is h alive (ap (total_of issued_by) none) (λ l n. ap (about l) none)
      (λ i life live.
      subst (λ u. Living (written c ws) (moved_by a) (life ++ u)) (sym (ap (about (moved_by a)) none))
      (turned c (written c ws) (moved_by a) s t life [] before after (kept_caller a (moved_by a) i.1) (on life) live))

-- the stage after each move
module _ (m : Model) (c : Cells) (is : is_configuration m c ≡ true) (l : ℕ) (i : Issued c l) where
  few : l ≤ call_rows
  few = label_row m c (configured m c is) l i.0 i.1

  -- where the stage is all that is written
  stage_now : (s : ℕ) → stage_of (written c (staged c l s)) l ≡ pos s
  unfolding stage_of staged
  stage_now s = last_in_row c (all_cells_lem m c is) l i.0 few c [] stage (pos s) (omega arith)

  -- where others are written before it, and other places behind it
  stage_then : (us : List Write) (s : ℕ) (sort : Place → Bool) (tail : List Write) → AtOnly sort tail → sort (call l stage) ≡ false
      → stage_of (written c ((us ++ staged c l s) ++ tail)) l ≡ pos s
  unfolding stage_of staged
  stage_then us s sort tail only e = field_reads c c (all_cells_lem m c is) l i.0 few us stage (pos s) (omega arith) sort tail only e

  -- of an `await` that is not enabled
  stage_suspended : (o : ℕ) (at : Standing) → stage_of (written c (suspended m c o l at)) l ≡ pos bound
  unfolding suspended freed unstaged
  stage_suspended o at =
      let p = to_call c l cleared (pos 1) in
      let q = to_object o running_label (pos 0) in
      ap (λ w. stage_of (written c w) l) (append_assoc (staged c l bound) p q)
      ∙ stage_then [] bound unstaged (p ++ q) (only_append unstaged p q (only_call unstaged c l cleared (pos 1) refl) (only_object unstaged o running_label (pos 0) refl)) refl

  -- of a start
  stage_started : (o : ℕ) → stage_of (written c (started c o l)) l ≡ pos running
  unfolding started unstaged
  stage_started o = stage_then [] running unstaged (to_object o running_label (pos l)) (only_object unstaged o running_label (pos l) refl) refl

  -- of a `return`
  stage_returned_lem : (o : ℕ) (at : Standing) (z : ℤ) (s : ℕ) → stage_of (written c (to_call c l value z ++ staged c l s ++ freed m c o l at)) l ≡ pos s
  unfolding freed unstaged
  stage_returned_lem o at z s =
      stage_then (to_call c l value z) s unstaged (to_object o running_label (pos 0)) (only_object unstaged o running_label (pos 0) refl) refl

-- returning, by whether there is a caller
returned_lived : (m : Model) (c : Cells) (o l : ℕ) (at : Standing) (life : List Event) → LivedTo l (eq_z (of_call c l caller) (pos 0)) running life
    → LivedTo l (eq_z (of_call c l caller) (pos 0)) (stage_returned m c o l at) (life ++ (returning l ∷ []))
unfolding stage_returned
returned_lived m c o l at life = go (eq_z (of_call c l caller) (pos 0)) refl
  where
    go : (b : Bool) → eq_z (of_call c l caller) (pos 0) ≡ b → LivedTo l (eq_z (of_call c l caller) (pos 0)) running life
        → LivedTo l (eq_z (of_call c l caller) (pos 0)) (stage_returned m c o l at) (life ++ (returning l ∷ []))
    go true e k = rw (e, stage_returned) (on_ending l life (rw e at k))
    go false e k = rw (e, stage_returned) (on_returning l life (rw e at k))

module _ (m : Model) (accepted : AcceptedModel m) (c : Cells) (is : is_configuration m c ≡ true) (choice : Choice) (h : List Event) (alive : Alive c h) where
  -- a label that is chosen is issued
  chosen_issued : {k : Kind} {l : ℕ} → Chosen c choice k l → Issued c l
  chosen_issued w = (w.low, w.high)

  -- a label that is issued: its caller is some object
  issued_living : (d : Cells) (o r : ℕ) → stage_of d r ≡ pos invoked → of_call d r caller ≡ pos o → 1 ≤ o → Living d r (issuing r ∷ [])
  unfolding eq_z
  issued_living d o r s e low = (invoked, s, go o e low)
    where
      go : (o : ℕ) → of_call d r caller ≡ pos o → 1 ≤ o → LivedTo r (eq_z (of_call d r caller) (pos 0)) invoked (issuing r ∷ [])
      go o e low = subst (λ b. LivedTo r b invoked (issuing r ∷ [])) (sym (ap (λ z. eq_z z (pos 0)) e ∙ ne_eqb o 0 (λ s. omega arith))) refl

  -- a label that is spawned: its caller is nobody
  spawned_living : (d : Cells) (r : ℕ) → stage_of d r ≡ pos running → of_call d r caller ≡ pos 0 → Living d r (spawning r ∷ [])
  unfolding eq_z
  spawned_living d r s e = (running, s, subst (λ b. LivedTo r b running (spawning r ∷ [])) (sym (ap (λ z. eq_z z (pos 0)) e)) refl)

  -- every case
  pub act_alive : {ws : List Write} {es : List Event} → Act m c choice ws es → Alive (written c ws) (h ++ es)
  unfolding moved_by subject issued_by scratch own_field stage_of
  act_alive (goes o l at r) = still_alive (goes o l at r) is h alive refl refl
  act_alive (jumps o l at r) = still_alive (jumps o l at r) is h alive refl refl
  act_alive (stores o l at r x z) = still_alive (stores o l at r x z) is h alive refl refl
  act_alive (crosses o l at r) = still_alive (crosses o l at r) is h alive refl refl
  act_alive (creates o l at r x k zs a) = still_alive (creates o l at r x k zs a) is h alive refl refl
  act_alive (spawns o l at r x k es zs s a b d e) =
      let p = with_object c k (next_row c) zs in
      let q = with_call c running 0 (next_object c) 0 [] in
      let t = stored c o l x (pos (next_object c)) ++ onward m c o l at in
      let label = (spawn_label m accepted c is choice o l at r x k zs a b d e).0 in
      let new = new_call_lem c (written c p) (length_written c p ∙ all_cells_lem m c is) b running 0 (next_object c) 0 [] t (tail_scratch m c o l at x (pos (next_object c))) in
      let same : written c ((p ++ q) ++ t) ≡ written (written (written c p) q) t = written_append c (p ++ q) t ∙ ap (λ d. written d t) (written_append c p q) in
      grows_alive (spawns o l at r x k es zs s a b d e) is h alive (spawning _) refl refl label refl
      (subst (λ i. Living (written c ((p ++ q) ++ t)) (next_row c) (spawning i ∷ [])) (sym label)
      (subst (λ d. Living d (next_row c) (spawning (next_row c) ∷ [])) (sym same)
      (spawned_living (written (written (written c p) q) t) (next_row c) new.stage_is new.caller_is)))
  act_alive (issues o l at r x e j es z to zs s v g n a d f) =
      let q = with_call c invoked o to j zs in
      let t = stored c o l x (pos (next_row c)) ++ onward m c o l at in
      let label = issue_label m accepted c is choice o l at r x e j es to zs s d f in
      let new = new_call_lem c c (all_cells_lem m c is) a invoked o to j zs t (tail_scratch m c o l at x (pos (next_row c))) in
      grows_alive (issues o l at r x e j es z to zs s v g n a d f) is h alive (issuing _) refl refl label refl
      (subst (λ i. Living (written c (q ++ t)) (next_row c) (issuing i ∷ [])) (sym label)
      (subst (λ d. Living d (next_row c) (issuing (next_row c) ∷ [])) (sym (written_append c q t))
      (issued_living (written (written c q) t) o (next_row c) new.stage_is new.caller_is r.low)))
  act_alive (takes o l at r x y from s g d f) =
      let u = replied_for c o _ from g in
      let i : Issued c from = (u.low, u.high) in
      by_event (takes o l at r x y from s g d f) is h alive i replied taken u.stage_is
      (stage_then m c is from i [] taken scratch (stored c o l y (of_call c from value) ++ onward m c o l at) (tail_scratch m c o l at y (of_call c from value)) refl)
      (taking from) (take_label m accepted c is choice o l at r x y from g d f) refl refl
      (λ life. on_taking from life (eq_z (of_call c from caller) (pos 0)))
  act_alive (suspends o l at r) =
      let i = running_issued m accepted c is choice o l at r in
      by_none (suspends o l at r) is h alive i running bound (running_stage m accepted c is choice o l at r) (stage_suspended m c is l i o at) refl
      (λ life. on_suspending l life (eq_z (of_call c l caller) (pos 0)))
  act_alive (returns o l at r e z s v) =
      let i = running_issued m accepted c is choice o l at r in
      by_event (returns o l at r e z s v) is h alive i running (stage_returned m c o l at) (running_stage m accepted c is choice o l at r)
      (stage_returned_lem m c is l i o at z (stage_returned m c o l at)) (returning l) refl refl refl (returned_lived m c o l at)
  act_alive (arrives l w s) =
      by_event (arrives l w s) is h alive (chosen_issued w) invoked queued (stage_is m c l invoked s) (stage_now m c is l (chosen_issued w) queued)
      (arriving l) refl refl refl (λ life. on_arriving l life (eq_z (of_call c l caller) (pos 0)))
  act_alive (binds l w s) =
      by_event (binds l w s) is h alive (chosen_issued w) queued bound (stage_is m c l queued s) (stage_now m c is l (chosen_issued w) bound)
      (binding l) refl refl refl (λ life. on_binding l life (eq_z (of_call c l caller) (pos 0)))
  act_alive (starts l w s) =
      by_none (starts l w s) is h alive (chosen_issued w) bound running (stage_is m c l bound s) (stage_started m c is l (chosen_issued w) (nat (of_call c l callee))) refl
      (λ life. on_starting l life (eq_z (of_call c l caller) (pos 0)))
  act_alive (delivers l w s) =
      by_event (delivers l w s) is h alive (chosen_issued w) answered replied (stage_is m c l answered s) (stage_now m c is l (chosen_issued w) replied)
      (delivering l) refl refl refl (λ life. on_delivering l life (eq_z (of_call c l caller) (pos 0)))
