-- "Calls issued equals one, plus accepted `call` lines, plus accepted `new` of classes with run 1." Assumes nothing.
use Prim.Native.Nat.{ℕ, ◌+◌}
use mathlib.Core.List.{List, [], ◌∷◌, ◌++◌}
use mathlib.Core.Path.{◌≡◌, refl, sym, ap, subst, ◌∙◌}
use native.Mathlib.Omega.{arith}
use lib.Dec.{ltb}
use lib.IntN.{pos}
use lib.ListN.{length, replicate}
use Rattle.whole.specs.Lists.{total_of}
use Rattle.whole.specs.Whole.{nat}
use Rattle.layout.specs.Layout.{Cells, all_cells, read, Write, written, calls}
use Rattle.layout.specs.Stages.{rows_in_use, invoked, running}
use Rattle.layout.proofs.Laws.{length_written}
use Rattle.layout.proofs.Open.{layout_open}
use Rattle.model.specs.Model.{Model}
use Rattle.cells.specs.Fresh.{fresh}
use Rattle.layout.proofs.Writes.{written_append}
use Rattle.rules.specs.declared.Choice.{Choice}
use Rattle.rules.specs.Events.{Event, events_of, first_events}
use Rattle.rules.specs.Exec.{stored, next_object, next_row, with_object, with_call, onward}
use Rattle.rules.specs.Next.{Next, refused, moved, cells_after}
use Rattle.rules.specs.Step.{next}
use Rattle.engine.specs.Run.{run_cells}
use Rattle.promises.specs.Histories.{happenings, history}
use Rattle.promises.specs.Lives.{issued_by, CallsIssued}
use Rattle.promises.proofs.Acting.{acts}
use Rattle.promises.proofs.Acts.{Act, goes, jumps, stores, crosses, creates, spawns, issues, takes, suspends, returns, arrives, binds, starts, delivers}
use Rattle.promises.proofs.Rows.{call_rows_lem}
use Rattle.promises.proofs.Spared.{scratch, sparing, moved_by, answered_by, tail_scratch, taking_none, act_spares}
use Rattle.promises.proofs.Untouched.{untouched}

-- the cells after a choice are as many as before
pub length_after : (c : Cells) (n : Next) → length (cells_after c n) ≡ length c
unfolding cells_after
length_after c (refused i) = refl
length_after c (moved ws) = length_written c ws

module _ (m : Model) (c : Cells) (choice : Choice) (long : length c ≡ all_cells) (n : ℕ) (is : read c calls ≡ pos n) where
  -- a step that issues no call spares the count
  still : {ws : List Write} {es : List Event} → Act m c choice ws es → total_of issued_by es ≡ 0 → read (written c ws) calls ≡ pos (n + total_of issued_by es)
  unfolding sparing
  still {ws} {es} a e =
      untouched (sparing (rows_in_use c) (moved_by a) (answered_by a) (total_of issued_by es)) c ws calls (act_spares a) (ap (ltb 0) e) ∙ is ∙ ap pos (omega arith)

  -- one that does, and the next label
  next_is : next_row c ≡ n + 1
  unfolding next_row rows_in_use nat
  next_is = ap (λ z. nat z + 1) is

  -- each case
  pub act_counted : {ws : List Write} {es : List Event} → Act m c choice ws es → read (written c ws) calls ≡ pos (n + total_of issued_by es)
  unfolding total_of issued_by scratch
  act_counted (goes o l at r) = still (goes o l at r) refl
  act_counted (jumps o l at r) = still (jumps o l at r) refl
  act_counted (stores o l at r x z) = still (stores o l at r x z) refl
  act_counted (crosses o l at r) = still (crosses o l at r) refl
  act_counted (creates o l at r x k zs a) = still (creates o l at r x k zs a) refl
  act_counted (spawns o l at r x k es zs s a b d e) =
      let t = stored c o l x (pos (next_object c)) ++ onward m c o l at in
      let p = with_object c k (next_row c) zs in
      let q = with_call c running 0 (next_object c) 0 [] in
      ap (λ d. read d calls) (written_append c (p ++ q) t ∙ ap (λ d. written d t) (written_append c p q))
      ∙ untouched scratch (written (written c p) q) t calls (tail_scratch m c o l at x (pos (next_object c))) refl
      ∙ (call_rows_lem c (written c p) (length_written c p ∙ long) b 0 running 0 (next_object c) 0 []).calls
      ∙ ap pos next_is
  act_counted (issues o l at r x e j es z to zs s v h n' a d f) =
      let t = stored c o l x (pos (next_row c)) ++ onward m c o l at in
      let q = with_call c invoked o to j zs in
      ap (λ d. read d calls) (written_append c q t)
      ∙ untouched scratch (written c q) t calls (tail_scratch m c o l at x (pos (next_row c))) refl
      ∙ (call_rows_lem c c long a 0 invoked o to j zs).calls
      ∙ ap pos next_is
  act_counted (takes o l at r x y from s h d f) = still (takes o l at r x y from s h d f) (taking_none m c d o l x y)
  act_counted (suspends o l at r) = still (suspends o l at r) refl
  act_counted (returns o l at r e z s v) = still (returns o l at r e z s v) refl
  act_counted (arrives l h s) = still (arrives l h s) refl
  act_counted (binds l h s) = still (binds l h s) refl
  act_counted (starts l h s) = still (starts l h s) refl
  act_counted (delivers l h s) = still (delivers l h s) refl

-- any choice, refused or not
pub step_counted : (m : Model) (c : Cells) (choice : Choice) (n : ℕ) → length c ≡ all_cells → read c calls ≡ pos n
    → read (cells_after c (next m c choice)) calls ≡ pos (n + total_of issued_by (events_of m c choice))
unfolding cells_after events_of total_of
step_counted m c choice n long is = go (next m c choice) refl
  where
    go : (k : Next) → next m c choice ≡ k → read (cells_after c (next m c choice)) calls ≡ pos (n + total_of issued_by (events_of m c choice))
    go (refused i) e = rw (e, events_of, cells_after) (is ∙ ap pos (omega arith))
    go (moved ws) e =
        subst (λ k. read (cells_after c k) calls ≡ pos (n + total_of issued_by (events_of m c choice))) (sym e)
        (act_counted m c choice long n is (acts m c choice ws e))

-- two lists of events together
total_append : (a b : List Event) → total_of issued_by (a ++ b) ≡ total_of issued_by a + total_of issued_by b
unfolding total_of
total_append [] b = omega arith
total_append (e ∷ a) b = let h = total_append a b in omega arith

-- and a list of choices
run_counted : (m : Model) (c : Cells) (choices : List Choice) (n : ℕ) → length c ≡ all_cells → read c calls ≡ pos n
    → read (run_cells m c choices) calls ≡ pos (n + total_of issued_by (happenings m c choices))
unfolding run_cells happenings total_of
run_counted m c [] n long is = is ∙ ap pos (omega arith)
run_counted m c (choice ∷ choices) n long is =
    let first = step_counted m c choice n long is in
    let rest = run_counted m (cells_after c (next m c choice)) choices (n + total_of issued_by (events_of m c choice)) (length_after c (next m c choice) ∙ long) first in
    let both = total_append (events_of m c choice) (happenings m (cells_after c (next m c choice)) choices) in
    rest ∙ ap pos (omega arith)

-- the fresh cells
fresh_long : length fresh ≡ all_cells
unfolding fresh
fresh_long = length_written (replicate all_cells (pos 0)) _

-- and one call
fresh_calls : read fresh calls ≡ pos 1
unfolding layout_open fresh
fresh_calls = refl

-- from a start
pub calls_issued : (m : Model) (choices : List Choice) → CallsIssued m choices
unfolding history total_of issued_by
calls_issued m choices =
    let h = total_append first_events (happenings m fresh choices) in
    run_counted m fresh choices 1 fresh_long fresh_calls ∙ ap pos (omega arith)
