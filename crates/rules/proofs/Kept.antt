-- A step keeps a configuration of an accepted model; and no step finds its line past the method's end. Assumes nothing.
use Rattle.std.specs.Prelude.{Some}
use Prim.Native.Nat.{ℕ, ◌≤◌}
use mathlib.Core.Bool.{true, false}
use mathlib.Core.List.{List, map}
use mathlib.Core.Path.{◌≡◌, refl, sym, ap, subst, ◌∙◌}
use mathlib.Core.Logic.{◌≢◌}
use native.Mathlib.Omega.{arith}
use lib.ListN.{length, length-map}
use Rattle.layout.specs.Layout.{Cells, Write, written}
use Rattle.layout.specs.Stages.{objects_in_use}
use Rattle.terms.specs.Values.{value_of, guard_of}
use Rattle.code.specs.declared.Shape.{Shape}
use Rattle.code.specs.declared.Shape.TheVariants as Shape
use Rattle.code.specs.Blocks.{shape_of}
use Rattle.code.specs.Statements.{Code, skip, set, new, call, get, await, if, else, fi, while, od, return, map_statement, new_of}
use Rattle.code.specs.Within.{CodeWithin}
use Rattle.model.specs.Accepted.{AcceptedModel, AcceptedNew}
use Rattle.model.specs.Model.{Model}
use Rattle.model.proofs.AcceptedAt.{class_accepted, new_accepted}
use Rattle.cells.specs.Configuration.{is_configuration}
use Rattle.cells.proofs.Facts.{Configured}
use Rattle.cells.proofs.Configured.{configured, passes}
use Rattle.cells.proofs.NewFacts.{item_at}
use Rattle.rules.specs.declared.Choice.{Choice}
use Rattle.rules.specs.Exec.{here, worked_out, onward, jumped, assigned, created, issued, freed, awaited, branched, returned, performed}
use Rattle.rules.specs.Exec as Exec
use Rattle.rules.specs.declared.Kind.{Kind}
use Rattle.rules.specs.declared.Kind.TheVariants as Kind
use Rattle.rules.specs.Kinds.{in_use}
use Rattle.rules.specs.Next.{moved}
use Rattle.rules.specs.Step.{ruled, next}
use Rattle.rules.proofs.Chosen.{up_to_some}
use Rattle.rules.proofs.Executing.{leaves, st, within, plain_shape, stores, steps, jumps, wrote, new_keeps, call_keeps, get_keeps, branch_keeps, await_keeps}
use Rattle.rules.proofs.Leaving.{return_keeps}
use Rattle.rules.proofs.Messaging.{arrive_keeps, bind_keeps, start_keeps, deliver_keeps}
use Rattle.rules.proofs.Moved.{working_moved, all_moved, next_moved, exec_moved}
use Rattle.rules.proofs.Performing.{Performing, performing, standing, stands_there, still}

module _ (m : Model) (accepted : AcceptedModel m) (c : Cells) (o l : ℕ) (p : Performing m c o l) (ws : List Write) where
  -- its line, what an accepted text says of it, and that it is neither a `return` nor an `await`
  abbrev at_line : Code
  at_line = st m accepted c o l p

  abbrev Plain : Type 0
  Plain = (shape_of at_line ≢ Shape.Return) × (shape_of at_line ≢ Shape.Await)

  accepted_line : (s : Code) → at_line ≡ s → CodeWithin (record { attrs = p.bound.stands.class.attrs; locals = p.bound.stands.body.locals }) (length m) s
  accepted_line s e = subst (CodeWithin _ (length m)) e (within m accepted c o l p)

  plain : (s : Shape) → shape_of at_line ≡ s → leaves s ≡ false → Plain
  plain = plain_shape m accepted c o l p

  -- only the line changes: to the next one, or to where its block goes
  steps_on : Plain → moved (onward m c o l (standing p)) ≡ moved ws → Configured m (written c ws)
  steps_on n f = wrote m accepted c o l p ws _ f (steps m accepted c o l p c (still p) n)

  jumps_over : Plain → moved (jumped m c o l (standing p)) ≡ moved ws → Configured m (written c ws)
  jumps_over n f = wrote m accepted c o l p ws _ f (jumps m accepted c o l p c (still p) n)

  -- a line performed, by its form
  performed_keeps : (s : Code) → at_line ≡ s → performed m c o l (standing p) (worked_out (here c o l) s) ≡ moved ws → Configured m (written c ws)
  unfolding performed worked_out map_statement shape_of CodeWithin assigned returned freed AcceptedNew new_of
  performed_keeps skip e f = steps_on (plain _ (ap shape_of e) refl) f
  performed_keeps (set x a) e f =
      let (z, w, g) = working_moved (value_of (here c o l) a) (assigned m c o l (standing p) x) ws f in
      let v = accepted_line _ e in
      wrote m accepted c o l p ws _ g
      (stores m accepted c o l p c (still p) (plain _ (ap shape_of e) refl) x z v.0)
  performed_keeps (new x k es) e f =
      let (zs, n, g) = all_moved (map (value_of (here c o l)) es) (created m c o l (standing p) x k) ws f in
      let v = accepted_line _ e in
      let (kind, there) = item_at m k v.1 in
      let ok = class_accepted accepted k kind there in
      let a = p.bound.stands in
      let given = new_accepted accepted _ a.class a.exists.there _ a.body a.has _ a.statement a.inside (k, length es) (ap new_of e) kind there in
      let same = length-map es (value_of (here c o l)) in
      new_keeps m accepted c o l p ws x k zs kind there (omega arith)
      (plain _ (ap shape_of e) refl) v.0 g
  performed_keeps (call x a j es) e f =
      let (z, w, g) = working_moved (value_of (here c o l) a) _ ws f in
      let (zs, n, h) = all_moved (map (value_of (here c o l)) es) (issued m c o l (standing p) x z j) ws g in
      let v = accepted_line _ e in
      let same = length-map es (value_of (here c o l)) in
      call_keeps m accepted c o l p ws x z j zs v.2 (let few = v.3 in omega arith)
      (plain _ (ap shape_of e) refl) v.0 h
  performed_keeps (get x y) e f =
      let v = accepted_line _ e in
      get_keeps m accepted c o l p ws x y (plain _ (ap shape_of e) refl) v.1 f
  performed_keeps (await g) e f =
      let (z, w, h) = working_moved (guard_of (here c o l) g) (awaited m c o l (standing p)) ws f in
      await_keeps m accepted c o l p ws z (ap shape_of e) h
  performed_keeps (if a) e f =
      let (z, w, h) = working_moved (value_of (here c o l) a) (branched m c o l (standing p)) ws f in
      branch_keeps m accepted c o l p ws z (plain _ (ap shape_of e) refl) h
  performed_keeps else e f = jumps_over (plain _ (ap shape_of e) refl) f
  performed_keeps fi e f = steps_on (plain _ (ap shape_of e) refl) f
  performed_keeps (while a) e f =
      let (z, w, h) = working_moved (value_of (here c o l) a) (branched m c o l (standing p)) ws f in
      branch_keeps m accepted c o l p ws z (plain _ (ap shape_of e) refl) h
  performed_keeps od e f = jumps_over (plain _ (ap shape_of e) refl) f
  performed_keeps (return a) e f =
      let (z, w, h) = working_moved (value_of (here c o l) a) (returned m c o l (standing p)) ws f in
      wrote m accepted c o l p ws _ h (return_keeps m c o l p (standing p) z (ap shape_of e))

module _ (m : Model) (accepted : AcceptedModel m) (c : Cells) (conf : Configured m c) where
  -- "exec O (kind 1): O's running call performs its line."
  pub exec_keeps : (o : ℕ) → 1 ≤ o → o ≤ objects_in_use c → (ws : List Write) → Exec.exec m c o ≡ moved ws → Configured m (written c ws)
  exec_keeps o low high ws e =
      let (l, at, label, there, f) = exec_moved m c o ws e in
      let p = performing m c o l conf low high label in
      let same : Some at ≡ Some (standing p) = sym there ∙ stands_there m c o l p in
      let at-is : at ≡ standing p = cc in
      performed_keeps m accepted c o l p ws (standing p).statement refl
      (subst (λ at. performed m c o l at (worked_out (here c o l) at.statement) ≡ moved ws) at-is f)

  -- a rule at a number in use
  pub rule_keeps : (k : Kind) (n : ℕ) → 1 ≤ n → n ≤ in_use c k → (ws : List Write) → ruled m c k n ≡ moved ws → Configured m (written c ws)
  unfolding ruled in_use
  rule_keeps Kind.Exec n low high ws e = exec_keeps n low high ws e
  rule_keeps Kind.Arrive n low high ws e = arrive_keeps m c conf n low high ws e
  rule_keeps Kind.Bind n low high ws e = bind_keeps m c conf n low high accepted ws e
  rule_keeps Kind.Start n low high ws e = start_keeps m c conf n low high ws e
  rule_keeps Kind.Deliver n low high ws e = deliver_keeps m c conf n low high ws e

  -- a choice that moved
  pub step_keeps : (choice : Choice) (ws : List Write) → next m c choice ≡ moved ws → Configured m (written c ws)
  step_keeps choice ws e =
      let (k, n, kind, number, f) = next_moved m c choice ws e in
      let (low, high) = up_to_some (in_use c k) choice.number n number in
      rule_keeps k n low high ws f

-- a step keeps the test of a configuration
pub keeps : (m : Model) → AcceptedModel m → (c : Cells) → is_configuration m c ≡ true → (choice : Choice) (ws : List Write) → next m c choice ≡ moved ws
    → is_configuration m (written c ws) ≡ true
keeps m accepted c e choice ws f = passes m (written c ws) (step_keeps m accepted c (configured m c e) choice ws f)
