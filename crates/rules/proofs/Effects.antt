-- What an accepted step does to the calls: one call's stage or line is another, and every other call that waits for no reply is as it was.
-- Assumes nothing.
use Rattle.std.specs.Prelude.{Option, None, Some}
use Prim.Native.Nat.{ℕ, ◌≤◌}
use mathlib.Core.Bool.{true}
use mathlib.Core.List.{List, [], ◌++◌, append-nil}
use mathlib.Core.Path.{◌≡◌, refl, sym, ap, subst, ◌∙◌}
use mathlib.Core.Logic.{◌≢◌}
use native.Mathlib.Omega.{arith}
use lib.IntN.{pos}
use Rattle.whole.specs.Refusals.{not_invoked, not_queued, no_such_method, not_bound, object_busy, not_ready, not_answered}
use Rattle.whole.specs.Whole.{eq_z, nat}
use Rattle.layout.specs.Layout.{Cells, Write, written, of_object, of_call, to_object, to_call, running_label, stage, callee, line}
use Rattle.layout.specs.Stages.{invoked, queued, bound, running, answered, replied, rows_in_use, in_stage, staged}
use Rattle.layout.proofs.Writes.{Fields}
use Rattle.model.specs.Model.{Model, Method}
use Rattle.cells.specs.Standing.{body_of}
use Rattle.whole.proofs.Tested.{nat_of}
use Rattle.cells.proofs.Facts.{Configured}
use Rattle.cells.proofs.FromTest.{stage_is}
use Rattle.rules.specs.declared.Kind.{Kind}
use Rattle.rules.specs.declared.Kind.TheVariants as Kind
use Rattle.rules.specs.Messages as Messages
use Rattle.rules.specs.Next.{refused, moved}
use Rattle.rules.proofs.Messaging.{writes_are, label_row}
use Rattle.rules.proofs.Moved.{refused_moved, must_moved, working_moved}
use Rattle.layout.proofs.Sparing.{Spares, spared, spares_stage, spares_object, spares_both, last_in_row, spared_after}

-- the stage that a call has before a rule of a kind moves it
abbrev pub stage_before : Kind → ℕ
stage_before Kind.Exec = running
stage_before Kind.Arrive = invoked
stage_before Kind.Bind = queued
stage_before Kind.Start = bound
stage_before Kind.Deliver = answered

-- the number that moves a call: its own, or its callee's
abbrev pub number_of : Cells → Kind → ℕ → ℕ
number_of c Kind.Exec l = nat (of_call c l callee)
number_of c Kind.Arrive l = l
number_of c Kind.Bind l = l
number_of c Kind.Start l = l
number_of c Kind.Deliver l = l

-- a rule of a kind at a number moved a call, from some cells to others
pub record Moves (c d : Cells) (k : Kind) (n l : ℕ) : Type 0 where
  pub low : 1 ≤ l
  pub high : l ≤ rows_in_use c
  pub before : nat (of_call c l stage) ≡ stage_before k
  pub number : n ≡ number_of c k l
  -- its stage or its line is another
  pub changes : of_call d l stage ≡ of_call c l stage → of_call d l line ≡ of_call c l line → ⊥
  -- and every other call is as it was, save one in stage 6
  pub others : (l' : ℕ) → l' ≤ rows_in_use c → l' ≢ l → nat (of_call c l' stage) ≢ replied → of_call d l' ≡ of_call c l'

module _ (m : Model) (c : Cells) (conf : Configured m c) (l : ℕ) (low : 1 ≤ l) (high : l ≤ rows_in_use c) where
  -- a stage that was written, and then nothing in the row
  stage_written : (s : ℕ) (vs : List Write) → Spares vs l → of_call (written c (staged c l s ++ vs)) l stage ≡ pos s
  unfolding staged
  stage_written s vs h =
      let few = label_row m c conf l low high in
      ap (λ (row : Fields). row stage) (spared_after c conf.length l low few (to_call c l stage (pos s)) vs h)
      ∙ last_in_row c conf.length l low few c [] stage (pos s) (omega arith)

  -- a rule of a label: its stage goes from one to another
  label_moves : (k : Kind) → number_of c k l ≡ l → (s : ℕ) → s ≢ stage_before k → in_stage c l (stage_before k) ≡ true
      → (vs : List Write) → ((l' : ℕ) → Spares vs l') → Moves c (written c (staged c l s ++ vs)) k l l
  label_moves k at s new e vs spare =
      let old = nat_of (stage_is m c l (stage_before k) e) in
      record {
        low = low;
        high = high;
        before = old;
        number = sym at;
        changes = λ f g. new (sym (nat_of (stage_written s vs (spare l))) ∙ ap nat f ∙ old);
        others = λ l' h n w. spared c _ l' (spares_both (staged c l s) vs l' (spares_stage l' c l s n) (spare l'));
      }

  -- the same, where nothing else is written
  alone_moves : (k : Kind) → number_of c k l ≡ l → (s : ℕ) → s ≢ stage_before k → in_stage c l (stage_before k) ≡ true → Moves c (written c (staged c l s)) k l l
  alone_moves k at s new e = subst (λ ws. Moves c (written c ws) k l l) (append-nil (staged c l s)) (label_moves k at s new e [] (λ l'. tt))

  pub arrive_moves : (ws : List Write) → Messages.arrive c l ≡ moved ws → Moves c (written c ws) Kind.Arrive l l
  unfolding Messages.arrive
  arrive_moves ws e =
      let (s, f) = must_moved (in_stage c l invoked) not_invoked _ ws e in
      subst (λ ws. Moves c (written c ws) Kind.Arrive l l) (writes_are f) (alone_moves Kind.Arrive refl queued (λ z. omega arith) s)

  pub deliver_moves : (ws : List Write) → Messages.deliver c l ≡ moved ws → Moves c (written c ws) Kind.Deliver l l
  unfolding Messages.deliver
  deliver_moves ws e =
      let (s, f) = must_moved (in_stage c l answered) not_answered _ ws e in
      subst (λ ws. Moves c (written c ws) Kind.Deliver l l) (writes_are f) (alone_moves Kind.Deliver refl replied (λ z. omega arith) s)

  pub bind_moves : (ws : List Write) → Messages.bind m c l ≡ moved ws → Moves c (written c ws) Kind.Bind l l
  unfolding Messages.bind
  bind_moves ws e =
      let (s, f) = must_moved (in_stage c l queued) not_queued _ ws e in
      go s (body_of m c l) f
    where
      go : in_stage c l queued ≡ true → (x : Option Method) → (elim x [ None ↦ refused no_such_method | Some b ↦ moved (staged c l bound) ]) ≡ moved ws
          → Moves c (written c ws) Kind.Bind l l
      go s None f = absurd (refused_moved f)
      go s (Some b) f = subst (λ ws. Moves c (written c ws) Kind.Bind l l) (writes_are f) (alone_moves Kind.Bind refl bound (λ z. omega arith) s)

  pub start_moves : (ws : List Write) → Messages.start m c l ≡ moved ws → Moves c (written c ws) Kind.Start l l
  unfolding Messages.start Messages.start_in Messages.started
  start_moves ws e =
      let o = nat (of_call c l callee) in
      let (s, f) = must_moved (in_stage c l bound) not_bound _ ws e in
      let (i, g) = must_moved (eq_z (of_object c o running_label) (pos 0)) object_busy _ ws f in
      let (z, w, h) = working_moved (Messages.ready m c o l) _ ws g in
      let (r, k) = must_moved _ not_ready _ ws h in
      subst (λ ws. Moves c (written c ws) Kind.Start l l) (writes_are k)
      (label_moves Kind.Start refl running (λ z. omega arith) s (to_object o running_label (pos l)) (λ l'. spares_object l' o running_label (pos l)))
