-- arrive, bind, start and deliver keep a configuration: a stage goes from one to another, and with it a running label. Assumes nothing.
use Rattle.std.specs.Prelude.{Option, None, Some, slice_get}
use Prim.Native.Nat.{ℕ, ◌≤◌}
use mathlib.Core.Bool.{true}
use mathlib.Core.List.{List}
use mathlib.Core.Path.{◌≡◌, refl, sym, ap, subst, ◌∙◌}
use mathlib.Core.Logic.{◌≢◌}
use native.Mathlib.Omega.{arith}
use lib.IntN.{ℤ, pos}
use Rattle.whole.specs.Refusals.{not_invoked, not_queued, no_such_method, not_bound, object_busy, not_ready, not_answered}
use Rattle.whole.specs.Whole.{eq_z, nat}
use Rattle.layout.specs.Layout.{Cells, Write, written, most_attributes, attribute, object_rows, call_rows, of_object, of_call, to_object, class, running_label, stage, callee, method, args, line}
use Rattle.layout.specs.Stages.{invoked, queued, bound, running, answered, replied, taken, objects_in_use, rows_in_use, in_stage, staged}
use Rattle.model.specs.Accepted.{AcceptedModel}
use Rattle.model.specs.Model.{Model, Method}
use Rattle.model.proofs.AcceptedAt.{method_accepted}
use Rattle.cells.specs.Standing.{body_of}
use Rattle.whole.proofs.Tested.{equals, nat_of}
use Rattle.cells.proofs.Facts.{ZeroFrom, StandsAt, CallFacts, Configured}
use Rattle.cells.proofs.FromTest.{stage_is, body_at}
use Rattle.layout.proofs.Writes.{Fields, put, put_other, written_append}
use Rattle.layout.proofs.Rows.{unwritten, wrote_stage, wrote_object}
use Rattle.cells.proofs.Rewritten.{call_at, kept, taken_up, rewritten}
use Rattle.cells.proofs.Moves.{arrived, went_on, bound_now, started}
use Rattle.cells.proofs.NewFacts.{item_at}
use Rattle.rules.specs.Messages as Messages
use Rattle.rules.specs.Next.{refused, moved}
use Rattle.rules.proofs.Moved.{refused_moved, must_moved, working_moved}

-- what moved was written
pub writes_are : {ws vs : List Write} → moved ws ≡ moved vs → ws ≡ vs
writes_are {ws} {vs} e = cc

-- a running label put anew leaves the attributes
pub attributes_kept : (z : ℤ) (its : Fields) (from : ℕ) → ZeroFrom most_attributes from (λ i. its (attribute i))
    → ZeroFrom most_attributes from (λ i. put running_label z its (attribute i))
attributes_kept z its from zero i a b = put_other running_label z its (attribute i) (λ e. omega arith) ∙ zero i a b

module _ (m : Model) (c : Cells) (conf : Configured m c) (l : ℕ) (low : 1 ≤ l) (high : l ≤ rows_in_use c) where
  -- a label in use has a row, and its callee is in use
  pub label_row : l ≤ call_rows
  unfolding rows_in_use
  label_row = let h = conf.calls.most in omega arith

  o : ℕ
  o = nat (of_call c l callee)

  of : of_call c l callee ≡ pos o
  unfolding o
  of = (conf.call l low high).callee.counts

  callee_row : (1 ≤ o) × (o ≤ objects_in_use c) × (o ≤ object_rows)
  unfolding o objects_in_use
  callee_row = let h = (conf.call l low high).callee in let k = conf.objects.most in (h.least, h.most, omega arith)

  -- what holds of it
  holds : CallFacts m (objects_in_use c) (of_object c o class) (of_object c o running_label) l (of_call c l)
  holds = call_at m c l o conf low high of

  -- whoever names the call runs it
  named_runs : of_object c o running_label ≡ pos l → of_call c l stage ≡ pos running
  named_runs e =
      let (a, b, _) = callee_row in
      let z = nat_of e in
      let s = ((conf.object o a b).running (omega arith)).0 in
      ap (λ l. of_call c l stage) (sym z) ∙ s

  -- the stage of a call that does not run goes to another
  stage_goes : (t : ℕ) → (of_call c l stage ≡ pos running → ⊥)
      → CallFacts m (objects_in_use c) (of_object c o class) (of_object c o running_label) l (put stage (pos t) (of_call c l)) → Configured m (written c (staged c l t))
  stage_goes t idle facts =
      rewritten m c (written c (staged c l t)) l o (put stage (pos t) (of_call c l)) (of_object c o) conf low high of
      (wrote_stage c c _ _ l o _ _ (unwritten c l o conf.length) c t low label_row)
      of refl (kept refl (λ e. absurd (idle (named_runs e)))) (λ k a z. z) facts

  -- a stage that is another than running
  stage_not : (s : ℕ) → s ≢ running → in_stage c l s ≡ true → (nat (of_call c l stage) ≡ s) × (of_call c l stage ≡ pos running → ⊥)
  stage_not s n e = let f = nat_of (stage_is m c l s e) in (f, λ g. n (sym f ∙ nat_of g))

  -- "arrive L (2): stage 1 to 2."
  pub arrive_keeps : (ws : List Write) → Messages.arrive c l ≡ moved ws → Configured m (written c ws)
  unfolding Messages.arrive
  arrive_keeps ws e =
      let (s, f) = must_moved (in_stage c l invoked) not_invoked _ ws e in
      let (n, idle) = stage_not invoked (λ z. omega arith) s in
      subst (λ ws. Configured m (written c ws)) (writes_are f) (stage_goes queued idle (arrived m _ _ _ l _ holds n))

  -- "deliver L (5): 5 to 6."
  pub deliver_keeps : (ws : List Write) → Messages.deliver c l ≡ moved ws → Configured m (written c ws)
  unfolding Messages.deliver
  deliver_keeps ws e =
      let (s, f) = must_moved (in_stage c l answered) not_answered _ ws e in
      let (n, idle) = stage_not answered (λ z. omega arith) s in
      subst (λ ws. Configured m (written c ws)) (writes_are f)
      (stage_goes replied idle (went_on m _ _ _ l _ holds replied (omega arith) (omega arith) (omega arith) (λ e. (holds.callerless e).unanswered n)))

  -- a reply taken: "it goes to stage 7"
  pub taken_keeps : in_stage c l replied ≡ true → Configured m (written c (staged c l taken))
  taken_keeps s =
      let (n, idle) = stage_not replied (λ z. omega arith) s in
      stage_goes taken idle (went_on m _ _ _ l _ holds taken (omega arith) (omega arith) (omega arith) (λ e. (holds.callerless e).unreplied n))

  -- "bind L (3): 2 to 3, if the callee's class has the method with as many params as args."
  pub bind_keeps : AcceptedModel m → (ws : List Write) → Messages.bind m c l ≡ moved ws → Configured m (written c ws)
  unfolding Messages.bind
  bind_keeps accepted ws e =
      let (s, f) = must_moved (in_stage c l queued) not_queued _ ws e in
      go s (body_of m c l) refl f
    where
      go : in_stage c l queued ≡ true → (x : Option Method) → body_of m c l ≡ x
          → (elim x [ None ↦ refused no_such_method | Some b ↦ moved (staged c l bound) ]) ≡ moved ws → Configured m (written c ws)
      go s None g f = absurd (refused_moved f)
      go s (Some b) g f =
          let (n, idle) = stage_not queued (λ z. omega arith) s in
          let (k, exists, has, params) = body_at m c l o of b g in
          let ok = method_accepted accepted _ k exists.there _ b has in
          let u = holds.unbound (omega arith) in
          let (st, at) = item_at b.code 0 ok.lines.0 in
          let a : StandsAt m (of_object c o class) (of_call c l method) (of_call c l args) (of_call c l line) =
          record {
            class = k;
            body = b;
            statement = st;
            exists = exists;
            has = has;
            params = params;
            counts = u.line ∙ ap pos (sym (nat_of u.line));
            inside = ap (slice_get b.code) (nat_of u.line) ∙ at;
          } in
          subst (λ ws. Configured m (written c ws)) (writes_are f) (stage_goes bound idle (bound_now m _ _ _ l _ holds n a ok.locals.0))

  -- "start L (4): 3 to 4 in an idle callee."
  pub start_keeps : (ws : List Write) → Messages.start m c l ≡ moved ws → Configured m (written c ws)
  unfolding Messages.start Messages.start_in Messages.started o
  start_keeps ws e =
      let (s, f) = must_moved (in_stage c l bound) not_bound _ ws e in
      let (i, g) = must_moved (eq_z (of_object c o running_label) (pos 0)) object_busy _ ws f in
      let (z, w, h) = working_moved (Messages.ready m c o l) _ ws g in
      let (r, k) = must_moved _ not_ready _ ws h in
      let (a, b, d) = callee_row in
      let free = equals (of_object c o running_label) 0 i in
      let n = nat_of (stage_is m c l bound s) in
      let rows = wrote_stage c c _ _ l o _ _ (unwritten c l o conf.length) c running low label_row in
      let both = wrote_object c _ _ _ l o _ _ rows running_label (pos l) a d (omega arith) in
      subst (λ ws. Configured m (written c ws)) (writes_are k)
      (subst (Configured m) (sym (written_append c (staged c l running) (to_object o running_label (pos l))))
      (rewritten m c _ l o _ _ conf low high of both of refl (taken_up free refl refl) (λ k a. attributes_kept (pos l) (of_object c o) k.attrs)
      (started m _ _ _ l _ holds n)))
