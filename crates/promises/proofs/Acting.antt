-- Every accepted choice is one of the cases of Acts. Assumes nothing.
use Rattle.std.specs.Prelude.{Option, None, Some}
use Prim.Native.Nat.{ℕ, zero, suc, ◌≤◌}
use mathlib.Core.Bool.{Bool, true, false}
use mathlib.Core.List.{List, [], ◌∷◌, ◌++◌, map, append_assoc}
use mathlib.Core.Path.{◌≡◌, refl, sym, ap, subst, ◌∙◌}
use lib.IntN.{ℤ, pos, negsuc}
use lib.ListN.{length, length-map}
use Rattle.whole.specs.Plain.{whenever}
use Rattle.whole.specs.Whole.{is_true, nat}
use Rattle.whole.specs.Refusals.{not_invoked, not_queued, no_such_method, not_bound, object_busy, not_ready, not_answered, object_rows_full, call_rows_full}
use Rattle.layout.specs.Layout.{Cells, Write, written, of_object, of_call, to_call, running_label, callee, value}
use Rattle.layout.specs.Stages.{invoked, queued, bound, running, answered, replied, taken, objects_in_use, up_to, in_stage, object_of, reply_for, staged}
use Rattle.terms.specs.declared.Variable.{Variable}
use Rattle.terms.specs.Trees.{Expression}
use Rattle.terms.specs.Values.{held, value_of}
use Rattle.code.specs.Statements.{Code, skip, set, new, call, get, await, if, else, fi, while, od, return, map_statement}
use Rattle.model.specs.Model.{Model, Method}
use Rattle.cells.specs.Standing.{Standing, body_of}
use Rattle.cells.proofs.CallFromTest.{counted_is}
use Rattle.cells.proofs.FromTest.{up_to_number}
use Rattle.rules.specs.declared.Choice.{Choice}
use Rattle.rules.specs.Events.{performing, executing, happening, events_of, issuing, spawning, arriving, binding, returning, delivering}
use Rattle.rules.specs.Exec.{here, stored, next_object, next_row, object_left, row_left, class_runs, with_object, with_call, worked_out, onward, jumped, assigned, made, created, issued, took_reply, freed, crossed, suspended, awaited, branched, stage_returned, returned, performed}
use Rattle.rules.specs.Exec as Exec
use Rattle.rules.specs.declared.Kind.{Kind}
use Rattle.rules.specs.declared.Kind.TheVariants as Kind
use Rattle.rules.specs.Kinds.{kind_number, kind_of, in_use, choose}
use Rattle.rules.specs.Messages as Messages
use Rattle.rules.specs.Next.{Next, refused, moved, cells_after}
use Rattle.rules.specs.Step.{ruled, next}
use Rattle.rules.proofs.Chosen.{up_to_some}
use Rattle.rules.proofs.Moved.{refused_moved, must_moved, working_moved, all_moved, next_moved, exec_moved}
use Rattle.promises.proofs.Acts.{Running, Act, goes, jumps, stores, crosses, creates, spawns, issues, takes, suspends, returns, arrives, binds, starts, delivers}

-- a running call's line
module _ (m : Model) (c : Cells) (choice : Choice) (o l : ℕ) (at : Standing) (r : Running m c choice o l at) where
  -- what `new` makes of a class with run 1
  made_run : (k : ℕ) (zs : List ℤ) → class_runs m k ≡ true
      → made m c o l at k zs ≡ with_object c k (next_row c) zs ++ with_call c running 0 (next_object c) 0 []
  unfolding made
  made_run k zs h = rw (h, made)

  -- and of one with run 0
  made_still : (k : ℕ) (zs : List ℤ) → class_runs m k ≡ false → made m c o l at k zs ≡ with_object c k 0 zs
  unfolding made
  made_still k zs h = rw (h, made)

  -- `if` and `while`, by their value
  branches : (z : ℤ) (ws : List Write) → branched m c o l at z ≡ moved ws → Act m c choice ws []
  unfolding branched
  branches z ws e = go (is_true z) refl
    where
      go : (b : Bool) → is_true z ≡ b → Act m c choice ws []
      go true h = let f : onward m c o l at ≡ ws = cc (rw (h, branched) at e) in subst (λ w. Act m c choice w []) f (goes o l at r)
      go false h = let f : jumped m c o l at ≡ ws = cc (rw (h, branched) at e) in subst (λ w. Act m c choice w []) f (jumps o l at r)

  -- `await`, by its guard
  awaits : (z : ℤ) (ws : List Write) → awaited m c o l at z ≡ moved ws → Act m c choice ws []
  unfolding awaited
  awaits z ws e = go (is_true z) refl
    where
      go : (b : Bool) → is_true z ≡ b → Act m c choice ws []
      go true h = let f : crossed m c o l at ≡ ws = cc (rw (h, awaited) at e) in subst (λ w. Act m c choice w []) f (crosses o l at r)
      go false h = let f : suspended m c o l at ≡ ws = cc (rw (h, awaited) at e) in subst (λ w. Act m c choice w []) f (suspends o l at r)

  -- `new`, by whether the class has run 1
  creating : (x : Variable) (k : ℕ) (es : List Expression) (zs : List ℤ) (ws : List Write) → at.statement ≡ new x k es
      → created m c o l at x k zs ≡ moved ws → Act m c choice ws (performing m c (written c ws) o l (new x k es))
  unfolding created performing
  creating x k es zs ws s e =
      let first = must_moved (object_left c) object_rows_full _ ws e in
      let second = must_moved (whenever (class_runs m k) (row_left c)) call_rows_full _ ws first.1 in
      go (class_runs m k) refl first.0 second.0 second.1
    where
      go : (b : Bool) → class_runs m k ≡ b → object_left c ≡ true → whenever (class_runs m k) (row_left c) ≡ true
          → moved (made m c o l at k zs ++ stored c o l x (pos (next_object c)) ++ onward m c o l at) ≡ moved ws
          → Act m c choice ws (performing m c (written c ws) o l (new x k es))
      go true h a b e =
          let f : (with_object c k (next_row c) zs ++ with_call c running 0 (next_object c) 0 []) ++ (stored c o l x (pos (next_object c)) ++ onward m c o l at) ≡ ws =
          cc (made_run k zs h, append_assoc (made m c o l at k zs) (stored c o l x (pos (next_object c))) (onward m c o l at)) in
          rw (h, performing)
          (subst (λ w. Act m c choice w (spawning (nat (of_object (written c ws) (objects_in_use (written c ws)) running_label)) ∷ [])) f
          (spawns o l at r x k es zs s a (rw h at b) (written c ws) (ap (written c) (sym f))))
      go false h a b e =
          let f : with_object c k 0 zs ++ (stored c o l x (pos (next_object c)) ++ onward m c o l at) ≡ ws = cc (made_still k zs h, append_assoc (made m c o l at k zs) (stored c o l x (pos (next_object c))) (onward m c o l at)) in
          rw (h, performing) (subst (λ w. Act m c choice w []) f (creates o l at r x k zs a))

  -- `call`, by the callee
  calling : (x : Variable) (ex : Expression) (j : ℕ) (es : List Expression) (z : ℤ) (zs : List ℤ)
      (ws : List Write) → at.statement ≡ call x ex j es → value_of (here c o l) ex ≡ Some z → length zs ≡ length es
      → issued m c o l at x z j zs ≡ moved ws → Act m c choice ws (performing m c (written c ws) o l (call x ex j es))
  unfolding issued performing
  calling x ex j es z zs ws s v n e = go (object_of c z) refl
    where
      go : (f : Option ℕ) → object_of c z ≡ f → Act m c choice ws (performing m c (written c ws) o l (call x ex j es))
      go None h = absurd (refused_moved (rw (h, issued) at e))
      go (Some to) h =
          let first = must_moved (row_left c) call_rows_full _ ws (rw (h, issued) at e) in
          let f : with_call c invoked o to j zs ++ (stored c o l x (pos (next_row c)) ++ onward m c o l at) ≡ ws = cc (first.1, append_assoc (with_call c invoked o to j zs) (stored c o l x (pos (next_row c))) (onward m c o l at)) in
          subst (λ w. Act m c choice w (issuing (nat (held (here (written c ws) o l) x)) ∷ [])) f
          (issues o l at r x ex j es z to zs s v h n first.0 (written c ws) (ap (written c) (sym f)))

  -- `get`, by the reply
  getting : (x y : Variable) (ws : List Write) → at.statement ≡ get x y → took_reply m c o l at x y ≡ moved ws
      → Act m c choice ws (performing m c (written c ws) o l (get x y))
  unfolding took_reply
  getting x y ws s e = go (reply_for c o (held (here c o l) x)) refl
    where
      go : (f : Option ℕ) → reply_for c o (held (here c o l) x) ≡ f → Act m c choice ws (performing m c (written c ws) o l (get x y))
      go None h = absurd (refused_moved (rw (h, took_reply) at e))
      go (Some from) h =
          let f : staged c from taken ++ (stored c o l y (of_call c from value) ++ onward m c o l at) ≡ ws = cc (rw (h, took_reply) at e, append_assoc (staged c from taken) (stored c o l y (of_call c from value)) (onward m c o l at)) in
          subst (λ w. Act m c choice w (performing m c (written c ws) o l (get x y))) f
          (takes o l at r x y from s h (written c ws) (ap (written c) (sym f)))

  -- any statement
  performs_act : (s : Code) → at.statement ≡ s → (ws : List Write) → performed m c o l at (worked_out (here c o l) s) ≡ moved ws
      → Act m c choice ws (performing m c (written c ws) o l s)
  unfolding performed performing worked_out map_statement assigned returned
  performs_act skip s ws e = let f : onward m c o l at ≡ ws = cc in subst (λ w. Act m c choice w []) f (goes o l at r)
  performs_act (set x ex) s ws e =
      let v = working_moved _ _ ws e in
      let f : stored c o l x v.0 ++ onward m c o l at ≡ ws = cc v.2 in
      subst (λ w. Act m c choice w []) f (stores o l at r x v.0)
  performs_act (new x k es) s ws e = let v = all_moved (map (value_of (here c o l)) es) _ ws e in creating x k es v.0 ws s v.2
  performs_act (call x ex j es) s ws e =
      let v = working_moved _ _ ws e in
      let vs = all_moved (map (value_of (here c o l)) es) _ ws v.2 in
      calling x ex j es v.0 vs.0 ws s v.1 (vs.1 ∙ length-map es (value_of (here c o l))) vs.2
  performs_act (get x y) s ws e = getting x y ws s e
  performs_act (await g) s ws e = let v = working_moved _ _ ws e in awaits v.0 ws v.2
  performs_act (if ex) s ws e = let v = working_moved _ _ ws e in branches v.0 ws v.2
  performs_act else s ws e = let f : jumped m c o l at ≡ ws = cc in subst (λ w. Act m c choice w []) f (jumps o l at r)
  performs_act fi s ws e = let f : onward m c o l at ≡ ws = cc in subst (λ w. Act m c choice w []) f (goes o l at r)
  performs_act (while ex) s ws e = let v = working_moved _ _ ws e in branches v.0 ws v.2
  performs_act od s ws e = let f : jumped m c o l at ≡ ws = cc in subst (λ w. Act m c choice w []) f (jumps o l at r)
  performs_act (return ex) s ws e =
      let v = working_moved _ _ ws e in
      let f : to_call c l value v.0 ++ staged c l (stage_returned m c o l at) ++ freed m c o l at ≡ ws = cc v.2 in
      subst (λ w. Act m c choice w (returning l ∷ [])) f (returns o l at r ex v.0 s v.1)

-- the kind and the number of a choice that has them
kind_is : (z : ℤ) (k : Kind) → kind_of z ≡ Some k → z ≡ pos (kind_number k)
unfolding kind_of kind_number
kind_is (pos zero) k e = cc
kind_is (pos (suc zero)) k e = let f : Kind.Exec ≡ k = cc in subst (λ k. pos 1 ≡ pos (kind_number k)) f refl
kind_is (pos (suc (suc zero))) k e = let f : Kind.Arrive ≡ k = cc in subst (λ k. pos 2 ≡ pos (kind_number k)) f refl
kind_is (pos (suc (suc (suc zero)))) k e = let f : Kind.Bind ≡ k = cc in subst (λ k. pos 3 ≡ pos (kind_number k)) f refl
kind_is (pos (suc (suc (suc (suc zero))))) k e = let f : Kind.Start ≡ k = cc in subst (λ k. pos 4 ≡ pos (kind_number k)) f refl
kind_is (pos (suc (suc (suc (suc (suc zero)))))) k e = let f : Kind.Deliver ≡ k = cc in subst (λ k. pos 5 ≡ pos (kind_number k)) f refl
kind_is (pos (suc (suc (suc (suc (suc (suc n))))))) k e = cc
kind_is (negsuc n) k e = cc

-- a number that was found is the number that was asked
pub up_to_is : (n : ℕ) (z : ℤ) (i : ℕ) → up_to n z ≡ Some i → z ≡ pos i
up_to_is n z i e = let (h, s) = up_to_number n z i e in counted_is z i h.counts s

module _ (m : Model) (c : Cells) (choice : Choice) where
  -- exec at an object in use
  exec_act : (o : ℕ) → choice ≡ choose Kind.Exec o → 1 ≤ o → o ≤ in_use c Kind.Exec → (ws : List Write) → Exec.exec m c o ≡ moved ws
      → Act m c choice ws (executing m c (written c ws) o)
  unfolding executing in_use
  exec_act o is low high ws e =
      let (l, at, h, g, f) = exec_moved m c o ws e in
      rw (h, executing, g)
      (performs_act m c choice o l at (record { chosen = is; low = low; high = high; runs = h; stands = g }) at.statement refl ws f)

  -- the rules of a label
  ruled_act : (k : Kind) (n : ℕ) → choice ≡ choose k n → 1 ≤ n → n ≤ in_use c k → (ws : List Write) → ruled m c k n ≡ moved ws
      → Act m c choice ws (happening m c (written c ws) k n)
  unfolding ruled happening in_use Messages.arrive Messages.bind Messages.start Messages.start_in Messages.deliver
  ruled_act Kind.Exec n is low high ws e = exec_act n is low high ws e
  ruled_act Kind.Arrive n is low high ws e =
      let t = must_moved (in_stage c n invoked) not_invoked _ ws e in
      let f : staged c n queued ≡ ws = cc t.1 in
      subst (λ w. Act m c choice w (arriving n ∷ [])) f (arrives n (record { chosen = is; low = low; high = high }) t.0)
  ruled_act Kind.Bind n is low high ws e =
      let t = must_moved (in_stage c n queued) not_queued _ ws e in
      go (body_of m c n) refl t.0 t.1
    where
      go : (b : Option Method) → body_of m c n ≡ b → in_stage c n queued ≡ true
          → (elim (body_of m c n) as (λ t. Next) [ None ↦ refused no_such_method | Some b ↦ moved (staged c n bound) ]) ≡ moved ws
          → Act m c choice ws (happening m c (written c ws) Kind.Bind n)
      go None h a e = absurd (refused_moved (rw h at e))
      go (Some b) h a e =
          let f : staged c n bound ≡ ws = cc (rw h at e) in
          subst (λ w. Act m c choice w (binding n ∷ [])) f (binds n (record { chosen = is; low = low; high = high }) a)
  ruled_act Kind.Start n is low high ws e =
      let t = must_moved (in_stage c n bound) not_bound _ ws e in
      let u = must_moved _ object_busy _ ws t.1 in
      let v = working_moved _ _ ws u.1 in
      let w = must_moved _ not_ready _ ws v.2 in
      let f : Messages.started c (nat (of_call c n callee)) n ≡ ws = cc w.1 in
      subst (λ w. Act m c choice w []) f (starts n (record { chosen = is; low = low; high = high }) t.0)
  ruled_act Kind.Deliver n is low high ws e =
      let t = must_moved (in_stage c n answered) not_answered _ ws e in
      let f : staged c n replied ≡ ws = cc t.1 in
      subst (λ w. Act m c choice w (delivering n ∷ [])) f (delivers n (record { chosen = is; low = low; high = high }) t.0)

  -- every accepted choice is one of the cases
  pub acts : (ws : List Write) → next m c choice ≡ moved ws → Act m c choice ws (events_of m c choice)
  unfolding events_of choose cells_after nat
  acts ws e =
      let (k, n, h, g, f) = next_moved m c choice ws e in
      let w = up_to_some (in_use c k) choice.number n g in
      let z = up_to_is (in_use c k) choice.number n g in
      let is : choice ≡ choose k n = λ i. record { kind = kind_is choice.kind k h i; number = z i } in
      let same : n ≡ nat choice.number = sym (ap nat z) in
      rw (e, events_of, h) (subst (λ i. Act m c choice ws (happening m c (written c ws) k i)) same (ruled_act k n is w.0 w.1 ws f))
