-- What a step that issues, spawns, returns or takes has done: who performed which line, and what stands in the cells after it. Assumes nothing.
use Rattle.std.specs.Prelude.{Some}
use Prim.Native.Nat.{ℕ}
use mathlib.Core.Bool.{true}
use mathlib.Core.List.{List, [], ◌∷◌, ◌++◌, append_assoc}
use mathlib.Core.Logic.{◌⊎◌, inl, inr}
use mathlib.Core.Path.{◌≡◌, refl, sym, ap, subst, ◌∙◌}
use native.Mathlib.Omega.{arith}
use lib.IntN.{ℤ, pos}
use lib.ListN.{length}
use Rattle.layout.specs.Layout.{Cells, Write, written, of_call, to_call, to_object, running_label, value}
use Rattle.layout.specs.Stages.{stage_of, object_of, objects_in_use, staged, invoked, queued, bound, running, replied, taken}
use Rattle.layout.proofs.Laws.{length_written}
use Rattle.terms.specs.declared.Variable.{Variable}
use Rattle.terms.specs.Trees.{Expression}
use Rattle.terms.specs.Values.{held, value_of}
use Rattle.code.specs.Statements as Code
use Rattle.model.specs.Accepted.{AcceptedModel}
use Rattle.model.specs.Model.{Model}
use Rattle.cells.specs.Configuration.{is_configuration}
use Rattle.cells.specs.Standing.{Standing}
use Rattle.cells.proofs.Configured.{configured}
use Rattle.layout.proofs.Writes.{written_append}
use Rattle.rules.specs.declared.Choice.{Choice}
use Rattle.rules.specs.Events.{Event, issuing, spawning, arriving, binding, returning, delivering, taking}
use Rattle.rules.specs.Exec.{here, stored, next_object, next_row, with_object, with_call, onward, freed, stage_returned}
use Rattle.rules.proofs.Messaging.{label_row}
use Rattle.promises.specs.Histories.{Among}
use Rattle.promises.specs.Lives.{Issued}
use Rattle.promises.proofs.Acting.{up_to_is}
use Rattle.promises.proofs.Acts.{Act, Running, goes, jumps, stores, crosses, creates, spawns, issues, takes, suspends, returns, arrives, binds, starts, delivers}
use Rattle.promises.proofs.Configured.{all_cells_lem}
use Rattle.promises.proofs.Rows.{NewCall, new_call_lem, field_reads, valueless}
use Rattle.promises.proofs.Spared.{answered_by, tail_scratch}
use Rattle.promises.proofs.Subjects.{Replied, replied_for, running_issued, running_stage, spawn_label, issue_label, take_label, take_value}
use Rattle.promises.proofs.Untouched.{only_append, only_call, only_object}

module _ (m : Model) (c : Cells) (choice : Choice) (d : Cells) where
  -- a `call`: the line, and the row of the next label
  pub record IssuedNow (l : ℕ) : Type 0 where
    pub o : ℕ
    pub k : ℕ
    pub at : Standing
    pub run : Running m c choice o k at
    pub x : Variable
    pub e : Expression
    pub j : ℕ
    pub es : List Expression
    pub to : ℕ
    pub reads : at.statement ≡ Code.call x e j es
    pub works : value_of (here c o k) e ≡ Some (pos to)
    pub label : l ≡ next_row c
    pub row : NewCall d l invoked o to j (length es)

  -- a `new` of a class with run 1: the row of the next label
  pub record SpawnedNow (l : ℕ) : Type 0 where
    pub label : l ≡ next_row c
    pub row : NewCall d l running 0 (objects_in_use d) 0 0

  -- a `return`: the line, its value, and the value's cell
  pub record ReturnedNow (l : ℕ) : Type 0 where
    pub o : ℕ
    pub at : Standing
    pub run : Running m c choice o l at
    pub e : Expression
    pub reads : at.statement ≡ Code.return e
    pub works : value_of (here c o l) e ≡ Some (of_call d l value)

  -- a `get`: the line, whose reply it is, and what Y holds then
  pub record TakenNow (l : ℕ) : Type 0 where
    pub o : ℕ
    pub k : ℕ
    pub at : Standing
    pub run : Running m c choice o k at
    pub x : Variable
    pub y : Variable
    pub reads : at.statement ≡ Code.get x y
    pub reply : Replied c o (held (here c o k) x) l
    pub same : held (here d o k) y ≡ of_call c l value

  -- what each event says; those of transport and binding say nothing more
  unfoldable pub Happened : Event → Type 0
  Happened (issuing l) = IssuedNow l
  Happened (spawning l) = SpawnedNow l
  Happened (arriving l) = Unit {0}
  Happened (binding l) = Unit {0}
  Happened (returning l) = ReturnedNow l
  Happened (delivering l) = Unit {0}
  Happened (taking l) = TakenNow l

  -- of one event, what happened
  of_one : (e f : Event) → Happened f → Among e (f ∷ []) → Happened e
  of_one e f h (inl s) = subst Happened (sym s) h
  of_one e f h (inr n) = absurd n

-- the running call that a step answers, if any
pub answers : {m : Model} {c : Cells} {choice : Choice} {ws : List Write} {es : List Event} → AcceptedModel m → is_configuration m c ≡ true → (a : Act m c choice ws es)
    → (answered_by a ≡ 0) ⊎ (stage_of c (answered_by a) ≡ pos running)
unfolding answered_by
answers acc is (goes o l at r) = inl refl
answers acc is (jumps o l at r) = inl refl
answers acc is (stores o l at r x z) = inl refl
answers acc is (crosses o l at r) = inl refl
answers acc is (creates o l at r x k zs a) = inl refl
answers acc is (spawns o l at r x k es zs s a b d e) = inl refl
answers acc is (issues o l at r x e j es z to zs s v g n a d f) = inl refl
answers acc is (takes o l at r x y from s g d f) = inl refl
answers acc is (suspends o l at r) = inl refl
answers {m} {c} {choice} acc is (returns o l at r e z s v) = inr (running_stage m acc c is choice o l at r)
answers acc is (arrives l w s) = inl refl
answers acc is (binds l w s) = inl refl
answers acc is (starts l w s) = inl refl
answers acc is (delivers l w s) = inl refl

module _ (m : Model) (accepted : AcceptedModel m) (c : Cells) (is : is_configuration m c ≡ true) (choice : Choice) where
  -- the value's cell after a return
  value_returned : (o l : ℕ) (at : Standing) → Issued c l → (z : ℤ) (s : ℕ) → of_call (written c (to_call c l value z ++ staged c l s ++ freed m c o l at)) l value ≡ z
  unfolding freed valueless staged
  value_returned o l at i z s =
      let p = to_call c l value z in
      let q = staged c l s in
      let t = to_object o running_label (pos 0) in
      let few = label_row m c (configured m c is) l i.0 i.1 in
      ap (λ ws. of_call (written c ws) l value) (append_assoc p q t)
      ∙ field_reads c c (all_cells_lem m c is) l i.0 few [] value z (omega arith) valueless (q ++ t)
      (only_append valueless q t (only_call valueless c l 0 (pos s) refl) (only_object valueless o running_label (pos 0) refl)) refl

  -- every case
  pub what_happened : {ws : List Write} {es : List Event} → Act m c choice ws es → (e : Event) → Among e es → Happened m c choice (written c ws) e
  unfolding Happened object_of
  what_happened (goes o l at r) e h = absurd h
  what_happened (jumps o l at r) e h = absurd h
  what_happened (stores o l at r x z) e h = absurd h
  what_happened (crosses o l at r) e h = absurd h
  what_happened (creates o l at r x k zs a) e h = absurd h
  what_happened (spawns o l at r x k es zs s a b d f) e h =
      let p = with_object c k (next_row c) zs in
      let q = with_call c running 0 (next_object c) 0 [] in
      let t = stored c o l x (pos (next_object c)) ++ onward m c o l at in
      let label = spawn_label m accepted c is choice o l at r x k zs a b d f in
      let new = new_call_lem c (written c p) (length_written c p ∙ all_cells_lem m c is) b running 0 (next_object c) 0 [] t (tail_scratch m c o l at x (pos (next_object c))) in
      let same : written (written (written c p) q) t ≡ written c ((p ++ q) ++ t) = sym (written_append c (p ++ q) t ∙ ap (λ d. written d t) (written_append c p q)) in
      let count : next_object c ≡ objects_in_use (written c ((p ++ q) ++ t)) = sym label.1 ∙ ap objects_in_use f in
      of_one m c choice (written c ((p ++ q) ++ t)) e (spawning _)
      (record {
        label = label.0;
        row =
            subst (λ i. NewCall (written c ((p ++ q) ++ t)) i running 0 (objects_in_use (written c ((p ++ q) ++ t))) 0 0) (sym label.0)
            (subst (λ i. NewCall (written c ((p ++ q) ++ t)) (next_row c) running 0 i 0 0) count
            (subst (λ d. NewCall d (next_row c) running 0 (next_object c) 0 0) same new));
      }) h
  what_happened (issues o l at r x ex j es z to zs s v g n a d f) e h =
      let q = with_call c invoked o to j zs in
      let t = stored c o l x (pos (next_row c)) ++ onward m c o l at in
      let label = issue_label m accepted c is choice o l at r x ex j es to zs s d f in
      let new = new_call_lem c c (all_cells_lem m c is) a invoked o to j zs t (tail_scratch m c o l at x (pos (next_row c))) in
      let number : z ≡ pos to = up_to_is (objects_in_use c) z to g in
      of_one m c choice (written c (q ++ t)) e (issuing _)
      (record {
        o = o;
        k = l;
        at = at;
        run = r;
        x = x;
        e = ex;
        j = j;
        es = es;
        to = to;
        reads = s;
        works = v ∙ ap Some number;
        label = label;
        row =
            subst (λ i. NewCall (written c (q ++ t)) i invoked o to j (length es)) (sym label)
            (subst (λ i. NewCall (written c (q ++ t)) (next_row c) invoked o to j i) n
            (subst (λ d. NewCall d (next_row c) invoked o to j (length zs)) (sym (written_append c q t)) new));
      }) h
  what_happened (takes o l at r x y from s g d f) e h =
      let t = staged c from taken ++ (stored c o l y (of_call c from value) ++ onward m c o l at) in
      of_one m c choice (written c t) e (taking from)
      (record {
        o = o;
        k = l;
        at = at;
        run = r;
        x = x;
        y = y;
        reads = s;
        reply = replied_for c o (held (here c o l) x) from g;
        same = take_value m accepted c is choice o l at r x y from s (written c t) refl;
      }) (subst (Among e) (take_label m accepted c is choice o l at r x y from g d f) h)
  what_happened (suspends o l at r) e h = absurd h
  what_happened (returns o l at r ex z s v) e h =
      of_one m c choice _ e (returning l)
      (record {
        o = o;
        at = at;
        run = r;
        e = ex;
        reads = s;
        works = v ∙ ap Some (sym (value_returned o l at (running_issued m accepted c is choice o l at r) z (stage_returned m c o l at)));
      }) h
  what_happened (arrives l w s) e h = of_one m c choice (written c (staged c l queued)) e (arriving l) tt h
  what_happened (binds l w s) e h = of_one m c choice (written c (staged c l bound)) e (binding l) tt h
  what_happened (starts l w s) e h = absurd h
  what_happened (delivers l w s) e h = of_one m c choice (written c (staged c l replied)) e (delivering l) tt h
