-- Whom the events are about: a `call` and a `new` of a class with run 1 are about the next label, and a `get` about the label whose reply it takes.
-- Assumes nothing.
use Rattle.std.specs.Prelude.{Option, None, Some}
use Prim.Native.Nat.{ℕ, ◌+◌, ◌≤◌}
use mathlib.Core.Bool.{Bool, true, false}
use mathlib.Core.List.{List, [], ◌∷◌, ◌++◌, append_assoc}
use mathlib.Core.Path.{◌≡◌, refl, sym, ap, subst, ◌∙◌}
use native.Mathlib.Omega.{arith}
use borrow.Author.Tests.{ne_eqb}
use lib.IntN.{ℤ, pos}
use lib.ListN.{length}
use Rattle.whole.specs.Plain.{only_if}
use Rattle.whole.specs.Whole.{eq_z, nat}
use Rattle.whole.proofs.Both.{both_left, both_right}
use Rattle.layout.specs.Layout.{Cells, call_rows, written, of_object, of_call, running_label, caller, line, value}
use Rattle.layout.specs.Stages.{running, invoked, replied, taken, objects_in_use, rows_in_use, label_of, stage_of, in_stage, is_reply, reply_for, staged}
use Rattle.layout.proofs.Laws.{length_written}
use Rattle.terms.specs.declared.Limits.{Limits}
use Rattle.terms.specs.declared.Variable.{Variable}
use Rattle.terms.specs.declared.Variable.TheVariants.{Attribute, Local}
use Rattle.terms.specs.Trees.{Expression}
use Rattle.terms.specs.Values.{held}
use Rattle.terms.specs.Within.{VariableWithin}
use Rattle.code.specs.Statements.{call, get}
use Rattle.code.specs.Within.{CodeWithin}
use Rattle.model.specs.Accepted.{AcceptedModel}
use Rattle.model.specs.Model.{Model}
use Rattle.cells.specs.Configuration.{is_configuration}
use Rattle.cells.specs.Standing.{Standing}
use Rattle.whole.proofs.Tested.{no_some, equals}
use Rattle.cells.proofs.Configured.{configured}
use Rattle.layout.proofs.Writes.{written_append}
use Rattle.rules.specs.declared.Choice.{Choice}
use Rattle.rules.specs.Events as Events
use Rattle.rules.specs.Events.{taking}
use Rattle.rules.specs.Exec.{here, stored, next_object, next_row, object_left, row_left, with_object, with_call, onward}
use Rattle.rules.proofs.Chosen.{up_to_some}
use Rattle.rules.proofs.Executing.{within, few_attrs, few_locals}
use Rattle.rules.proofs.Leaving.{object_row}
use Rattle.rules.proofs.Messaging.{label_row}
use Rattle.rules.proofs.Performing.{Performing, performing, standing, stands_there}
use Rattle.promises.specs.Lives.{Issued}
use Rattle.promises.proofs.Acting.{up_to_is}
use Rattle.promises.proofs.Acts.{Running}
use Rattle.promises.proofs.Configured.{all_cells_lem}
use Rattle.promises.proofs.Rows.{Fits, new_count, new_running, stored_reads, line_reads}
use Rattle.promises.proofs.Spared.{tail_scratch}

-- "a label of stage 6 whose caller is this object"
pub record Replied (c : Cells) (o : ℕ) (z : ℤ) (from : ℕ) : Type 0 where
  pub label : z ≡ pos from
  pub low : 1 ≤ from
  pub high : from ≤ rows_in_use c
  pub stage_is : stage_of c from ≡ pos replied
  pub caller_is : of_call c from caller ≡ pos o

-- what a reply that was found says
pub replied_for : (c : Cells) (o : ℕ) (z : ℤ) (from : ℕ) → reply_for c o z ≡ Some from → Replied c o z from
unfolding reply_for label_of is_reply in_stage only_if
replied_for c o z from e = by_label (label_of c z) refl
  where
    by_reply : (l : ℕ) → label_of c z ≡ Some l → (b : Bool) → is_reply c o l ≡ b → reply_for c o z ≡ Some from → Replied c o z from
    by_reply l h true r e =
        let same : l ≡ from = cc (rw (h, reply_for, r) at e) in
        let w = up_to_some (rows_in_use c) z l h in
        subst (λ i. Replied c o z i) same (record {
          label = up_to_is (rows_in_use c) z l h;
          low = w.0;
          high = w.1;
          stage_is = equals (stage_of c l) replied (both_left (in_stage c l replied) (eq_z (of_call c l caller) (pos o)) r);
          caller_is = equals (of_call c l caller) o (both_right (in_stage c l replied) (eq_z (of_call c l caller) (pos o)) r);
        })
    by_reply l h false r e = absurd (no_some (rw (h, reply_for, r) at e))

    by_label : (f : Option ℕ) → label_of c z ≡ f → Replied c o z from
    by_label None h = absurd (no_some (rw (h, reply_for) at e))
    by_label (Some l) h = by_reply l h (is_reply c o l) refl e

module _ (m : Model) (accepted : AcceptedModel m) (c : Cells) (is : is_configuration m c ≡ true) (choice : Choice) (o l : ℕ) (at : Standing)
    (r : Running m c choice o l at) where
  -- the object's running call in its configuration
  running_call : Performing m c o l
  running_call = performing m c o l (configured m c is) r.low r.high r.runs

  -- it stands where it was found
  stands_at : standing running_call ≡ at
  stands_at = let e : Some (standing running_call) ≡ Some at = sym (stands_there m c o l running_call) ∙ r.stands in cc

  -- how many variables there are at its line
  abbrev limits : Limits
  limits = let s = running_call.bound.stands in record { attrs = s.class.attrs; locals = s.body.locals }

  -- its line is as an accepted text says
  line_within : CodeWithin limits (length m) at.statement
  line_within = subst (λ (s : Standing). CodeWithin limits (length m) s.statement) stands_at (within m accepted c o l running_call)

  -- so a variable of it is one that a row has
  fits : (x : Variable) → VariableWithin limits x → Fits x
  unfolding VariableWithin
  fits (Attribute i) h = let few = few_attrs m accepted c o l running_call in omega arith
  fits (Local i) h = let few = few_locals m accepted c o l running_call in omega arith

  -- it is an issued one
  pub running_issued : Issued c l
  running_issued = running_call.call

  -- and runs
  pub running_stage : stage_of c l ≡ pos running
  unfolding stage_of
  running_stage = running_call.stage

  -- its label has a row
  label_few : l ≤ call_rows
  label_few = label_row m c (configured m c is) l running_issued.0 running_issued.1

  -- what it stores is there, in whatever cells it is written to
  pub stores_it : (e : Cells) → length e ≡ length c → (x : Variable) → Fits x → (z : ℤ)
      → held (here (written e (stored c o l x z ++ onward m c o l at)) o l) x ≡ z
  stores_it e long x fits z =
      stored_reads m c o l at e (long ∙ all_cells_lem m c is) running_issued.0 label_few r.low (object_row m c o l running_call) x fits z

  -- `new` of a class with run 1
  pub spawn_label : (x : Variable) (k : ℕ) (zs : List ℤ) → object_left c ≡ true → row_left c ≡ true → (d : Cells)
      → d ≡ written c ((with_object c k (next_row c) zs ++ with_call c running 0 (next_object c) 0 []) ++ (stored c o l x (pos (next_object c)) ++ onward m c o l at))
      → (nat (of_object d (objects_in_use d) running_label) ≡ next_row c) × (objects_in_use d ≡ next_object c)
  unfolding nat
  spawn_label x k zs left left-calls d e =
      let p = with_object c k (next_row c) zs in
      let q = with_call c running 0 (next_object c) 0 [] in
      let t = stored c o l x (pos (next_object c)) ++ onward m c o l at in
      let long = all_cells_lem m c is in
      let f : d ≡ written (written (written c p) q) t = e ∙ written_append c (p ++ q) t ∙ ap (λ d. written d t) (written_append c p q) in
      let only = tail_scratch m c o l at x (pos (next_object c)) in
      let n : objects_in_use d ≡ next_object c =
      ap objects_in_use f ∙ new_count c long left left-calls k (next_row c) running 0 (next_object c) 0 zs t only in
      let g : of_object d (next_object c) running_label ≡ pos (next_row c) =
      ap (λ d. of_object d (next_object c) running_label) f ∙ new_running c long left left-calls k (next_row c) running 0 (next_object c) 0 zs t only in
      (ap (λ i. nat (of_object d i running_label)) n ∙ ap nat g, n)

  -- `call`
  pub issue_label : (x : Variable) (ex : Expression) (j : ℕ) (es : List Expression) (to : ℕ) (zs : List ℤ) → at.statement ≡ call x ex j es → (d : Cells)
      → d ≡ written c (with_call c invoked o to j zs ++ (stored c o l x (pos (next_row c)) ++ onward m c o l at)) → nat (held (here d o l) x) ≡ next_row c
  unfolding CodeWithin nat
  issue_label x ex j es to zs s d e =
      let q = with_call c invoked o to j zs in
      let t = stored c o l x (pos (next_row c)) ++ onward m c o l at in
      let code : CodeWithin limits (length m) (call x ex j es) = subst (CodeWithin limits (length m)) s line_within in
      ap (λ d. nat (held (here d o l) x)) (e ∙ written_append c q t)
      ∙ ap nat (stores_it (written c q) (length_written c q) x (fits x code.0) (pos (next_row c)))

  -- `get`: the label is the reply's, the line goes on, so that it is taken, and Y gets its value
  pub take_label : (x y : Variable) (from : ℕ) → reply_for c o (held (here c o l) x) ≡ Some from → (d : Cells)
      → d ≡ written c (staged c from taken ++ (stored c o l y (of_call c from value) ++ onward m c o l at)) → Events.performing m c d o l (get x y) ≡ taking from ∷ []
  unfolding Events.performing eq_z nat
  take_label x y from h d e =
      let u = replied_for c o (held (here c o l) x) from h in
      let before : of_call c l line ≡ pos at.at = running_call.bound.stands.counts ∙ ap (λ (s : Standing). pos s.at) stands_at in
      let after : of_call d l line ≡ pos (at.at + 1) =
      ap (λ d. of_call d l line) (e ∙ ap (written c) (sym (append_assoc (staged c from taken) (stored c o l y (of_call c from value)) (onward m c o l at))))
      ∙ line_reads m c o l at c (all_cells_lem m c is) running_issued.0 label_few (staged c from taken ++ stored c o l y (of_call c from value)) in
      let differ : eq_z (of_call c l line) (of_call d l line) ≡ false =
      ap (λ z. eq_z z (of_call d l line)) before ∙ ap (eq_z (pos at.at)) after ∙ ne_eqb at.at (at.at + 1) (λ s. omega arith) in
      rw (differ, Events.performing) (ap (λ z. taking (nat z) ∷ []) u.label)

  -- and Y gets the value of its row
  pub take_value : (x y : Variable) (from : ℕ) → at.statement ≡ get x y → (d : Cells)
      → d ≡ written c (staged c from taken ++ (stored c o l y (of_call c from value) ++ onward m c o l at)) → held (here d o l) y ≡ of_call c from value
  unfolding CodeWithin
  take_value x y from s d e =
      let code : CodeWithin limits (length m) (get x y) = subst (CodeWithin limits (length m)) s line_within in
      ap (λ d. held (here d o l) y) (e ∙ written_append c (staged c from taken) (stored c o l y (of_call c from value) ++ onward m c o l at))
      ∙ stores_it (written c (staged c from taken)) (length_written c (staged c from taken)) y (fits y code.1) (of_call c from value)
