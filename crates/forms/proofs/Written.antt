-- What the forms write, part after part: a list of writes is the same asked of other cells, and parts that were written one after the other are
-- one list. What a form of a value that was worked out gives. Assumes nothing.
use Rattle.std.specs.Prelude.{Option, Some, None, Result, Ok, Err, ok_or, IsErrAnd}
use Rattle.std.proofs.lemmas.Result.{err_from_is_err_and}
use Prim.Native.Nat.{ℕ, ◌<◌}
use mathlib.Core.Bool.{Bool, true, false}
use mathlib.Core.List.{List, ◌++◌, append_assoc}
use mathlib.Core.Path.{◌≡◌, refl, sym, ap, ap₂, subst, ◌∙◌}
use lib.IntN.{ℤ, pos}
use lib.Signed.{mag}
use mir.Syntax.{w32}
use mir.Val.{to_z, of_z}
use native.Mathlib.Omega.{arith}
use borrow.Author.Tests.{eq-eqb, ne_eqb}
use Rattle.whole.proofs.Ranges.{handed, same_bits}
use Rattle.whole.specs.declared.refusals.Refusal.{Refusal}
use Rattle.whole.specs.Vocabulary.Refusing.{Answer, number_of, number_given}
use Rattle.whole.specs.Whole.{is_true, eq_z, Worked}
use Rattle.layout.specs.Layout.{Cells, Write, written, to_call, row_of, line}
use Rattle.layout.specs.Stages.{staged}
use Rattle.layout.proofs.Writes.{written_append}
use Rattle.terms.specs.declared.Variable.{Variable}
use Rattle.terms.specs.declared.Variable.TheVariants.{Attribute, Local}
use Rattle.cells.specs.Standing.{Standing}
use Rattle.model.specs.Model.{Model}
use Rattle.rules.specs.Exec as Exec
use Rattle.rules.specs.Next.{Next, moved, refused, working, answer_of, cells_after}
use Rattle.forms.specs.Vocabulary.Done.{Done}

-- what is asked of other cells: a field of a call, its stage, a variable, the next line, and a variable with the next line
module _ (c d : Cells) where
  pub call_anew : (l f : ℕ) (z : ℤ) → to_call c l f z ≡ to_call d l f z
  unfolding to_call row_of
  call_anew l f z = refl

  pub staged_anew : (l s : ℕ) → staged c l s ≡ staged d l s
  unfolding staged
  staged_anew l s = call_anew l _ _

  pub stored_anew : (o l : ℕ) (x : Variable) (z : ℤ) → Exec.stored c o l x z ≡ Exec.stored d o l x z
  unfolding Exec.stored
  stored_anew o l (Attribute i) z = refl
  stored_anew o l (Local i) z = call_anew l _ z

  pub onward_anew : (m : Model) (o l : ℕ) (at : Standing) → Exec.onward m c o l at ≡ Exec.onward m d o l at
  unfolding Exec.onward
  onward_anew m o l at = call_anew l _ _

  pub assigned_anew : (m : Model) (o l : ℕ) (at : Standing) (x : Variable) (z : ℤ) → Exec.assigned m c o l at x z ≡ Exec.assigned m d o l at x z
  unfolding Exec.assigned
  assigned_anew m o l at x z = ap₂ (λ us vs. moved (us ++ vs)) (stored_anew o l x z) (onward_anew m o l at)

-- a form that wrote its writes
pub all_written : (c d : Cells) (ws : List Write) → d ≡ written c ws → Done c (moved ws) (Ok tt) d
unfolding answer_of cells_after number_given
all_written c d ws e = (refl, e)

-- the line that a call goes to, by its number
pub line_written : (c d : Cells) (l n k : ℕ) → k ≡ n → d ≡ written c (to_call c l line (pos n)) → Done c (moved (to_call c l line (pos k))) (Ok tt) d
line_written c d l n k at e = all_written c d _ (e ∙ ap (λ i. written c (to_call c l line (pos i))) (sym at))

-- a form that was refused
pub not_performed : (c : Cells) (r : Refusal) → Done c (refused (number_of r)) (Err r) c
unfolding answer_of cells_after number_given
not_performed c r = (refl, refl)

-- after some writes: more of them, a field of a call, its stage
module _ (c d e : Cells) (us : List Write) (first : d ≡ written c us) where
  pub then : (vs : List Write) → e ≡ written d vs → e ≡ written c (us ++ vs)
  then vs q = q ∙ ap (λ b. written b vs) first ∙ sym (written_append c us vs)

  pub call_then : (l f : ℕ) (z : ℤ) → e ≡ written d (to_call d l f z) → e ≡ written c (us ++ to_call c l f z)
  call_then l f z q = then _ (q ∙ ap (written d) (call_anew d c l f z))

  pub staged_then : (l s : ℕ) → e ≡ written d (staged d l s) → e ≡ written c (us ++ staged c l s)
  staged_then l s q = then _ (q ∙ ap (written d) (staged_anew d c l s))

  -- a form that was performed, the next line, and a variable with the next line
  pub done_then : (ws : List Write) (r : Answer) → Done d (moved ws) r e → Done c (moved (us ++ ws)) r e
  unfolding answer_of cells_after
  done_then ws r h = (h.0, then ws h.1)

  module _ (m : Model) (o l : ℕ) (at : Standing) (r : Answer) where
    pub onward_then : Done d (moved (Exec.onward m d o l at)) r e → Done c (moved (us ++ Exec.onward m c o l at)) r e
    onward_then h = done_then _ r (subst (λ ws. Done d (moved ws) r e) (onward_anew d c m o l at) h)

    pub assigned_then : (x : Variable) (z : ℤ) → Done d (Exec.assigned m d o l at x z) r e
        → Done c (moved (us ++ Exec.stored c o l x z ++ Exec.onward m c o l at)) r e
    unfolding Exec.assigned
    assigned_then x z h =
        subst (λ ws. Done c (moved ws) r e) (sym (append_assoc us (Exec.stored c o l x z) (Exec.onward m c o l at)))
        (done_then _ r (subst (λ n. Done d n r e) (assigned_anew d c m o l at x z) h))

-- what a `?` hands on of a value that may be missing, and what it answers where it is missing
module _ {A : Type 0} (w : Option A) (k : Refusal) where
  pub there : (z : A) → Ok z ≡ ok_or w k → w ≡ Some z
  there z e = go w refl
    where
      go : (v : Option A) → w ≡ v → w ≡ Some z
      go None n = let f : ◌≡◌ {A = Result A Refusal} (Ok z) (Err k) = e ∙ ap (λ v. ok_or v k) n in cc
      go (Some y) n = let f : ◌≡◌ {A = Result A Refusal} (Ok z) (Ok y) = e ∙ ap (λ v. ok_or v k) n in cc

  pub missing : (y : Refusal) (r : Answer) → Err y ≡ ok_or w k → IsErrAnd r (λ q. q ≡ y) → (w ≡ None) × (r ≡ Err k)
  missing y r e h = go w refl
    where
      go : (v : Option A) → w ≡ v → (w ≡ None) × (r ≡ Err k)
      go None n =
          let f : ◌≡◌ {A = Result A Refusal} (Err y) (Err k) = e ∙ ap (λ v. ok_or v k) n in
          let (q, is, same) = err_from_is_err_and r h in
          (n, cc)
      go (Some z) n = let f : ◌≡◌ {A = Result A Refusal} (Err y) (Ok z) = e ∙ ap (λ v. ok_or v k) n in cc

  -- so a form that needs it was refused, and nothing is written
  pub not_found : (c : Cells) (n : Next) (y : Refusal) (r : Answer) → Err y ≡ ok_or w k → IsErrAnd r (λ q. q ≡ y) → (w ≡ None → n ≡ refused (number_of k))
      → Done c n r c
  not_found c n y r e h f =
      let m = missing y r e h in
      subst (λ r. Done c n r c) (sym m.1) (subst (λ n. Done c n (Err k) c) (sym (f m.0)) (not_performed c k))

-- a value that was worked out, and one that did not fit
module _ (c : Cells) (w : Worked) (k : ℤ → Next) where
  pub worked_out_lem : (d : Cells) (z : ℤ) (r : Answer) → w ≡ Some z → Done c (k z) r d → Done c (working w k) r d
  unfolding working
  worked_out_lem d z r e h = subst (λ v. Done c (working v k) r d) (sym e) h

  pub did_not_fit : (y : Refusal) (r : Answer) → Err y ≡ ok_or w Refusal.OutOfRange → IsErrAnd r (λ q. q ≡ y) → Done c (working w k) r c
  unfolding working number_of
  did_not_fit y r e h = not_found w Refusal.OutOfRange c (working w k) y r e h (λ n. ap (λ v. working v k) n)

-- what was done with a value that was handed on
pub done_with : (c d : Cells) (k : ℤ → Next) (r : Answer) (y z : ℤ) → y ≡ z → Done c (k y) r d → Done c (k z) r d
done_with c d k r y z e = subst (λ v. Done c (k v) r d) e

-- whether a value that was handed to the test is true
pub tested_true : (r b : Bool) (z : ℤ) → mag z < 2147483648 → r ≡ is_true (to_z w32 (of_z w32 z)) → r ≡ b → is_true z ≡ b
tested_true r b z h e t = ap is_true (sym (handed z z h refl)) ∙ sym e ∙ t

-- a cell that was compared with 0
module _ (z : ℤ) (h : mag z < 2147483648) where
  pub is_zero : of_z w32 z ≡ 0 → eq_z z (pos 0) ≡ true
  is_zero e = sym (same_bits z (pos 0) (record { sfits = h }) (record { sfits = omega arith })) ∙ eq-eqb _ 0 e

  pub is_other : (of_z w32 z ≡ 0 → ⊥) → eq_z z (pos 0) ≡ false
  is_other e = sym (same_bits z (pos 0) (record { sfits = h }) (record { sfits = omega arith })) ∙ ne_eqb _ 0 e
