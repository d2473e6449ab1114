-- 28, "line past the method's end", is never given from a configuration. Assumes nothing.
use Rattle.std.specs.Prelude.{Option, None, Some}
use Prim.Native.Nat.{ℕ, ◌≤◌}
use mathlib.Core.Bool.{Bool, true, false}
use mathlib.Core.List.{List, [], ◌∷◌}
use mathlib.Core.Path.{◌≡◌, refl, sym, subst, ◌∙◌}
use mathlib.Core.Logic.{◌≢◌}
use native.Mathlib.Omega.{arith}
use lib.IntN.{ℤ}
use Rattle.whole.specs.Whole.{Worked, is_true}
use Rattle.whole.specs.Refusals.{not_in_use, object_idle, past_the_end}
use Rattle.layout.specs.Layout.{Cells, of_object, running_label}
use Rattle.layout.specs.Stages.{objects_in_use, up_to, object_of, label_of, reply_for}
use Rattle.terms.specs.Values.{held}
use Rattle.code.specs.Statements.{Statement, skip, set, new, call, get, await, if, else, fi, while, od, return}
use Rattle.model.specs.Model.{Model}
use Rattle.cells.specs.Configuration.{is_configuration}
use Rattle.cells.specs.Standing.{Standing, body_of, standing_of}
use Rattle.whole.proofs.Tested.{no_some}
use Rattle.cells.proofs.Facts.{Configured}
use Rattle.cells.proofs.Configured.{configured}
use Rattle.rules.specs.declared.Choice.{Choice}
use Rattle.rules.specs.Exec.{here, worked_out, assigned, created, issued, took_reply, awaited, branched, returned, performed}
use Rattle.rules.specs.Exec as Exec
use Rattle.rules.specs.declared.Kind.{Kind}
use Rattle.rules.specs.declared.Kind.TheVariants as Kind
use Rattle.rules.specs.Kinds.{kind_of, in_use}
use Rattle.rules.specs.Messages as Messages
use Rattle.rules.specs.Next.{Next, refused, moved, must, working, working_all}
use Rattle.rules.specs.Step.{ruled, next}
use Rattle.rules.proofs.Chosen.{up_to_some}
use Rattle.rules.proofs.Performing.{performing, stands_there}

-- what a rule gives is not this refusal
abbrev pub NotPast : Next → Type 0
NotPast (refused n) = n ≢ past_the_end
NotPast (moved ws) = Unit {0}

must_past : (b : Bool) (n : ℕ) (k : Next) → n ≢ past_the_end → NotPast k → NotPast (must b n k)
unfolding must
must_past true n k h g = g
must_past false n k h g = h

working_past : (w : Worked) (k : ℤ → Next) → ((z : ℤ) → NotPast (k z)) → NotPast (working w k)
unfolding working
working_past (Some z) k h = h z
working_past None k h = λ e. omega arith

all_past : (ws : List Worked) (k : List ℤ → Next) → ((zs : List ℤ) → NotPast (k zs)) → NotPast (working_all ws k)
unfolding working_all
all_past [] k h = h []
all_past (w ∷ ws) k h = working_past w _ (λ z. all_past ws (λ zs. k (z ∷ zs)) (λ zs. h (z ∷ zs)))

-- a rule that looks something up
option_past : {A : Type 0} (f : Option A) (n : ℕ) (k : A → Next) → n ≢ past_the_end → ((a : A) → NotPast (k a)) → NotPast (elim f as (λ _. Next) [ None ↦ refused n | Some a ↦ k a ])
option_past None n k h g = h
option_past (Some a) n k h g = g a

-- a rule that asks something
either_past : (b : Bool) (x y : Next) → NotPast x → NotPast y → NotPast (elim b as (λ _. Next) [ true ↦ x | false ↦ y ])
either_past true x y h k = h
either_past false x y h k = k

-- a line that there is
module _ (m : Model) (c : Cells) (o l : ℕ) (at : Standing) where
  performed_past : (s : Statement Worked Worked) → NotPast (performed m c o l at s)
  unfolding performed assigned created issued took_reply awaited branched returned
  performed_past skip = tt
  performed_past (set x w) = working_past w _ (λ z. tt)
  performed_past (new x k ws) = all_past ws _ (λ zs. must_past _ _ _ (λ e. omega arith) (must_past _ _ _ (λ e. omega arith) tt))
  performed_past (call x w j ws) =
      working_past w _ (λ z. all_past ws _ (λ zs. option_past (object_of c z) _ _ (λ e. omega arith) (λ to. must_past _ _ _ (λ e. omega arith) tt)))
  performed_past (get x y) = option_past (reply_for c o (held (here c o l) x)) _ _ (λ e. omega arith) (λ from. tt)
  performed_past (await g) = working_past g _ (λ z. either_past (is_true z) _ _ tt tt)
  performed_past (if w) = working_past w _ (λ z. either_past (is_true z) _ _ tt tt)
  performed_past else = tt
  performed_past fi = tt
  performed_past (while w) = working_past w _ (λ z. either_past (is_true z) _ _ tt tt)
  performed_past od = tt
  performed_past (return w) = working_past w _ (λ z. tt)

module _ (m : Model) (c : Cells) (conf : Configured m c) where
  -- an object in use: a running call stands at a line of its method
  exec_past : (o : ℕ) → 1 ≤ o → o ≤ objects_in_use c → NotPast (Exec.exec m c o)
  unfolding Exec.exec
  exec_past o low high = go (label_of c (of_object c o running_label)) refl
    where
      stood : (l : ℕ) (x : Option Standing) → standing_of m c l ≡ x → (x ≡ None → ⊥)
          → NotPast (elim x as (λ _. Next) [ None ↦ refused past_the_end | Some at ↦ performed m c o l at (worked_out (here c o l) at.statement) ])
      stood l None e n = absurd (n refl)
      stood l (Some at) e n = performed_past m c o l at _

      go : (f : Option ℕ) → label_of c (of_object c o running_label) ≡ f
          → NotPast (elim f as (λ _. Next) [
            | None ↦ refused object_idle
            | Some l ↦ elim (standing_of m c l) as (λ _. Next) [ None ↦ refused past_the_end | Some at ↦ performed m c o l at (worked_out (here c o l) at.statement) ]
          ])
      go None e = λ z. omega arith
      go (Some l) e =
          stood l (standing_of m c l) refl (λ f. no_some (sym f ∙ stands_there m c o l (performing m c o l conf low high e)))

  -- a rule at a number in use
  rule_past : (k : Kind) (n : ℕ) → 1 ≤ n → n ≤ in_use c k → NotPast (ruled m c k n)
  unfolding ruled in_use Messages.arrive Messages.bind Messages.start Messages.start_in Messages.deliver
  rule_past Kind.Exec n low high = exec_past n low high
  rule_past Kind.Arrive n low high = must_past _ _ _ (λ e. omega arith) tt
  rule_past Kind.Bind n low high = must_past _ _ _ (λ e. omega arith) (option_past (body_of m c n) _ _ (λ e. omega arith) (λ b. tt))
  rule_past Kind.Start n low high =
      must_past _ _ _ (λ e. omega arith) (must_past _ _ _ (λ e. omega arith) (working_past _ _ (λ z. must_past _ _ _ (λ e. omega arith) tt)))
  rule_past Kind.Deliver n low high = must_past _ _ _ (λ e. omega arith) tt

  -- any choice
  next_past : (choice : Choice) → NotPast (next m c choice)
  unfolding next
  next_past choice =
      option_past (kind_of choice.kind) _ _ (λ e. omega arith)
      (λ k. numbered k (up_to (in_use c k) choice.number) refl)
    where
      numbered : (k : Kind) (x : Option ℕ) → up_to (in_use c k) choice.number ≡ x
          → NotPast (elim x as (λ _. Next) [ None ↦ refused not_in_use | Some n ↦ ruled m c k n ])
      numbered k None e = λ z. omega arith
      numbered k (Some n) e = let (low, high) = up_to_some (in_use c k) choice.number n e in rule_past k n low high

-- no step from a configuration is refused with 28
pub never_past : (m : Model) (c : Cells) → is_configuration m c ≡ true → (choice : Choice) → next m c choice ≢ refused past_the_end
never_past m c e choice f = subst NotPast f (next_past m c (configured m c e) choice) refl
