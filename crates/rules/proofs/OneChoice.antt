-- An accepted step changes the cells, and two different accepted choices never lead to the same ones. Assumes nothing.
use Rattle.std.specs.Prelude.{Some}
use Prim.Native.Nat.{ℕ, zero, suc, ◌≤◌}
use mathlib.Core.Bool.{Bool, true, false}
use mathlib.Core.List.{List}
use mathlib.Core.Path.{◌≡◌, refl, sym, ap, subst, ◌∙◌}
use mathlib.Core.Logic.{◌≢◌}
use native.Mathlib.Omega.{arith}
use borrow.Author.Tests.{eqb-true, eqb-false}
use lib.Dec.{eqb}
use lib.IntN.{ℤ, pos, negsuc}
use Rattle.whole.specs.Whole.{nat}
use Rattle.layout.specs.Layout.{Cells, Write, written, of_call, stage, line}
use Rattle.layout.specs.Stages.{replied, up_to}
use Rattle.layout.proofs.Writes.{Fields}
use Rattle.model.specs.Accepted.{AcceptedModel}
use Rattle.model.specs.Model.{Model}
use Rattle.cells.specs.Configuration.{is_configuration}
use Rattle.whole.proofs.Tested.{no_some}
use Rattle.cells.proofs.Facts.{Configured}
use Rattle.cells.proofs.FromTest.{up_to_number}
use Rattle.cells.proofs.CallFromTest.{counted_is}
use Rattle.cells.proofs.Configured.{configured}
use Rattle.rules.specs.declared.Choice.{Choice}
use Rattle.rules.specs.Exec.{here, worked_out, performed}
use Rattle.rules.specs.declared.Kind.{Kind}
use Rattle.rules.specs.declared.Kind.TheVariants as Kind
use Rattle.rules.specs.Kinds.{kind_number, kind_of, in_use}
use Rattle.rules.specs.Next.{moved}
use Rattle.rules.specs.Step.{ruled, next}
use Rattle.rules.proofs.Chosen.{up_to_some}
use Rattle.rules.proofs.Effects.{stage_before, number_of, Moves, arrive_moves, bind_moves, start_moves, deliver_moves}
use Rattle.rules.proofs.ExecEffects.{performed_moves}
use Rattle.rules.proofs.Moved.{next_moved, exec_moved}
use Rattle.rules.proofs.Performing.{performing, standing, stands_there}

module _ (m : Model) (accepted : AcceptedModel m) (c : Cells) (conf : Configured m c) where
  -- a rule at a number in use moves a call
  rule_moves : (k : Kind) (n : ℕ) → 1 ≤ n → n ≤ in_use c k → (ws : List Write) → ruled m c k n ≡ moved ws → (l : ℕ) × Moves c (written c ws) k n l
  unfolding ruled in_use
  rule_moves Kind.Exec o low high ws e =
      let (l, at, label, there, f) = exec_moved m c o ws e in
      let p = performing m c o l conf low high label in
      let same : Some at ≡ Some (standing p) = sym there ∙ stands_there m c o l p in
      let at-is : at ≡ standing p = cc in (
        l,
        performed_moves m accepted c o l p ws (standing p).statement refl
            (subst (λ at. performed m c o l at (worked_out (here c o l) at.statement) ≡ moved ws) at-is f),
      )
  rule_moves Kind.Arrive n low high ws e = (n, arrive_moves m c conf n low high ws e)
  rule_moves Kind.Bind n low high ws e = (n, bind_moves m c conf n low high ws e)
  rule_moves Kind.Start n low high ws e = (n, start_moves m c conf n low high ws e)
  rule_moves Kind.Deliver n low high ws e = (n, deliver_moves m c conf n low high ws e)

  -- and so does an accepted choice
  pub step_moves : (choice : Choice) (ws : List Write) → next m c choice ≡ moved ws
      → (k : Kind) × (n : ℕ) × (l : ℕ) × (kind_of choice.kind ≡ Some k) × (up_to (in_use c k) choice.number ≡ Some n) × Moves c (written c ws) k n l
  step_moves choice ws e =
      let (k, n, kind, number, f) = next_moved m c choice ws e in
      let (low, high) = up_to_some (in_use c k) choice.number n number in
      let (l, h) = rule_moves k n low high ws f in
      (k, n, l, kind, number, h)

-- an accepted step changes the cells
pub changes_cells : (m : Model) → AcceptedModel m → (c : Cells) → is_configuration m c ≡ true → (choice : Choice) (ws : List Write) → next m c choice ≡ moved ws
    → written c ws ≢ c
changes_cells m accepted c e choice ws f same =
    let (k, n, l, kind, number, h) = step_moves m accepted c (configured m c e) choice ws f in
    h.changes (ap (λ d. of_call d l stage) same) (ap (λ d. of_call d l line) same)

-- a kind by the stage before it
kind_before_lem : ℕ → Kind
kind_before_lem n = elim (eqb n 1) [
  | true ↦ Kind.Arrive
  | false ↦ elim (eqb n 2) [
    | true ↦ Kind.Bind
    | false ↦ elim (eqb n 3) [
      | true ↦ Kind.Start
      | false ↦ elim (eqb n 4) [ true ↦ Kind.Exec | false ↦ Kind.Deliver ]
    ]
  ]
]

kind_before : (k : Kind) → kind_before_lem (stage_before k) ≡ k
unfolding kind_before_lem
kind_before Kind.Exec = refl
kind_before Kind.Arrive = refl
kind_before Kind.Bind = refl
kind_before Kind.Start = refl
kind_before Kind.Deliver = refl

-- the stage before is not 6
before_reply : (k : Kind) → stage_before k ≢ replied
before_reply Kind.Exec e = omega arith
before_reply Kind.Arrive e = omega arith
before_reply Kind.Bind e = omega arith
before_reply Kind.Start e = omega arith
before_reply Kind.Deliver e = omega arith

-- a kind by its number
pub number_of_kind : (z : ℤ) (k : Kind) → kind_of z ≡ Some k → z ≡ pos (kind_number k)
unfolding kind_of kind_number
number_of_kind (pos zero) k e = absurd (no_some e)
number_of_kind (pos (suc zero)) k e = let s : Kind.Exec ≡ k = cc in ap (λ k. pos (kind_number k)) s
number_of_kind (pos (suc (suc zero))) k e = let s : Kind.Arrive ≡ k = cc in ap (λ k. pos (kind_number k)) s
number_of_kind (pos (suc (suc (suc zero)))) k e = let s : Kind.Bind ≡ k = cc in ap (λ k. pos (kind_number k)) s
number_of_kind (pos (suc (suc (suc (suc zero))))) k e = let s : Kind.Start ≡ k = cc in ap (λ k. pos (kind_number k)) s
number_of_kind (pos (suc (suc (suc (suc (suc zero)))))) k e = let s : Kind.Deliver ≡ k = cc in ap (λ k. pos (kind_number k)) s
number_of_kind (pos (suc (suc (suc (suc (suc (suc n))))))) k e = absurd (no_some e)
number_of_kind (negsuc n) k e = absurd (no_some e)

-- two that lead to the same cells moved the same call, by the same kind and number
module _ (c d e : Cells) (k k' : Kind) (n n' l l' : ℕ) (h : Moves c d k n l) (h' : Moves c e k' n' l') (same : d ≡ e) where
  same_call : l ≡ l'
  same_call = go (eqb l l') refl
    where
      go : (b : Bool) → eqb l l' ≡ b → l ≡ l'
      go true f = eqb-true l l' f
      go false f =
          let kept = ap (λ d. of_call d l) same ∙ h'.others l h.high (eqb-false l l' f) (λ g. before_reply k (sym h.before ∙ g)) in
          absurd (h.changes (ap (λ (row : Fields). row stage) kept) (ap (λ (row : Fields). row line) kept))

  same_kind : k ≡ k'
  same_kind =
      sym (kind_before k)
      ∙ ap kind_before_lem (sym h.before ∙ ap (λ l. nat (of_call c l stage)) same_call ∙ h'.before)
      ∙ kind_before k'

  same_number : n ≡ n'
  same_number = h.number ∙ ap (λ k. number_of c k l) same_kind ∙ ap (number_of c k') same_call ∙ sym h'.number

-- two accepted choices that lead to the same cells are one
pub one_choice : (m : Model) → AcceptedModel m → (c : Cells) → is_configuration m c ≡ true → (a b : Choice) (us vs : List Write)
    → next m c a ≡ moved us → next m c b ≡ moved vs → written c us ≡ written c vs → a ≡ b
one_choice m accepted c e a b us vs f g same =
    let conf = configured m c e in
    let (k, n, l, kind, number, h) = step_moves m accepted c conf a us f in
    let (k', n', l', kind', number', h') = step_moves m accepted c conf b vs g in
    let kinds : a.kind ≡ b.kind =
    number_of_kind a.kind k kind ∙ ap (λ k. pos (kind_number k)) (same_kind c _ _ k k' n n' l l' h h' same) ∙ sym (number_of_kind b.kind k' kind') in
    let x = up_to_number (in_use c k) a.number n number in
    let y = up_to_number (in_use c k') b.number n' number' in
    let numbers : a.number ≡ b.number =
    counted_is a.number n x.0.counts x.1 ∙ ap pos (same_number c _ _ k k' n n' l l' h h' same) ∙ sym (counted_is b.number n' y.0.counts y.1) in
    λ i. record { kind = kinds i; number = numbers i }
