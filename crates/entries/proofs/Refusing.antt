-- A refusal has a number from 1 to 33, whatever the choice: so an answer of 0 is a move, and any other a refusal. Assumes nothing.
use Rattle.std.specs.Prelude.{Option, None, Some}
use Prim.Native.Nat.{ℕ, ◌≤◌}
use mathlib.Core.Bool.{Bool, true, false}
use mathlib.Core.List.{List, [], ◌∷◌}
use mathlib.Core.Logic.{◌≢◌}
use mathlib.Core.Path.{◌≡◌, refl, sym, ap, subst, ◌∙◌}
use native.Mathlib.Omega.{arith}
use lib.IntN.{ℤ}
use Rattle.whole.specs.Refusals.{accepted}
use Rattle.whole.specs.Whole.{is_true, Worked}
use Rattle.layout.specs.Layout.{Cells, Write, of_object, running_label}
use Rattle.layout.specs.Stages.{up_to, object_of, label_of, reply_for}
use Rattle.terms.specs.Values.{held}
use Rattle.terms.specs.declared.Variable.{Variable}
use Rattle.code.specs.Statements.{Statement, skip, set, new, call, get, await, if, else, fi, while, od, return}
use Rattle.model.specs.Model.{Model}
use Rattle.cells.specs.Standing.{Standing, body_of, standing_of}
use Rattle.rules.specs.declared.Choice.{Choice}
use Rattle.rules.specs.Exec as Exec
use Rattle.rules.specs.declared.Kind.{Kind}
use Rattle.rules.specs.Kinds.{kind_of, in_use}
use Rattle.rules.specs.Messages as Messages
use Rattle.rules.specs.Next.{Next, refused, moved, must, working, working_all, answer_of}
use Rattle.rules.specs.Step.{ruled, next}

-- what a rule gives: a refusal is numbered from 1 to 33
abbrev Numbered : ℕ → Type 0
Numbered n = (1 ≤ n) × (n ≤ 33)

Told : Next → Type 0
Told (refused n) = Numbered n
Told (moved ws) = Unit {0}

told_moved : (ws : List Write) → Told (moved ws)
unfolding Told
told_moved ws = tt

told_refused : (n : ℕ) → Numbered n → Told (refused n)
unfolding Told
told_refused n h = h

-- behind a test, and of values that are worked out
told_must : (b : Bool) (n : ℕ) (k : Next) → Numbered n → Told k → Told (must b n k)
unfolding must
told_must true n k h s = s
told_must false n k h s = told_refused n h

told_working : (w : Worked) (k : ℤ → Next) → ((z : ℤ) → Told (k z)) → Told (working w k)
unfolding working
told_working (Some z) k h = h z
told_working None k h = told_refused _ (omega arith, omega arith)

told_all : (ws : List Worked) (k : List ℤ → Next) → ((zs : List ℤ) → Told (k zs)) → Told (working_all ws k)
unfolding working_all
told_all [] k h = h []
told_all (w ∷ ws) k h = told_working w _ (λ z. told_all ws _ (λ zs. h (z ∷ zs)))

-- a choice between two writings
told_either : (b : Bool) (us vs : List Write) → Told (elim b [ true ↦ moved us | false ↦ moved vs ])
told_either true us vs = told_moved us
told_either false us vs = told_moved vs

-- with what was found, or a refusal
told_found : {A : Type 0} (f : Option A) (n : ℕ) (k : A → Next) → Numbered n → ((a : A) → Told (k a)) → Told (elim f [ None ↦ refused n | Some a ↦ k a ])
told_found None n k h s = told_refused n h
told_found (Some a) n k h s = s a

-- a line performed
module _ (m : Model) (c : Cells) (o l : ℕ) (at : Standing) where
  told_created : (x : Variable) (k : ℕ) (zs : List ℤ) → Told (Exec.created m c o l at x k zs)
  unfolding Exec.created
  told_created x k zs = told_must _ _ _ (omega arith, omega arith) (told_must _ _ _ (omega arith, omega arith) (told_moved _))

  told_issued : (x : Variable) (z : ℤ) (j : ℕ) (zs : List ℤ) → Told (Exec.issued m c o l at x z j zs)
  unfolding Exec.issued
  told_issued x z j zs = told_found (object_of c z) _ _ (omega arith, omega arith) (λ to. told_must _ _ _ (omega arith, omega arith) (told_moved _))

  told_took : (x y : Variable) → Told (Exec.took_reply m c o l at x y)
  unfolding Exec.took_reply
  told_took x y = told_found (reply_for c o (held (Exec.here c o l) x)) _ _ (omega arith, omega arith) (λ from. told_moved _)

  told_performed : (s : Statement Worked Worked) → Told (Exec.performed m c o l at s)
  unfolding Exec.performed Exec.assigned Exec.awaited Exec.branched Exec.returned
  told_performed skip = told_moved _
  told_performed (set x w) = told_working w _ (λ z. told_moved _)
  told_performed (new x k ws) = told_all ws _ (told_created x k)
  told_performed (call x w j ws) = told_working w _ (λ z. told_all ws _ (told_issued x z j))
  told_performed (get x y) = told_took x y
  told_performed (await g) = told_working g _ (λ z. told_either (is_true z) _ _)
  told_performed (if w) = told_working w _ (λ z. told_either (is_true z) _ _)
  told_performed else = told_moved _
  told_performed fi = told_moved _
  told_performed (while w) = told_working w _ (λ z. told_either (is_true z) _ _)
  told_performed od = told_moved _
  told_performed (return w) = told_working w _ (λ z. told_moved _)

-- a rule
told_ruled : (m : Model) (c : Cells) (k : Kind) (n : ℕ) → Told (ruled m c k n)
unfolding ruled Exec.exec Messages.arrive Messages.bind Messages.start Messages.start_in Messages.deliver
told_ruled m c Kind.Exec n =
    told_found (label_of c (of_object c n running_label)) _ _ (omega arith, omega arith)
    (λ l. told_found (standing_of m c l) _ _ (omega arith, omega arith) (λ at. told_performed m c n l at _))
told_ruled m c Kind.Arrive n = told_must _ _ _ (omega arith, omega arith) (told_moved _)
told_ruled m c Kind.Bind n = told_must _ _ _ (omega arith, omega arith) (told_found (body_of m c n) _ _ (omega arith, omega arith) (λ b. told_moved _))
told_ruled m c Kind.Start n =
    told_must _ _ _ (omega arith, omega arith)
    (told_must _ _ _ (omega arith, omega arith) (told_working _ _ (λ z. told_must _ _ _ (omega arith, omega arith) (told_moved _))))
told_ruled m c Kind.Deliver n = told_must _ _ _ (omega arith, omega arith) (told_moved _)

-- a choice
told_next : (m : Model) (c : Cells) (choice : Choice) → Told (next m c choice)
unfolding next
told_next m c choice =
    told_found (kind_of choice.kind) _ _ (omega arith, omega arith)
    (λ k. told_found (up_to (in_use c k) choice.number) _ _ (omega arith, omega arith) (told_ruled m c k))

-- a refusal's number is not that of acceptance
pub refused_not_accepted : (m : Model) (c : Cells) (choice : Choice) (n : ℕ) → next m c choice ≡ refused n → n ≢ accepted
unfolding Told
refused_not_accepted m c choice n e z = let h : Numbered n = subst Told e (told_next m c choice) in omega (arith, h.0)

-- and an answer is at most 33
pub answer_small : (m : Model) (c : Cells) (choice : Choice) → answer_of (next m c choice) ≤ 33
unfolding Told answer_of
answer_small m c choice = go (next m c choice) (told_next m c choice)
  where
    go : (n : Next) → Told n → answer_of n ≤ 33
    go (refused n) h = h.1
    go (moved ws) h = omega arith

-- an answer of 0 is a move, and any other a refusal
module _ (m : Model) (c : Cells) (choice : Choice) (answer : ℕ) (is : answer ≡ answer_of (next m c choice)) where
  pub answer_moved : answer ≡ accepted → (ws : List Write) × (next m c choice ≡ moved ws)
  unfolding answer_of
  answer_moved z = go (next m c choice) refl
    where
      go : (n : Next) → next m c choice ≡ n → (ws : List Write) × (next m c choice ≡ moved ws)
      go (refused i) e = absurd (refused_not_accepted m c choice i e (sym (is ∙ ap answer_of e) ∙ z))
      go (moved ws) e = (ws, e)

  pub answer_refused : answer ≢ accepted → (n : ℕ) × (next m c choice ≡ refused n)
  unfolding answer_of
  answer_refused z = go (next m c choice) refl
    where
      go : (n : Next) → next m c choice ≡ n → (n : ℕ) × (next m c choice ≡ refused n)
      go (refused i) e = (i, e)
      go (moved ws) e = absurd (z (is ∙ ap answer_of e))
