-- A statement as the code has it, with its arguments beside it, and the statement of the definitions that it was made from: what it does, the
-- numbers in it, and the laws of `exec`. Assumes nothing.
use Rattle.std.specs.Prelude.{None, Some, Result, Ok, Err, MatchResult}
use Prim.Native.Nat.{ℕ, ◌+◌, ◌≤◌}
use mathlib.Core.List.{List, [], ◌∷◌}
use mathlib.Core.Path.{◌≡◌, refl, sym, ap, subst, ◌∙◌}
use mathlib.Core.Logic.{◌⊎◌, inl, inr}
use native.Mathlib.Omega.{arith}
use lib.ListN.{length}
use Rattle.whole.specs.Vocabulary.Refusing.{Answer}
use Rattle.whole.specs.Whole.{Worked}
use Rattle.whole.specs.Refusals.{object_idle, past_the_end}
use Rattle.layout.specs.Layout.{Cells, of_object, running_label}
use Rattle.layout.specs.Stages.{label_of}
use Rattle.code.specs.declared.Arguments.{Arguments}
use Rattle.code.specs.declared.Statement as Declared
use Rattle.code.specs.declared.Statement.TheVariants as Said
use Rattle.code.specs.Statements.{Statement, skip, set, new, call, get, await, if, else, fi, while, od, return}
use Rattle.code.specs.Vocabulary.Answers.{no_arguments, with_one, gathered, as_statement, arguments_of}
use Rattle.model.specs.Model.{Model}
use Rattle.cells.specs.Standing.{Standing, standing_of}
use Rattle.rules.specs.Exec as Exec
use Rattle.rules.specs.Next.{Next, refused, moved, working, working_all}
use Rattle.lookup.proofs.Reading as Reading
use Rattle.forms.specs.Vocabulary.Done.{Done}
use Rattle.forms.proofs.MakingLaws.{same_done}
use Rattle.performing.specs.Vocabulary.Parts.{Small}

-- the arguments of a statement
listed : Statement Worked Worked → List Worked
listed skip = []
listed (set x a) = []
listed (new x k ws) = ws
listed (call x a j ws) = ws
listed (get x y) = []
listed (await g) = []
listed (if a) = []
listed else = []
listed fi = []
listed (while a) = []
listed od = []
listed (return a) = []

-- are those that the code has beside it
beside : (w : Statement Worked Worked) → arguments_of w ≡ gathered no_arguments (listed w)
unfolding arguments_of gathered listed
beside skip = refl
beside (set x a) = refl
beside (new x k ws) = refl
beside (call x a j ws) = refl
beside (get x y) = refl
beside (await g) = refl
beside (if a) = refl
beside else = refl
beside fi = refl
beside (while a) = refl
beside od = refl
beside (return a) = refl

-- what a statement with such arguments does
module _ (m : Model) (c : Cells) (o l : ℕ) (st : Standing) where
  unfoldable pub does : Declared.Statement → List Worked → Next
  does Said.Skip ws = moved (Exec.onward m c o l st)
  does (Said.Set x w) ws = working w (Exec.assigned m c o l st x)
  does (Said.New x k) ws = working_all ws (Exec.created m c o l st x k)
  does (Said.Call x w j) ws = working w (λ z. working_all ws (Exec.issued m c o l st x z j))
  does (Said.Get x y) ws = Exec.took_reply m c o l st x y
  does (Said.Await g) ws = working g (Exec.awaited m c o l st)
  does (Said.If w) ws = working w (Exec.branched m c o l st)
  does Said.Else ws = moved (Exec.jumped m c o l st)
  does Said.Fi ws = moved (Exec.onward m c o l st)
  does (Said.While w) ws = working w (Exec.branched m c o l st)
  does Said.Od ws = moved (Exec.jumped m c o l st)
  does (Said.Return w) ws = working w (Exec.returned m c o l st)

  does_so : (w : Statement Worked Worked) → Exec.performed m c o l st w ≡ does (as_statement w) (listed w)
  unfolding does Exec.performed as_statement listed
  does_so skip = refl
  does_so (set x a) = refl
  does_so (new x k ws) = refl
  does_so (call x a j ws) = refl
  does_so (get x y) = refl
  does_so (await g) = refl
  does_so (if a) = refl
  does_so else = refl
  does_so fi = refl
  does_so (while a) = refl
  does_so od = refl
  does_so (return a) = refl

  -- so a statement was performed where that was done with whatever arguments these are
  pub did : (s t : Declared.Statement) (a : Arguments) (w : Statement Worked Worked) (r : Answer) (d : Cells)
      → s ≡ t → s ≡ as_statement w → a ≡ arguments_of w → ((ws : List Worked) → a ≡ gathered no_arguments ws → Done c (does t ws) r d) → Done c (Exec.performed m c o l st w) r d
  did s t a w r d e f g h =
      same_done c _ _ r d (does_so w ∙ ap (λ s. does s (listed w)) (sym f ∙ e)) (h (listed w) (g ∙ beside w))

  -- the same of one of two statements that do the same
  pub did_either : (s t u : Declared.Statement) (a : Arguments) (w : Statement Worked Worked) (r : Answer) (d : Cells)
      → (s ≡ t) ⊎ (s ≡ u) → ((ws : List Worked) → does u ws ≡ does t ws) → s ≡ as_statement w → a ≡ arguments_of w
      → ((ws : List Worked) → a ≡ gathered no_arguments ws → Done c (does t ws) r d) → Done c (Exec.performed m c o l st w) r d
  did_either s t u a w r d (inl e) same f g h = did s t a w r d e f g h
  did_either s t u a w r d (inr e) same f g h = did s u a w r d e f g (λ ws is. same_done c _ _ r d (same ws) (h ws is))

-- arguments that were gathered are as many as they were
gathered_count : (a : Arguments) (ws : List Worked) → (gathered a ws).count ≡ a.count + length ws
unfolding gathered with_one
gathered_count a [] = omega arith
gathered_count a (Some z ∷ ws) = omega (arith, gathered_count (with_one a (Some z)) ws)
gathered_count a (None ∷ ws) = omega (arith, gathered_count (with_one a None) ws)

-- the numbers in a statement of an accepted text are small, as the code has it too
small_said : (n : ℕ) → n ≤ 16 → (w : Statement Worked Worked) → Reading.Small n w → Small (as_statement w) (arguments_of w)
unfolding Small Reading.Small as_statement arguments_of no_arguments
small_said n few skip h = tt
small_said n few (set x a) h = tt
small_said n few (new x k ws) h = omega arith
small_said n few (call x a j ws) h = (h.0, omega (arith, gathered_count no_arguments ws, h.1))
small_said n few (get x y) h = tt
small_said n few (await g) h = tt
small_said n few (if a) h = tt
small_said n few else h = tt
small_said n few fi h = tt
small_said n few (while a) h = tt
small_said n few od h = tt
small_said n few (return a) h = tt

pub small : (n : ℕ) → n ≤ 16 → (w : Statement Worked Worked) → Reading.Small n w
    → (s : Declared.Statement) (a : Arguments) → s ≡ as_statement w → a ≡ arguments_of w → Small s a
small n few w h s a e f = rw (e, f) (small_said n few w h)

-- what was read, also where its refusal was put in other words
pub read_still : {A E D : Type 0} (r : Result A E) (s : Result A D) (Q : E → Type 0) (a : A) → MatchResult r (λ x. s ≡ Ok x) Q → r ≡ Ok a → s ≡ Ok a
read_still r s Q a h e = subst (λ r. MatchResult r (λ x. s ≡ Ok x) Q) e h

module _ {A B D : Type 0} (r : Result (A × B) D) (a b : A × B) (is : r ≡ Ok a) (so : r ≡ Ok b) where
  same_pair : a ≡ b
  same_pair = let e : ◌≡◌ {A = Result (A × B) D} (Ok a) (Ok b) = sym is ∙ so in cc

  pub same_left : a.0 ≡ b.0
  same_left = ap (λ p. p.0) same_pair

  pub same_right : a.1 ≡ b.1
  same_right = ap (λ p. p.1) same_pair

pub read_fine : {A D : Type 0} (r : Result A D) (a : A) (d : D) → r ≡ Ok a → r ≡ Err d → ⊥
read_fine {A} {D} r a d e f = let g : ◌≡◌ {A = Result A D} (Ok a) (Err d) = sym e ∙ f in let z : ◌≡◌ {A = ℕ} 0 1 = cc in omega arith

-- what exec gives: an idle object, a call past its end, or its line performed
module _ (m : Model) (c : Cells) (o : ℕ) where
  pub exec_idle : label_of c (of_object c o running_label) ≡ None → Exec.exec m c o ≡ refused object_idle
  unfolding Exec.exec
  exec_idle e = rw (e, Exec.exec) refl

  module _ (l : ℕ) (e : label_of c (of_object c o running_label) ≡ Some l) where
    pub exec_past : standing_of m c l ≡ None → Exec.exec m c o ≡ refused past_the_end
    unfolding Exec.exec
    exec_past f = rw (e, Exec.exec, f) refl

    pub exec_performs : (st : Standing) → standing_of m c l ≡ Some st
        → Exec.exec m c o ≡ Exec.performed m c o l st (Exec.worked_out (Exec.here c o l) st.statement)
    unfolding Exec.exec
    exec_performs st f = rw (e, Exec.exec, f) refl
