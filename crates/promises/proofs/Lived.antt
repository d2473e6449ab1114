-- A life by its stage: what has happened to a label that is in a stage, for a call that an object issued and for one that was spawned; how each
-- event leads from stage to stage; and that the clauses (a) and (c) of demand 3 follow. Assumes nothing.
use Prim.Native.Nat.{ℕ, zero, suc}
use mathlib.Core.Bool.{Bool, true, false}
use mathlib.Core.List.{List, [], ◌∷◌, ◌++◌, map, append-nil}
use mathlib.Core.Logic.{◌⊎◌, inl, inr}
use mathlib.Core.Path.{◌≡◌, refl, ap, ◌∙◌}
use native.Mathlib.Omega.{arith}
use borrow.Author.Tests.{eq-eqb, ne_eqb}
use lib.Dec.{eqb}
use lib.IntN.{pos}
use lib.ListN.{take}
use Rattle.whole.specs.Whole.{eq_z}
use Rattle.layout.specs.Layout.{Cells, of_call, caller}
use Rattle.layout.specs.Stages.{stage_of, invoked, queued, bound, running, answered, replied, taken}
use Rattle.rules.specs.Events.{Event, arriving, binding, returning, delivering, taking}
use Rattle.promises.specs.Histories.{subject, about, Among}
use Rattle.promises.specs.Lives.{issued_life, spawned_life, BeginningOf, issued_stages, spawned_stages, last_from, stages_from, stages_after}

-- what has happened to a call in a stage
abbrev pub IssuedTo : ℕ → ℕ → List Event → Type 0
IssuedTo l zero es = ⊥
IssuedTo l (suc zero) es = es ≡ take 1 (issued_life l)
IssuedTo l (suc (suc zero)) es = es ≡ take 2 (issued_life l)
IssuedTo l (suc (suc (suc zero))) es = es ≡ take 3 (issued_life l)
IssuedTo l (suc (suc (suc (suc zero)))) es = es ≡ take 3 (issued_life l)
IssuedTo l (suc (suc (suc (suc (suc zero))))) es = es ≡ take 4 (issued_life l)
IssuedTo l (suc (suc (suc (suc (suc (suc zero)))))) es = es ≡ take 5 (issued_life l)
IssuedTo l (suc (suc (suc (suc (suc (suc (suc zero))))))) es = es ≡ take 6 (issued_life l)
IssuedTo l (suc (suc (suc (suc (suc (suc (suc (suc n)))))))) es = ⊥

-- the same of a call that was spawned
abbrev pub SpawnedTo : ℕ → ℕ → List Event → Type 0
SpawnedTo l zero es = ⊥
SpawnedTo l (suc zero) es = ⊥
SpawnedTo l (suc (suc zero)) es = ⊥
SpawnedTo l (suc (suc (suc zero))) es = es ≡ take 1 (spawned_life l)
SpawnedTo l (suc (suc (suc (suc zero)))) es = es ≡ take 1 (spawned_life l)
SpawnedTo l (suc (suc (suc (suc (suc zero))))) es = ⊥
SpawnedTo l (suc (suc (suc (suc (suc (suc zero)))))) es = ⊥
SpawnedTo l (suc (suc (suc (suc (suc (suc (suc zero))))))) es = es ≡ take 2 (spawned_life l)
SpawnedTo l (suc (suc (suc (suc (suc (suc (suc (suc n)))))))) es = ⊥

-- by whether it was spawned
abbrev pub LivedTo : ℕ → Bool → ℕ → List Event → Type 0
LivedTo l true s es = SpawnedTo l s es
LivedTo l false s es = IssuedTo l s es

-- in some cells: a call was spawned exactly where its caller is nobody
abbrev pub Living : Cells → ℕ → List Event → Type 0
Living c l es = (s : ℕ) × (stage_of c l ≡ pos s) × LivedTo l (eq_z (of_call c l caller) (pos 0)) s es

-- events of one label, and of another
pub about_own : (e : Event) (l : ℕ) → subject e ≡ l → about l (e ∷ []) ≡ e ∷ []
unfolding about
about_own e l h = rw (eq-eqb (subject e) l h, about)

-- an event is about no other label
pub about_other : (e : Event) (l : ℕ) → (subject e ≡ l → ⊥) → about l (e ∷ []) ≡ []
unfolding about
about_other e l h = rw (ne_eqb (subject e) l h, about)

-- two lists, one behind the other
pub about_append : (l : ℕ) (a b : List Event) → about l (a ++ b) ≡ about l a ++ about l b
unfolding about
about_append l [] b = refl
about_append l (e ∷ a) b = go (eqb (subject e) l) refl (about_append l a b)
  where
    go : (t : Bool) → eqb (subject e) l ≡ t → about l (a ++ b) ≡ about l a ++ about l b → about l ((e ∷ a) ++ b) ≡ about l (e ∷ a) ++ about l b
    go true h later = rw (h, about) (ap (e ∷◌) later)
    go false h later = rw (h, about) later

-- one stage on, by each event
module _ (l : ℕ) (es : List Event) where
  pub on_arriving : (b : Bool) → LivedTo l b invoked es → LivedTo l b queued (es ++ (arriving l ∷ []))
  on_arriving true h = h
  on_arriving false h = ap (λ a. a ++ (arriving l ∷ [])) h

  -- 2 to 3
  pub on_binding : (b : Bool) → LivedTo l b queued es → LivedTo l b bound (es ++ (binding l ∷ []))
  on_binding true h = absurd h
  on_binding false h = ap (λ a. a ++ (binding l ∷ [])) h

  -- 5 to 6
  pub on_delivering : (b : Bool) → LivedTo l b answered es → LivedTo l b replied (es ++ (delivering l ∷ []))
  on_delivering true h = h
  on_delivering false h = ap (λ a. a ++ (delivering l ∷ [])) h

  -- 6 to 7
  pub on_taking : (b : Bool) → LivedTo l b replied es → LivedTo l b taken (es ++ (taking l ∷ []))
  on_taking true h = absurd h
  on_taking false h = ap (λ a. a ++ (taking l ∷ [])) h

  -- 4 to 5, of a call with a caller
  pub on_returning : LivedTo l false running es → LivedTo l false answered (es ++ (returning l ∷ []))
  on_returning h = ap (λ a. a ++ (returning l ∷ [])) h

  -- 4 to 7, of one without
  pub on_ending : LivedTo l true running es → LivedTo l true taken (es ++ (returning l ∷ []))
  on_ending h = ap (λ a. a ++ (returning l ∷ [])) h

  -- suspending and starting are no events
  pub on_suspending : (b : Bool) → LivedTo l b running es → LivedTo l b bound (es ++ [])
  on_suspending true h = append-nil es ∙ h
  on_suspending false h = append-nil es ∙ h

  -- 3 to 4
  pub on_starting : (b : Bool) → LivedTo l b bound es → LivedTo l b running (es ++ [])
  on_starting true h = append-nil es ∙ h
  on_starting false h = append-nil es ∙ h

-- (a): a beginning of one of the two lives
module _ (l : ℕ) (es : List Event) where
  abbrev Begun : Type 0
  Begun = BeginningOf (issued_life l) es ⊎ BeginningOf (spawned_life l) es

  -- of a call that was issued
  issued_begun : (s : ℕ) → IssuedTo l s es → Begun
  issued_begun zero h = absurd h
  issued_begun (suc zero) h = inl (1, omega arith, omega arith, h)
  issued_begun (suc (suc zero)) h = inl (2, omega arith, omega arith, h)
  issued_begun (suc (suc (suc zero))) h = inl (3, omega arith, omega arith, h)
  issued_begun (suc (suc (suc (suc zero)))) h = inl (3, omega arith, omega arith, h)
  issued_begun (suc (suc (suc (suc (suc zero))))) h = inl (4, omega arith, omega arith, h)
  issued_begun (suc (suc (suc (suc (suc (suc zero)))))) h = inl (5, omega arith, omega arith, h)
  issued_begun (suc (suc (suc (suc (suc (suc (suc zero))))))) h = inl (6, omega arith, omega arith, h)
  issued_begun (suc (suc (suc (suc (suc (suc (suc (suc n)))))))) h = absurd h

  -- of one that was spawned
  spawned_begun : (s : ℕ) → SpawnedTo l s es → Begun
  spawned_begun zero h = absurd h
  spawned_begun (suc zero) h = absurd h
  spawned_begun (suc (suc zero)) h = absurd h
  spawned_begun (suc (suc (suc zero))) h = inr (1, omega arith, omega arith, h)
  spawned_begun (suc (suc (suc (suc zero)))) h = inr (1, omega arith, omega arith, h)
  spawned_begun (suc (suc (suc (suc (suc zero))))) h = absurd h
  spawned_begun (suc (suc (suc (suc (suc (suc zero)))))) h = absurd h
  spawned_begun (suc (suc (suc (suc (suc (suc (suc zero))))))) h = inr (2, omega arith, omega arith, h)
  spawned_begun (suc (suc (suc (suc (suc (suc (suc (suc n)))))))) h = absurd h

  -- of either
  pub lived_begun : (b : Bool) (s : ℕ) → LivedTo l b s es → Begun
  lived_begun true s h = spawned_begun s h
  lived_begun false s h = issued_begun s h

-- (c): the stage is among those after the last event
abbrev Staged : ℕ → List Event → Type 0
Staged s es = Among (pos s) (map pos (stages_after es))

module _ (l : ℕ) (es : List Event) where
  -- of a call that was issued
  issued_staged : (s : ℕ) → IssuedTo l s es → Staged s es
  unfolding stages_after stages_from last_from issued_stages
  issued_staged zero h = absurd h
  issued_staged (suc zero) h = rw h (inl refl)
  issued_staged (suc (suc zero)) h = rw h (inl refl)
  issued_staged (suc (suc (suc zero))) h = rw h (inl refl)
  issued_staged (suc (suc (suc (suc zero)))) h = rw h (inr (inl refl))
  issued_staged (suc (suc (suc (suc (suc zero))))) h = rw h (inl refl)
  issued_staged (suc (suc (suc (suc (suc (suc zero)))))) h = rw h (inl refl)
  issued_staged (suc (suc (suc (suc (suc (suc (suc zero))))))) h = rw h (inl refl)
  issued_staged (suc (suc (suc (suc (suc (suc (suc (suc n)))))))) h = absurd h

  -- of one that was spawned
  spawned_staged : (s : ℕ) → SpawnedTo l s es → Staged s es
  unfolding stages_after stages_from last_from spawned_stages
  spawned_staged zero h = absurd h
  spawned_staged (suc zero) h = absurd h
  spawned_staged (suc (suc zero)) h = absurd h
  spawned_staged (suc (suc (suc zero))) h = rw h (inl refl)
  spawned_staged (suc (suc (suc (suc zero)))) h = rw h (inr (inl refl))
  spawned_staged (suc (suc (suc (suc (suc zero))))) h = absurd h
  spawned_staged (suc (suc (suc (suc (suc (suc zero)))))) h = absurd h
  spawned_staged (suc (suc (suc (suc (suc (suc (suc zero))))))) h = rw h (inl refl)
  spawned_staged (suc (suc (suc (suc (suc (suc (suc (suc n)))))))) h = absurd h

  -- of either
  pub lived_staged : (b : Bool) (s : ℕ) → LivedTo l b s es → Staged s es
  lived_staged true s h = spawned_staged s h
  lived_staged false s h = issued_staged s h
