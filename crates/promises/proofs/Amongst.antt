-- An event among those of a list, of two lists, and of those about its label. Assumes nothing.
use Prim.Native.Nat.{ℕ}
use mathlib.Core.Bool.{Bool, true, false}
use mathlib.Core.List.{List, [], ◌∷◌, ◌++◌}
use mathlib.Core.Logic.{◌⊎◌, inl, inr}
use mathlib.Core.Path.{◌≡◌, refl, sym, ap}
use borrow.Author.Tests.{eq-eqb}
use lib.Dec.{eqb}
use Rattle.rules.specs.Events.{Event}
use Rattle.promises.specs.Histories.{subject, about, Among}

-- an event of two lists, of either, and of those about its label
module _ (e : Event) where
  -- one of the second of two lists
  pub among_right : (a b : List Event) → Among e b → Among e (a ++ b)
  among_right [] b h = h
  among_right (f ∷ a) b h = inr (among_right a b h)

  -- one of two lists is of the first or of the second
  pub among_cases : (a b : List Event) → Among e (a ++ b) → Among e a ⊎ Among e b
  among_cases [] b h = inr h
  among_cases (f ∷ a) b (inl s) = inl (inl s)
  among_cases (f ∷ a) b (inr h) = go (among_cases a b h)
    where
      go : Among e a ⊎ Among e b → Among e (f ∷ a) ⊎ Among e b
      go (inl h) = inl (inr h)
      go (inr h) = inr h

  -- one of the first
  pub among_left : (a b : List Event) → Among e a → Among e (a ++ b)
  among_left [] b h = absurd h
  among_left (f ∷ a) b (inl s) = inl s
  among_left (f ∷ a) b (inr h) = inr (among_left a b h)

  -- one of a list is among those about its label
  pub among_about : (h : List Event) → Among e h → Among e (about (subject e) h)
  unfolding about
  among_about [] i = absurd i
  among_about (f ∷ h) (inl s) = rw (eq-eqb (subject f) (subject e) (ap subject (sym s)), about) (inl s)
  among_about (f ∷ h) (inr i) = go (eqb (subject f) (subject e)) refl (among_about h i)
    where
      go : (b : Bool) → eqb (subject f) (subject e) ≡ b → Among e (about (subject e) h) → Among e (about (subject e) (f ∷ h))
      go true t later = rw (t, about) (inr later)
      go false t later = rw (t, about) later

  -- and one about a label is one of the list
  pub about_among : (l : ℕ) (h : List Event) → Among e (about l h) → Among e h
  unfolding about
  about_among l [] i = i
  about_among l (f ∷ h) i = go (eqb (subject f) l) refl (about_among l h)
    where
      later : (b : Bool) → eqb (subject f) l ≡ b → Among e (about l (f ∷ h)) → (e ≡ f) ⊎ Among e (about l h)
      later true t i = rw (t, about) at i
      later false t i = inr (rw (t, about) at i)

      go : (b : Bool) → eqb (subject f) l ≡ b → (Among e (about l h) → Among e h) → Among e (f ∷ h)
      go b t rest = by (later b t i)
        where
          by : (e ≡ f) ⊎ Among e (about l h) → Among e (f ∷ h)
          by (inl s) = inl s
          by (inr k) = inr (rest k)
