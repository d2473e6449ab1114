-- How a map of what was read goes past readings that follow one another. Assumes nothing.
use Rattle.std.specs.Prelude.{Option, None, Some}
use Prim.Native.Nat.{ℕ, zero, suc, ◌+◌}
use mathlib.Core.Bool.{Bool, true, false}
use mathlib.Core.Path.{◌≡◌, refl, sym, ap, ◌∙◌}
use lib.Dec.{eqb}
use lib.ListN.{length}
use Rattle.terms.specs.Bytes.{Text, byte_at}
use Rattle.terms.specs.Parsed.{Parsed, got, bad, next, mapped, ended, closed, repeated, joining, series}

pub mapped_mapped : {A B C : Type 0} (h : B → C) (k : A → B) (p : Parsed A) → mapped h (mapped k p) ≡ mapped (λ a. h (k a)) p
unfolding mapped
mapped_mapped h k (got at a) = refl
mapped_mapped h k (bad at) = refl

-- a map after a map, where the two make a third
pub mapped_twice : {A B C : Type 0} (h : B → C) (k : A → B) (l : A → C) → ((a : A) → h (k a) ≡ l a) → (p : Parsed A) → mapped h (mapped k p) ≡ mapped l p
unfolding mapped
mapped_twice h k l e (got at a) = ap (got at) (e a)
mapped_twice h k l e (bad at) = refl

pub mapped_id : {A : Type 0} (p : Parsed A) → mapped (λ a. a) p ≡ p
unfolding mapped
mapped_id (got at a) = refl
mapped_id (bad at) = refl

pub mapped_bad : {A B : Type 0} (h : A → B) (at : ℕ) → mapped h (bad at) ≡ bad at
unfolding mapped
mapped_bad h at = refl

pub mapped_got : {A B : Type 0} (h : A → B) (at : ℕ) (a : A) → mapped h (got at a) ≡ got at (h a)
unfolding mapped
mapped_got h at a = refl

pub mapped_next : {A B C : Type 0} (h : B → C) (p : Parsed A) (k : ℕ → A → Parsed B) → mapped h (next p k) ≡ next p (λ at a. mapped h (k at a))
unfolding mapped next
mapped_next h (got at a) k = refl
mapped_next h (bad at) k = refl

pub next_of_got : {A B : Type 0} (at : ℕ) (a : A) (k : ℕ → A → Parsed B) → next (got at a) k ≡ k at a
unfolding next
next_of_got at a k = refl

pub next_of_bad : {A B : Type 0} (at : ℕ) (k : ℕ → A → Parsed B) → next (bad at) k ≡ bad at
unfolding next
next_of_bad at k = refl

pub next_mapped : {A B C : Type 0} (h : A → B) (p : Parsed A) (k : ℕ → B → Parsed C) → next (mapped h p) k ≡ next p (λ at a. k at (h a))
unfolding mapped next
next_mapped h (got at a) k = refl
next_mapped h (bad at) k = refl

-- two ways to go on that agree
pub next_same : {A B : Type 0} (p : Parsed A) (k l : ℕ → A → Parsed B) → ((at : ℕ) (a : A) → k at a ≡ l at a) → next p k ≡ next p l
unfolding next
next_same (got at a) k l e = e at a
next_same (bad at) k l e = refl

-- a map past one reading that is followed by another: what the map makes of the first is all that the second needs
pub respects_next : {A A' B B' : Type 0} (h : A → A') (i : B → B') (p : Parsed A) (k : ℕ → A → Parsed B) (k' : ℕ → A' → Parsed B')
    → ((at : ℕ) (a : A) → mapped i (k at a) ≡ k' at (h a)) → mapped i (next p k) ≡ next (mapped h p) k'
respects_next h i p k k' e = mapped_next i p k ∙ next_same p _ _ e ∙ sym (next_mapped h p k')

-- a map past a closing byte
pub respects_closed : {A B : Type 0} (h : A → B) (b : ℕ) (s : Text) (p : Parsed A) → mapped h (closed b s p) ≡ closed b s (mapped h p)
unfolding closed
respects_closed h b s p = respects_next h h p _ _ (λ at a. mapped_mapped h _ _)

-- a map past the end of the text
pub respects_ended : {A B : Type 0} (h : A → B) (s : Text) (p : Parsed A) → mapped h (ended s p) ≡ ended s (mapped h p)
unfolding mapped ended
respects_ended h s (got at a) = go (eqb at (length s))
  where
    go : (b : Bool) → mapped h (elim b [ true ↦ got at a | false ↦ bad at ]) ≡ elim b [ true ↦ got at (h a) | false ↦ bad at ]
    go true = refl
    go false = refl
respects_ended h s (bad at) = refl

-- a repetition stops, or goes on with what its step gives
module _ {A : Type 0} (step : ℕ → A → Option (Parsed A)) (more at : ℕ) (a : A) where
  pub repeated_none : step at a ≡ None → repeated step (suc more) at a ≡ got at a
  unfolding repeated
  repeated_none e = rw (e, repeated)

  pub repeated_some : (p : Parsed A) → step at a ≡ Some p → repeated step (suc more) at a ≡ next p (repeated step more)
  unfolding repeated
  repeated_some p e = rw (e, repeated)

-- items joined by operators: no operator stands at the place, or one does, and the items are "grouped from the left"
module _ {O A B : Type 0} (operator : ℕ → Option O) (apply : O → B → A → B) (s : Text) (item : ℕ → Parsed A) (at : ℕ) (a : B) where
  pub joining_none : operator (byte_at s at) ≡ None → joining operator apply s item at a ≡ None
  unfolding joining
  joining_none e = rw (e, joining)

  pub joining_some : (o : O) → operator (byte_at s at) ≡ Some o → joining operator apply s item at a ≡ Some (mapped (apply o a) (item (at + 1)))
  unfolding joining
  joining_some o e = rw (e, joining)

-- a map past a repetition whose steps it respects
module _ {A B : Type 0} (h : A → B) (step : ℕ → A → Option (Parsed A)) (step' : ℕ → B → Option (Parsed B))
    (stops : (at : ℕ) (a : A) → step at a ≡ None → step' at (h a) ≡ None)
    (goes : (at : ℕ) (a : A) (p : Parsed A) → step at a ≡ Some p → step' at (h a) ≡ Some (mapped h p)) where
  pub respects_repeated : (more at : ℕ) (a : A) → mapped h (repeated step more at a) ≡ repeated step' more at (h a)
  respects_repeated zero at a = unfold repeated mapped in refl
  respects_repeated (suc more) at a = go (step at a) refl (respects_repeated more)
    where
      go : (o : Option (Parsed A)) → step at a ≡ o → ((at : ℕ) (a : A) → mapped h (repeated step more at a) ≡ repeated step' more at (h a))
          → mapped h (repeated step (suc more) at a) ≡ repeated step' (suc more) at (h a)
      go None e rest = rw (repeated_none step more at a e, repeated_none step' more at (h a) (stops at a e)) (mapped_got h at a)
      go (Some p) e rest =
          rw (repeated_some step more at a p e, repeated_some step' more at (h a) (mapped h p) (goes at a p e))
          (respects_next h h p _ _ rest)

-- a map that respects the operators, past one item more: h maps what is read so far, and i the item
module _ {O A A' B B' : Type 0} (h : B → B') (i : A → A') (operator : ℕ → Option O) (f : O → B → A → B) (g : O → B' → A' → B') (s : Text)
    (respects : (o : O) (b : B) (a : A) → h (f o b a) ≡ g o (h b) (i a))
    (item : ℕ → Parsed A) (item' : ℕ → Parsed A') (items : (at : ℕ) → mapped i (item at) ≡ item' at) where
  stops_alike : (at : ℕ) (b : B) → joining operator f s item at b ≡ None → joining operator g s item' at (h b) ≡ None
  stops_alike at b e = go (operator (byte_at s at)) refl
    where
      go : (o : Option O) → operator (byte_at s at) ≡ o → joining operator g s item' at (h b) ≡ None
      go None n = joining_none operator g s item' at (h b) n
      go (Some o) n = let c = joining_some operator f s item at b o n in cc

  goes_alike : (at : ℕ) (b : B) (p : Parsed B) → joining operator f s item at b ≡ Some p → joining operator g s item' at (h b) ≡ Some (mapped h p)
  goes_alike at b p e = go (operator (byte_at s at)) refl
    where
      go : (o : Option O) → operator (byte_at s at) ≡ o → joining operator g s item' at (h b) ≡ Some (mapped h p)
      go None n = let c = joining_none operator f s item at b n in cc
      go (Some o) n =
          let c = joining_some operator f s item at b o n in
          let q : mapped (f o b) (item (at + 1)) ≡ p = cc in
          joining_some operator g s item' at (h b) o n
          ∙ ap (λ j. Some (mapped (g o (h b)) j)) (sym (items (at + 1)))
          ∙ ap Some
          (mapped_mapped (g o (h b)) i (item (at + 1))
          ∙ sym (mapped_twice h (f o b) (λ a. g o (h b) (i a)) (respects o b) (item (at + 1)))
          ∙ ap (mapped h) q)

  pub respects_joining : (more at : ℕ) (b : B) → mapped h (repeated (joining operator f s item) more at b) ≡ repeated (joining operator g s item') more at (h b)
  respects_joining = respects_repeated h _ _ stops_alike goes_alike

pub respects_series : {O A B : Type 0} (h : A → B) (operator : ℕ → Option O) (f : O → A → A → A) (g : O → B → B → B) (s : Text)
    → ((o : O) (a b : A) → h (f o a b) ≡ g o (h a) (h b))
    → (item : ℕ → Parsed A) (item' : ℕ → Parsed B) → ((at : ℕ) → mapped h (item at) ≡ item' at)
    → (more at : ℕ) → mapped h (series operator f s item more at) ≡ series operator g s item' more at
unfolding series
respects_series h operator f g s respects item item' items more at =
    respects_next h h (item at) _ _ (respects_joining h h operator f g s respects item item' items more)
    ∙ ap (λ q. next q (repeated (joining operator g s item') more)) (items at)
