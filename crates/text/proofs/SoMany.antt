-- So many of a thing, read one after another: what is left to read decides. Assumes nothing.
use Rattle.std.specs.Prelude.{Ok}
use Prim.Native.Nat.{ℕ, suc, ◌+◌, ◌-◌, ◌≤◌, ◌<◌}
use mathlib.Core.List.{List, [], ◌∷◌, ◌++◌, append-nil, append_assoc}
use mathlib.Core.Path.{◌≡◌, refl, sym, ap, ◌∙◌}
use native.Mathlib.Nat.{sub-zero}
use native.Mathlib.Omega.{arith}
use lib.ListN.{drop}
use Rattle.terms.specs.Bytes.{Text}
use Rattle.text.specs.declared.At.{At}
use Rattle.text.specs.declared.Verdict.{Verdict}
use Rattle.text.specs.InOrder.{LinesRead, failed, after, Reader, done, ◌>>=◌, each}
use Rattle.text.specs.Lines.{Line, lines}
use Rattle.text.specs.Vocabulary.Readings.{Placed, read_at, Tells}
use Rattle.text.proofs.Onward.{then_failed, then_after}

-- things read before others
unfoldable pub onto : {A S : Type 0} → List A → LinesRead (List A × S) → LinesRead (List A × S)
onto xs (failed v) = failed v
onto xs (after r at ls) = after (xs ++ r.0, r.1) at ls

onto_none : {A S : Type 0} (x : LinesRead (List A × S)) → onto [] x ≡ x
onto_none (failed v) = unfold onto in refl
onto_none (after r at ls) = unfold onto in refl

-- one more of them
onto_more : {A S : Type 0} (xs : List A) (x : A) (later : Reader (List A × S)) (at : ℕ) (ls : List Line)
    → onto xs ((later >>= (λ r. done (x ∷ r.0, r.1))) at ls) ≡ onto (xs ++ (x ∷ [])) (later at ls)
unfolding ◌>>=◌ onto done
onto_more {A} {S} xs x later at ls = go (later at ls)
  where
    go : (y : LinesRead (List A × S)) → onto xs (elim y [ failed v ↦ failed v | after r n l ↦ after (x ∷ r.0, r.1) n l ]) ≡ onto (xs ++ (x ∷ [])) y
    go (failed v) = refl
    go (after r n l) = rw append_assoc

-- so many of a thing are passed, from a place to another: what is left to read, with what is carried, and what is held of those passed
pub record Passed {A S : Type 0} (s : Text) (one : ℕ → S → Reader (A × S)) (count : ℕ) (begun : S) (from here : At) (i : ℕ) (so : S)
    (Held : List A → Type 0) : Type 0 where
  pub items : List A
  pub rest : read_at (each count 0 begun one) s from ≡ onto items (read_at (each (count - i) i so one) s here)
  pub within : i ≤ count
  pub placed : Placed s here
  pub held : Held items

-- none yet
pub passed_none : {A S : Type 0} {s : Text} {one : ℕ → S → Reader (A × S)} {count : ℕ} {so : S} {from : At} {Held : List A → Type 0}
    → Placed s from → Held [] → Passed s one count so from from 0 so Held
passed_none {s = s} {one} {count} {so} {from} placed held = record { items = []; rest = sym (onto_none _ ∙ ap (λ m. read_at (each m 0 so one) s from) (sub-zero count)); within = omega arith; placed = placed; held = held }

module _ {A S : Type 0} {s : Text} {one : ℕ → S → Reader (A × S)} {count : ℕ} {begun : S} {from here : At} {i : ℕ} {so : S} {Held : List A → Type 0}
    (p : Passed s one count begun from here i so Held) where
  one_more_lem : i < count → count - i ≡ suc (count - (i + 1))
  one_more_lem more = omega arith

  -- the next one is refused
  pub passed_stopped : i < count → {w : Verdict} → read_at (one i so) s here ≡ failed w → read_at (each count 0 begun one) s from ≡ failed w
  unfolding each onto
  passed_stopped more e = p.rest ∙ rw (one_more_lem more) (ap (onto p.items) (then_failed (one i so) _ _ _ _ e))

  -- or it is read
  pub passed_onward : i < count → (a : A × S) (q : At) → read_at (one i so) s here ≡ after a q.line (lines (drop q.place s)) → Placed s q
      → {so' : S} → a.1 ≡ so' → {Later : List A → Type 0} → Later (p.items ++ (a.0 ∷ [])) → Passed s one count begun from q (i + 1) so' Later
  unfolding each
  passed_onward more a q e placed carried held = record {
    items = p.items ++ (a.0 ∷ []);
    rest =
        p.rest
        ∙ rw (one_more_lem more) (ap (onto p.items) (then_after (one i so) _ _ _ a _ _ e) ∙ onto_more p.items a.0 (each (count - (i + 1)) (i + 1) a.1 one) _ _)
        ∙ ap (λ so. onto (p.items ++ (a.0 ∷ [])) (read_at (each (count - (i + 1)) (i + 1) so one) s q)) carried;
    within = omega arith;
    placed = placed;
    held = held;
  }

  -- all of them
  pub passed_all : count ≤ i → (Q : List A × S → ℕ → Type 0) (n : ℕ) → (i ≡ count → Q (p.items, so) n) → Tells s Q (Ok (n, here)) (read_at (each count 0 begun one) s from)
  unfolding Tells onto each done
  passed_all h Q n told =
      let z : count - i ≡ 0 = omega arith in
      ((p.items, so), p.rest ∙ rw (z, append-nil) refl, p.placed, told (omega (arith, p.within)))
