-- Items stored one after another: a run of stores behind another, and what is at the front. Assumes nothing.
use Prim.Native.Nat.{ℕ, suc, ◌+◌, ◌-◌, ◌≤◌, ◌<◌}
use mathlib.Core.List.{List, [], ◌∷◌, ◌++◌, append_assoc}
use mathlib.Core.Path.{◌≡◌, refl, sym, ap, ap₂, subst, ◌∙◌}
use native.Mathlib.Nat.{zero-add}
use native.Mathlib.Numerals.{add-one}
use native.Mathlib.Omega.{arith}
use lib.ListN.{length, take, drop, get_or, set, drop_of_length-le, length-append, length-drop, take-append-drop}
use borrow.Rule.Slice.PartMut.{put_mid}
use lib.Seq.{sets, sets-eq, set_split, drop-cons, drop-drop, drop_at, drop-set-lt, take_at, length-take-le, take_all}
use Rattle.terms.specs.Bytes.{Text}
use Rattle.session.specs.Shown.{shown_line}
use Rattle.transcript.specs.Vocabulary.Front.{at_front, Adds}
use Rattle.transcript.specs.declared.shown.Front.{Front}

module _ {A : Type 0} where
  -- what is stored behind something else is stored with it
  pub sets_after : (old a b : List A) (at : ℕ) → sets (sets old at a) (at + length a) b ≡ sets old at (a ++ b)
  sets_after old [] b at = let n : at + 0 ≡ at = omega arith in ap (λ k. sets old k b) n
  sets_after old (x ∷ a) b at =
      let n : at + suc (length a) ≡ suc at + length a = omega arith in
      ap (λ k. sets (sets (set old at x) (suc at) a) k b) n ∙ sets_after (set old at x) a b (suc at)

  -- from the first place on
  pub sets_front : (old items : List A) → length items ≤ length old → sets old 0 items ≡ at_front items old
  unfolding at_front
  sets_front old items h =
      sets-eq items old 0 (omega arith) ∙ ap (λ n. items ++ drop n old) (zero-add (length items))

  -- what is at the front can be taken from there
  pub take_front : (items old new : List A) (n : ℕ) → new ≡ at_front items old → n ≡ length items → take n new ≡ items
  unfolding at_front
  take_front items old new n f e = ap (take n) f ∙ take_at items (drop (length items) old) n (sym e)

  -- items stored one by one: what is behind them is as it was, after one more too
  pub behind_stored : (old was new : List A) (i : ℕ) (a : A) → new ≡ set was i a → drop i was ≡ drop i old → drop (i + 1) new ≡ drop (i + 1) old
  behind_stored old was new i a stored e =
      ap (drop (i + 1)) stored ∙ drop-set-lt (i + 1) was i a (omega arith) ∙ sym (drop-drop 1 i was) ∙ ap (drop 1) e ∙ drop-drop 1 i old

  -- and then they are at the front
  pub stored_front : (items old new : List A) (n : ℕ) → n ≤ length new → take n new ≡ items → drop n new ≡ drop n old → (n ≡ length items) × (new ≡ at_front items old)
  unfolding at_front
  stored_front items old new n h front behind =
      let k : n ≡ length items = sym (length-take-le n new h) ∙ ap length front in
      (k, sym (take-append-drop n new) ∙ ap₂ ◌++◌ front (behind ∙ ap (λ n. drop n old) k))

  -- the item at a place is stored before those behind it
  pub sets_onward : (old items : List A) (d : A) (at i : ℕ) → suc i ≤ length items
      → sets (set old (at + i) (get_or items i d)) (at + (i + 1)) (drop (i + 1) items) ≡ sets old (at + i) (drop i items)
  sets_onward old items d at i h =
      let n : at + suc i ≡ suc (at + i) = omega arith in
      rw (add-one i, drop-cons items i d h) (ap (λ k. sets (set old (at + i) (get_or items i d)) k (drop (suc i) items)) n)

  pub sets_ended : (old items : List A) (at i : ℕ) → length items ≤ i → sets old at (drop i items) ≡ old
  sets_ended old items at i h = ap (sets old at) (drop_of_length-le items h)

  -- the rest of a list is all of it
  pub take_rest : (n : ℕ) (l : List A) → take (length l - n) (drop n l) ≡ drop n l
  take_rest n l = take_all (length l - n) (drop n l) (omega (arith, length-drop n l))

  -- what was stored last stands before what was stored behind it
  pub drop_stored : (old : List A) (i : ℕ) (a : A) → i < length old → drop i (set old i a) ≡ a ∷ drop (i + 1) old
  drop_stored old i a h =
      rw (add-one i) (ap (drop i) (set_split old i a h) ∙ drop_at (take i old) (a ∷ drop (suc i) old) i (length-take-le i old (omega arith)))

  -- a part of a list, copied over
  pub put_is : (old items new : List A) (at : ℕ) → new ≡ items → at + length items ≤ length old → put_mid at (at + length items - at) old new ≡ sets old at items
  put_is old items new at e h =
      let n : at + length items - at ≡ length items = omega arith in
      rw (e, n, drop-drop (length items) at old) (sym (append_assoc (take at old) items (drop (at + length items) old)) ∙ sym (sets-eq items old at h))

-- bytes that were put there, and some more behind them
pub adds_after : {a b : Text} {old mid new : Front} → Adds a old mid → Adds b mid new → Adds (a ++ b) old new
adds_after {a} {b} {old} {mid} {new} f g =
    record {
      same_reference = g.same_reference ∙ f.same_reference;
      room = g.room ∙ f.room;
      put = g.put ∙ ap (λ m. sets m mid.at b) f.put ∙ ap (λ n. sets (sets old.out.now old.at a) n b) f.behind ∙ sets_after old.out.now a b old.at;
      behind = omega (arith, f.behind, g.behind, length-append a b);
    }

pub adds_none : (f : Front) → Adds [] f f
adds_none f = record { same_reference = refl; room = refl; put = refl; behind = omega arith }

-- the same bytes, said in another way
pub adds_as : {a b : Text} {old new : Front} → a ≡ b → Adds a old new → Adds b old new
adds_as {old = old} {new = new} e f = subst (λ t. Adds t old new) e f

-- a line, where its number is known by another name
pub line_as : (name : Text) (m n : ℕ) {old new : Front} → Adds (shown_line name m) old new → m ≡ n → Adds (shown_line name n) old new
line_as name m n f e = adds_as (ap (shown_line name) e) f

-- what was put into memory from its beginning on stands at the front
module _ {text : Text} {old new : Front} (f : Adds text old new) (z : old.at ≡ 0) where
  pub front_length : new.at ≡ length text
  front_length = omega (arith, f.behind)

  pub front_is : new.at ≤ length old.out.now → new.out.now ≡ at_front text old.out.now
  front_is h = f.put ∙ ap (λ i. sets old.out.now i text) z ∙ sets_front old.out.now text (omega (arith, front_length))
