-- Whether bytes are plain: by the first of them, and one after another. Assumes nothing.
use Rattle.std.specs.List.{fold}
use Prim.Native.Nat.{ℕ, ◌+◌, ◌-◌, ◌≤◌, ◌<◌}
use mathlib.Core.Bool.{Bool, true, false, ◌&&◌}
use mathlib.Core.List.{[], ◌∷◌, ◌++◌}
use mathlib.Core.Path.{◌≡◌, refl, sym, ap, ◌∙◌}
use native.Mathlib.Omega.{arith}
use borrow.Author.Tests.{le-leb, lt-leb, leb-true}
use lib.Dec.{leb}
use lib.ListN.{take, drop}
use lib.Seq.{take-add, drop-drop}
use Rattle.whole.proofs.Both.{both_left, both_right}
use Rattle.terms.specs.Bytes.{Text}
use Rattle.text.specs.Lines.{plain_byte, plain_bytes, line_feed}

-- a byte by its two bounds
module _ (b : ℕ) where
  pub plain_from : 32 ≤ b → leb b 126 ≡ plain_byte b
  unfolding plain_byte
  plain_from h = rw (le-leb 32 b h, plain_byte)

  pub plain_below : b < 32 → leb 32 b ≡ plain_byte b
  unfolding plain_byte
  plain_below h = rw (lt-leb 32 b h, plain_byte)

-- a first byte that is plain, or outside
module _ (b : ℕ) (s : Text) where
  pub plain_first : plain_byte b ≡ true → plain_bytes (b ∷ s) ≡ plain_bytes s
  unfolding plain_bytes
  plain_first e = rw (e, plain_bytes)

  pub outside_first : plain_byte b ≡ false → plain_bytes (b ∷ s) ≡ false
  unfolding plain_bytes
  outside_first e = rw (e, plain_bytes)

-- a plain byte is within its bounds
pub plain_bounds : (b : ℕ) → plain_byte b ≡ true → (32 ≤ b) × (b ≤ 126)
unfolding plain_byte
plain_bounds b e = (leb-true _ _ (both_left _ (leb b 126) e), leb-true _ _ (both_right (leb 32 b) _ e))

-- an LF is outside
pub plain_unfed : (b : ℕ) → plain_byte b ≡ true → b ≡ line_feed → ⊥
unfolding plain_byte
plain_unfed b e f = let z : true ≡ false = sym e ∙ ap plain_byte f in let y : ◌≡◌ {A = ℕ} 0 1 = cc in omega arith

-- where the first bytes are plain, the first is, and the others
pub first_plain : (b : ℕ) (s : Text) → plain_bytes (b ∷ s) ≡ true → (plain_byte b ≡ true) × (plain_bytes s ≡ true)
first_plain b s e = go (plain_byte b) refl
  where
    go : (t : Bool) → plain_byte b ≡ t → (plain_byte b ≡ true) × (plain_bytes s ≡ true)
    go true f = (f, sym (plain_first b s f) ∙ e)
    go false f = absurd (let z : ◌≡◌ {A = ℕ} 0 1 = cc (outside_first b s f) in omega arith)

-- what is false on its right is false
pub both_false : (b c : Bool) → c ≡ false → b && c ≡ false
both_false true c e = e
both_false false c e = refl

plain_none : plain_bytes [] ≡ true
unfolding plain_bytes
plain_none = refl

-- some bytes behind others
plain_joined : (s t : Text) → plain_bytes s ≡ true → plain_bytes t ≡ true → plain_bytes (s ++ t) ≡ true
plain_joined [] t e f = f
plain_joined (b ∷ s) t e f =
    let p = first_plain b s e in
    plain_first b (s ++ t) p.0 ∙ plain_joined s t p.1 f

-- the same of the first bytes from a place on
module _ (s : Text) (at : ℕ) where
  pub plain_start : plain_bytes (take 0 (drop at s)) ≡ true
  plain_start = plain_none

  pub plain_begun : plain_bytes (take (at - at) (drop at s)) ≡ true
  plain_begun = let n : at - at ≡ 0 = omega arith in ap (λ k. plain_bytes (take k (drop at s))) n ∙ plain_start

  pub plain_past : (i n : ℕ) → at ≤ i → plain_bytes (take (i - at) (drop at s)) ≡ true → plain_bytes (take n (drop i s)) ≡ true
      → plain_bytes (take ((i + n) - at) (drop at s)) ≡ true
  plain_past i n h e f =
      let m : (i + n) - at ≡ (i - at) + n = omega arith in
      let k : at + (i - at) ≡ i = omega arith in
      let rest : plain_bytes (take n (drop (i - at) (drop at s))) ≡ true = ap (λ t. plain_bytes (take n t)) (drop-drop (i - at) at s ∙ ap (λ j. drop j s) k) ∙ f in
      rw (m, take-add (i - at) n (drop at s)) (plain_joined (take (i - at) (drop at s)) (take n (drop (i - at) (drop at s))) e rest)

-- byte after byte, whether those so far are plain
plain_so_far : (t : Bool) (s : Text) → fold (λ plain b. plain && plain_byte b) t s ≡ t && plain_bytes s
unfolding plain_bytes
plain_so_far true [] = refl
plain_so_far false [] = refl
plain_so_far t (b ∷ s) = plain_so_far (t && plain_byte b) s ∙ go t (plain_byte b)
  where
    go : (t u : Bool) → (t && u) && plain_bytes s ≡ t && elim u [ true ↦ plain_bytes s | false ↦ false ]
    go true true = refl
    go true false = refl
    go false u = refl

pub plain_folded : (s : Text) → fold (λ plain b. plain && plain_byte b) true s ≡ plain_bytes s
plain_folded s = plain_so_far true s
