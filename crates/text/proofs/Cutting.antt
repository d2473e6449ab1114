-- A text cut at its LFs: what lines begin at a place. Assumes nothing.
use Prim.Native.Nat.{ℕ, suc, ◌≤◌, ◌<◌}
use mathlib.Core.Bool.{Bool, true, false}
use mathlib.Core.List.{List, [], ◌∷◌}
use mathlib.Core.Path.{◌≡◌, refl, sym, ap, subst, ◌∙◌}
use native.Mathlib.Omega.{arith}
use borrow.Author.Tests.{eqb-true}
use lib.Dec.{eqb}
use lib.ListN.{length, take, drop, drop_of_length-le}
use Rattle.terms.specs.Bytes.{Text, byte_at}
use Rattle.text.specs.Lines.{Line, terminated, unterminated, grown, lines, line_feed}

-- the first byte of a text is an LF, or not
module _ (b : ℕ) (s : Text) where
  pub lines_first : eqb b line_feed ≡ true → lines (b ∷ s) ≡ terminated [] ∷ lines s
  unfolding lines
  lines_first e = rw (e, lines)

  pub lines_later : eqb b line_feed ≡ false → lines (b ∷ s) ≡ grown b (lines s)
  unfolding lines
  lines_later e = rw (e, lines)

-- a byte before lines
pub grown_none : (b : ℕ) → grown b [] ≡ unterminated (b ∷ []) ∷ []
unfolding grown
grown_none b = refl

pub grown_whole : (b : ℕ) (l : Text) (ls : List Line) → grown b (terminated l ∷ ls) ≡ terminated (b ∷ l) ∷ ls
unfolding grown
grown_whole b l ls = refl

pub grown_unended : (b : ℕ) (l : Text) (ls : List Line) → grown b (unterminated l ∷ ls) ≡ unterminated (b ∷ l) ∷ ls
unfolding grown
grown_unended b l ls = refl

pub lines_none : lines [] ≡ []
unfolding lines
lines_none = refl

-- there is a line where there is a byte
pub lines_some : (b : ℕ) (s : Text) → (l : Line) × (ls : List Line) × (lines (b ∷ s) ≡ l ∷ ls)
lines_some b s = go (eqb b line_feed) refl
  where
    more : (ms : List Line) → (l : Line) × (ls : List Line) × (grown b ms ≡ l ∷ ls)
    more [] = (_, _, grown_none b)
    more (terminated l ∷ ls) = (_, _, grown_whole b l ls)
    more (unterminated l ∷ ls) = (_, _, grown_unended b l ls)

    go : (t : Bool) → eqb b line_feed ≡ t → (l : Line) × (ls : List Line) × (lines (b ∷ s) ≡ l ∷ ls)
    go true e = (_, _, lines_first b s e)
    go false e = let m = more (lines s) in (m.0, m.1, lines_later b s e ∙ m.2)

-- the first line stands at the text's front with its LF behind it, and the others behind that
pub record Front (s l : Text) (ls : List Line) : Type 0 where
  pub front : l ≡ take (length l) s
  pub fed : byte_at s (length l) ≡ line_feed
  pub rest : ls ≡ lines (drop (suc (length l)) s)
  pub within : length l < length s

front_none : (b : ℕ) (s : Text) → b ≡ line_feed → Front (b ∷ s) [] (lines s)
front_none b s e = record { front = refl; fed = e; rest = refl; within = omega arith }

front_more : (b : ℕ) (s l : Text) (ls : List Line) → Front s l ls → Front (b ∷ s) (b ∷ l) ls
front_more b s l ls f = record { front = ap (λ t. b ∷ t) f.front; fed = f.fed; rest = f.rest; within = omega (arith, f.within) }

ungrown : (b : ℕ) (ms : List Line) (l : Text) (ls : List Line) → grown b ms ≡ terminated l ∷ ls → (m : Text) × (ms ≡ terminated m ∷ ls) × (l ≡ b ∷ m)
ungrown b [] l ls e = absurd (let z : ◌≡◌ {A = ℕ} 0 1 = cc (grown_none b) in omega arith)
ungrown b (terminated m ∷ ms) l ls e = (m, cc (grown_whole b m ms), cc (grown_whole b m ms))
ungrown b (unterminated m ∷ ms) l ls e = absurd (let z : ◌≡◌ {A = ℕ} 0 1 = cc (grown_unended b m ms) in omega arith)

pub cut_whole : (s l : Text) (ls : List Line) → lines s ≡ terminated l ∷ ls → Front s l ls
cut_whole [] l ls e = absurd (let z : ◌≡◌ {A = ℕ} 0 1 = cc lines_none in omega arith)
cut_whole (b ∷ s) l ls e = go (eqb b line_feed) refl (cut_whole s)
  where
    go : (t : Bool) → eqb b line_feed ≡ t → ((m : Text) (ms : List Line) → lines s ≡ terminated m ∷ ms → Front s m ms) → Front (b ∷ s) l ls
    go true f more =
        let n : [] ≡ l = cc (lines_first b s f) in
        let k : lines s ≡ ls = cc (lines_first b s f) in
        subst (λ t. Front (b ∷ s) t ls) n (subst (Front (b ∷ s) []) k (front_none b s (eqb-true _ _ f)))
    go false f more =
        let u = ungrown b (lines s) l ls (sym (lines_later b s f) ∙ e) in
        subst (λ t. Front (b ∷ s) t ls) (sym u.2) (front_more b s u.0 ls (more u.0 ls u.1))

-- past the end is none
pub line_none : (s : Text) (at : ℕ) → length s ≤ at → lines (drop at s) ≡ []
line_none s at h = ap lines (drop_of_length-le s h) ∙ lines_none
