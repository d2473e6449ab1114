-- So many of a thing, read one after another while the table is filled. Assumes nothing.
use Rattle.std.specs.Prelude.{Result, Ok}
use Prim.Native.Nat.{ℕ, ◌+◌, ◌≤◌, ◌<◌}
use mathlib.Core.Bool.{true}
use mathlib.Core.List.{List, [], ◌∷◌, ◌++◌}
use mathlib.Core.Path.{◌≡◌, refl, ap, subst, ◌∙◌}
use native.Mathlib.Nat.{add-zero}
use native.Mathlib.Omega.{arith}
use borrow.Author.Tests.{eq-eqb}
use lib.ListN.{length}
use Rattle.whole.specs.Lists.{EachFrom}
use Rattle.terms.specs.Bytes.{Text}
use Rattle.text.specs.declared.At.{At}
use Rattle.text.specs.declared.Failed.{Failed}
use Rattle.text.specs.InOrder.{Reader, each}
use Rattle.text.specs.Vocabulary.Readings.{Placed, read_at, Tells}
use Rattle.text.proofs.Onward.{told_got}
use Rattle.text.proofs.SoMany.{Passed, passed_none, passed_onward, passed_all}
use Rattle.code.specs.Blocks.{Block}
use Rattle.code.specs.Statements.{Code}
use Rattle.code.specs.Vocabulary.OpenBlocks.{packed_blocks}
use Rattle.code.proofs.OpenBlocks.{packed_fits}
use Rattle.model.specs.declared.MethodHead.{MethodHead}
use Rattle.model.specs.ModelText.{SoFar, may_stand, code_line}
use Rattle.model.specs.Vocabulary.Belonging.{LineTold}
use Rattle.model.specs.Vocabulary.Leaving.{so_far, between, LineLeft, Left, CodeLeft}
use Rattle.model.specs.Vocabulary.Standing.{limits_of}
use Rattle.model.specs.Vocabulary.Table.{Table, Same}
use Rattle.model.proofs.CodeTold.{may_depth, may_last}
use Rattle.model.proofs.Framing.{same_self, same_then, line_kept}
use Rattle.model.proofs.TableRows.{append_length, each_more}

-- what a longer reading leaves of so many items, each told with its index, and of one more
pub left_more : {A : Type 0} {s : Text} {t u v : Table} {x y z : List ℕ} (P : Table → List ℕ → ℕ → ℕ → A → Type 0) {k m i j total all n d : ℕ} {xs : List A} {so : SoFar} {a : A × SoFar}
    → Left s t x u y (λ xs n. (length xs ≡ d) × EachFrom (P u y n) 0 xs) k m total (xs, so) all → Left s u y v z (λ o n. P v z n d o) i j all a n → k ≤ i → m ≤ j
    → ((e : ℕ) (o : A) → e < d → P u y all e o → P v z n e o)
    → Left s t x v z (λ xs n. (length xs ≡ d + 1) × EachFrom (P v z n) 0 xs) k m total (xs ++ (a.0 ∷ []), between v n) n
left_more P {xs = xs} {a = a} l o f g keep = record {
  so = refl;
  more = omega (arith, l.more, o.more);
  most = o.most;
  kept = same_then l.kept o.kept (omega arith) f (omega arith) g (omega arith) l.more;
  told = (
    rw (append_length xs a.0, l.told.0) refl,
    each_more _ _ 0 xs a.0 (λ e c _ h. keep e c (omega (arith, l.told.0))) l.told.1 (omega (arith, l.told.0)) o.told,
  );
}

-- so many code lines of a method are passed, with so many blocks open
module _ (s : Text) (t : Table) (x : List ℕ) (m : MethodHead) (from : At) where
  abbrev one : ℕ → SoFar → Reader (Code × SoFar)
  one = code_line (limits_of m) m.classes m.count

  abbrev total : ℕ
  total = m.first + m.count

  pub record LinesPassed (u : Table) (y : List ℕ) (here : At) (blocks i : ℕ) : Type 0 where
    pub left : List Block
    pub number : blocks ≡ packed_blocks left
    pub few : blocks < 65536
    pub ends : i ≡ m.count → left ≡ []
    pub passed : Passed s one m.count (so_far t m.first total []) from here i (so_far u (m.first + i) total left)
        (λ code. (length code ≡ i) × Same t x u y 16 128 m.first × EachFrom (LineTold s m.classes u y (limits_of m)) m.first code)

  -- none yet
  pub lines_begun_lem : 0 < m.count → Placed s from → LinesPassed t x from 0 0
  unfolding packed_blocks EachFrom
  lines_begun_lem h placed = record {
    left = [];
    number = refl;
    few = omega arith;
    ends = λ e. refl;
    passed = rw (add-zero m.first) (passed_none placed (refl, same_self t x 16 128 m.first, tt));
  }

  module _ (u : Table) (y : List ℕ) (here : At) (blocks i : ℕ) (p : LinesPassed u y here blocks i) where
    -- one more, by what the code gives of it
    pub lines_onward : i < m.count → (v : Table) (z : List ℕ) (r : Result (ℕ × At) Failed) → Tells s (LineLeft s u y v z m i total) r (read_at (one i (so_far u (m.first + i) total p.left)) s here)
        → (n : ℕ) (q : At) → r ≡ Ok (n, q) → LinesPassed v z q n (i + 1)
    lines_onward more v z r told n q e =
        let g = told_got s _ r _ told n q e in
        let c = g.0.0 in
        let l = g.3 in
        let next : m.first + i + 1 ≡ m.first + (i + 1) = omega arith in
        let h = p.passed.held in
        record {
          left = l.blocks;
          number = l.number;
          few = rw l.number (packed_fits l.blocks (may_depth _ c l.blocks l.stands));
          ends = λ f. (may_last c l.blocks (subst (λ b. may_stand b c l.blocks ≡ true) (eq-eqb (i + 1) m.count f) l.stands)).0;
          passed = passed_onward p.passed more g.0 q g.1 g.2 (l.so ∙ ap (λ f. so_far v f total l.blocks) next) (
            append_length p.passed.items c ∙ ap (λ k. k + 1) h.0,
            same_then h.1 l.kept (omega arith) (omega arith) (omega arith) (omega arith) (omega arith) (omega arith),
            each_more _ _ m.first p.passed.items c (λ j o _ f. line_kept l.kept s m.classes (m.first + i) (omega arith) (limits_of m) j o (omega (arith, h.0))) h.2 (omega (arith, h.0)) l.told,
          );
        }

    -- all of them
    pub lines_all : m.count ≤ i → total ≤ 512 → Tells s (CodeLeft s t x u y m) (Ok (total, here)) (read_at (each m.count 0 (so_far t m.first total []) one) s from)
    lines_all h room = passed_all p.passed h _ total (λ all.
        let c = p.passed.held in
        record {
          so = ap (λ bs. so_far u (m.first + i) total bs) (p.ends all) ∙ ap (λ k. so_far u (m.first + k) total []) all;
          more = omega arith;
          most = room;
          kept = c.1;
          told = (c.0 ∙ all, refl, c.2);
        })
