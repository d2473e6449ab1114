-- What a model that was read tells: method by method, class by class. Assumes nothing.
use Rattle.std.specs.Prelude.{Option, None, Some}
use Prim.Native.Nat.{ℕ, ◌+◌, ◌-◌, ◌≤◌, ◌<◌, min}
use mathlib.Core.Bool.{Bool, true, false, ◌&&◌}
use mathlib.Core.List.{List, [], ◌∷◌, ◌++◌}
use mathlib.Core.Path.{◌≡◌, refl, ◌∙◌}
use native.Mathlib.Omega.{arith}
use borrow.Author.Tests.{eq-eqb}
use lib.Dec.{eqb}
use lib.ListN.{length}
use Rattle.whole.specs.Lists.{Every, EachFrom, total_of}
use Rattle.layout.specs.Layout.{most_attributes, most_locals}
use Rattle.terms.specs.Bytes.{bytes}
use Rattle.terms.specs.declared.Limits.{Limits}
use Rattle.text.proofs.Bringing.{Brings, brings_done, brings_then, brings_so, brings_number, Along, brings_each, turn_each, turn_keeps, turn_back, turn_total}
use Rattle.code.specs.Statements.{Code, new_of}
use Rattle.code.specs.Within.{CodeWithin}
use Rattle.code.proofs.Stacks.{false_true}
use Rattle.model.specs.Accepted.{AcceptedMethod, AcceptedClass}
use Rattle.model.specs.Bounds.{edition, most_classes, most_methods, most_params, most_lines, all_lines}
use Rattle.model.specs.Model.{Method, Class, Model}
use Rattle.model.specs.ModelText.{Creation, SoFar, creations_of, lines_begun, zero_if, read_method, read_class, read_model}
use Rattle.model.proofs.CodeTold.{LineRead, brings_code, lines_accepted}

-- a range that may be narrowed to 0 is no wider
zero_most : (b : Bool) (n x : ℕ) → x ≤ zero_if b n → x ≤ n
unfolding zero_if
zero_most true n x h = omega arith
zero_most false n x h = h

-- and narrowed it holds 0 alone
zero_only : (b : Bool) (n x : ℕ) → b ≡ true → x ≤ zero_if b n → x ≡ 0
unfolding zero_if
zero_only true n x e h = omega arith
zero_only false n x e h = absurd (false_true e)

-- what is carried into the first class
abbrev nothing_yet : SoFar
nothing_yet = record { total = 0; creations = []; blocks = [] }

-- `new`s noted at or before a line
abbrev pub Before : ℕ → List Creation → Type 0
Before last cs = Every (λ n. n.at ≤ last) cs

before_more : (last : ℕ) (cs ds : List Creation) → Before last cs → Before last ds → Before last (cs ++ ds)
unfolding Every
before_more last [] ds h k = k
before_more last (c ∷ cs) ds h k = (h.0, before_more last cs ds h.1 k)

before_line : (last at : ℕ) (c : Code) → at ≤ last → Before last (creations_of at c)
unfolding creations_of Every
before_line last at c h = go (new_of c)
  where
    go : (o : Option (ℕ × ℕ)) → Before last (elim o [ None ↦ [] | Some n ↦ record { at = at; class = n.0; count = n.1 } ∷ [] ])
    go None = tt
    go (Some n) = (h, tt)

-- of each `new`, its class and the count of its arguments
module _ (F : ℕ × ℕ → Type 0) where
  -- of a line, if it is one
  abbrev pub NewHas : Code → Type 0
  NewHas c = (n : ℕ × ℕ) → new_of c ≡ Some n → F n

  -- of those that were noted
  abbrev pub Noted : List Creation → Type 0
  Noted cs = Every (λ n. F (n.class, n.count)) cs

  -- each line notes its own
  noted_line : (at : ℕ) (c : Code) → Noted (creations_of at c) → NewHas c
  unfolding creations_of Every
  noted_line at c h n e = (rw (creations_of, e) at h).0

  -- some noted before others
  noted_split : (cs ds : List Creation) → Noted (cs ++ ds) → Noted cs × Noted ds
  unfolding Every
  noted_split [] ds h = (tt, h)
  noted_split (c ∷ cs) ds h = let r = noted_split cs ds h.1 in ((h.0, r.0), r.1)

-- a text of so many lines, less one
module _ (last : ℕ) (F : ℕ × ℕ → Type 0) where
  -- what is noted after a line was noted before it, or is its own
  line_news : (lim : Limits) (classes count i : ℕ) (so : SoFar) (c : Code) (t : SoFar) → LineRead last lim classes count i so c t
      → Noted F t.creations → Noted F so.creations × NewHas F c
  line_news lim classes count i so c t r h =
      let s = noted_split F so.creations (creations_of r.at c) (rw r.creations at h) in
      (s.0, noted_line F r.at c s.1)

  -- a method read: what it is like, the lines that it adds, and its `new`s among those noted
  pub record MethodRead (classes attrs run j : ℕ) (so : SoFar) (b : Method) (t : SoFar) : Type 0 where
    pub like : AcceptedMethod classes attrs run j b
    pub total : t.total ≡ so.total + length b.code
    pub most : t.total ≤ all_lines
    pub news : Noted F t.creations → Noted F so.creations × Every (NewHas F) b.code
    pub before : Before last so.creations → Before last t.creations

  -- a class read
  pub record ClassRead (classes k : ℕ) (so : SoFar) (c : Class) (t : SoFar) : Type 0 where
    pub like : AcceptedClass classes k c
    pub total : t.total ≡ so.total + total_of (λ b. length b.code) c.methods
    pub most : so.total ≤ all_lines → t.total ≤ all_lines
    pub news : Noted F t.creations → Noted F so.creations × Every (λ b. Every (NewHas F) b.code) c.methods
    pub before : Before last so.creations → Before last t.creations

  -- a model read
  pub record ModelRead (m : Model) (t : SoFar) : Type 0 where
    pub count : (1 ≤ length m) × (length m ≤ most_classes)
    pub classes : EachFrom (AcceptedClass (length m)) 0 m
    pub lines : total_of (λ c. total_of (λ b. length b.code) c.methods) m ≤ all_lines
    pub news : Noted F t.creations → Every (λ c. Every (λ b. Every (NewHas F) b.code) c.methods) m
    pub before : Before last t.creations

  -- whatever method is read
  brings_method : (classes : ℕ) → 0 < classes → (attrs run j : ℕ) (so : SoFar) → Brings last (Along (MethodRead classes attrs run j so)) (read_method classes attrs run j so)
  unfolding read_method lines_begun
  brings_method classes some-class attrs run j so =
      brings_then last _ _ _ _ (brings_number last (bytes "method=") j j) (λ _ _.
      brings_then last _ _ _ _ (brings_number last (bytes "params=") 0 (zero_if (eqb run 1 && eqb j 0) most_params)) (λ params p.
      brings_then last _ _ _ _ (brings_number last (bytes "locals=") params most_locals) (λ locals l.
      brings_then last _ _ _ _ (brings_number last (bytes "lines=") 1 (min most_lines (all_lines - so.total))) (λ count n.
      let lim : Limits = record { attrs = attrs; locals = locals } in
      let One = LineRead last lim classes count in
      let begun = lines_begun so count in
      brings_then last _ _ _ _ (brings_each last One _ (λ i s. brings_code last lim classes count i s some-class) count 0 begun) (λ code r.
      let total : code.1.total ≡ so.total + count = turn_keeps One (λ s. s.total ≡ so.total + count) (λ i s c u o h. o.total ∙ h) 0 begun code.0 code.1 r.1 refl in
      brings_done last _ _ (record {
        like = record {
          params = zero_most (eqb run 1 && eqb j 0) most_params params p.1;
          first = λ u z. zero_only (eqb run 1 && eqb j 0) most_params params (rw (eq-eqb run 1 u, eq-eqb j 0 z)) p.1;
          locals = l;
          lines = (omega arith, omega arith);
          blocks = lines_accepted last lim classes count begun code.0 code.1 r.1 refl r.0 n.0;
          code = (turn_back One (λ _. Unit {0}) (CodeWithin lim classes) (λ i s c u o _. (tt, o.within)) 0 begun code.0 code.1 r.1 tt).1;
        };
        total = omega arith;
        most = omega arith;
        news = turn_back One (λ s. Noted F s.creations) (NewHas F) (line_news lim classes count) 0 begun code.0 code.1 r.1;
        before =
            turn_keeps One (λ s. Before last s.creations)
            (λ i s c u o h. rw o.creations (before_more last s.creations _ h (before_line last o.at c o.line))) 0 begun code.0 code.1 r.1;
      }))))))

  -- whatever class is read
  brings_class : (classes : ℕ) → 0 < classes → (k : ℕ) (so : SoFar) → Brings last (Along (ClassRead classes k so)) (read_class classes k so)
  unfolding read_class
  brings_class classes some-class k so =
      brings_then last _ _ _ _ (brings_number last (bytes "class=") k k) (λ _ _.
      brings_then last _ _ _ _ (brings_number last (bytes "attrs=") 0 most_attributes) (λ attrs a.
      brings_then last _ _ _ _ (brings_number last (bytes "given=") 0 (zero_if (eqb k 0) attrs)) (λ given g.
      brings_then last _ _ _ _ (brings_number last (bytes "run=") (1 - k) 1) (λ run u.
      brings_then last _ _ _ _ (brings_number last (bytes "methods=") run most_methods) (λ count n.
      let One = MethodRead classes attrs run in
      brings_then last _ _ _ _ (brings_each last One _ (brings_method classes some-class attrs run) count 0 so) (λ methods r.
      brings_done last _ _ (record {
        like = record {
          attrs = a.1;
          given = zero_most (eqb k 0) attrs given g.1;
          run = u.1;
          first = λ z. (zero_only (eqb k 0) attrs given (eq-eqb k 0 z) g.1, omega arith);
          count = (omega arith, omega arith);
          methods = turn_each One (AcceptedMethod classes attrs run) (λ j s b u o. o.like) 0 so methods.0 methods.1 r.1;
        };
        total = turn_total One (λ s. s.total) (λ b. length b.code) (λ j s b u o. o.total) 0 so methods.0 methods.1 r.1;
        most = turn_keeps One (λ s. s.total ≤ all_lines) (λ j s b u o _. o.most) 0 so methods.0 methods.1 r.1;
        news = turn_back One (λ s. Noted F s.creations) (λ b. Every (NewHas F) b.code) (λ j s b u o. o.news) 0 so methods.0 methods.1 r.1;
        before = turn_keeps One (λ s. Before last s.creations) (λ j s b u o. o.before) 0 so methods.0 methods.1 r.1;
      })))))))

  -- the whole text
  pub brings_model : Brings last (Along ModelRead) read_model
  unfolding read_model Every
  brings_model =
      brings_then last _ _ _ _ (brings_number last (bytes "creol=") edition edition) (λ _ _.
      brings_then last _ _ _ _ (brings_number last (bytes "classes=") 1 most_classes) (λ count n.
      let One = ClassRead count in
      brings_so last _ (Along ModelRead) _ (brings_each last One _ (brings_class count n.0) count 0 nothing_yet) (λ m r.
      let total = turn_total One (λ s. s.total) _ (λ k s c u o. o.total) 0 nothing_yet m.0 m.1 r.1 in
      let most = turn_keeps One (λ s. s.total ≤ all_lines) (λ k s c u o. o.most) 0 nothing_yet m.0 m.1 r.1 (omega arith) in
      record {
        count = (omega arith, omega arith);
        classes = rw r.0 (turn_each One (AcceptedClass count) (λ k s c u o. o.like) 0 nothing_yet m.0 m.1 r.1);
        lines = omega arith;
        news = λ h. (turn_back One (λ s. Noted F s.creations) _ (λ k s c u o. o.news) 0 nothing_yet m.0 m.1 r.1 h).1;
        before = turn_keeps One (λ s. Before last s.creations) (λ k s c u o. o.before) 0 nothing_yet m.0 m.1 r.1 tt;
      })))
