-- What the code's answer for a code value says of the tree that the text is: the place of its refusal, or the tree's shape, the class that
-- it makes an object of, and its arguments. Assumes nothing.
use Rattle.std.specs.Prelude.{Option, None, Some, Result, Ok, Err}
use Prim.Native.Nat.{ℕ, ◌+◌}
use mathlib.Core.Bool.{Bool, true, false}
use mathlib.Core.List.{List, [], ◌∷◌}
use mathlib.Core.Path.{◌≡◌, refl, sym, ap, ◌∙◌}
use native.Mathlib.Omega.{arith}
use borrow.Author.Tests.{eqb-true}
use lib.Dec.{eqb}
use lib.ListN.{length, length-map}
use Rattle.whole.specs.Whole.{Worked}
use Rattle.layout.specs.Layout.{Cells}
use Rattle.terms.specs.declared.Around.{Around}
use Rattle.terms.specs.declared.Limits.{Limits}
use Rattle.terms.specs.Vocabulary.Answers.{surroundings}
use Rattle.terms.specs.Bytes.{Text}
use Rattle.terms.specs.Expressions.{Reading}
use Rattle.terms.specs.Guards.{GuardReading}
use Rattle.terms.specs.Parsed.{Parsed, got, bad, next, mapped, word, ended}
use Rattle.terms.specs.Trees.{trees, guard_trees}
use Rattle.terms.specs.Values.{value_of, guard_of}
use Rattle.code.specs.declared.Arguments.{Arguments}
use Rattle.code.specs.declared.Form.{Form}
use Rattle.code.specs.declared.Statement as Declared
use Rattle.code.specs.Vocabulary.Answers.{no_arguments, with_one, gathered, as_statement, arguments_of, as_code}
use Rattle.code.specs.Blocks.{shape_of}
use Rattle.code.specs.Vocabulary.Creating.{new_said}
use Rattle.code.specs.Statements.{new_of, Statement, Code, skip, set, new, call, get, await, if, else, fi, while, od, return, map_statement}
use Rattle.code.specs.Vocabulary.OpenBlocks.{shape_said}
use Rattle.code.specs.Reader.{word_of, form_of, rest, statement}
use Rattle.code.specs.Vocabulary.Readers.{statement_read}
use Rattle.code.proofs.Gathering.{one_more_lem}
use Rattle.code.proofs.OpenBlocks.{shape_said_lem, shape_mapped}
use Rattle.code.proofs.Respect.{statement_of_tree}

-- so many arguments are gathered as there are
gathered_more_count : (a : Arguments) (ws : List Worked) → (gathered a ws).count ≡ a.count + length ws
unfolding gathered
gathered_more_count a [] = omega arith
gathered_more_count a (w ∷ ws) = omega (arith, gathered_more_count (with_one a w) ws, one_more_lem a w (with_one a w) refl)

pub gathered_count : (ws : List Worked) → (gathered no_arguments ws).count ≡ length ws
gathered_count ws = omega (arith, gathered_more_count no_arguments ws, none_yet)
  where
    none_yet : no_arguments.count ≡ 0
    none_yet = unfold no_arguments in refl

-- the class and the number of arguments of a `new`, by what the code read
pub new_said_lem : (st : Statement Worked Worked) → new_said (as_statement st) (arguments_of st).count ≡ new_of st
unfolding new_said new_of as_statement arguments_of
new_said_lem skip = refl
new_said_lem (set x a) = refl
new_said_lem (new x k es) = ap (λ n. Some (k, n)) (gathered_count es)
new_said_lem (call x a j es) = refl
new_said_lem (get x y) = refl
new_said_lem (await g) = refl
new_said_lem (if a) = refl
new_said_lem else = refl
new_said_lem fi = refl
new_said_lem (while a) = refl
new_said_lem od = refl
new_said_lem (return a) = refl

pub new_mapped : {A B G H : Type 0} (h : A → B) (k : G → H) (st : Statement A G) → new_of (map_statement h k st) ≡ new_of st
unfolding new_of map_statement
new_mapped h k skip = refl
new_mapped h k (set x a) = refl
new_mapped h k (new x j es) = ap (λ n. Some (j, n)) (length-map es h)
new_mapped h k (call x a j es) = refl
new_mapped h k (get x y) = refl
new_mapped h k (await g) = refl
new_mapped h k (if a) = refl
new_mapped h k else = refl
new_mapped h k fi = refl
new_mapped h k (while a) = refl
new_mapped h k od = refl
new_mapped h k (return a) = refl

-- a code value that was read was read to its end
ended_end : {A : Type 0} (s : Text) (q : Parsed A) (p : ℕ) (a : A) → ended s q ≡ got p a → p ≡ length s
ended_end {A} s (got at b) p a e = go (eqb at (length s)) refl
  where
    go : (t : Bool) → eqb at (length s) ≡ t → p ≡ length s
    go true f =
        let g : ended s (got at b) ≡ got at b = unfold ended in rw (f, ended) in
        let h = eqb-true at (length s) f in
        cc
    go false f =
        let g : ended s (got at b) ≡ bad at = unfold ended in rw (f, ended) in
        cc
ended_end {A} s (bad at) p a e = let g : ended {A = A} s (bad at) ≡ bad at = unfold ended in refl in cc

pub got_end : {A G : Type 0} (R : Reading A) (Q : GuardReading A G) (lim : Limits) (classes : ℕ) (s : Text) (p : ℕ) (st : Statement A G)
    → statement R Q lim classes s ≡ got p st → p ≡ length s
unfolding statement
got_end {A} {G} R Q lim classes s p st e = go (form_of s) e
  where
    go : (o : Option Form) → elim o [ None ↦ bad 0 | Some f ↦ ended s (next (word (word_of f) s 0) (λ at _. rest R Q lim classes s f at)) ] ≡ got p st
        → p ≡ length s
    go None e = cc
    go (Some f) e = ended_end s _ p st e

-- what the code gives for a reading tells the reading
code_told_bad : (q : Parsed (Statement Worked Worked)) (p : ℕ) → as_code q ≡ Err p → q ≡ bad p
unfolding as_code
code_told_bad (got at st) p e = cc
code_told_bad (bad at) p e = cc

code_told_got : (q : Parsed (Statement Worked Worked)) (st : Declared.Statement) (es : Arguments) → as_code q ≡ Ok (st, es)
    → (p : ℕ) × (w : Statement Worked Worked) × (q ≡ got p w) × (st ≡ as_statement w) × (es ≡ arguments_of w)
unfolding as_code
code_told_got (got at w) st es e =
    let f : ◌≡◌ {A = Declared.Statement × Arguments} (st, es) (as_statement w, arguments_of w) = cc in
    (at, w, refl, ap (λ z. z.0) f, ap (λ z. z.1) f)
code_told_got (bad at) st es e = absurd (let z : ◌≡◌ {A = ℕ} 0 1 = cc in omega arith)

-- a map's result tells what was mapped
mapped_told_bad : {A B : Type 0} (h : A → B) (q : Parsed A) (p : ℕ) → mapped h q ≡ bad p → q ≡ bad p
unfolding mapped
mapped_told_bad h (got at a) p e = cc
mapped_told_bad h (bad at) p e = cc

mapped_told_got : {A B : Type 0} (h : A → B) (q : Parsed A) (p : ℕ) (b : B) → mapped h q ≡ got p b → (a : A) × (q ≡ got p a) × (b ≡ h a)
unfolding mapped
mapped_told_got h (got at a) p b e = (a, (cc), (cc))
mapped_told_got h (bad at) p b e = absurd (let z : ◌≡◌ {A = ℕ} 0 1 = cc in omega arith)

-- the tree of a code value of which the code gives a statement and its arguments
pub record Told (cells : Cells) (a : Around) (classes : ℕ) (s : Text) (st : Declared.Statement) (es : Arguments) : Type 0 where
  pub code : Code
  pub tree : statement trees guard_trees a.limits classes s ≡ got (length s) code
  pub said : st ≡ as_statement (map_statement (value_of (surroundings cells a.here)) (guard_of (surroundings cells a.here)) code)
  pub beside : es ≡ arguments_of (map_statement (value_of (surroundings cells a.here)) (guard_of (surroundings cells a.here)) code)
  pub shape : shape_said st ≡ shape_of code
  pub creates : new_said st es.count ≡ new_of code

module _ (cells : Cells) (a : Around) (classes : ℕ) (s : Text) (r : Result (Declared.Statement × Arguments) ℕ) (e : r ≡ statement_read cells a classes s) where
  pub told_bad : (p : ℕ) → r ≡ Err p → statement trees guard_trees a.limits classes s ≡ bad p
  told_bad p f =
      let around = surroundings cells a.here in
      mapped_told_bad _ _ p (statement_of_tree around a.limits classes s ∙ code_told_bad _ p (sym e ∙ f))

  pub told_got : (st : Declared.Statement) (es : Arguments) → r ≡ Ok (st, es) → Told cells a classes s st es
  told_got st es f =
      let around = surroundings cells a.here in
      let put = map_statement (value_of around) (guard_of around) in
      let w = code_told_got _ st es (sym e ∙ f) in
      let t = mapped_told_got put _ w.0 w.1 (statement_of_tree around a.limits classes s ∙ w.2) in
      let said : st ≡ as_statement (put t.0) = w.3 ∙ ap as_statement t.2 in
      let beside : es ≡ arguments_of (put t.0) = w.4 ∙ ap arguments_of t.2 in
      record {
        code = t.0;
        tree = t.1 ∙ ap (λ p. got p t.0) (got_end trees guard_trees a.limits classes s w.0 t.0 t.1);
        said = said;
        beside = beside;
        shape = ap shape_said said ∙ shape_said_lem (put t.0) ∙ shape_mapped (value_of around) (guard_of around) t.0;
        creates =
            ap (λ x. new_said x es.count) said
            ∙ ap (λ (x : Arguments). new_said (as_statement (put t.0)) x.count) beside
            ∙ new_said_lem (put t.0)
            ∙ new_mapped (value_of around) (guard_of around) t.0;
      }
