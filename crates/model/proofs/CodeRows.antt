-- The row of a code line, which tells its statement, its `new` and its shape. Assumes nothing.
use Rattle.std.specs.Prelude.{Some}
use Prim.Native.Nat.{ℕ, ◌+◌, ◌-◌, ◌≤◌, ◌<◌}
use mathlib.Core.List.{List, ◌++◌}
use mathlib.Core.Path.{◌≡◌, refl, sym, ap, subst, ◌∙◌}
use native.Mathlib.Omega.{arith}
use lib.Dec.{eqb}
use lib.ListN.{length, set, take, drop, length-take, length-drop}
use lib.Seq.{get_or-set_same, get_or-set_other}
use Rattle.terms.specs.Bytes.{Text}
use Rattle.terms.specs.Parsed.{got}
use Rattle.text.specs.InOrder.{right}
use Rattle.code.specs.Blocks.{Block, shape_of, through}
use Rattle.model.specs.declared.MethodHead.{MethodHead}
use Rattle.model.specs.declared.Row.{Row}
use Rattle.model.specs.declared.Stated.{Stated}
use Rattle.model.specs.ModelText.{SoFar, creations_of, standing}
use Rattle.model.specs.Vocabulary.Belonging.{value_in, CodeTold, ShapeTold, LineTold}
use Rattle.model.specs.Vocabulary.Creations.{creations_in}
use Rattle.model.specs.Vocabulary.Leaving.{so_far, LineLeft}
use Rattle.model.specs.Vocabulary.Standing.{limits_of, value_taken, CodeIs}
use Rattle.model.specs.Vocabulary.Table.{Table, Sized, put, row_at, code_row, Same}
use Rattle.model.proofs.CodeValues.{Taking, taking}
use Rattle.model.proofs.CountsOfNew.{creation_told_lem, in_more}
use Rattle.model.proofs.Framing.{same_put, news_kept}
use Rattle.model.proofs.TableRows.{row_own}

-- a statement whose row and shape are put
module _ (s : Text) (t : Table) (x : List ℕ) (sized : Sized t x) (m : MethodHead) (i total at place end : ℕ) (bs : List Block) (d : Stated)
    (room : m.first + i < 512) (from : place ≤ end) (to : end ≤ length s)
    (is : CodeIs (take (end - place) (drop place s)) m (eqb (i + 1) m.count) bs d) where
  abbrev line : ℕ
  line = m.first + i

  abbrev row : Row
  row = record { 0 = place; 1 = end - place; 2 = at; 3 = d.new }

  abbrev u : Table
  u = put t (code_row line) row

  abbrev y : List ℕ
  y = set x line d.shape

  rows_same : Same t x u y 16 128 line
  rows_same =
      same_put t x y (code_row line) row (λ i h e. omega arith) (λ i j h e. omega arith) (λ i h e. omega arith)
      (λ i h. get_or-set_other x line i d.shape 0 (λ e. omega arith))

  -- the row leads to its value, and tells its `new`
  line_row : row_at u (code_row line) ≡ row
  line_row = row_own t (code_row line) row sized.0 (omega arith)

  value_length : length (take (end - place) (drop place s)) ≡ end - place
  value_length = omega (arith, length-take (end - place) (drop place s), length-drop place s)

  line_told : LineTold s m.classes u y (limits_of m) line is.code
  unfolding LineTold CodeTold ShapeTold value_in
  line_told = (
    rw line_row (omega arith, is.tree ∙ ap (λ n. got n is.code) value_length),
    get_or-set_same x line d.shape 0 (omega (arith, sized.1)) ∙ is.shape,
  )

  news : creations_in t line ++ creations_of at is.code ≡ creations_in u (line + 1)
  news = rw (in_more u line, line_row, news_kept rows_same 0 line (omega arith), is.new, creation_told_lem at is.code is.class) refl

  abbrev pub carried : SoFar
  carried = record { total = total; creations = creations_in t line ++ creations_of at is.code; blocks = is.after }

  taken : Taking (eqb (i + 1) m.count) is.code at (so_far t line total bs) (Some is.after) (standing at (eqb (i + 1) m.count) (so_far t line total bs) is.code (through (shape_of is.code) bs))
  taken = rw is.stands at (taking (eqb (i + 1) m.count) is.code at (so_far t line total bs) (through (shape_of is.code) bs))

  pub line_taken : value_taken (limits_of m) m.classes (eqb (i + 1) m.count) (so_far t line total bs) at (take (end - place) (drop place s)) ≡ right (is.code, carried)
  unfolding Taking
  line_taken = rw (is.tree, value_taken) taken.1

  pub line_left : (v : Table) → v ≡ u → LineLeft s t x v y m i total (is.code, carried) d.blocks
  unfolding Taking
  line_left v e = subst (λ w. LineLeft s t x w y m i total (is.code, carried) d.blocks) (sym e) (record {
    blocks = is.after;
    so = ap (λ cs. record { total = total; creations = cs; blocks = is.after }) news;
    number = is.blocks;
    stands = taken.0;
    kept = rows_same;
    told = line_told;
  })
