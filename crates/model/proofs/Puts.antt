-- The rows of methods, classes and the model: a row that is put tells what was read, and joins the others. Assumes nothing.
use Prim.Native.Nat.{ℕ, ◌+◌, ◌*◌, ◌≤◌, ◌<◌}
use mathlib.Core.List.{List, []}
use mathlib.Core.Path.{◌≡◌, refl, sym, ap, subst, ◌∙◌}
use native.Mathlib.Omega.{arith}
use lib.ListN.{length}
use Rattle.whole.specs.Lists.{EachFrom}
use Rattle.terms.specs.Bytes.{Text}
use Rattle.code.specs.Statements.{Code}
use Rattle.model.specs.declared.ClassHead.{ClassHead}
use Rattle.model.specs.declared.Row.{Row}
use Rattle.model.specs.Bounds.{most_classes}
use Rattle.model.specs.Model.{Method, Model}
use Rattle.model.specs.ModelText.{SoFar}
use Rattle.model.specs.Vocabulary.Belonging.{LineTold, MethodTold, ClassTold}
use Rattle.model.specs.Vocabulary.Leaving.{Left, CodeLeft, MethodLeft, MethodsLeft, ClassLeft, ClassesLeft, ModelLeft}
use Rattle.model.specs.Vocabulary.Table.{Table, Same, put, class_row, method_row, model_row, classes_in, table_size}
use Rattle.model.proofs.Framing.{same_self, same_then, same_put, line_kept, method_kept, class_kept, news_kept}
use Rattle.model.proofs.TableRows.{row_own, put_size, each_keep}

-- a row that is put after a reading: what is carried stays, and what was read is told with the row
pub left_put : {A B : Type 0} {s : Text} {t u v : Table} {x y : List ℕ} {P : A → ℕ → Type 0} {k m i j total n : ℕ} {a : A} {so : SoFar}
    → Left s t x u y P k m total (a, so) n → Same u y v y i j 512 → i ≤ k → j ≤ m → (Q : Table → B → ℕ → Type 0) (b : B) → Q v b n
    → (w : Table) → w ≡ v → Left s t x w y (Q w) i j total (b, so) n
left_put {s = s} {t} {v = v} {x} {y} {i = i} {j} {total} {n} {so = so} l same f g Q b told w e =
    subst (λ w. Left s t x w y (Q w) i j total (b, so) n) (sym e) (record {
      so = l.so ∙ ap (λ cs. record { total = n; creations = cs; blocks = [] }) (sym (news_kept same 0 n (omega (arith, l.most))));
      more = l.more;
      most = l.most;
      kept = same_then l.kept same f (omega arith) g (omega arith) (omega arith) (omega (arith, l.more, l.most));
      told = told;
    })

-- a method whose lines are read, and its row
pub method_put : (s : Text) (t : Table) (x : List ℕ) (u : Table) (y : List ℕ) (c : ClassHead) (j total params locals count n : ℕ) (cs : List Code) (so : SoFar)
    → c.index < 16 → j < 8 → (w : Table) → length w ≡ table_size → w ≡ put u (method_row c.index j) (record { 0 = params; 1 = locals; 2 = count; 3 = total })
    → (within : (0 < c.classes) × (c.classes ≤ 16)) → CodeLeft s t x u y (record { classes = c.classes; attrs = c.attrs; locals = locals; count = count; first = total; within = within }) (cs, so) n
    → MethodLeft s t x w y c j total (record { params = params; locals = locals; code = cs }, so) n
unfolding MethodTold
method_put s t x u y c j total params locals count n cs so index few w long e within l =
    let at = method_row c.index j in
    let row : Row = record { 0 = params; 1 = locals; 2 = count; 3 = total } in
    let sized = put_size u at row w long e in
    let same : Same u y (put u at row) y 16 (8 * c.index + j) 512 = same_put u y y at row (λ i h e. omega arith) (λ i j h e. omega arith) (λ i h e. omega arith) (λ i h. refl) in
    let size : length cs ≡ count = l.told.0 in
    let last : n ≡ total + count = l.told.1 in
    left_put l same (omega arith) (omega arith) (λ v o n. MethodTold v n (LineTold s c.classes v y) c.attrs c.index j o) _
    (rw (row_own u at row sized (omega arith)) (
      refl,
      refl,
      sym size,
      omega arith,
      each_keep _ _ total cs (λ i o _ h. line_kept same s c.classes 512 (omega arith) _ i o (omega (arith, l.most))) l.told.2,
    )) w e

-- a class whose methods are read, and its row
pub class_put : (s : Text) (t : Table) (x : List ℕ) (u : Table) (y : List ℕ) (classes k total attrs given run count n : ℕ) (os : List Method) (so : SoFar)
    → k < 16 → count ≤ 8 → (w : Table) → length w ≡ table_size → w ≡ put u (class_row k) (record { 0 = attrs; 1 = given; 2 = run; 3 = count })
    → (within : (k < classes) × (classes ≤ 16)) → MethodsLeft s t x u y (record { classes = classes; index = k; attrs = attrs; run = run; within = within }) count total (os, so) n
    → ClassLeft s t x w y classes k total (record { attrs = attrs; given = given; run = run; methods = os }, so) n
unfolding ClassTold
class_put s t x u y classes k total attrs given run count n os so index few w long e within l =
    let row : Row = record { 0 = attrs; 1 = given; 2 = run; 3 = count } in
    let sized = put_size u (class_row k) row w long e in
    let rest : Same u y (put u (class_row k) row) y k (8 * k + 8) 512 = same_put u y y (class_row k) row (λ i h e. omega arith) (λ i j h e. omega arith) (λ i h e. omega arith) (λ i h. refl) in
    let same : Same u y (put u (class_row k) row) y k (8 * k) 512 = same_then rest (same_self _ y k (8 * k) 512) (omega arith) (omega arith) (omega arith) (omega arith) (omega arith) (omega arith) in
    let size : length os ≡ count = l.told.0 in
    left_put l same (omega arith) (omega arith) (λ v o n. ClassTold v n (LineTold s classes v y) k o) _
    (rw (row_own u (class_row k) row sized (omega arith)) (
      refl,
      refl,
      refl,
      sym size,
      omega arith,
      each_keep _ _ 0 os (λ j o _ h. method_kept rest n n (omega arith) _ _ (line_kept rest s classes n l.most) attrs k j o (omega arith)) l.told.1,
    )) w e

-- a text whose classes are all read, and the model's own row
pub model_put : (s : Text) (t : Table) (x : List ℕ) (u : Table) (y : List ℕ) (count n : ℕ) (got : Model × SoFar) → count ≤ 16
    → (w : Table) → length w ≡ table_size → w ≡ put u model_row (record { 0 = count; 1 = 0; 2 = 0; 3 = 0 }) → ClassesLeft s t x u y count count got n → ModelLeft s t x w y got n
unfolding classes_in
model_put s t x u y count n got few w long e l =
    let row : Row = record { 0 = count; 1 = 0; 2 = 0; 3 = 0 } in
    let sized = put_size u model_row row w long e in
    let same : Same u y (put u model_row row) y 16 128 512 = same_put u y y model_row row (λ i h e. omega arith) (λ i j h e. omega arith) (λ i h e. omega arith) (λ i h. refl) in
    let same' : Same u y (put u model_row row) y 0 0 512 = same_then same (same_self _ y 0 0 512) (omega arith) (omega arith) (omega arith) (omega arith) (omega arith) (omega arith) in
    let size : length got.0 ≡ count = l.told.0 in
    left_put l same' (omega arith) (omega arith) (λ v m n. (classes_in v ≡ length m) × (length m ≤ most_classes) × EachFrom (ClassTold v n (LineTold s (length m) v y)) 0 m) got.0 (
      ap (λ (r : Row). r.0) (row_own u model_row row sized (omega arith)) ∙ sym size,
      omega arith,
      rw size (each_keep _ _ 0 got.0 (λ k c _ h. class_kept same n n (omega arith) _ _ (line_kept same s count n l.most) k c (omega arith) (omega arith)) l.told.1),
    ) w e
