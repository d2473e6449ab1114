-- A row that is put keeps what the other rows tell: of classes, methods, code lines, their shapes and their `new`s. Assumes nothing.
use Prim.Native.Nat.{ℕ, zero, suc, ◌+◌, ◌*◌, ◌≤◌, ◌<◌}
use mathlib.Core.List.{List}
use mathlib.Core.Path.{◌≡◌, refl, ◌∙◌}
use native.Mathlib.Omega.{arith}
use lib.ListN.{get_or}
use Rattle.terms.specs.Bytes.{Text}
use Rattle.terms.specs.declared.Limits.{Limits}
use Rattle.code.specs.Statements.{Code}
use Rattle.model.specs.declared.Row.{Row}
use Rattle.model.specs.Vocabulary.Belonging.{CodeTold, ShapeTold, LineTold, MethodTold, ClassTold}
use Rattle.model.specs.Vocabulary.Creations.{creations_from}
use Rattle.model.specs.Model.{Method, Class}
use Rattle.model.specs.Vocabulary.Table.{Table, put, class_row, method_row, code_row, Same}
use Rattle.model.proofs.TableRows.{row_other, each_keep}

-- a table and itself
pub same_self : (t : Table) (x : List ℕ) (k m l : ℕ) → Same t x t x k m l
same_self t x k m l = record { class = λ i h. refl; method = λ i j h. refl; line = λ i h. refl; shape = λ i h. refl }

-- one table after another
module _ {t u v : Table} {x y z : List ℕ} {k m l a b c i j n : ℕ} (p : Same t x u y k m l) (q : Same u y v z a b c) where
  pub same_then : i ≤ k → i ≤ a → j ≤ m → j ≤ b → n ≤ l → n ≤ c → Same t x v z i j n
  same_then f g f' g' f'' g'' = record {
    class = λ i n. q.class i (omega arith) ∙ p.class i (omega arith);
    method = λ i j n. q.method i j (omega arith) ∙ p.method i j (omega arith);
    line = λ i n. q.line i (omega arith) ∙ p.line i (omega arith);
    shape = λ i n. q.shape i (omega arith) ∙ p.shape i (omega arith);
  }

-- a row that is put, and at a code line a shape: the rows at other places are as they were
pub same_put : (t : Table) (x y : List ℕ) (at : ℕ) (r : Row) {k m l : ℕ} → ((i : ℕ) → i < k → at ≡ class_row i → ⊥)
    → ((i j : ℕ) → 8 * i + j < m → at ≡ method_row i j → ⊥) → ((i : ℕ) → i < l → at ≡ code_row i → ⊥) → ((i : ℕ) → i < l → get_or y i 0 ≡ get_or x i 0)
    → Same t x (put t at r) y k m l
same_put t x y at r f g h e = record {
  class = λ i n. row_other t at r (class_row i) (f i n);
  method = λ i j n. row_other t at r (method_row i j) (g i j n);
  line = λ i n. row_other t at r (code_row i) (h i n);
  shape = e;
}

-- what a table tells, another tells that has the same rows
module _ {t u : Table} {x y : List ℕ} {k m l : ℕ} (a : Same t x u y k m l) where
  pub line_kept : (s : Text) (all f : ℕ) → f ≤ l → (lim : Limits) (i : ℕ) (c : Code) → i < f → LineTold s all t x lim i c → LineTold s all u y lim i c
  unfolding LineTold CodeTold ShapeTold
  line_kept s all f b lim i c h told = rw (a.line i (omega arith), a.shape i (omega arith)) told

  -- of methods and classes: something else of each of their code lines, and also where more code lines are told
  module _ (f g : ℕ) (b : f ≤ g) (P Q : Limits → ℕ → Code → Type 0) (h : (lim : Limits) (i : ℕ) (c : Code) → i < f → P lim i c → Q lim i c) where
    pub method_kept : (attrs class j : ℕ) (o : Method) → 8 * class + j < m → MethodTold t f P attrs class j o → MethodTold u g Q attrs class j o
    unfolding MethodTold
    method_kept attrs class j o d told =
        rw (a.method class j d)
        (told.0, told.1, told.2, omega arith, each_keep _ _ _ o.code (λ i c _ n. h _ i c (omega arith)) told.4)

    pub class_kept : (class : ℕ) (o : Class) → class < k → 8 * class + 8 ≤ m → ClassTold t f P class o → ClassTold u g Q class o
    unfolding ClassTold
    class_kept class o d e told =
        rw (a.class class d)
        (told.0, told.1, told.2, told.3, told.4, each_keep _ _ 0 o.methods (λ j b _ n. method_kept o.attrs class j b (omega arith)) told.5)

-- the creations of the same code rows
pub news_kept : {t u : Table} {x y : List ℕ} {k m l : ℕ} → Same t x u y k m l → (i n : ℕ) → i + n ≤ l → creations_from u i n ≡ creations_from t i n
unfolding creations_from
news_kept a i zero h = refl
news_kept a i (suc n) h = rw (a.line i (omega arith), news_kept a (suc i) n (omega arith)) refl
