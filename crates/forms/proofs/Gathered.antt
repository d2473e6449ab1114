-- Arguments as the code gathers them tell what the definition does with them: either each has a value, and the values are these, with 0 for
-- those that are missing, or one is out of range. Assumes nothing.
use Rattle.std.specs.Prelude.{Some, None, Result, Ok, Err}
use Rattle.std.specs.Result.{result_map_both, result_ok}
use Rattle.std.proofs.lemmas.Option.{same_Some}
use Prim.Native.Nat.{ℕ, zero, suc, ◌≤◌}
use mathlib.Core.List.{List, [], ◌∷◌, ◌++◌, append_assoc, append-nil}
use mathlib.Core.Path.{◌≡◌, refl, sym, ap, ap₂, ◌∙◌}
use native.Mathlib.Omega.{arith}
use lib.IntN.{ℤ, pos}
use lib.ListN.{length, set, take, replicate, length-append}
use Rattle.whole.specs.Whole.{Worked}
use Rattle.whole.specs.Refusals.{out_of_range}
use Rattle.whole.proofs.Tested.{no_some}
use Rattle.layout.specs.Layout.{padded}
use Rattle.code.specs.declared.Arguments.{Arguments}
use Rattle.code.specs.Vocabulary.Answers.{eight, no_arguments, with_one, gathered}
use Rattle.rules.specs.Next.{Next, refused, working, working_all}

-- the first of so many equal values are that many of them
take_same : {A : Type 0} (n k : ℕ) (a : A) → n ≤ k → take n (replicate k a) ≡ replicate n a
take_same zero k a h = refl
take_same (suc n) zero a h = absurd (omega arith)
take_same (suc n) (suc k) a h = ap (a ∷◌) (take_same n k a (omega arith))

-- one value more, put after those that are there; past the end nothing is put
set_after : (n k : ℕ) (ys : List ℤ) (z : ℤ) → n ≤ k
    → set (take n (ys ++ replicate k (pos 0))) (length ys) z ≡ take n ((ys ++ (z ∷ [])) ++ replicate k (pos 0))
set_after zero k ys z h = refl
set_after (suc n) zero ys z h = absurd (omega arith)
set_after (suc n) (suc k) [] z h = ap (z ∷◌) (take_same n k (pos 0) (omega arith) ∙ sym (take_same n (suc k) (pos 0) (omega arith)))
set_after (suc n) (suc k) (y ∷ ys) z h = ap (y ∷◌) (set_after n (suc k) ys z (omega arith))

pub padded_more : (n : ℕ) (ys : List ℤ) (z : ℤ) → set (padded n ys) (length ys) z ≡ padded n (ys ++ (z ∷ []))
unfolding padded
padded_more n ys z = set_after n n ys z (omega arith)

-- all of some arguments have values, which come after others
pub record Gathers (ws : List Worked) (ys : List ℤ) (g : Arguments) : Type 0 where
  pub zs : List ℤ
  pub works : (k : List ℤ → Next) → working_all ws k ≡ k zs
  pub values : g.values ≡ Ok (padded 8 (ys ++ zs))
  pub count : g.count ≡ length (ys ++ zs)

-- whether each is a value, as `ok` tells it
module _ {T E : Type 0} where
  pub fits : (r : Result T E) (t : T) → result_ok r ≡ Some t → r ≡ Ok t
  fits (Ok s) t e = ap Ok (same_Some s t e)
  fits (Err u) t e = absurd (no_some e)

  pub fits_not : (r : Result T E) → result_ok r ≡ None → (u : E) × (r ≡ Err u)
  fits_not (Ok s) e = absurd (no_some (sym e))
  fits_not (Err u) e = (u, refl)

  no_ok : {u : E} {t : T} → ◌≡◌ {A = Result T E} (Err u) (Ok t) → ⊥
  no_ok e = no_some (ap result_ok e)

-- one value more, in either case
more : ℕ → ℤ → Result (List ℤ) (List ℤ) → Result (List ℤ) (List ℤ)
more i z r = result_map_both (λ zs. set zs i z) (λ zs. set zs i z) r

-- once one is out of range, not each is a value
unfit_stays : (a : Arguments) (ws : List Worked) (us vs : List ℤ) → a.values ≡ Err us → (gathered a ws).values ≡ Ok vs → ⊥
unfolding gathered with_one more
unfit_stays a [] us vs e f = no_ok (sym e ∙ f)
unfit_stays a (Some z ∷ ws) us vs e f = unfit_stays (with_one a (Some z)) ws (set us a.count z) vs (ap (more a.count z) e) f
unfit_stays a (None ∷ ws) us vs e f = unfit_stays (with_one a None) ws (eight a.values) vs refl f

-- some that have values, gathered after others
fit_after : (a : Arguments) (ys : List ℤ) (ws : List Worked) → a.values ≡ Ok (padded 8 ys) → a.count ≡ length ys
    → (vs : List ℤ) → (gathered a ws).values ≡ Ok vs → Gathers ws ys (gathered a ws)
unfolding gathered with_one more working working_all
fit_after a ys [] v n vs e =
    let s = sym (append-nil ys) in
    record { zs = []; works = λ k. refl; values = v ∙ ap (λ zs. Ok (padded 8 zs)) s; count = n ∙ ap length s }
fit_after a ys (Some z ∷ ws) v n vs e =
    let g =
    fit_after (with_one a (Some z)) (ys ++ (z ∷ [])) ws
    (ap₂ (λ o i. more i z o) v n ∙ ap Ok (padded_more 8 ys z)) (omega (arith, length-append ys (z ∷ []))) vs e in
    let s = append_assoc ys (z ∷ []) g.zs in
    record { zs = z ∷ g.zs; works = λ k. g.works (λ zs. k (z ∷ zs)); values = g.values ∙ ap (λ zs. Ok (padded 8 zs)) s; count = g.count ∙ ap length s }
fit_after a ys (None ∷ ws) v n vs e = absurd (unfit_stays (with_one a None) ws (eight a.values) vs refl e)

unfit_after : (a : Arguments) (ws : List Worked) (vs us : List ℤ) → a.values ≡ Ok vs → (gathered a ws).values ≡ Err us
    → (k : List ℤ → Next) → working_all ws k ≡ refused out_of_range
unfolding gathered with_one more working working_all
unfit_after a [] vs us f e k = absurd (no_ok (sym e ∙ f))
unfit_after a (Some z ∷ ws) vs us f e k =
    unfit_after (with_one a (Some z)) ws (set vs a.count z) us (ap (more a.count z) f) e (λ zs. k (z ∷ zs))
unfit_after a (None ∷ ws) vs us f e k = refl

-- all the arguments of a statement, by what the code gathered
module _ (ws : List Worked) (g : Arguments) (is : g ≡ gathered no_arguments ws) where
  pub gathered_fit : (vs : List ℤ) → g.values ≡ Ok vs → Gathers ws [] g
  unfolding no_arguments padded
  gathered_fit vs e =
      let f = fit_after no_arguments [] ws refl refl vs (ap (λ (g : Arguments). g.values) (sym is) ∙ e) in
      record { zs = f.zs; works = f.works; values = ap (λ (g : Arguments). g.values) is ∙ f.values; count = ap (λ (g : Arguments). g.count) is ∙ f.count }

  pub gathered_unfit : (us : List ℤ) → g.values ≡ Err us → (k : List ℤ → Next) → working_all ws k ≡ refused out_of_range
  unfolding no_arguments
  gathered_unfit us e = unfit_after no_arguments ws _ us refl (ap (λ (g : Arguments). g.values) (sym is) ∙ e)
