-- What `all` answers over a range is said of each number in it. Assumes nothing.
use Prim.Native.Nat.{ℕ, ◌+◌, ◌-◌, ◌≤◌, ◌<◌}
use mathlib.Core.Bool.{Bool, true, false, false≢true}
use mathlib.Core.List.{List}
use mathlib.Core.Path.{◌≡◌, subst, sym, ◌∙◌}
use native.Mathlib.Omega.{arith}
use lib.ListN.{length}
use Rattle.std.specs.Bool.{MatchBool}
use Rattle.std.specs.List.{range_with_len, AllWithin, HoldsAt}
use Rattle.std.proofs.lemmas.List.FromFn.{length-range_with_len, get_or-range_with_len}

module _ (P Q : ℕ → Type 0) (from end : ℕ) where
  abbrev numbers : List ℕ
  numbers = range_with_len from (end - from)

  pub each_in : (r : Bool) → MatchBool r (AllWithin P numbers 0 (length numbers)) ((k : ℕ) × (k < length numbers) × HoldsAt Q numbers k)
      → r ≡ true → (i : ℕ) → from ≤ i → i < end → P i
  each_in true h e i l k =
      let at = get_or-range_with_len from (end - from) (i - from) 0 (omega arith) in
      let there : from + (i - from) ≡ i = omega arith in
      subst P (at ∙ there) (h (i - from) 0 (omega arith) (omega (arith, length-range_with_len from (end - from))))
  each_in false h e i l k = absurd (false≢true e)

  pub some_in : (r : Bool) → MatchBool r (AllWithin P numbers 0 (length numbers)) ((k : ℕ) × (k < length numbers) × HoldsAt Q numbers k)
      → r ≡ false → (i : ℕ) × (from ≤ i) × (i < end) × Q i
  some_in true h e = absurd (false≢true (sym e))
  some_in false h e =
      let within : h.0 < end - from = omega (arith, length-range_with_len from (end - from), h.1) in
      (from + h.0, omega arith, omega arith, subst Q (get_or-range_with_len from (end - from) h.0 0 within) (h.2 0))
