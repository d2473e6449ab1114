-- A search for the first accepted choice, as the code goes: choice after choice of a kind, kind after kind of an order, step after step of a
-- drive. Assumes nothing.
use Rattle.std.specs.Prelude.{Option, None, Some, is_ok, Ok, Err}
use Prim.Native.Nat.{ℕ, zero, suc, ◌+◌, ◌-◌, ◌≤◌, ◌<◌}
use mathlib.Core.Bool.{Bool, true, false, not, false≢true}
use mathlib.Core.List.{List, [], ◌∷◌, ◌++◌}
use mathlib.Core.Path.{◌≡◌, refl, sym, ap, subst, ◌∙◌}
use native.Mathlib.Numerals.{add-one}
use native.Mathlib.Omega.{arith}
use lib.IntN.{ℤ, pos}
use lib.ListN.{length, get_or, drop, drop_of_length-le}
use lib.Seq.{drop-cons}
use Rattle.whole.specs.Vocabulary.Refusing.{Answer, number_given}
use Rattle.layout.specs.Layout.{Cells, Write, written, object_rows, call_rows, all_cells}
use Rattle.layout.specs.Stages.{objects_in_use, rows_in_use}
use Rattle.model.specs.Model.{Model}
use Rattle.cells.specs.Configuration.{is_configuration}
use Rattle.cells.proofs.Configured.{configured}
use Rattle.rules.specs.declared.Choice.{Choice}
use Rattle.rules.specs.declared.Kind.{Kind}
use Rattle.rules.specs.Kinds.{kinds, kind_number, in_use, choose}
use Rattle.rules.specs.Next.{Next, refused, moved, cells_after}
use Rattle.rules.specs.Step.{next}
use Rattle.forms.specs.Vocabulary.Done.{Done}
use Rattle.engine.specs.Drive.{choices_of, choices_in, first_accepted, Driven, driven, is_quiet}
use Rattle.engine.proofs.Quiet.{kinds_all, quiet_found, found_quiet}
use Rattle.entries.specs.Vocabulary.Searched.{Led, First}
use Rattle.whole.proofs.Refusing.{number_refuses}
use Rattle.entries.proofs.Refusing.{answer_moved, answer_refused}

-- one step of a search: over a choice that moved, and over one that was refused
module _ (m : Model) (c : Cells) (choice : Choice) (choices : List Choice) where
  search_moved : (ws : List Write) → next m c choice ≡ moved ws → first_accepted m c (choice ∷ choices) ≡ Some (choice, written c ws)
  unfolding first_accepted cells_after
  search_moved ws e = rw (e, first_accepted)

  search_refused : (n : ℕ) → next m c choice ≡ refused n → first_accepted m c (choice ∷ choices) ≡ first_accepted m c choices
  unfolding first_accepted
  search_refused n e = rw (e, first_accepted)

-- over two lists, one behind the other
module _ (m : Model) (c : Cells) where
  two_none : (a b : List Choice) → first_accepted m c a ≡ None → first_accepted m c (a ++ b) ≡ first_accepted m c b
  two_none [] b e = refl
  two_none (choice ∷ a) b e = go (next m c choice) refl (two_none a b)
    where
      go : (n : Next) → next m c choice ≡ n → (first_accepted m c a ≡ None → first_accepted m c (a ++ b) ≡ first_accepted m c b)
          → first_accepted m c (choice ∷ (a ++ b)) ≡ first_accepted m c b
      go (refused n) f later = search_refused m c choice (a ++ b) n f ∙ later (sym (search_refused m c choice a n f) ∙ e)
      go (moved ws) f later = let g = sym (search_moved m c choice a ws f) ∙ e in cc

  two_some : (a b : List Choice) (found : Choice × Cells) → first_accepted m c a ≡ Some found → first_accepted m c (a ++ b) ≡ Some found
  unfolding first_accepted
  two_some [] b found e = cc
  two_some (choice ∷ a) b found e = go (next m c choice) refl (two_some a b found)
    where
      go : (n : Next) → next m c choice ≡ n → (first_accepted m c a ≡ Some found → first_accepted m c (a ++ b) ≡ Some found)
          → first_accepted m c (choice ∷ (a ++ b)) ≡ Some found
      go (refused n) f later = search_refused m c choice (a ++ b) n f ∙ later (sym (search_refused m c choice a n f) ∙ e)
      go (moved ws) f later = search_moved m c choice (a ++ b) ws f ∙ sym (search_moved m c choice a ws f) ∙ e

-- what a search found and left, by its answer
module _ (f : Option (Choice × Cells)) (c : Cells) (r : Bool) (d : Cells) where
  pub led_true : Led f c r d → r ≡ true → (found : Choice × Cells) × (f ≡ Some found) × (d ≡ found.1)
  unfolding Led
  led_true h z = go f refl h
    where
      go : (g : Option (Choice × Cells)) → f ≡ g → Led g c r d → (found : Choice × Cells) × (f ≡ Some found) × (d ≡ found.1)
      go None e h = absurd (false≢true (sym h.0 ∙ z))
      go (Some found) e h = (found, e, h.1)

  pub led_false : Led f c r d → r ≡ false → (f ≡ None) × (d ≡ c)
  unfolding Led
  led_false h z = go f refl h
    where
      go : (g : Option (Choice × Cells)) → f ≡ g → Led g c r d → (f ≡ None) × (d ≡ c)
      go None e h = (e, h.1)
      go (Some found) e h = absurd (false≢true (sym z ∙ h.0))

  led_none : f ≡ None → r ≡ false → d ≡ c → Led f c r d
  unfolding Led
  led_none e z same = subst (λ g. Led g c r d) (sym e) (z, same)

  led_some : (found : Choice × Cells) → f ≡ Some found → r ≡ true → d ≡ found.1 → Led f c r d
  unfolding Led
  led_some found e z to = subst (λ g. Led g c r d) (sym e) (z, to)

-- what the code answers to a choice: it moved, or it was refused
module _ (m : Model) (c : Cells) (choice : Choice) (answer : Answer) (d : Cells) (done : Done c (next m c choice) answer d) where
  it_moved : is_ok answer ≡ true → (ws : List Write) × ((next m c choice ≡ moved ws) × (d ≡ written c ws))
  unfolding number_given cells_after
  it_moved z = go answer refl
    where
      go : (a : Answer) → answer ≡ a → (ws : List Write) × ((next m c choice ≡ moved ws) × (d ≡ written c ws))
      go (Ok u) e = let (ws, f) = answer_moved m c choice (number_given answer) done.0 (ap number_given e) in (ws, (f, done.1 ∙ ap (cells_after c) f))
      go (Err r) e = absurd (false≢true (sym (ap is_ok e) ∙ z))

  it_refused : is_ok answer ≡ false → (n : ℕ) × ((next m c choice ≡ refused n) × (d ≡ c))
  unfolding number_given cells_after
  it_refused z = go answer refl
    where
      go : (a : Answer) → answer ≡ a → (n : ℕ) × ((next m c choice ≡ refused n) × (d ≡ c))
      go (Ok u) e = absurd (false≢true (sym z ∙ ap is_ok e))
      go (Err r) e =
          let (n, f) = answer_refused m c choice (number_given answer) done.0 (λ y. number_refuses r (sym (ap number_given e) ∙ y)) in
          (n, (f, done.1 ∙ ap (cells_after c) f))

-- the choices of a kind from one on
module _ (m : Model) (c : Cells) (k : Kind) (count n : ℕ) (same : first_accepted m c (choices_of k (count + 1 - n) n) ≡ first_accepted m c (choices_of k count 1)) where
  -- the choice moved, was refused, and there is none left
  module _ (high : n ≤ count) (b : Cells) (before : b ≡ c) (x y : ℤ) (kind : x ≡ pos (kind_number k)) (number : y ≡ pos n) (answer : Answer) (d : Cells)
      (performed : Done b (next m b (record { kind = x; number = y })) answer d) where
    done : Done c (next m c (choose k n)) answer d
    unfolding choose
    done = rw (← before, ← kind, ← number) performed

    one_more : choices_of k (count + 1 - n) n ≡ choose k n ∷ choices_of k (count + 1 - (n + 1)) (n + 1)
    unfolding choices_of
    one_more = let e : count + 1 - n ≡ suc (count + 1 - (n + 1)) = omega arith in ap (λ more. choices_of k more n) e

    all : first_accepted m c (choose k n ∷ choices_of k (count + 1 - (n + 1)) (n + 1)) ≡ first_accepted m c (choices_of k count 1)
    all = ap (first_accepted m c) (sym one_more) ∙ same

    pub of_moved : is_ok answer ≡ true → First m c (choices_of k count 1) true d
    of_moved z =
        let (ws, (e, to)) = it_moved m c (choose k n) answer d done z in
        led_some _ c true d (choose k n, written c ws) (sym all ∙ search_moved m c (choose k n) _ ws e) refl to

    pub of_refused : is_ok answer ≡ false
        → (d ≡ c) × (first_accepted m c (choices_of k (count + 1 - (n + 1)) (n + 1)) ≡ first_accepted m c (choices_of k count 1))
    of_refused z =
        let (i, (e, still)) = it_refused m c (choose k n) answer d done z in
        (still, sym (search_refused m c (choose k n) _ i e) ∙ all)

  pub of_none : count < n → (d : Cells) → d ≡ c → First m c (choices_of k count 1) false d
  unfolding choices_of first_accepted
  of_none past d still =
      let e : count + 1 - n ≡ 0 = omega arith in
      led_none _ c false d (sym same ∙ ap (λ more. first_accepted m c (choices_of k more n)) e) refl still

-- a configuration has all its cells, and few objects and few calls
module _ (m : Model) (c : Cells) (conf : is_configuration m c ≡ true) where
  pub all_there : length c ≡ all_cells
  all_there = (configured m c conf).length

  pub few_objects : objects_in_use c ≤ object_rows
  unfolding objects_in_use
  few_objects = (configured m c conf).objects.most

  pub few_calls : rows_in_use c ≤ call_rows
  unfolding rows_in_use
  few_calls = (configured m c conf).calls.most

-- the kinds of an order from one on
module _ (m : Model) (c : Cells) (order : List Kind) (i : ℕ) (same : first_accepted m c (choices_in (drop i order) c) ≡ first_accepted m c (choices_in order c)) where
  module _ (below : i < length order) (k : Kind) (is : k ≡ get_or order i Kind.Exec) (b : Cells) (before : b ≡ c) (count : ℕ) (many : count ≡ in_use b k)
      (r : Bool) (d : Cells) (left : First m b (choices_of k count 1) r d) where
    led : First m c (choices_of k (in_use c k) 1) r d
    led = let n : count ≡ in_use c k = many ∙ ap (λ b. in_use b k) before in subst (λ n. First m c (choices_of k n 1) r d) n (subst (λ b. First m b (choices_of k count 1) r d) before left)

    cut : drop i order ≡ k ∷ drop (i + 1) order
    cut = drop-cons order i Kind.Exec below ∙ ap (λ n. get_or order i Kind.Exec ∷ drop n order) (sym (add-one i)) ∙ ap (λ k. k ∷ drop (i + 1) order) (sym is)

    all_kinds : first_accepted m c (choices_of k (in_use c k) 1 ++ choices_in (drop (i + 1) order) c) ≡ first_accepted m c (choices_in order c)
    unfolding choices_in
    all_kinds = ap (λ ks. first_accepted m c (choices_in ks c)) (sym cut) ∙ same

    pub in_found : r ≡ true → First m c (choices_in order c) true d
    in_found z =
        let (found, f, to) = led_true _ c r d led z in
        led_some _ c true d found (sym all_kinds ∙ two_some m c _ (choices_in (drop (i + 1) order) c) found f) refl to

    pub in_passed : r ≡ false → (d ≡ c) × (first_accepted m c (choices_in (drop (i + 1) order) c) ≡ first_accepted m c (choices_in order c))
    in_passed z =
        let (f, still) = led_false _ c r d led z in
        (still, sym (two_none m c _ (choices_in (drop (i + 1) order) c) f) ∙ all_kinds)

  pub in_none : length order ≤ i → (d : Cells) → d ≡ c → First m c (choices_in order c) false d
  unfolding choices_in first_accepted
  in_none past d still = led_none _ c false d (sym same ∙ ap (λ ks. first_accepted m c (choices_in ks c)) (drop_of_length-le order past)) refl still

-- quiet: a search over all kinds finds none exactly then
pub quiet_led : (m : Model) (c : Cells) (r : Bool) (d : Cells) → First m c (choices_in kinds c) r d → not r ≡ is_quiet m c
quiet_led m c true d h = go (is_quiet m c) refl
  where
    go : (b : Bool) → is_quiet m c ≡ b → false ≡ is_quiet m c
    go true e =
        let (found, f, to) = led_true _ c true d h refl in
        let g = sym f ∙ quiet_found m c kinds e in
        cc
    go false e = sym e
quiet_led m c false d h =
    let (f, still) = led_false _ c false d h refl in
    sym (found_quiet m c kinds kinds_all f)

-- a drive from where so many steps are taken
module _ (m : Model) (order : List Kind) (budget taken : ℕ) (c : Cells) (whole : Driven) (same : driven m order (budget - taken) taken c ≡ whole) where
  ends : (left : ℕ) → first_accepted m c (choices_in order c) ≡ None → driven m order left taken c ≡ record { cells = c; steps = taken }
  unfolding driven
  ends zero f = refl
  ends (suc left) f = rw (f, driven)

  goes_on : (found : Choice × Cells) → first_accepted m c (choices_in order c) ≡ Some found → (left : ℕ)
      → driven m order (suc left) taken c ≡ driven m order left (taken + 1) found.1
  unfolding driven
  goes_on found f left = rw (f, driven)

  module _ (r : Bool) (d : Cells) (led : First m c (choices_in order c) r d) where
    -- none is accepted, one is, and the budget is used up
    pub steps_end : r ≡ false → (taken ≡ whole.steps) × (d ≡ whole.cells)
    steps_end z =
        let (f, still) = led_false _ c r d led z in
        let e = sym (ends (budget - taken) f) ∙ same in
        (ap (λ (w : Driven). w.steps) e, still ∙ ap (λ (w : Driven). w.cells) e)

    pub steps_onward : taken < budget → r ≡ true → driven m order (budget - (taken + 1)) (taken + 1) d ≡ whole
    steps_onward below z =
        let (found, f, to) = led_true _ c r d led z in
        let e : budget - taken ≡ suc (budget - (taken + 1)) = omega arith in
        ap (driven m order (budget - (taken + 1)) (taken + 1)) to
        ∙ sym (ap (λ left. driven m order left taken c) e ∙ goes_on found f (budget - (taken + 1)))
        ∙ same

  pub steps_done : budget ≤ taken → (taken ≡ whole.steps) × (c ≡ whole.cells)
  unfolding driven
  steps_done used =
      let n : budget - taken ≡ 0 = omega arith in
      let e = sym (ap (λ left. driven m order left taken c) n) ∙ same in
      (ap (λ (w : Driven). w.steps) e, ap (λ (w : Driven). w.cells) e)
