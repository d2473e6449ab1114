-- `checking::all_between`: the closure is asked of the numbers of the range alone, and what `all` answers is said of each of them.
use Rattle.std.proofs.Common.{ℕ, true, false, rules, refl, of_calls}
use Rattle.std.proofs.lemmas.Iterator.{cases_from_all, YieldsList-from_range, serves_from_Range}
use Rattle.checking.proofs.Ranging.{each_in, some_in}
use Rattle.checking.proofs.all_between.Goals as goal

pub all-requires-clause-callable : goal.all-requires-clause-callable
all-requires-clause-callable g c = serves_from_Range (λ x q k. search rules) (λ x h k. search (rules, of_calls, c.requires))

pub returns-clause-each : goal.returns-clause-each
returns-clause-each g c =
    let holds : ℕ → Type 0 = λ x. goal.F-post g c.args.test x true in
    let fails : ℕ → Type 0 = λ x. goal.F-post g c.args.test x false in
    let range = YieldsList-from_range c.args.from c.args.end _ refl refl in
    each_in holds fails c.args.from c.args.end _ (cases_from_all _ _ _ holds fails c.all.ensures.ran range (λ x q k. search rules) (λ x q k. search rules))

pub returns-clause-some : goal.returns-clause-some
returns-clause-some g c =
    let holds : ℕ → Type 0 = λ x. goal.F-post g c.args.test x true in
    let fails : ℕ → Type 0 = λ x. goal.F-post g c.args.test x false in
    let range = YieldsList-from_range c.args.from c.args.end _ refl refl in
    some_in holds fails c.args.from c.args.end _ (cases_from_all _ _ _ holds fails c.all.ensures.ran range (λ x q k. search rules) (λ x q k. search rules))
