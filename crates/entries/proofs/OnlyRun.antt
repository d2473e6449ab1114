-- No second result fits run: what its own contract says leaves one verdict, one list of cells and one of answers. The theorem is over the clauses
-- themselves, in every model of the logic. Assumes nothing.
use mathlib.Core.Path.{◌≡◌, sym, ◌∙◌}
use seplogic.Ra.Ura.{Ura}
use base.Logic.{SProp, ent, sep, via, fst∗, snd∗}
use prog.Memory.{Memory}
use prog.Routine.{Routine}
use types.Logic.{Logic}
use contract.Lifetimes.{Lfts}
use contract.Monad.{Fun, conj, conj_l, conj_r, fact, fact_i, fact_use}
use denote.Triple.Clauses.{AtExit}
use denote.Triple.Entry.{Args, Res}
use Rattle.entries.specs.contracts.running.run as running

module _ {M : Type 1} (𝓤 : Ura M) where
  -- three facts, each a clause of a contract, are one fact
  pub together : (φ ψ χ : Type 0) → ent 𝓤 (sep 𝓤 (fact 𝓤 φ) (sep 𝓤 (fact 𝓤 ψ) (fact 𝓤 χ))) (fact 𝓤 (φ × ψ × χ))
  together φ ψ χ =
      let rest = snd∗ 𝓤 (fact 𝓤 φ) (sep 𝓤 (fact 𝓤 ψ) (fact 𝓤 χ)) in
      fact_use 𝓤 φ (fst∗ 𝓤 (fact 𝓤 φ) (sep 𝓤 (fact 𝓤 ψ) (fact 𝓤 χ))) (λ p.
      fact_use 𝓤 ψ (via 𝓤 _ rest (fst∗ 𝓤 (fact 𝓤 ψ) (fact 𝓤 χ))) (λ q.
      fact_use 𝓤 χ (via 𝓤 _ rest (snd∗ 𝓤 (fact 𝓤 ψ) (fact 𝓤 χ))) (λ r.
      fact_i 𝓤 (φ × ψ × χ) _ (p, q, r))))

module _ {M : Type 1} {𝓤 : Ura M} (𝓛 : Logic 𝓤) (mem : Memory → SProp 𝓤) (run : Routine → Fun 𝓤) (κs : Lfts 4) (lent : Args running.signature κs) where
  -- what run's contract says of a verdict, with the lent slices as they are at exit
  abbrev Says : Res running.signature κs → AtExit running.ended κs → SProp 𝓤
  Says = (running.clauses 𝓛 mem run κs lent).ensures tt

  -- run: two verdicts, each with the cells and the answers afterwards, that its contract allows for one text, one list of cells, one of choices and
  -- one of answers
  pub only_run : (x y : Res running.signature κs) (s t : AtExit running.ended κs)
      → ent 𝓤 (conj 𝓤 (Says x s) (Says y t)) (fact 𝓤 ((x ≡ y) × (s.1.0.now ≡ t.1.0.now) × (s.1.1.1.0.now ≡ t.1.1.1.0.now)))
  only_run x y s t =
      fact_use 𝓤 _ (via 𝓤 _ (conj_l 𝓤 (Says x s) (Says y t)) (together 𝓤 _ _ _)) (λ p.
      fact_use 𝓤 _ (via 𝓤 _ (conj_r 𝓤 (Says x s) (Says y t)) (together 𝓤 _ _ _)) (λ q.
      fact_i 𝓤 _ _ (p.0 ∙ sym q.0, p.1 ∙ sym q.1, p.2 ∙ sym q.2)))
