-- A reading in parts, by what the code finds of each: a part is refused, or it is read and the rest goes on behind it. Assumes nothing.
use Rattle.std.specs.Prelude.{Result, Err, Ok}
use Rattle.std.specs.Result.{IsErrAnd}
use Prim.Native.Nat.{ℕ}
use mathlib.Core.List.{List, [], ◌∷◌}
use mathlib.Core.Path.{◌≡◌, refl, sym, ap, ◌∙◌}
use lib.ListN.{length}
use borrow.Author.Tests.{eq-eqb, ne_eqb}
use Rattle.whole.specs.Whole.{Worked}
use Rattle.whole.proofs.Tested.{passed_on}
use Rattle.terms.specs.Bytes.{Text}
use Rattle.terms.specs.Parsed.{Parsed, got, bad, next, mapped, word, ended, closed}
use Rattle.terms.specs.Vocabulary.Answers.{as_result}
use Rattle.terms.proofs.Following.{mapped_got, mapped_bad}
use Rattle.code.specs.declared.Arguments.{Arguments}
use Rattle.code.specs.declared.Statement as Declared
use Rattle.code.specs.Vocabulary.Answers.{no_arguments, gathered, said, as_code}
use Rattle.code.specs.Statements.{Statement}

-- one reading after another, where the first is known
module _ {A B : Type 0} (q : Parsed A) (p : ℕ) where
  pub after_got : (a : A) (k : ℕ → A → Parsed B) → q ≡ got p a → next q k ≡ k p a
  unfolding next
  after_got a k e = ap (λ r. next r k) e

  pub after_bad : (k : ℕ → A → Parsed B) → q ≡ bad p → next q k ≡ bad p
  unfolding next
  after_bad k e = ap (λ r. next r k) e

-- a closing byte behind what was read
module _ {A : Type 0} (b : ℕ) (s : Text) {q : Parsed A} {p end : ℕ} {a : A} (e : q ≡ got p a) where
  pub closed_read : word (b ∷ []) s p ≡ got end tt → closed b s q ≡ got end a
  unfolding closed
  closed_read f = after_got q p a _ e ∙ ap (mapped (λ _. a)) f ∙ mapped_got _ end tt

  pub closed_refused : word (b ∷ []) s p ≡ bad end → closed b s q ≡ bad end
  unfolding closed
  closed_refused f = after_got q p a _ e ∙ ap (mapped (λ _. a)) f ∙ mapped_bad _ end

-- what the code answers for a form, by its first part: with more to read behind it, or put as a statement
module _ {A : Type 0} {q : Parsed A} {p : ℕ} {r : Result (ℕ × (Declared.Statement × Arguments)) ℕ} where
  pub next_refused : (k : ℕ → A → Parsed (Statement Worked Worked)) → q ≡ bad p → IsErrAnd r (λ e. e ≡ p) → r ≡ as_result (mapped said (next q k))
  unfolding as_result
  next_refused k e f = passed_on f ∙ sym (ap as_result (ap (mapped said) (after_bad q p k e) ∙ mapped_bad said p))

  pub next_read : (k : ℕ → A → Parsed (Statement Worked Worked)) {a : A} → q ≡ got p a → r ≡ as_result (mapped said (k p a)) → r ≡ as_result (mapped said (next q k))
  next_read k {a} e f = f ∙ sym (ap (λ x. as_result (mapped said x)) (after_got q p a k e))

  pub put_refused : (h : A → Statement Worked Worked) → q ≡ bad p → IsErrAnd r (λ e. e ≡ p) → r ≡ as_result (mapped said (mapped h q))
  unfolding as_result
  put_refused h e f = passed_on f ∙ sym (ap as_result (ap (λ x. mapped said (mapped h x)) e ∙ ap (mapped said) (mapped_bad h p) ∙ mapped_bad said p))

  pub put_read : (h : A → Statement Worked Worked) {a : A} → q ≡ got p a → r ≡ Ok (p, said (h a)) → r ≡ as_result (mapped said (mapped h q))
  unfolding as_result
  put_read h {a} e f = f ∙ sym (ap as_result (ap (λ x. mapped said (mapped h x)) e ∙ ap (mapped said) (mapped_got h p a) ∙ mapped_got said p (h a)))

-- a form that is a word alone
pub read_alone : (p : ℕ) (st : Statement Worked Worked) {r : Result (ℕ × (Declared.Statement × Arguments)) ℕ} → r ≡ Ok (p, said st) → r ≡ as_result (mapped said (got p st))
unfolding as_result
read_alone p st f = f ∙ sym (ap as_result (mapped_got said p st))

-- a form whose arguments stand last: the definition's list is gathered beside the statement
module _ (make : List Worked → Statement Worked Worked) (q : Parsed (List Worked)) {p : ℕ} {r : Result (ℕ × (Declared.Statement × Arguments)) ℕ} where
  pub listed_refused : mapped (gathered no_arguments) q ≡ bad p → IsErrAnd r (λ e. e ≡ p) → r ≡ as_result (mapped said (mapped make q))
  listed_refused e f = put_refused make (go q e) f
    where
      go : (q : Parsed (List Worked)) → mapped (gathered no_arguments) q ≡ bad p → q ≡ bad p
      go (got at es) e = let g : got at (gathered no_arguments es) ≡ bad p = sym (mapped_got _ at es) ∙ e in cc
      go (bad at) e = let g : ◌≡◌ {A = Parsed Arguments} (bad at) (bad p) = sym (mapped_bad _ at) ∙ e in let same : at ≡ p = cc in ap bad same

  pub listed_read : {st : Declared.Statement} {es : Arguments} → ((ws : List Worked) → said (make ws) ≡ (st, gathered no_arguments ws))
      → mapped (gathered no_arguments) q ≡ got p es → r ≡ Ok (p, (st, es)) → r ≡ as_result (mapped said (mapped make q))
  listed_read {st} {es} same e f = go q e
    where
      go : (q : Parsed (List Worked)) → mapped (gathered no_arguments) q ≡ got p es → r ≡ as_result (mapped said (mapped make q))
      go (got at ws) e =
          let g : got at (gathered no_arguments ws) ≡ got p es = sym (mapped_got _ at ws) ∙ e in
          let place : at ≡ p = cc in
          let what : gathered no_arguments ws ≡ es = cc in
          let put : r ≡ Ok (at, said (make ws)) = rw (same ws, what, place) f in
          put_read make refl put
      go (bad at) e = let g : bad at ≡ got p es = sym (mapped_bad _ at) ∙ e in cc

-- a whole code value: what was read must reach the end of the text
module _ {p : ℕ} where
  code_of_got : (q : Parsed (Statement Worked Worked)) {x : Declared.Statement × Arguments} → mapped said q ≡ got p x → (st : Statement Worked Worked) × (q ≡ got p st) × (said st ≡ x)
  code_of_got (got at st) {x} e =
      let g : got at (said st) ≡ got p x = sym (mapped_got said at st) ∙ e in
      let place : at ≡ p = cc in
      (st, ap (λ n. got n st) place, (cc))
  code_of_got (bad at) {x} e = let g : bad at ≡ got p x = sym (mapped_bad said at) ∙ e in cc

  code_of_bad : (q : Parsed (Statement Worked Worked)) → mapped said q ≡ bad p → q ≡ bad p
  code_of_bad (got at st) e = let g : got at (said st) ≡ bad p = sym (mapped_got said at st) ∙ e in cc
  code_of_bad (bad at) e = let g : ◌≡◌ {A = Parsed (Declared.Statement × Arguments)} (bad at) (bad p) = sym (mapped_bad said at) ∙ e in let same : at ≡ p = cc in ap bad same

  module _ (s : Text) (q : Parsed (Statement Worked Worked)) where
    pub code_bad : q ≡ bad p → as_code (ended s q) ≡ Err p
    unfolding as_code ended
    code_bad e = ap (λ r. as_code (ended s r)) e

    pub code_refused : mapped said q ≡ bad p → as_code (ended s q) ≡ Err p
    code_refused e = code_bad (code_of_bad q e)

    pub code_short : {x : Declared.Statement × Arguments} → mapped said q ≡ got p x → (p ≡ length s → ⊥) → as_code (ended s q) ≡ Err p
    code_short e n =
        let t = code_of_got q e in
        ap (λ r. as_code (ended s r)) t.1 ∙ (unfold ended as_code in rw (ne_eqb p (length s) n, ended, as_code) refl)

    pub code_whole : {x : Declared.Statement × Arguments} → mapped said q ≡ got p x → p ≡ length s → as_code (ended s q) ≡ Ok x
    code_whole e n =
        let t = code_of_got q e in
        ap (λ r. as_code (ended s r)) t.1 ∙ (unfold ended as_code in rw (eq-eqb p (length s) n, ended, as_code) (ap (λ y. Ok y) t.2))
