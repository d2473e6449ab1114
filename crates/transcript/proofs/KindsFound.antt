-- A line's choice, kind by kind as the code tries them. Assumes nothing.
use Rattle.std.specs.Prelude.{Option, None, Some}
use Prim.Native.Nat.{ℕ, suc, ◌+◌, ◌≤◌, ◌<◌}
use mathlib.Core.Bool.{true}
use mathlib.Core.List.{List, [], ◌∷◌}
use mathlib.Core.Path.{◌≡◌, refl, sym, ap, ◌∙◌}
use native.Mathlib.Numerals.{add-one}
use native.Mathlib.Omega.{arith}
use lib.ListN.{length, drop, get_or, drop_of_length-le}
use lib.Seq.{drop-cons}
use Rattle.terms.specs.Bytes.{Text}
use Rattle.terms.specs.Parsed.{got, bad, word}
use Rattle.text.specs.Lines.{plain_byte, plain_bytes}
use Rattle.text.proofs.KeyLines.{word_within}
use Rattle.rules.specs.declared.Kind.{Kind}
use Rattle.rules.specs.Kinds.{kinds}
use Rattle.session.specs.Choices.{kind_name, no_choice, choice_of, digits_alone}
use Rattle.transcript.specs.Vocabulary.KindNames.{chosen}

-- the first of some kinds, by whether the line begins with its name
module _ (k : Kind) (ks : List Kind) (l : Text) where
  kind_got : (at : ℕ) → word (kind_name k) l 0 ≡ got at tt → choice_of (k ∷ ks) l ≡ chosen k (digits_alone (drop at l))
  unfolding choice_of chosen
  kind_got at e = rw (e, choice_of) (go (digits_alone (drop at l)))
    where
      go : (o : Option ℕ) → elim o [ None ↦ no_choice | Some n ↦ chosen k (Some n) ] ≡ chosen k o
      go None = refl
      go (Some n) = refl

  kind_bad : (at : ℕ) → word (kind_name k) l 0 ≡ bad at → choice_of (k ∷ ks) l ≡ choice_of ks l
  unfolding choice_of
  kind_bad at e = rw (e, choice_of)

kinds_none : (l : Text) → choice_of [] l ≡ no_choice
unfolding choice_of
kinds_none l = refl

-- the same by the kind at a place
module _ (l : Text) (i : ℕ) (k : Kind) where
  kinds_at : i < 5 → k ≡ get_or kinds i Kind.Exec → drop i kinds ≡ k ∷ drop (i + 1) kinds
  kinds_at h e = rw (add-one i) (drop-cons kinds i Kind.Exec h ∙ ap (λ j. j ∷ drop (suc i) kinds) (sym e))

  pub found : i < 5 → k ≡ get_or kinds i Kind.Exec → (at : ℕ) → word (kind_name k) l 0 ≡ got at tt → choice_of (drop i kinds) l ≡ chosen k (digits_alone (drop at l))
  found h e at f = ap (λ ks. choice_of ks l) (kinds_at h e) ∙ kind_got k (drop (i + 1) kinds) l at f

  pub not_found : i < 5 → k ≡ get_or kinds i Kind.Exec → (at : ℕ) → word (kind_name k) l 0 ≡ bad at → choice_of (drop i kinds) l ≡ choice_of (drop (i + 1) kinds) l
  not_found h e at f = ap (λ ks. choice_of ks l) (kinds_at h e) ∙ kind_bad k (drop (i + 1) kinds) l at f

pub none_left : (l : Text) (i : ℕ) → 5 ≤ i → choice_of (drop i kinds) l ≡ no_choice
none_left l i h = ap (λ ks. choice_of ks l) (drop_of_length-le kinds h) ∙ kinds_none l

-- a name is plain, so what follows it stands within the line
name_plain : (k : Kind) → plain_bytes (kind_name k) ≡ true
unfolding plain_byte plain_bytes kind_name
name_plain Kind.Exec = refl
name_plain Kind.Arrive = refl
name_plain Kind.Bind = refl
name_plain Kind.Start = refl
name_plain Kind.Deliver = refl

pub name_within : (k : Kind) (l : Text) (at : ℕ) → word (kind_name k) l 0 ≡ got at tt → at ≤ length l
name_within k l at e = word_within (kind_name k) l 0 at (name_plain k) (omega arith) e

-- what is none of the first four is the fifth
pub fifth : (n : ℕ) → 1 ≤ n → n ≤ 5 → (n ≡ 1 → ⊥) → (n ≡ 2 → ⊥) → (n ≡ 3 → ⊥) → (n ≡ 4 → ⊥) → 5 ≡ n
fifth n h k a b c d = omega arith
