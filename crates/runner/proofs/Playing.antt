-- A session's choices, played line by line. Assumes nothing.
use Rattle.std.proofs.Common.{◌≡◌, true, ℕ, ◌+◌, ◌-◌, ◌≤◌, ◌<◌, List, ◌∷◌, ◌∙◌, refl, sym, ap, arith, length, drop, take, length-drop}
use Rattle.std.proofs.Math.ListN.{length-take}
use lib.IntN.{ℤ, pos}
use lib.ListN.{set}
use mathlib.Core.Path.{subst}
use Rattle.layout.specs.Layout.{Cells}
use Rattle.terms.specs.Bytes.{Text}
use Rattle.model.specs.Model.{Model}
use Rattle.cells.specs.Configuration.{is_configuration}
use Rattle.rules.specs.declared.Choice.{Choice}
use Rattle.rules.specs.Kinds.{kinds}
use Rattle.rules.specs.Next.{answer_of, cells_after}
use Rattle.rules.specs.Step.{next}
use Rattle.engine.specs.Run.{run_cells, run_answers}
use Rattle.entries.proofs.RunOnward.{Ran, ran_none, ran_on, ran_ended}
use Rattle.session.specs.Choices.{longest_input, choice_of, choices_from}
use Rattle.transcript.specs.Vocabulary.Front.{at_front}
use Rattle.transcript.specs.Vocabulary.InputLines.{line_length}
use Rattle.transcript.proofs.Cutting.{choices_in, line_within, choices_onward, choices_ended, of_part_read}
use Rattle.transcript.proofs.Storing.{behind_stored, stored_front}

-- a line ends within what is read
pub ends_within : (s : Text) (at end : ℕ) → at < length s → end ≡ at + line_length (drop at s) → end ≤ length s
ends_within s at end h e = omega (arith, e, line_within (drop at s), length-drop at s)

module _ (m : Model) (c : Cells) (input : Text) (old : List ℤ) (s : Text) where
  -- so many choices are played, the lines before a place: each took a byte at least, and behind their answers nothing is written
  pub record Played (at count : ℕ) (d : Cells) (b : List ℤ) : Type 0 where
    pub few : count ≤ at
    pub short : count ≤ length s
    pub read : length s ≤ longest_input
    pub room : length b ≡ length old
    pub ran : Ran m c (choices_from input) (choices_in (drop at s)) d b count
    pub behind : drop count b ≡ drop count old

  pub none_played : s ≡ take longest_input input → is_configuration m c ≡ true → Played 0 0 c old
  none_played e h =
      let n : length s ≤ longest_input = rw e (simp length-take (omega arith)) in
      record {
        few = omega arith;
        short = omega arith;
        read = n;
        room = refl;
        ran = subst (λ left. Ran m c (choices_from input) left c old 0) (of_part_read input ∙ ap choices_in (sym e)) (ran_none m c (choices_from input) h old);
        behind = refl;
      }

  module _ (at count : ℕ) (d : Cells) (b : List ℤ) (p : Played at count d b) where
    -- the choice of the line at the place is played
    pub one_played : at < length s → longest_input ≤ length old → (end : ℕ) → end ≡ at + line_length (drop at s) → (choice : Choice)
        → choice ≡ choice_of kinds (take (end - at) (drop at s)) → (e : Cells) (a : List ℤ) → is_configuration m e ≡ true → length a ≡ length b
        → e ≡ cells_after d (next m d choice) → a ≡ set b count (pos (answer_of (next m d choice)))
        → (after many : ℕ) → after ≡ end + 1 → many ≡ count + 1 → Played after many e a
    one_played below wide end ends choice is e a kept long moved answered after many behind_end one_more =
        let h = ends_within s at end below ends in
        let cut = choices_onward s at end below ends ∙ ap (λ k. k ∷ choices_in (drop (end + 1) s)) (sym is) in
        let on : Played (end + 1) (count + 1) e a = record {
          few = omega (arith, p.few);
          short = omega (arith, p.few);
          read = p.read;
          room = long ∙ p.room;
          ran =
              ran_on m c (choices_from input) choice _ d b count (subst (λ left. Ran m c (choices_from input) left d b count) cut p.ran)
              (omega (arith, p.few, p.read, p.room))
              e a kept (moved, answered);
          behind = behind_stored _ _ _ count _ answered p.behind;
        } in
        rw (behind_end, one_more) on

    -- and all are, where no line is left
    pub all_played : length s ≤ at → longest_input ≤ length old
        → (count ≡ length (run_answers m c (choices_from input))) × ((d ≡ run_cells m c (choices_from input)) × (b ≡ at_front (run_answers m c (choices_from input)) old))
    all_played over wide =
        let ran = subst (λ left. Ran m c (choices_from input) left d b count) (choices_ended s at over) p.ran in
        let (cells, answers) = ran_ended m c (choices_from input) d b count ran in
        let (number, front) = stored_front _ old b count (omega (arith, p.short, p.read, p.room)) answers p.behind in
        (number, (cells, front))
