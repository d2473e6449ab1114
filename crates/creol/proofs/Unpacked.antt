-- The number and the line are told by the answer: nothing of a verdict is lost in it. Assumes nothing.
use Prim.Native.Nat.{ℕ, ◌^◌, ◌<◌}
use mathlib.Core.List.{List}
use mathlib.Core.Path.{◌≡◌}
use native.Mathlib.Omega.{arith}
use lib.IntN.{ℤ}
use Rattle.layout.specs.Layout.{Cells}
use Rattle.terms.specs.Bytes.{Text}
use Rattle.text.specs.declared.Verdict.{Verdict}
use Rattle.model.specs.Judge.{judge}
use Rattle.rules.specs.declared.Choice.{Choice}
use Rattle.engine.specs.Entries.{start, step, run, drive}
use Rattle.entries.proofs.AnswerBounds.{SmallVerdict, judge_small_verdict, start_small, step_small, run_small, drive_small}
use Rattle.creol.specs.Vocabulary.Packed.{packed, quietly, packed_drive, packed_outcome}

-- two small verdicts with one answer are one: number and line. And the answer has nothing above 2^32
told : (v w : Verdict) → SmallVerdict v → SmallVerdict w → packed v ≡ packed w → (v.number ≡ w.number) × (v.line ≡ w.line)
unfolding packed
told v w a b e = (omega (arith, a.0, b.0), omega (arith, a.0, b.0))

below : (v : Verdict) → SmallVerdict v → packed v < 2 ^ 32
unfolding packed
below v a = omega (arith, a.0, a.1)

-- of two texts
pub told_apart : (s t : Text) → packed (judge s) ≡ packed (judge t) → ((judge s).number ≡ (judge t).number) × ((judge s).line ≡ (judge t).line)
told_apart s t = told (judge s) (judge t) (judge_small_verdict s) (judge_small_verdict t)

pub answer_small : (s : Text) → packed (judge s) < 2 ^ 32
answer_small s = below (judge s) (judge_small_verdict s)

-- of two starts
pub start_told_apart : (s t : Text) (c d : Cells) → packed (start s c).verdict ≡ packed (start t d).verdict
    → ((start s c).verdict.number ≡ (start t d).verdict.number) × ((start s c).verdict.line ≡ (start t d).verdict.line)
start_told_apart s t c d = told _ _ (start_small s c) (start_small t d)

pub start_answer_small : (s : Text) (c : Cells) → packed (start s c).verdict < 2 ^ 32
start_answer_small s c = below _ (start_small s c)

-- of two steps
pub step_told_apart : (s t : Text) (c d : Cells) (x y : Choice) → packed (step s c x).verdict ≡ packed (step t d y).verdict
    → ((step s c x).verdict.number ≡ (step t d y).verdict.number) × ((step s c x).verdict.line ≡ (step t d y).verdict.line)
step_told_apart s t c d x y = told _ _ (step_small s c x) (step_small t d y)

pub step_answer_small : (s : Text) (c : Cells) (x : Choice) → packed (step s c x).verdict < 2 ^ 32
step_answer_small s c x = below _ (step_small s c x)

-- of two runs
pub run_told_apart : (s t : Text) (c d : Cells) (xs ys : List Choice) (us vs : List ℤ)
    → packed (run s c xs us).verdict ≡ packed (run t d ys vs).verdict
    → ((run s c xs us).verdict.number ≡ (run t d ys vs).verdict.number) × ((run s c xs us).verdict.line ≡ (run t d ys vs).verdict.line)
run_told_apart s t c d xs ys us vs = told _ _ (run_small s c xs us) (run_small t d ys vs)

-- of two drives: number and line, the steps, and quiet
pub drive_told_apart : (s t : Text) (c d : Cells) (a b : ℕ) → packed_outcome (drive s c a) ≡ packed_outcome (drive t d b)
    → ((drive s c a).verdict.number ≡ (drive t d b).verdict.number) × ((drive s c a).verdict.line ≡ (drive t d b).verdict.line)
    × ((drive s c a).steps ≡ (drive t d b).steps) × (quietly (drive s c a).quiet ≡ quietly (drive t d b).quiet)
unfolding packed packed_drive
drive_told_apart s t c d a b e =
    let h = drive_small s c a in
    let k = drive_small t d b in
    (omega (arith, h.0.0, k.0.0), omega (arith, h.0.0, k.0.0, h.0.1, k.0.1), omega (arith, h.0.0, k.0.0, h.0.1, k.0.1, h.1, k.1), omega (arith, h.0.0, k.0.0, h.0.1, k.0.1, h.1, k.1))
