-- `runner::read_full`: what a reading gave stands behind what was read before it.
use Rattle.std.proofs.Common.{◌≡◌, ℕ, ◌+◌, ◌≤◌, List, ◌++◌, rules, length, take, sym, ap, ◌∙◌, subst, drop_at, length-take-le}
use Rattle.std.proofs.KnownBytes.{Consumes-trans}
use Rattle.std.specs.Io.KnownBytes.{Consumes}
use borrow.Rule.Slice.PartMut.{put_mid, post_of}
use mathlib.Core.Path.{ap₂}
use lib.Seq.{take-add, take_at, take-append-le}
use Rattle.runner.proofs.read_full.Goals as goal

-- the front of the memory, after a part of it is written
front : (a k n : ℕ) (xs ys : List ℕ) → a ≤ length xs → n ≤ length ys → take a xs ++ take n ys ≡ take (a + n) (put_mid a k xs ys)
front a k n xs ys within fits =
    let behind = post_of a k xs in
    let at = length-take-le a xs within in
    sym (take-add a n (put_mid a k xs ys)
    ∙ ap₂ ◌++◌ (take_at (take a xs) (ys ++ behind) a at) (ap (take n) (drop_at (take a xs) (ys ++ behind) a at) ∙ take-append-le n ys behind fits))

pub loop-done-preserved : goal.loop-done-preserved
loop-done-preserved g c =
    let (within, long, before) = c.loop-done.invariant in
    let joined = front c.loop-done.done _ c.in-Ok.n c.loop-done.room c.read.new.buf within c.in-Ok.ensures.bound.0 in
    (search rules, search rules, subst (Consumes _ _) joined (Consumes-trans _ _ _ _ _ before c.in-Ok.ensures.bytes.0))
