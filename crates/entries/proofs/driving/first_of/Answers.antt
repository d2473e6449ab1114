-- `entries::driving::first_of`: a choice that moved, and one that was refused and is passed over.
use Prim.Native.Nat.{◌+◌}
use mathlib.Core.Path.{◌≡◌, sym, ap}
use native.Mathlib.Omega.{arith}
use lib.IntN.{ℤ, pos}
use mir.Syntax.{w32}
use mir.Val.{to_z, of_z}
use mir.ValLaws.{to_z_pos}
use Rattle.rules.specs.declared.Kind.{Kind}
use Rattle.rules.specs.Kinds.{kind_number}
use Rattle.entries.proofs.Searching.{of_moved, of_refused, of_none}
use Rattle.entries.proofs.driving.first_of.Goals as goal

-- a kind's number is the same in 32 bits
kept : (k : Kind) {z : ℤ} → z ≡ pos (kind_number k) → to_z w32 (of_z w32 z) ≡ pos (kind_number k)
unfolding kind_number
kept Kind.Exec e = ap (λ z. to_z w32 (of_z w32 z)) e
kept Kind.Arrive e = ap (λ z. to_z w32 (of_z w32 z)) e
kept Kind.Bind e = ap (λ z. to_z w32 (of_z w32 z)) e
kept Kind.Start e = ap (λ z. to_z w32 (of_z w32 z)) e
kept Kind.Deliver e = ap (λ z. to_z w32 (of_z w32 z)) e

pub returns-then-is_ok-clause-first : goal.returns-then-is_ok-clause-first
returns-then-is_ok-clause-first c =
    let (low, same, left) = c.loop-n.invariant in
    of_moved _ _ c.args.kind c.args.count c.loop-n.n left (omega arith) _ same _ _ (kept c.args.kind c.from.ensures) (to_z_pos w32 c.loop-n.n (omega arith)) _ _
    c.next.ensures.done (sym c.if-is_ok.ensures.value)

pub loop-n-preserved : goal.loop-n-preserved
loop-n-preserved c =
    let (low, same, left) = c.loop-n.invariant in
    let h =
    of_refused _ _ c.args.kind c.args.count c.loop-n.n left (omega arith) _ same _ _ (kept c.args.kind c.from.ensures) (to_z_pos w32 c.loop-n.n (omega arith)) _ _
    c.next.ensures.done (sym c.if-is_ok.ensures.value) in
    (omega arith, h.0, h.1)

pub returns-else-is_ok-clause-first : goal.returns-else-is_ok-clause-first
returns-else-is_ok-clause-first c =
    let (low, same, left) = c.loop-n.invariant in
    let h =
    of_refused _ _ c.args.kind c.args.count c.loop-n.n left (omega arith) _ same _ _ (kept c.args.kind c.from.ensures) (to_z_pos w32 c.loop-n.n (omega arith)) _ _
    c.next.ensures.done (sym c.if-is_ok.ensures.value) in
    of_none _ _ c.args.kind c.args.count (c.loop-n.n + 1) h.1 (omega arith) _ h.0
