-- `transcript::choices::digits_alone`: another digit fits, and the loop goes on. Assumes nothing.
use Rattle.std.specs.Prelude.{Some}
use mathlib.Core.Path.{◌≡◌, sym, ◌∙◌}
use native.Mathlib.Omega.{arith}
use Rattle.terms.specs.Bytes.{byte_at, digit}
use Rattle.terms.proofs.Bytes.{digit_is}
use Rattle.transcript.proofs.DigitsAlone.{digits_more, tens, nine}
use Rattle.transcript.proofs.choices.digits_alone.Goals as goal

-- the number before is below a billion, and the digit below ten
pub overflow_add-n : goal.overflow_add-n
overflow_add-n c =
    let b = nine _ _ c.loop-b.invariant.small (omega arith) in
    let d = digit_is _ _ (sym c.digit.ensures ∙ c.in_ok-n.was) in
    omega arith

pub loop-b-preserved : goal.loop-b-preserved
loop-b-preserved c =
    let s = c.args.s.now in
    let l = c.loop-b in
    let d = c.in_ok-n.field-0 in
    let f : digit (byte_at s l.b-index) ≡ Some d = sym c.digit.ensures ∙ c.in_ok-n.was in
    record {
      small = tens l.n l.b-index d l.invariant.small (digit_is _ _ f).1;
      same = sym (digits_more s l.n l.b-index d c.loop-b-test.true f) ∙ l.invariant.same;
    }
