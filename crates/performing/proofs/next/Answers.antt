-- `performing::next`: a choice by its kind and by what its number names.
use Rattle.std.proofs.Common.{refl, arith}
use mathlib.Core.Logic.{inl, inr}
use Rattle.rules.specs.Kinds as Kinds
use Rattle.rules.specs.Step.{ruled}
use Rattle.performing.proofs.Choosing.{label_few, label_used, exec_named, not_exec, its_kind, kindless, no_object, at_object, label_missed, at_label}
use Rattle.performing.proofs.next.Goals as goal

pub start-requires-clause-label_bound : goal.start-requires-clause-label_bound
start-requires-clause-label_bound c =
    label_few _ _ c.requires.configuration _ (label_used _ _ _ _ c.label_of.ensures c.in_ok-label.ensures.value)

pub returns-in_err-object : goal.returns-in_err-object
returns-in_err-object c =
    let exec = exec_named c.args.choice (omega arith) _ c.from.ensures c.if-choice-from.true in
    no_object _ _ _ (omega arith) (omega arith) exec _ c.object_of.ensures _ _ c.in_err-object.ensures.value c.from_residual.ensures.1

pub returns-then-choice-from : goal.returns-then-choice-from
returns-then-choice-from c =
    let exec = exec_named c.args.choice (omega arith) _ c.from.ensures c.if-choice-from.true in
    at_object _ _ _ (omega arith) (omega arith) exec _ c.object_of.ensures _ c.in_ok-object.ensures.value _ _ c.exec.ensures

pub returns-in_err-label : goal.returns-in_err-label
returns-in_err-label c =
    let other = not_exec c.args.choice (omega arith) _ c.from.ensures c.if-choice-from.false in
    label_missed _ _ _ (omega arith) (omega arith) _ c.label_of.ensures other _ _ c.in_err-label.ensures.value c.from_residual-in_err-label.ensures.1

pub returns-in_err-try_from : goal.returns-in_err-try_from
returns-in_err-try_from c =
    kindless _ _ _ (omega arith) (omega arith) _ _ c.in_err-try_from.ensures c.from_residual-in_err-try_from.ensures.1

pub returns-in-Arrive : goal.returns-in-Arrive
unfolding Kinds.in_use ruled
returns-in-Arrive c =
    at_label _ _ _ (omega arith) (omega arith) _ c.label_of.ensures _ _ c.in_ok-try_from.ensures c.in-Arrive.is refl _
    c.in_ok-label.ensures.value _ _ c.arrive.ensures

pub returns-in-Bind : goal.returns-in-Bind
unfolding Kinds.in_use ruled
returns-in-Bind c =
    at_label _ _ _ (omega arith) (omega arith) _ c.label_of.ensures _ _ c.in_ok-try_from.ensures c.in-Bind.is refl _
    c.in_ok-label.ensures.value _ _ (c.bind.ensures _ _ c.table.ensures.belongs)

pub returns-in-Start : goal.returns-in-Start
unfolding Kinds.in_use ruled
returns-in-Start c =
    at_label _ _ _ (omega arith) (omega arith) _ c.label_of.ensures _ _ c.in_ok-try_from.ensures c.in-Start.is refl _
    c.in_ok-label.ensures.value _ _ c.start.ensures

-- the last arm has deliver, and exec, which went above
pub returns-in-Exec : goal.returns-in-Exec
unfolding Kinds.in_use ruled
returns-in-Exec c =
    let other = not_exec c.args.choice (omega arith) _ c.from.ensures c.if-choice-from.false in
    elim c.in-Exec.is [
      | inl e ↦ absurd (other (its_kind c.args.choice (omega arith) _ _ c.in_ok-try_from.ensures e))
      | inr e ↦
          at_label _ _ _ (omega arith) (omega arith) _ c.label_of.ensures _ _ c.in_ok-try_from.ensures e refl _
          c.in_ok-label.ensures.value _ _ c.deliver.ensures
    ]
