-- `forms::making::created`: no row for the object, no row for its call, or both made and the object's number stored.
use Rattle.std.proofs.Common.{◌≡◌, ◌<◌, true, ap, ◌∙◌, arith, lt-ltb}
use Rattle.whole.specs.Plain.{whenever}
use Rattle.whole.specs.Vocabulary.Refusing as Refusing
use Rattle.layout.specs.Layout.{object_rows, call_rows, written}
use Rattle.layout.specs.Stages.{objects_in_use, rows_in_use}
use Rattle.rules.specs.Exec.{class_runs, row_left, made}
use Rattle.forms.proofs.MakingLaws.{refused_done, number_after, idle_made, no_object_row, no_call_row, created_done}
use Rattle.forms.proofs.making.created.Goals as goal
use Rattle.forms.proofs.making.created.Goals.{then-runs+else-rows_in_use, else-runs}

pub returns-then-objects : goal.returns-then-objects
unfolding Refusing.number_of
returns-then-objects c m st zs at runs v =
    refused_done _ _ _ (no_object_row m _ _ _ st _ zs _ (omega (arith, c.if-objects.true, c.objects_in_use-objects.ensures)))

pub returns-then-rows_in_use : goal.returns-then-rows_in_use
unfolding Refusing.number_of
returns-then-rows_in_use c m st zs at runs v =
    refused_done _ _ _
    (no_call_row m _ _ _ st _ zs _ (omega (arith, c.if-objects.false, c.objects_in_use-objects.ensures)) (runs ∙ c.if-runs.true)
    (omega (arith, c.if-rows_in_use.true, c.rows_in_use.ensures)))

pub returns : goal.returns
unfolding row_left
returns c m st zs at runs v =
    let a = c.args in
    let cells = a.cells.now in
    let room : objects_in_use cells < object_rows = omega (arith, c.if-objects.false, c.objects_in_use-objects.ensures) in
    let few : c.objects_in_use-objects.result < 256 = omega (arith, c.if-objects.false) in
    let there : (whenever (class_runs m a.class) (row_left cells) ≡ true)
    × (c.if-runs.cells ≡ written cells (made m cells a.running.here.object.0 a.running.here.label.0 st a.class zs)) =
    elim c.if-runs.branch [
      | then-runs+else-rows_in_use w ↦
          (let yes = runs ∙ w.if-runs.true in (
            ap (λ b. whenever b (row_left cells)) yes ∙ lt-ltb (rows_in_use cells) call_rows (omega (arith, w.rows_in_use.ensures, w.if-rows_in_use.false)),
            w.cells-is ∙ w.with_running.ensures m _ _ st zs yes v,
          ))
      | else-runs w ↦
          (let no = runs ∙ w.if-runs.false in
          (ap (λ b. whenever b (row_left cells)) no, idle_made m cells _ _ st a.class zs _ no (w.cells-is ∙ w.with_object.ensures zs v)))
    ] in
    created_done m _ _ _ st _ zs _ _ _ _ _ room there.0 there.1 (number_after _ few _ c.objects_in_use-objects.ensures) (c.assigned.ensures m st at)
