use Rattle.std.proofs.Common.{◌∙◌, ap, length, arith}
use Rattle.cli_arguments.specs.Views.{layout_of}
use Rattle.cli_time.proofs.LayoutLists.{plan-at, plan-there}
use Rattle.cli_time.proofs.Rows.{rows-all, rows-break, rows-cause, rows-next, rows-start, rows-still, rows-stop, rows-stopped}
use Rattle.cli_time.proofs.comparing.time_each.Goals as goal

pub loop-place-init : goal.loop-place-init
loop-place-init g c = rows-start _ _ _ _ _ _ _ _ c.new-times.ensures

pub loop-place-preserved : goal.loop-place-preserved
loop-place-preserved g c =
    rows-next _ _ _ _ _ _ _ _ _ _ _ _ _ c.loop-place.place _ _ (layout_of c.argument_at.result) c.index-layouts-place.result c.in-Ok.measured
    c.put_layout.result c.is_err.result c.loop-place.invariant c.argument_at.ensures
    (plan-at c.args.arguments.now c.args.ready.now.layouts.items _ c.loop-place.place _ _ c.argument_at.ensures c.requires.arguments
    c.as_slice-layouts.ensures.value c.index-layouts-place.is)
    c.in-Ok.ensures.measured c.in-Ok.ensures.cause.still c.put_layout.ensures c.is_err.ensures.value c.if-is_err.false
    c.push.ensures.items

pub returns-in-Err-clause-put : goal.returns-in-Err-clause-put
returns-in-Err-clause-put g c =
    let size = ap length c.as_slice-layouts.ensures.value in
    rows-stop _ _ _ _ _ _ _ _ _ _ c.loop-place.place _ c.index-layouts-place.result c.in-Err.stop c.loop-place.invariant
    (omega (arith, c.loop-place-test.true, size))
    (plan-there c.args.ready.now.layouts.items _ c.loop-place.place _ (omega (arith, c.loop-place-test.true, size))
    c.as_slice-layouts.ensures.value c.index-layouts-place.is)
    c.in-Err.ensures.measured

pub returns-in-Err-clause-cause : goal.returns-in-Err-clause-cause
returns-in-Err-clause-cause g c = rows-stopped _ _ _ c.in-Err.stop c.loop-place.invariant.still c.in-Err.ensures.cause

pub returns-then-is_err-clause-put : goal.returns-then-is_err-clause-put
returns-then-is_err-clause-put g c =
    rows-break _ _ _ _ _ _ _ _ _ _ _ _ _ c.loop-place.place _ (layout_of c.argument_at.result) c.index-layouts-place.result c.in-Ok.measured
    c.put_layout.result c.is_err.result c.loop-place.invariant c.argument_at.ensures
    (plan-at c.args.arguments.now c.args.ready.now.layouts.items _ c.loop-place.place _ _ c.argument_at.ensures c.requires.arguments
    c.as_slice-layouts.ensures.value c.index-layouts-place.is)
    c.in-Ok.ensures.measured c.put_layout.ensures c.is_err.ensures.value c.if-is_err.true

pub returns-then-is_err-clause-cause : goal.returns-then-is_err-clause-cause
returns-then-is_err-clause-cause g c =
    rows-cause _ _ _ _ _ _ c.put_layout.result c.is_err.result c.put_layout.ensures c.is_err.ensures.value c.if-is_err.true
    (c.in-Ok.ensures.cause.still ∙ c.loop-place.invariant.still)

pub returns-clause-put : goal.returns-clause-put
returns-clause-put g c =
    let size = ap length c.as_slice-layouts.ensures.value in
    rows-all _ _ _ _ _ _ _ _ _ c.loop-place.place _ c.loop-place.invariant
    (omega (arith, c.loop-place-test.false, c.loop-place.auto.place-end, size))

pub returns-clause-cause : goal.returns-clause-cause
returns-clause-cause g c = rows-still _ _ c.loop-place.invariant.still
