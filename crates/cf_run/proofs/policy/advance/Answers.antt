use Rattle.std.proofs.Common.{refl, sym, arith}
use Rattle.cf_run.proofs.ByRule.{ruled-allowed}
use Rattle.cf_run.proofs.ByPolicy.{chosen-stops, over-stops}
use Rattle.cf_run.proofs.Coming.{seen-count}
use Rattle.cf_run.proofs.Faults.{over-read, over-reported, over-written, stopped-read, stopped-reported, stopped-written}
use Rattle.cf_run.proofs.policy.advance.Goals as goal

pub make_in_order-requires-clause-allowed : goal.make_in_order-requires-clause-allowed
make_in_order-requires-clause-allowed g c = ruled-allowed _ _ _ _ _ _ (sym c.choose-mv.ensures.choice)

pub returns-in-Some-clause-turns : goal.returns-in-Some-clause-turns
returns-in-Some-clause-turns g c = over-stops _ _ _ _ _ _ _ c.in-Some.ensures

pub returns-in-Some-clause-input : goal.returns-in-Some-clause-input
returns-in-Some-clause-input g c = rw (over-read c.args.course.now.options.limit c.args.core.now.state c.in-Some.ran c.in-Some.ensures)
    (record { never_falls = omega arith; rose = tt; still = refl })

pub returns-in-Some-clause-output : goal.returns-in-Some-clause-output
returns-in-Some-clause-output g c = rw (over-written c.args.course.now.options.limit c.args.core.now.state c.in-Some.ran c.in-Some.ensures)
    (record { never_falls = omega arith; rose = tt; still = refl })

pub returns-in-Some-clause-report : goal.returns-in-Some-clause-report
returns-in-Some-clause-report g c = rw (over-reported c.args.course.now.options.limit c.args.core.now.state c.in-Some.ran c.in-Some.ensures)
    (record { never_falls = omega arith; rose = tt; still = refl })

pub returns-in-Ok-clause-turns : goal.returns-in-Ok-clause-turns
returns-in-Ok-clause-turns g c = record {
  takes = record { goes = c.in_default.ensures; move = _; choice_is = sym c.choose-mv.ensures.choice; event = _; does = c.in-Ok.ensures.does };
  policy_is = c.choose-mv.ensures.onward;
  count_is = seen-count _ _ _ _ _ _ _ c.saw.ensures.value c.drained.ensures c.requires.stages;
}

pub returns-in-Ok-clause-input_asked : goal.returns-in-Ok-clause-input_asked
returns-in-Ok-clause-input_asked g c = λ unasked.
    c.make_in_order.ensures.input_asked
    (λ asked. unasked (record { goes = c.in_default.ensures; move = _; choice_is = sym c.choose-mv.ensures.choice; asked = asked }))

pub returns-in-Ok-clause-output_asked : goal.returns-in-Ok-clause-output_asked
returns-in-Ok-clause-output_asked g c = λ unasked.
    c.make_in_order.ensures.output_asked
    (λ asked. unasked (record { goes = c.in_default.ensures; move = _; choice_is = sym c.choose-mv.ensures.choice; asked = asked }))

pub returns-in-Err-clause-turns : goal.returns-in-Err-clause-turns
returns-in-Err-clause-turns g c = chosen-stops _ _ _ _ _ _ _ _ _ _ c.in_default.ensures (sym c.choose-mv.ensures.choice) c.choose-mv.ensures.onward
    c.in-Err.ensures.does

pub returns-in-Err-clause-input : goal.returns-in-Err-clause-input
returns-in-Err-clause-input g c = rw (stopped-read c.in-Err.ran) c.in-Err.ensures.input

pub returns-in-Err-clause-output : goal.returns-in-Err-clause-output
returns-in-Err-clause-output g c = rw (stopped-written c.in-Err.ran) c.in-Err.ensures.output

pub returns-in-Err-clause-report : goal.returns-in-Err-clause-report
returns-in-Err-clause-report g c = rw (stopped-reported c.in-Err.ran) c.in-Err.ensures.report

pub returns-in-Err-clause-input_asked : goal.returns-in-Err-clause-input_asked
returns-in-Err-clause-input_asked g c = λ unasked.
    c.in-Err.ensures.input_asked
    (λ asked. unasked (record { goes = c.in_default.ensures; move = _; choice_is = sym c.choose-mv.ensures.choice; asked = asked }))

pub returns-in-Err-clause-output_asked : goal.returns-in-Err-clause-output_asked
returns-in-Err-clause-output_asked g c = λ unasked.
    c.in-Err.ensures.output_asked
    (λ asked. unasked (record { goes = c.in_default.ensures; move = _; choice_is = sym c.choose-mv.ensures.choice; asked = asked }))
