use Rattle.std.proofs.Common.{◌∙◌, refl, sym, ap, ℕ}
use Rattle.cf_run.proofs.ByRule.{ruled-allowed}
use Rattle.cf_run.proofs.Coming.{seen-count}
use Rattle.cf_timed.specs.Clocks.{clocked, delay_by, stamped}
use Rattle.cf_timed.specs.Times.{delayed, done_at}
use Rattle.cf_timed.proofs.DueTurns.{due-turned, offered-kept}
use Rattle.cf_timed.proofs.Stopping.{stops-over, stops-there}
use Rattle.cf_timed.proofs.run.advance.Goals as goal

pub make_and_show-requires-clause-allowed : goal.make_and_show-requires-clause-allowed
make_and_show-requires-clause-allowed g c = ruled-allowed _ _ _ _ _ _ (sym c.earliest-due.ensures.soonest.mv)

pub earliest-due-requires-clause-due : goal.earliest-due-requires-clause-due
earliest-due-requires-clause-due g c = c.requires.due c.in_default.ensures.unended

pub returns-in-Some-clause-turns : goal.returns-in-Some-clause-turns
returns-in-Some-clause-turns g c = (stops-over _ _ _ _ _ _ c.in-Some.ensures, refl)

pub returns-in-Ok-clause-turns : goal.returns-in-Ok-clause-turns
returns-in-Ok-clause-turns g c = record {
  makes = record {
    takes = record { goes = c.in_default.ensures; move = _; choice_is = sym c.earliest-due.ensures.soonest.mv; event = _; does = c.in-Ok.ensures.does };
    policy_is = refl;
    count_is = seen-count _ _ _ _ _ _ _ c.saw.ensures.value c.drained.ensures c.requires.stages;
  };
  clock_is = c.stamp.ensures ∙ ap (λ (n : ℕ). stamped c.args.clock.now c.earliest-due.result.mv n) c.earliest-due.ensures.soonest.timed.time;
  event_is = refl;
  done_is = ap (λ (n : ℕ). done_at (delayed c.earliest-due.result.mv n) c.earliest-due.result.time) c.earliest-due.ensures.soonest.timed.delay
      ∙ ap (λ (n : ℕ). done_at (delayed c.earliest-due.result.mv (delay_by (clocked c.args.clock.now c.args.core.now.state) c.earliest-due.result.mv)) n)
      c.earliest-due.ensures.soonest.timed.time;
}

pub returns-in-Ok-clause-due : goal.returns-in-Ok-clause-due
returns-in-Ok-clause-due g c = λ unended.
    due-turned _ _ _ _ _ _ _ c.earliest-due.result.time _ _ c.layout-layout.ensures.facts c.requires.clock c.known.ensures
    (offered-kept _ _ _ _ _ _ c.layout-layout.ensures.facts.accepted c.earliest-due.ensures.soonest.mv) c.in-Ok.ensures.does
    c.earliest-due.ensures.left c.stamp.ensures c.made.ensures unended

pub returns-in-Err-clause-turns : goal.returns-in-Err-clause-turns
returns-in-Err-clause-turns g c =
    (stops-there _ _ _ _ _ _ _ _ c.in_default.ensures (sym c.earliest-due.ensures.soonest.mv) c.in-Err.ensures.does c.in-Err.ensures.report, refl)
