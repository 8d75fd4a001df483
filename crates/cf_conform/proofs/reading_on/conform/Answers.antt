use Rattle.std.proofs.Common.{refl, ap, ◌∙◌, arith}
use Rattle.cf_log.specs.Cutting.{LogFeeding}
use Rattle.cf_conform.proofs.Causes.{ends-log, ends-output}
use Rattle.cf_conform.proofs.Going.{arrives-first}
use Rattle.cf_conform.proofs.Turning.{log-counts, log-first, log-more, log-most, log-observed, log-stopped, log-within}
use Rattle.cf_conform.proofs.reading_on.conform.Goals as goal

pub loop-lines-init : goal.loop-lines-init
loop-lines-init g c = record {
  comes = log-first _ _ _ _ (ap (λ (f : LogFeeding). f.rest) c.new-feed.ensures) (arrives-first _ _ c.requires.fresh c.requires.retired);
  log = refl;
  output = refl;
}

pub advance-requires-clause-retired : goal.advance-requires-clause-retired
advance-requires-clause-retired g c = log-within _ _ _ _ _ _ _ c.loop-lines.invariant.comes

pub advance-requires-clause-counts : goal.advance-requires-clause-counts
advance-requires-clause-counts g c = log-counts _ _ _ _ _ _ _ c.loop-lines.invariant.comes (omega (arith, c.loop-lines-test.true))

pub advance-requires-clause-observed : goal.advance-requires-clause-observed
advance-requires-clause-observed g c = log-observed _ _ _ _ _ _ _ c.loop-lines.invariant.comes (omega (arith, c.loop-lines-test.true))

pub returns-in-Some-clause-judges : goal.returns-in-Some-clause-judges
returns-in-Some-clause-judges g c =
    log-stopped _ _ _ _ _ _ _ _ _ _ _ c.known.ensures.accepted c.known.ensures.registers c.loop-lines.invariant.comes c.in-Some.ensures.turns

pub loop-lines-preserved : goal.loop-lines-preserved
loop-lines-preserved g c = record {
  comes = log-more _ _ _ _ _ _ _ _ _ _ c.known.ensures.accepted c.known.ensures.registers c.loop-lines.invariant.comes c.in_default.ensures.turns;
  log = c.in_default.ensures.log.still ∙ c.loop-lines.invariant.log;
  output = c.in_default.ensures.output.still ∙ c.loop-lines.invariant.output;
}

pub at_end-requires : goal.at_end-requires
at_end-requires g c = log-within _ _ _ _ _ _ _ c.loop-lines.invariant.comes

pub returns-clause-judges : goal.returns-clause-judges
returns-clause-judges g c =
    log-most _ _ _ _ _ _ _ _ c.known.ensures.accepted c.known.ensures.registers c.loop-lines.invariant.comes
    (omega (arith, c.loop-lines-test.false, c.loop-lines.auto.lines-end)) c.at_end.ensures

pub returns-clause-log : goal.returns-clause-log
returns-clause-log g c = ends-log _ _ _ _ _ c.at_end.ensures c.loop-lines.invariant.log

pub returns-clause-output : goal.returns-clause-output
returns-clause-output g c = ends-output _ _ _ _ _ c.at_end.ensures c.loop-lines.invariant.output
