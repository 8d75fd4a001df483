use Rattle.std.proofs.Common.{refl, sym, ap, ◌∙◌}
use Rattle.cf_layout.specs.Layout.{Plan}
use Rattle.cf_core.specs.Asking.{AsksInput, AsksOutput}
use Rattle.cf_run.proofs.ByPolicy.{policy-bounded, policy-sequential}
use Rattle.cf_run.proofs.Coming.{comes-first, comes-offered, comes-more, comes-nearer, comes-runs, comes-unasked, turned-plan, turned-within, unasked-comes}
use Rattle.cf_run.proofs.Ending.{policy-ends-sequentially}
use Rattle.cf_run.proofs.Turning.{come-counts, comes-by, fewer_left, sweeps-onward}
use Rattle.cf_run.proofs.drawing.run_drawn.Goals as goal

pub loop-ran-init : goal.loop-ran-init
loop-ran-init g c = record {
  comes = comes-first c.args.options.rule _ _ _ _ _ _ _ _ c.requires.tally
      (c.stages.ensures.stages ∙ ap (λ (plan : Plan). plan.stages) c.layout.ensures.layout)
      c.new-pace.ensures.2;
  options = refl;
  rule = c.new-pace.ensures.0;
  stages = c.new-pace.ensures.1 ∙ c.stages.ensures.stages ∙ ap (λ (plan : Plan). plan.stages) c.layout.ensures.layout;
  input_asked = λ unasked. refl;
  output_asked = λ unasked. refl;
  within = c.requires.begins.within;
  input = refl;
  output = refl;
  report = refl;
}

pub draw-requires : goal.draw-requires
draw-requires g c = record {
  come = record {
    begin = _;
    first = _;
    accepted = c.known.ensures.accepted;
    registers = c.known.ensures.registers;
    opened = c.requires.begins.is_opened;
    streams = _;
    report = _;
    comes = rw (sym c.loop-ran.invariant.rule) at c.loop-ran.invariant.comes;
    limit_allowed = c.requires.begins.limit_allowed;
    within = c.loop-ran.invariant.within;
    stages = c.loop-ran.invariant.stages;
  };
}

pub advance-end-requires-clause-retired : goal.advance-end-requires-clause-retired
advance-end-requires-clause-retired g c = rw c.loop-ran.invariant.options c.draw.ensures.come.within

pub advance-end-requires-clause-stages : goal.advance-end-requires-clause-stages
advance-end-requires-clause-stages g c = c.draw.ensures.come.stages

pub advance-end-requires-clause-some : goal.advance-end-requires-clause-some
advance-end-requires-clause-some g c =
    let by = comes-by c.args.options.rule _ _ _ _ _ _ _ _ c.loop-ran.invariant.comes c.loop-ran.invariant.rule c.draw.ensures.draws in
    rw by.rule_is (comes-offered c.args.options.rule _ _ _ _ _ _ _ _ _ c.known.ensures.accepted c.known.ensures.registers c.requires.begins.is_opened by.comes)

pub advance-end-requires-clause-counts : goal.advance-end-requires-clause-counts
advance-end-requires-clause-counts g c = come-counts _ _ _ c.draw.ensures.come

pub returns-in-Some-clause-run : goal.returns-in-Some-clause-run
returns-in-Some-clause-run g c =
    let by = comes-by c.args.options.rule _ _ _ _ _ _ _ _ c.loop-ran.invariant.comes c.loop-ran.invariant.rule c.draw.ensures.draws in
    let runs = comes-runs c.args.options.rule _ _ _ _ _ _ _ _ _ _ _ _ by.comes (rw (c.loop-ran.invariant.options, by.rule_is) at c.in-Some.ensures.turns) in
    record {
      moves = _;
      runs = runs;
      sequential = policy-sequential c.args.options.rule _ _ _ _ _ _ _ _ _ _ c.known.ensures.accepted c.known.ensures.registers runs;
    }

pub returns-in-Some-clause-ends : goal.returns-in-Some-clause-ends
returns-in-Some-clause-ends g c =
    let by = comes-by c.args.options.rule _ _ _ _ _ _ _ _ c.loop-ran.invariant.comes c.loop-ran.invariant.rule c.draw.ensures.draws in
    policy-ends-sequentially c.args.options.rule _ _ _ _ _ _ _ _ _ _ c.known.ensures.accepted c.known.ensures.registers
    (comes-runs c.args.options.rule _ _ _ _ _ _ _ _ _ _ _ _ by.comes (rw (c.loop-ran.invariant.options, by.rule_is) at c.in-Some.ensures.turns))

pub returns-in-Some-clause-bounded : goal.returns-in-Some-clause-bounded
returns-in-Some-clause-bounded g c =
    let by = comes-by c.args.options.rule _ _ _ _ _ _ _ _ c.loop-ran.invariant.comes c.loop-ran.invariant.rule c.draw.ensures.draws in
    policy-bounded c.args.options.rule _ _ _ _ _ _ _ _ _ _ c.known.ensures.accepted c.known.ensures.registers c.requires.begins.is_opened
    (comes-runs c.args.options.rule _ _ _ _ _ _ _ _ _ _ _ _ by.comes (rw (c.loop-ran.invariant.options, by.rule_is) at c.in-Some.ensures.turns))

pub returns-in-Some-clause-asked : goal.returns-in-Some-clause-asked
returns-in-Some-clause-asked g c =
    let by = comes-by c.args.options.rule _ _ _ _ _ _ _ _ c.loop-ran.invariant.comes c.loop-ran.invariant.rule c.draw.ensures.draws in
    comes-unasked c.args.options.rule _ _ _ _ _ _ _ _ _ _ _ _ _ _ _ _ _ _ by.comes (rw (c.loop-ran.invariant.options, by.rule_is) at c.in-Some.ensures.turns)
    (λ unasked. c.loop-ran.invariant.input_asked (λ some. unasked (by.input some)))
    (rw (c.loop-ran.invariant.options, by.rule_is) at c.in-Some.ensures.input_asked)
    (λ unasked. c.loop-ran.invariant.output_asked (λ some. unasked (by.output some)))
    (rw (c.loop-ran.invariant.options, by.rule_is) at c.in-Some.ensures.output_asked)

pub loop-ran-smaller : goal.loop-ran-smaller
loop-ran-smaller g c =
    let by = comes-by c.args.options.rule _ _ _ _ _ _ _ _ c.loop-ran.invariant.comes c.loop-ran.invariant.rule c.draw.ensures.draws in
    fewer_left _ _ _ _ (sweeps-onward _ _ _ _ c.draw.ensures.draws).moves
    (comes-nearer c.args.options.rule _ _ _ _ _ _ _ _ _ _ _ c.known.ensures.accepted c.known.ensures.registers c.requires.begins.is_opened by.comes
    (rw (c.loop-ran.invariant.options, by.rule_is) at c.in_default.ensures.turns))

pub loop-ran-preserved : goal.loop-ran-preserved
loop-ran-preserved g c =
    let by = comes-by c.args.options.rule _ _ _ _ _ _ _ _ c.loop-ran.invariant.comes c.loop-ran.invariant.rule c.draw.ensures.draws in
    let turns = rw (c.loop-ran.invariant.options, by.rule_is) at c.in_default.ensures.turns in
    record {
      comes = comes-more c.args.options.rule _ _ _ _ _ _ _ _ _ _ _ by.comes turns;
      options = c.in_default.ensures.options ∙ c.loop-ran.invariant.options;
      rule = c.in_default.ensures.rule ∙ by.rule_is;
      stages = c.in_default.ensures.stages ∙ c.draw.ensures.come.stages
          ∙ ap (λ (plan : Plan). plan.stages) (sym (turned-plan _ _ _ _ _ _ _ _ turns));
      input_asked = unasked-comes c.args.options.rule _ _ AsksInput _ _ _ _ _ _ _ _ _ by.comes turns _ _ _
          (λ unasked. c.loop-ran.invariant.input_asked (λ some. unasked (by.input some)))
          (rw (c.loop-ran.invariant.options, by.rule_is) at c.in_default.ensures.input_asked);
      output_asked = unasked-comes c.args.options.rule _ _ AsksOutput _ _ _ _ _ _ _ _ _ by.comes turns _ _ _
          (λ unasked. c.loop-ran.invariant.output_asked (λ some. unasked (by.output some)))
          (rw (c.loop-ran.invariant.options, by.rule_is) at c.in_default.ensures.output_asked);
      within = turned-within _ _ _ _ _ _ _ _ turns;
      input = c.in_default.ensures.input.still ∙ c.loop-ran.invariant.input;
      output = c.in_default.ensures.output.still ∙ c.loop-ran.invariant.output;
      report = c.in_default.ensures.report.still ∙ c.loop-ran.invariant.report;
    }
