use Rattle.std.proofs.Common.{refl, ap, subst, ◌∙◌, ℕ, arith}
use Rattle.cf_layout.specs.Layout.{Plan}
use Rattle.cf_sched.specs.Paces.{HasCounted}
use Rattle.cf_run.proofs.Bounds.{opened_wide}
use Rattle.cf_run.proofs.Ending.{over-opened}
use Rattle.cf_run.proofs.Runs.{counts-within}
use Rattle.cf_rounds.proofs.Rounding.{comes-bounded, comes-closer, comes-counted, comes-offered, comes-small, end-bounded, rounds-end}
use Rattle.cf_rounds.proofs.Said.{broken-ends, said-broken, said-end, said-first, said-more, said-on}
use Rattle.cf_rounds.proofs.running.run_rounds.Goals as goal

pub loop-clocked-init : goal.loop-clocked-init
loop-clocked-init g c = record {
  said = said-first c.args.options.every c.args.options.rule _ _ _ _ _ c.requires.tally
      (subst (λ (stages : ℕ). HasCounted c.args.options.rule stages 0 c.new-pace.result) (c.stages.ensures.stages
      ∙ ap (λ (plan : Plan). plan.stages) c.layout.ensures.layout) c.new-pace.ensures)
      c.requires.rounds c.requires.retired (over-opened _ _ c.requires.opened.hart c.known.ensures.accepted
      (opened_wide _ c.requires.opened c.known.ensures.registers) c.requires.opened.is);
  input = refl;
  output = refl;
  report = refl;
}

pub advance-end-requires-clause-counted : goal.advance-end-requires-clause-counted
advance-end-requires-clause-counted g c = comes-counted c.args.options.rule _ _ _ _ _ c.loop-clocked.invariant.said.0

pub advance-end-requires-clause-some : goal.advance-end-requires-clause-some
advance-end-requires-clause-some g c = comes-offered c.args.options.rule _ _ _ _ _ c.known.ensures.accepted c.known.ensures.registers c.requires.opened
    c.loop-clocked.invariant.said.0

pub advance-end-requires-clause-moves : goal.advance-end-requires-clause-moves
advance-end-requires-clause-moves g c =
    let small = comes-small c.args.options.rule _ _ _ _ _ c.known.ensures.accepted c.known.ensures.registers c.requires.opened c.requires.limit
    c.loop-clocked.invariant.said.0 in
    omega (arith, small)

pub advance-end-requires-clause-meets : goal.advance-end-requires-clause-meets
advance-end-requires-clause-meets g c =
    let small = comes-small c.args.options.rule _ _ _ _ _ c.known.ensures.accepted c.known.ensures.registers c.requires.opened c.requires.limit
    c.loop-clocked.invariant.said.0 in
    let within = counts-within _ _ _ _ c.loop-clocked.invariant.said.0.reached in
    omega (arith, small, within.0)

pub advance-end-requires-clause-kills : goal.advance-end-requires-clause-kills
advance-end-requires-clause-kills g c =
    let small = comes-small c.args.options.rule _ _ _ _ _ c.known.ensures.accepted c.known.ensures.registers c.requires.opened c.requires.limit
    c.loop-clocked.invariant.said.0 in
    let within = counts-within _ _ _ _ c.loop-clocked.invariant.said.0.reached in
    omega (arith, small, within.1)

pub advance-end-requires-clause-dead : goal.advance-end-requires-clause-dead
advance-end-requires-clause-dead g c =
    let small = comes-small c.args.options.rule _ _ _ _ _ c.known.ensures.accepted c.known.ensures.registers c.requires.opened c.requires.limit
    c.loop-clocked.invariant.said.0 in
    let within = counts-within _ _ _ _ c.loop-clocked.invariant.said.0.reached in
    omega (arith, small, within.2)

pub returns-in-Some-clause-run : goal.returns-in-Some-clause-run
returns-in-Some-clause-run g c = said-end c.args.options.every c.args.options.rule _ _ _ _ _ _ _ _ _ _ c.known.ensures.accepted c.known.ensures.registers
    c.loop-clocked.invariant.said c.in-Some.ensures.turns

pub returns-in-Some-clause-ends : goal.returns-in-Some-clause-ends
returns-in-Some-clause-ends g c = rounds-end c.args.options.rule _ _ _ _ _ _ _ _ c.known.ensures.accepted c.known.ensures.registers
    c.loop-clocked.invariant.said.0
    c.in-Some.ensures.turns

pub returns-in-Some-clause-bounded : goal.returns-in-Some-clause-bounded
returns-in-Some-clause-bounded g c = end-bounded c.args.options.rule _ _ _ _ _ _ _ _ c.known.ensures.accepted c.known.ensures.registers c.requires.opened
    c.loop-clocked.invariant.said.0 c.in-Some.ensures.turns

pub loop-clocked-smaller : goal.loop-clocked-smaller
loop-clocked-smaller g c = comes-closer c.args.options.rule _ _ _ _ _ _ _ c.known.ensures.accepted c.known.ensures.registers c.requires.opened
    c.loop-clocked.invariant.said.0
    c.in_default.ensures.turns

pub loop-clocked-preserved : goal.loop-clocked-preserved
loop-clocked-preserved g c = record {
  said = said-more c.args.options.every c.args.options.rule _ _ _ _ _ _ _ _ _ (said-on c.args.options.every c.args.options.rule _ _ _ _ _ _ _ _ _
      c.loop-clocked.invariant.said c.in_default.ensures.turns)
      (rw c.retired-before.ensures at c.in-Ok.ensures.all);
  input = c.in_default.ensures.input.still ∙ c.loop-clocked.invariant.input;
  output = c.in_default.ensures.output.still ∙ c.loop-clocked.invariant.output;
  report = c.in-Ok.ensures.cause.still ∙ c.loop-clocked.invariant.report;
}

pub returns-in-Err-clause-run : goal.returns-in-Err-clause-run
returns-in-Err-clause-run g c = said-broken c.args.options.every c.args.options.rule _ _ _ _ _ _ _ _ _ c.known.ensures.accepted c.known.ensures.registers
    (said-on c.args.options.every c.args.options.rule _ _ _ _ _ _ _ _ _
    c.loop-clocked.invariant.said c.in_default.ensures.turns)
    (rw c.retired-before.ensures at c.in-Err.ensures.front)

pub returns-in-Err-clause-ends : goal.returns-in-Err-clause-ends
returns-in-Err-clause-ends g c = broken-ends _ _ _

pub returns-in-Err-clause-bounded : goal.returns-in-Err-clause-bounded
returns-in-Err-clause-bounded g c = comes-bounded c.args.options.rule _ _ _ _ _ c.known.ensures.accepted c.known.ensures.registers c.requires.opened
    (said-on c.args.options.every c.args.options.rule _ _ _ _ _ _ _ _ _
    c.loop-clocked.invariant.said c.in_default.ensures.turns).comes

pub overflow_add-rounds : goal.overflow_add-rounds
overflow_add-rounds g c =
    let small = comes-small c.args.options.rule _ _ _ _ _ c.known.ensures.accepted c.known.ensures.registers c.requires.opened c.requires.limit
    c.loop-clocked.invariant.said.0 in
    omega (arith, small, c.loop-clocked.invariant.said.0.few)
