use Rattle.std.proofs.Common.{◌+◌, ◌-◌, ap, refl, ◌∙◌, inl, inr, arith}
use Rattle.cli_machine.proofs.Runs.{reached-none, reached-next, reached-alone, breaks-off, reached-passed, stops-before, runs-exit}
use Rattle.cli_machine.proofs.Runs.{runs-trap, runs-read-fault, runs-write-fault}
use Rattle.cli_machine.proofs.running.run.Goals as goal

pub loop-options-init : goal.loop-options-init
loop-options-init g c =
    let u = c.run_unshown.ensures in
    record {
      reached = (
        0 + (c.run_unshown.new.machine.retired - c.args.machine.now.retired),
        omega (arith, u.onward),
        reached-alone _ _ _ _ _ _ _ _ 0 _ refl u.shown (reached-none _ _ _ _) u.goes,
      );
      within = u.within;
      last = ap (λ n. n + c.args.options.limit) c.retired.ensures;
      input = refl;
      output = refl;
      report = refl;
    }

pub loop-options-preserved : goal.loop-options-preserved
loop-options-preserved g c =
    let r = c.loop-options.invariant.reached in
    let u = c.run_unshown-in-Ok.ensures in
    record {
      reached = (
        r.0 + 1 + (c.run_unshown-in-Ok.new.machine.retired - c.step_as.new.self.retired),
        omega (arith, c.in-Next.ensures.count, r.1, u.onward),
        reached-alone _ _ _ _ _ _ _ _ (r.0 + 1) _ refl u.shown
            (reached-next _ _ _ _ _ _ _ _ _ _ _ _ _ (reached-passed _ _ _ _ _ _ _ _ _ r.2 c.in_default.ensures.written)
            (rw c.instruction_set-isa.ensures at c.in-Next.ensures.steps) c.retired-in-Next.ensures c.in-Ok.ensures.puts.all) u.goes,
      );
      within = u.within;
      last = c.loop-options.invariant.last;
      input = c.in-Next.ensures.input.still ∙ c.loop-options.invariant.input;
      output = c.in-Next.ensures.output.still ∙ c.loop-options.invariant.output;
      report = c.in-Ok.ensures.puts.cause.still ∙ c.in_default.ensures.cause.still ∙ c.loop-options.invariant.report;
    }

pub returns-in-Err-show_step-clause-runs : goal.returns-in-Err-show_step-clause-runs
returns-in-Err-show_step-clause-runs g c =
    let r = c.loop-options.invariant.reached in
    inl (breaks-off _ _ _ _ _ _ _ _ _ _ _ _ _ (omega (arith, r.1, c.loop-options.invariant.last, c.retired-in-loop-options.ensures, c.loop-options-test.true))
    (reached-passed _ _ _ _ _ _ _ _ _ r.2 c.in_default.ensures.written)
    (rw c.instruction_set-isa.ensures at c.in-Next.ensures.steps) c.retired-in-Next.ensures c.in-Err-show_step.ensures.shows
    c.in-Err-show_step.ensures.puts.front)

pub returns-in-Err-clause-runs : goal.returns-in-Err-clause-runs
returns-in-Err-clause-runs g c =
    let r = c.loop-options.invariant.reached in
    inr (stops-before _ _ _ _ _ _ _ _ _ (omega (arith, r.1, c.loop-options.invariant.last, c.retired-in-loop-options.ensures, c.loop-options-test.true)) r.2
    c.in-Err.ensures.written)

pub returns-in-Exit-clause-runs : goal.returns-in-Exit-clause-runs
returns-in-Exit-clause-runs g c =
    let r = c.loop-options.invariant.reached in
    runs-exit _ _ _ _ _ _ _ _ _ _ _ (reached-passed _ _ _ _ _ _ _ _ _ r.2 c.in_default.ensures.written)
    (omega (arith, r.1, c.loop-options.invariant.last, c.retired-in-loop-options.ensures, c.loop-options-test.true))
    r.1 (rw c.instruction_set-isa.ensures at c.in-Exit.ensures.steps)

pub returns-in-Trap-clause-runs : goal.returns-in-Trap-clause-runs
returns-in-Trap-clause-runs g c =
    let r = c.loop-options.invariant.reached in
    runs-trap _ _ _ _ _ _ _ _ _ _ _ _ _ (reached-passed _ _ _ _ _ _ _ _ _ r.2 c.in_default.ensures.written)
    (omega (arith, r.1, c.loop-options.invariant.last, c.retired-in-loop-options.ensures, c.loop-options-test.true))
    r.1 (rw c.instruction_set-isa.ensures at c.in-Trap.ensures.steps)

pub returns-in-ReadFault-clause-runs : goal.returns-in-ReadFault-clause-runs
returns-in-ReadFault-clause-runs g c =
    let r = c.loop-options.invariant.reached in
    runs-read-fault _ _ _ _ _ _ _ _ _ _ (reached-passed _ _ _ _ _ _ _ _ _ r.2 c.in_default.ensures.written)
    (omega (arith, r.1, c.loop-options.invariant.last, c.retired-in-loop-options.ensures, c.loop-options-test.true))
    r.1 (rw c.instruction_set-isa.ensures at c.in-ReadFault.ensures.steps)

pub returns-in-WriteFault-clause-runs : goal.returns-in-WriteFault-clause-runs
returns-in-WriteFault-clause-runs g c =
    let r = c.loop-options.invariant.reached in
    runs-write-fault _ _ _ _ _ _ _ _ _ _ (reached-passed _ _ _ _ _ _ _ _ _ r.2 c.in_default.ensures.written)
    (omega (arith, r.1, c.loop-options.invariant.last, c.retired-in-loop-options.ensures, c.loop-options-test.true))
    r.1 (rw c.instruction_set-isa.ensures at c.in-WriteFault.ensures.steps)
