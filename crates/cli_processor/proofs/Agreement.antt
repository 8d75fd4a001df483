-- A run of the processor that ends with Exit, Trap or Limit answers as `machine` does.
use Rattle.std.proofs.Common.{◌≡◌, ◌<◌, ◌+◌, ◌-◌, ℕ, zero, suc, List, [], Option, Some, None, false, refl, sym, ap, subst, ◌∙◌, arith}
use Rattle.rv_inst.specs.declared.isa.Isa.{Isa}
use Rattle.rv_machine.specs.Hart.{Hart}
use Rattle.rv_machine.specs.Machine.{Machine}
use Rattle.rv_machine.specs.Outcome.{Outcome, Next, Trap, Exit}
use Rattle.rv_machine.specs.After.{after}
use Rattle.rv_machine.specs.Step.{step}
use Rattle.rv_machine.specs.Streams.{Streams, Leaves}
use Rattle.rv_machine.specs.declared.outcome.Retired.{Retired}
use Rattle.cf_layout.specs.Layout.{Plan, has_mul}
use Rattle.cf_core.specs.Processors.{Processor, opened_processor}
use Rattle.cf_semantics.specs.moves.Instructions.{Goes, step_at, step_here, stepped}
use Rattle.cf_semantics.specs.state.Layouts.{isa_of}
use Rattle.cf_semantics.specs.runs.Lines.{Line}
use Rattle.cf_report.specs.declared.tally.Tally.{Tally}
use Rattle.run_finishes.specs.declared.finish.Ran.{Ran as RunAnswer}
use Rattle.run_finishes.specs.declared.finish.Ran.TheVariants as ran
use Rattle.run_finishes.specs.declared.finish.Scripted.{Scripted}
use Rattle.run_finishes.specs.declared.finish.Scripted.TheVariants.{Ran, ScriptEnd, BadScript, BarredAt}
use Rattle.cf_run.specs.Ending.{EndsAsMachine, EndsSequentially, EndsUnderLimit, IsAfterSteps}
use Rattle.cf_run.specs.Moving.{RunPlace, run_place_of}
use Rattle.theory_unknown_input.specs.UnknownInput.{GoesTo}
use Rattle.report_closing.specs.Closing.{head_text, machine_closing}
use Rattle.report_closing.specs.Lines.{first_line}
use Rattle.cli_machine.specs.Finish.{opening, Runs}
use Rattle.cli_machine.specs.Lines.{LeadsBy, ReachesBy, retired_texts, text_from, outcome_text}
use Rattle.cli_machine.specs.Options.{Chosen, chosen_of}
use Rattle.cli_processor.specs.Agreement.{run_start, head_of, AgreesWithMachine, IsMachines}
use Rattle.cli_processor.specs.Statuses.{status_of}
use Rattle.cli_files.specs.declared.status.Status.{Status}
use Rattle.cli_files.specs.declared.status.Status.TheVariants as status

-- a step that goes on retires an instruction with a line
record Steps (isa : Isa) (before next : Machine) : Type 0 where
  line : Retired
  is : step isa before ≡ Next next line

steps : (isa : Isa) (before next : Machine) → step_here isa before ≡ Goes next → Steps isa before next
unfolding step_at
steps isa before next e = of (step isa before) refl e
  where
    of : (o : Outcome Machine) → step isa before ≡ o → stepped o ≡ Goes next → Steps isa before next
    of (Next m line) f g = let same : m ≡ next = cc in record { line = line; is = f ∙ ap (λ (k : Machine). Next k line) same }
    of (Trap cause pc detail) f g = absurd (cc)
    of (Exit status) f g = absurd (cc)

-- a run of the machine that shows nothing
abbrev silent : ℕ → Plan → Chosen
silent limit plan = chosen_of limit false (has_mul plan) None

nothing_of : (limit : ℕ) (plan : Plan) (o : Outcome Machine) → outcome_text (silent limit plan) o ≡ []
nothing_of limit plan (Next m line) = refl
nothing_of limit plan (Trap cause pc detail) = refl
nothing_of limit plan (Exit status) = refl

nothing_from : (limit : ℕ) (plan : Plan) (m : Option Machine) → text_from (silent limit plan) m ≡ []
nothing_from limit plan None = refl
nothing_from limit plan (Some m) = nothing_of limit plan (step (isa_of plan) m)

nothing_shown : (limit : ℕ) (plan : Plan) (start : Machine) (n : ℕ) → [] ≡ retired_texts (silent limit plan) start n
unfolding retired_texts
nothing_shown limit plan start zero = refl
nothing_shown limit plan start (suc n) =
    sym (rw (sym (nothing_shown limit plan start n), nothing_from limit plan (after (isa_of plan) start n)) refl)

-- so, over an input that does not expose its remaining bytes, nothing is shown of the steps
leads_by : (limit : ℕ) (plan : Plan) (start : Machine) (n : ℕ) (at : Machine) (written : List Line) → GoesTo (isa_of plan) start n at written →
    LeadsBy (silent limit plan) start n at []
unfolding GoesTo LeadsBy
leads_by limit plan start zero at written (same, none) = (same, refl)
leads_by limit plan start (suc n) at written (before, next, earlier, goes, is, same, more) =
    let s : Steps (isa_of plan) before next = steps (isa_of plan) before next is in
    (before, [], s.line, next, leads_by limit plan start n before earlier goes, s.is, same, refl)

reaches_by : (limit : ℕ) (plan : Plan) (told : Option (List ℕ)) (hart : Hart) (n : ℕ) (at : Machine) → IsAfterSteps (isa_of plan) told hart n at →
    ReachesBy (silent limit plan) told (opening hart told) n at []
reaches_by limit plan (Some rest) hart n at is = (is, nothing_shown limit plan (opening hart (Some rest)) n)
reaches_by limit plan None hart n at (written, goes) = leads_by limit plan (opening hart None) n at written goes

-- a machine that is reached from a hart that has retired nothing
record Reached (limit : ℕ) (plan : Plan) (hart : Hart) (before after : Streams) (m : Machine) : Type 0 where
  reaches : ReachesBy (silent limit plan) before.input (opening hart before.input) m.hart.retired m []
  counts : m.hart.retired ≡ hart.retired + m.hart.retired
  streams : Leaves before after m.rest m.output

reached : (limit : ℕ) (hart : Hart) (begin new : RunPlace) (answer : RunAnswer) → hart.retired ≡ 0 → (e : EndsAsMachine limit hart begin new answer) →
    Reached limit begin.core.plan hart begin.streams new.streams e.at
reached limit hart begin new answer fresh e =
    let number : new.core.state.retired - hart.retired ≡ e.at.hart.retired = let r = e.retired in omega (arith, fresh, r) in
    let r = reaches_by limit begin.core.plan begin.streams.input hart (new.core.state.retired - hart.retired) e.at e.comes in
    record {
      reaches = subst (λ (n : ℕ). ReachesBy (silent limit begin.core.plan) begin.streams.input (opening hart begin.streams.input) n e.at []) number r;
      counts = omega (arith, fresh);
      streams = e.streams;
    }

-- the run of the machine that finishes in this way, and shows nothing
exit_runs : (limit : ℕ) (plan : Plan) (hart : Hart) (before after : Streams) (m : Machine) (code : ℕ) → Reached limit plan hart before after m →
    (m.hart.retired < limit) × (step (isa_of plan) m ≡ Exit code) → Runs (silent limit plan) hart m.hart before after (ran.Exit code) []
exit_runs limit plan hart before after m code r (below, is) = record {
  count = m.hart.retired;
  last = m;
  finishes = (below, r.reaches, is);
  retired = r.counts;
  between = after;
  streams = r.streams;
  closes = (refl, refl);
}

trap_runs : (limit : ℕ) (plan : Plan) (hart : Hart) (before after : Streams) (m : Machine) (cause pc detail : ℕ) →
    Reached limit plan hart before after m → (m.hart.retired < limit) × (step (isa_of plan) m ≡ Trap cause pc detail) →
    Runs (silent limit plan) hart m.hart before after (ran.Trap cause pc detail) []
trap_runs limit plan hart before after m cause pc detail r (below, is) = record {
  count = m.hart.retired;
  last = m;
  finishes = (below, r.reaches, is);
  retired = r.counts;
  between = after;
  streams = r.streams;
  closes = (refl, refl);
}

limit_runs : (limit : ℕ) (plan : Plan) (hart : Hart) (before after : Streams) (m : Machine) → Reached limit plan hart before after m →
    m.hart.retired ≡ limit → Runs (silent limit plan) hart m.hart before after ran.Limit []
limit_runs limit plan hart before after m r full = record {
  count = m.hart.retired;
  last = m;
  finishes = (full, r.reaches);
  retired = r.counts;
  between = after;
  streams = r.streams;
  closes = (refl, refl);
}

-- so the answer and the head of the report are those of `machine`
exit_agrees : (limit : ℕ) (plan : Plan) (hart : Hart) (begin new : RunPlace) (code : ℕ) → hart.retired ≡ 0 → begin.core.plan ≡ plan →
    EndsAsMachine limit hart begin new (ran.Exit code) → IsMachines limit plan hart begin.streams new.streams (status.Exit code)
    (head_of limit (Ran (ran.Exit code)) new.core new.tally)
unfolding machine_closing head_text first_line
exit_agrees limit plan hart begin new code fresh same e =
    let r = subst (λ (p : Plan). Reached limit p hart begin.streams new.streams e.at) same (reached limit hart begin new (ran.Exit code) fresh e) in
    let ends = subst (λ (p : Plan). EndsUnderLimit (isa_of p) limit e.at (ran.Exit code)) same e.ends in
    record {
      runs = record {
        finish = ran.Exit code;
        status_is = refl;
        last = e.at.hart;
        runs = exit_runs limit plan hart begin.streams new.streams e.at code r ends;
        closes = rw (e.retired, e.regs) refl;
      };
    }

trap_agrees : (limit : ℕ) (plan : Plan) (hart : Hart) (begin new : RunPlace) (cause pc detail : ℕ) → hart.retired ≡ 0 → begin.core.plan ≡ plan →
    EndsAsMachine limit hart begin new (ran.Trap cause pc detail) → IsMachines limit plan hart begin.streams new.streams (status.Trap cause pc detail)
    (head_of limit (Ran (ran.Trap cause pc detail)) new.core new.tally)
unfolding machine_closing head_text first_line
trap_agrees limit plan hart begin new cause pc detail fresh same e =
    let r = subst (λ (p : Plan). Reached limit p hart begin.streams new.streams e.at) same
    (reached limit hart begin new (ran.Trap cause pc detail) fresh e) in
    let ends = subst (λ (p : Plan). EndsUnderLimit (isa_of p) limit e.at (ran.Trap cause pc detail)) same e.ends in
    record {
      runs = record {
        finish = ran.Trap cause pc detail;
        status_is = refl;
        last = e.at.hart;
        runs = trap_runs limit plan hart begin.streams new.streams e.at cause pc detail r ends;
        closes = rw (e.retired, e.regs) refl;
      };
    }

limit_agrees : (limit : ℕ) (plan : Plan) (hart : Hart) (begin new : RunPlace) → hart.retired ≡ 0 → begin.core.plan ≡ plan →
    EndsAsMachine limit hart begin new ran.Limit → IsMachines limit plan hart begin.streams new.streams (status.Limit (Some limit))
    (head_of limit (Ran ran.Limit) new.core new.tally)
unfolding machine_closing head_text first_line
limit_agrees limit plan hart begin new fresh same e =
    let r = subst (λ (p : Plan). Reached limit p hart begin.streams new.streams e.at) same (reached limit hart begin new ran.Limit fresh e) in
    record {
      runs = record {
        finish = ran.Limit;
        status_is = refl;
        last = e.at.hart;
        runs = limit_runs limit plan hart begin.streams new.streams e.at r e.ends;
        closes = rw (e.retired, e.regs) refl;
      };
    }

opened_plan : (plan : Plan) (hart : Hart) → (opened_processor plan hart).plan ≡ plan
unfolding opened_processor
opened_plan plan hart = refl

pub agrees : (limit : ℕ) (plan : Plan) (hart : Hart) (before after : Streams) (blank told : Option (List ℕ)) (last : Processor) (tally : Tally)
    (finish : Scripted) (answer : Status) → hart.retired ≡ 0
    → EndsSequentially limit (run_start (opened_processor plan hart) before blank) (run_place_of last after told tally) finish →
    answer ≡ status_of limit tally.moves finish →
    AgreesWithMachine limit plan hart before after finish last tally answer
unfolding EndsSequentially
agrees limit plan hart before after blank told last tally (Ran (ran.Exit code)) answer fresh ends said =
    subst (λ (s : Status). IsMachines limit plan hart before after s (head_of limit (Ran (ran.Exit code)) last tally)) (sym said)
    (exit_agrees limit plan hart (run_start (opened_processor plan hart) before blank) (run_place_of last after told tally) code fresh (opened_plan plan hart)
    (ends plan hart refl))
agrees limit plan hart before after blank told last tally (Ran (ran.Trap cause pc detail)) answer fresh ends said =
    subst (λ (s : Status). IsMachines limit plan hart before after s (head_of limit (Ran (ran.Trap cause pc detail)) last tally)) (sym said)
    (trap_agrees limit plan hart (run_start (opened_processor plan hart) before blank) (run_place_of last after told tally) cause pc detail fresh
    (opened_plan plan hart)
    (ends plan hart refl))
agrees limit plan hart before after blank told last tally (Ran ran.Limit) answer fresh ends said =
    subst (λ (s : Status). IsMachines limit plan hart before after s (head_of limit (Ran ran.Limit) last tally)) (sym said)
    (limit_agrees limit plan hart (run_start (opened_processor plan hart) before blank) (run_place_of last after told tally) fresh (opened_plan plan hart)
    (ends plan hart refl))
agrees limit plan hart before after blank told last tally (Ran ran.ReadFault) answer fresh ends said = tt
agrees limit plan hart before after blank told last tally (Ran ran.WriteFault) answer fresh ends said = tt
agrees limit plan hart before after blank told last tally (Ran ran.ReportFault) answer fresh ends said = tt
agrees limit plan hart before after blank told last tally ScriptEnd answer fresh ends said = tt
agrees limit plan hart before after blank told last tally (BadScript refusal) answer fresh ends said = tt
agrees limit plan hart before after blank told last tally (BarredAt line bar) answer fresh ends said = tt
