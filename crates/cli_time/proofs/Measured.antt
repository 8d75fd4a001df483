-- What a timed run measures.
use Rattle.std.proofs.Common.{◌≡◌, ◌∙◌, ◌≤◌, ◌-◌, sym, ap, subst, refl, ℕ, List, [], Option, Some, None, Result, Ok, Err, arith}
use Rattle.cf_timed.specs.declared.span.Span.{Span}
use Rattle.run_options.specs.Limits.{most_timed_limit}
use Rattle.cf_io.specs.Causes.{HasCause}
use Rattle.rv_machine.specs.Hart.{Hart}
use Rattle.rv_machine.specs.Machine.{Machine}
use Rattle.cf_layout.specs.Layout.{Plan}
use Rattle.cf_core.specs.Processors.{Processor, opened_processor}
use Rattle.cf_run.specs.Ending.{EndsAlike, EndsAsMachine, EndsSequentially}
use Rattle.cf_run.specs.Moving.{RunPlace, run_place_of}
use Rattle.cf_run.specs.Policies.{most_moves}
use Rattle.run_finishes.specs.declared.finish.Scripted.TheVariants.{Ran}
use Rattle.cf_timed.specs.declared.answer.Timed.{Timed}
use Rattle.cf_timed.specs.declared.answer.Timed.TheVariants as timed
use Rattle.cf_timed.specs.declared.span.Span.{Span}
use Rattle.cf_timed.specs.Clocks.{ClockKnows, SiteTimes, rule_of_clock, started}
use Rattle.cf_timed.specs.DelayedRuns.{DelayRule, delays_of, timed_visits as timed_moves, timed_after, visits_of}
use Rattle.cf_timed.specs.Drawing.{drawn_from}
use Rattle.cf_timed.specs.Times.{greatest_time, moves_with_times}
use Rattle.cf_timed.specs.TimedRuns.{CanBegin, HasCauses, RunsShown, RunsTimed, answer_of_timed, begins, timed_lines_from}
use Rattle.cf_timed.proofs.Chaining.{longest}
use Rattle.cf_io.proofs.Owing.{writes-nothing}
use Rattle.cf_run.specs.Made.{Made}
use Rattle.run_ledger.specs.NotedRuns.{RunsNoted}
use Rattle.run_ledger.specs.RunLedgers.{breakdown_in}
use Rattle.run_ledger.specs.declared.breakdown.Breakdown.{Breakdown}
use Rattle.run_ledger.specs.declared.run_ledger.RunLedger.{RunLedger}
use Rattle.cf_run.proofs.Opened.{can-run}
use Rattle.cli_time.specs.Measures.{BreaksTaking, Measures, MeasuresRun, TakenRun, lines_of, made_of, moves_by, over, rule_by, seen_by}
use Rattle.cli_time.specs.Runs.{PutsMoves, PutsRun}
use Rattle.cli_time.specs.declared.choices.RunChoices.{RunChoices}
use Rattle.cli_time.specs.declared.measuring.Measured.{Measured}
use Rattle.run_options.specs.declared.time_show.TimeShow.{TimeShow}
use Rattle.run_options.specs.declared.time_show.TimeShow.TheVariants as shows

-- a count that is always 0 does not rise
never-rises : (u : Unit {0}) (r : Result (Unit {0}) (Unit {0})) → r ≡ Err u → HasCause 0 0 r → ⊥
never-rises u (Ok v) e h = absurd (cc)
never-rises u (Err v) e h = let rose = h.rose in absurd (omega (arith, rose))

-- a run whose input and output cannot fail ends as the sequential machine does
as-machine : (limit : ℕ) (hart : Hart) (begin new : RunPlace) (answer : Timed) →
    HasCauses 0 0 0 0 (Some (answer_of_timed answer)) →
    EndsAlike limit hart begin new (Ran (answer_of_timed answer)) → EndsAsMachine limit hart begin new (answer_of_timed answer)
as-machine limit hart begin new (timed.Exit status) causes h = h
as-machine limit hart begin new (timed.Trap cause pc detail) causes h = h
as-machine limit hart begin new timed.Limit causes h = h
as-machine limit hart begin new timed.ReadFault causes h = absurd (never-rises tt (Err tt) refl causes.of_input)
as-machine limit hart begin new timed.WriteFault causes h = absurd (never-rises tt (Err tt) refl causes.of_output)

-- the maximum time is the latest of the moves
time-told : (rule : DelayRule) (core : Processor) (trace : List Made) (clock : SiteTimes) →
    ClockKnows core.plan rule (timed_moves core.plan rule (visits_of core.state trace)) clock →
    clock.latest ≡ greatest_time (moves_with_times core.plan (moves_by rule core.plan core trace))
unfolding moves_with_times timed_after delays_of
time-told rule core trace clock told = told.latest_is

-- so this was measured of an opened processor
pub takes : (rule : DelayRule) (options : RunChoices) (core last : Processor) (bytes left : List ℕ) (clock : SiteTimes) (measured : Measured) (shown : List ℕ) →
    (runs : RunsTimed options.rule rule options.limit (begins core (over bytes)) last (over left) clock measured.moves measured.answer) →
    measured.time ≡ clock.latest → measured.retired ≡ last.state.retired →
    measured.moves ≤ most_moves core.plan (last.state.retired - core.state.retired) →
    measured.sites ≡ made_of options.show core.plan (seen_by rule core.plan core runs.right.runs.reaches.trace) →
    shown ≡ lines_of options.show rule (begins core (over bytes)) runs.right.runs.reaches.trace →
    MeasuresRun rule options core.plan core bytes (record { measured = measured; shown = shown })
takes rule options core last bytes left clock measured shown runs time retired bounded sites lines = record {
  last = last;
  left = left;
  clock = clock;
  runs = runs;
  time_is = time ∙ time-told rule core runs.right.runs.reaches.trace clock runs.told;
  retired_is = retired;
  bounded = bounded;
  sites_are = sites;
  shown_is = lines;
}

-- nothing was shown
pub takes-time : (rule : DelayRule) (options : RunChoices) (core last : Processor) (bytes left : List ℕ) (clock : SiteTimes) (measured : Measured) →
    options.show ≡ shows.Nothing →
    RunsTimed options.rule rule options.limit (begins core (over bytes)) last (over left) clock measured.moves measured.answer →
    measured.time ≡ clock.latest → measured.retired ≡ last.state.retired →
    measured.moves ≤ most_moves core.plan (last.state.retired - core.state.retired) → measured.sites ≡ None →
    MeasuresRun rule options core.plan core bytes (record { measured = measured; shown = [] })
takes-time rule options core last bytes left clock measured shown runs time retired bounded none =
    takes rule options core last bytes left clock measured [] runs time retired bounded
    (none ∙ ap (λ (show : TimeShow). made_of show core.plan (seen_by rule core.plan core runs.right.runs.reaches.trace)) (sym shown))
    (ap (λ (show : TimeShow). lines_of show rule (begins core (over bytes)) runs.right.runs.reaches.trace) (sym shown))

-- the ledger reports on the same run
pub takes-sites : (rule : DelayRule) (options : RunChoices) (core last : Processor) (bytes left : List ℕ) (clock : SiteTimes) (ledger : RunLedger)
    (measured : Measured)
    (made : Breakdown) → options.show ≡ shows.Sites →
    RunsNoted options.rule rule options.limit (begins core (over bytes)) last (over left) clock ledger measured.moves measured.answer →
    measured.time ≡ clock.latest → measured.retired ≡ last.state.retired →
    measured.moves ≤ most_moves core.plan (last.state.retired - core.state.retired) → measured.sites ≡ Some made → made ≡ breakdown_in ledger →
    MeasuresRun rule options core.plan core bytes (record { measured = measured; shown = [] })
takes-sites rule options core last bytes left clock ledger measured made shown noted time retired bounded some told =
    takes rule options core last bytes left clock measured [] noted.timed time retired bounded
    (some ∙ ap Some (told ∙ noted.tells)
    ∙ ap (λ (show : TimeShow). made_of show core.plan (seen_by rule core.plan core noted.timed.right.runs.reaches.trace)) (sym shown))
    (ap (λ (show : TimeShow). lines_of show rule (begins core (over bytes)) noted.timed.right.runs.reaches.trace) (sym shown))

-- the moves were shown
pub takes-moves : (rule : DelayRule) (options : RunChoices) (core last : Processor) (bytes left : List ℕ) (clock : SiteTimes) (blank full : Option (List ℕ))
    (measured : Measured) →
    options.show ≡ shows.Moves →
    RunsShown options.rule rule options.limit (begins core (over bytes)) last (over left) clock blank full measured.moves measured.answer →
    measured.time ≡ clock.latest → measured.retired ≡ last.state.retired →
    measured.moves ≤ most_moves core.plan (last.state.retired - core.state.retired) → measured.sites ≡ None →
    PutsRun rule options core.plan core bytes blank full measured
takes-moves rule options core last bytes left clock blank full measured shown runs time retired bounded none =
    let trace : List Made = runs.run.right.runs.reaches.trace in
    record {
      shown = timed_lines_from (begins core (over bytes)) rule trace;
      takes = takes rule options core last bytes left clock measured (timed_lines_from (begins core (over bytes)) rule trace) runs.run time retired bounded
          (none ∙ ap (λ (show : TimeShow). made_of show core.plan (seen_by rule core.plan core trace)) (sym shown))
          (ap (λ (show : TimeShow). lines_of show rule (begins core (over bytes)) trace) (sym shown));
      put = runs.put;
    }

-- a run whose moves are not shown
pub puts-nothing : (rule : DelayRule) (options : RunChoices) (plan : Plan) (core : Processor) (bytes : List ℕ) (blank : Option (List ℕ)) (measured : Measured) →
    MeasuresRun rule options plan core bytes (record { measured = measured; shown = [] }) → PutsRun rule options plan core bytes blank blank measured
puts-nothing rule options plan core bytes blank measured taken = record { shown = []; takes = taken; put = writes-nothing blank }

-- and so it was measured
of-opened : (delays : List Span) (options : RunChoices) (plan : Plan) (start : Machine) (taken : TakenRun) →
    MeasuresRun (rule_by delays options) options plan (opened_processor plan start.hart) start.rest taken →
    HasCauses 0 0 0 0 (Some (answer_of_timed taken.measured.answer)) →
    Measures delays options plan start taken
unfolding EndsSequentially opened_processor
of-opened delays options plan start taken takes causes = record {
  takes = takes;
  longest = rw takes.time_is (longest plan (moves_by (rule_by delays options) plan (opened_processor plan start.hart) takes.runs.right.runs.reaches.trace));
  machine = as-machine options.limit start.hart (begins (opened_processor plan start.hart) (over start.rest))
      (run_place_of takes.last (over takes.left) None takes.runs.tally) taken.measured.answer causes (takes.runs.ends plan start.hart refl);
}

opened-plan : (core : Processor) (plan : Plan) (hart : Hart) → core ≡ opened_processor plan hart → core.plan ≡ plan
unfolding opened_processor
opened-plan core plan hart is = ap (λ (p : Processor). p.plan) is

pub measures : (used : DelayRule) (delays : List Span) (options : RunChoices) (core : Processor) (plan : Plan) (start : Machine)
    (blank full : Option (List ℕ)) (measured : Measured) → used ≡ rule_by delays options → core ≡ opened_processor plan start.hart →
    PutsRun used options core.plan core start.rest blank full measured → HasCauses 0 0 0 0 (Some (answer_of_timed measured.answer)) →
    PutsMoves delays options plan start blank full measured
measures used delays options core plan start blank full measured same is puts causes =
    let there : PutsRun (rule_by delays options) options plan (opened_processor plan start.hart) start.rest blank full measured =
    subst (λ (r : DelayRule). PutsRun r options plan (opened_processor plan start.hart) start.rest blank full measured) same
    (subst (λ (p : Processor). PutsRun used options plan p start.rest blank full measured) is
    (subst (λ (l : Plan). PutsRun used options l core start.rest blank full measured) (opened-plan core plan start.hart is) puts)) in
    record { shown = there.shown; measures = of-opened delays options plan start _ there.takes causes; put = there.put }

-- or its report failed
pub breaks : (used : DelayRule) (delays : List Span) (options : RunChoices) (core : Processor) (plan : Plan) (start : Machine)
    (blank full : Option (List ℕ)) → used ≡ rule_by delays options → core ≡ opened_processor plan start.hart →
    BreaksTaking used options core start.rest blank full → BreaksTaking (rule_by delays options) options (opened_processor plan start.hart) start.rest blank
    full
breaks used delays options core plan start blank full same is h =
    subst (λ (r : DelayRule). BreaksTaking r options (opened_processor plan start.hart) start.rest blank full) same
    (subst (λ (p : Processor). BreaksTaking used options p start.rest blank full) is h)

-- the clock is a clock of the processor's layout and of the delays, and has seen no move
pub clock-rule : (plan : Plan) (rule : DelayRule) (clock : SiteTimes) → clock ≡ started plan rule → rule_of_clock clock ≡ rule
unfolding started drawn_from
clock-rule plan rule clock e = ap rule_of_clock e

clock-started : (core : Processor) (plan : Plan) (hart : Hart) (rule : DelayRule) (clock : SiteTimes) →
    core ≡ opened_processor plan hart → clock ≡ started plan rule → clock ≡ started core.plan (rule_of_clock clock)
clock-started core plan hart rule clock is e =
    e ∙ ap (λ (l : Plan). started l rule) (sym (opened-plan core plan hart is)) ∙ ap (started core.plan) (sym (clock-rule plan rule clock e))

-- so a timed run may begin
pub can-begin : (limit : ℕ) (core : Processor) (plan : Plan) (hart : Hart) (rule : DelayRule) (clock : SiteTimes) →
    limit ≤ most_timed_limit → hart.retired ≡ 0 → core ≡ opened_processor plan hart → clock ≡ started plan rule → CanBegin limit core clock
can-begin limit core plan hart rule clock few none is begun = record {
  can_run = record { can_run = can-run limit core plan hart (omega (arith, few)) none is; few = few };
  clock_is = clock-started core plan hart rule clock is begun;
}
