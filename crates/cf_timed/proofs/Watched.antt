-- A timed run that is watched: what the watcher has noted and written, one more move, and the run once it stops.
use Rattle.std.proofs.Common.{◌≡◌, ◌∙◌, refl, sym, ap, subst, ℕ, ◌≤◌, List, [], Option, None, length}
use Rattle.std.specs.Prelude.{Result, Ok, Err}
use Rattle.std.specs.Result.{IsErr}
use Rattle.std.proofs.lemmas.Bool.{false≢true}
use Rattle.cf_io.specs.declared.failed.Failed.{Failed}
use Rattle.run_options.specs.declared.guess_rule.GuessRule.{GuessRule}
use Rattle.run_options.specs.Reportings as show
use Rattle.cf_io.specs.Puts.{Writes, WritesFront}
use Rattle.cf_report.proofs.Parts.{part-whole}
use Rattle.cf_io.proofs.Owing.{front-again, writes-again, writes-nothing}
use Rattle.cf_layout.specs.Accepted.{IsAccepted}
use Rattle.cf_layout.specs.Layout.{Plan}
use Rattle.cf_core.specs.Processors.{Processor}
use Rattle.rv_machine.specs.Streams.{Streams}
use Rattle.cf_report.specs.declared.tally.Tally.{Tally}
use Rattle.run_finishes.specs.declared.finish.Ran.{Ran as Answer}
use Rattle.run_finishes.specs.declared.finish.Ran.TheVariants as ran
use Rattle.run_finishes.specs.declared.finish.Scripted.TheVariants.{Ran}
use Rattle.cf_run.specs.Headline.{Gets, RunsSequentially, StopsAt}
use Rattle.cf_run.specs.Made.{Made, moves_of}
use Rattle.cf_run.specs.Moving.{RunPlace, run_place_of}
use Rattle.cf_run.specs.Policies.{chooser, first_pick, later_picks}
use Rattle.cf_run.specs.Reaching.{Reaches, no_tally}
use Rattle.cf_run.proofs.Bounds.{reached-bounded}
use Rattle.cf_run.proofs.Headline.{comes_sequentially}
use Rattle.cf_run.proofs.Stopping.{comes_here}
use Rattle.cf_sched.specs.Paces.{stopped}
use Rattle.cf_timed.specs.declared.answer.Timed.{Timed}
use Rattle.cf_timed.specs.declared.answer.TimedRun.{TimedRun}
use Rattle.cf_timed.specs.declared.step.TimedStep.{TimedStep}
use Rattle.cf_timed.specs.declared.timed_move.TimedMove.{TimedMove}
use Rattle.cf_timed.specs.Arrivals.{ComesTimed, IsBegun}
use Rattle.cf_timed.specs.Clocks.{SiteTimes, started}
use Rattle.cf_timed.specs.DelayedRuns.{DelayRule}
use Rattle.cf_timed.specs.Earliest.{TimedTurn}
use Rattle.cf_timed.specs.TimedRuns.{BreaksWatched, GoesWatched, RunsWatched, answer_of_timed, begins, timed_start}
use Rattle.cf_timed.specs.Turns.{MakesEarliest, StopsEarliest, made_as}
use Rattle.cf_timed.specs.Watching.{watched, watched_text}
use Rattle.cf_timed.proofs.Arriving.{text-more, watcher-more}
use Rattle.cf_timed.proofs.Running.{first-trace, ends-trace, run-trace, runs-timed, step-done, timed-ends, timed-first, timed-more, trace-more}

-- what the watcher has noted of some moves, and written about them
pub record HasWatched {W : Type 0} (noted : W → Made → TimedMove → W) (text : W → Made → TimedMove → List ℕ) (plan : Plan) (rule : DelayRule)
    (begin : TimedTurn)
    (first watcher : W) (blank full : Option (List ℕ)) (trace : List Made) : Type 0 where
  pub watcher_is : watcher ≡ watched noted plan rule begin first trace
  pub put : Writes blank full (watched_text noted text plan rule begin first trace)

-- how far the run has come, and what its watcher has noted and written
pub record ComesWatched {W : Type 0} (noted : W → Made → TimedMove → W) (text : W → Made → TimedMove → List ℕ) (r : GuessRule) (rule : DelayRule)
    (limit : ℕ) (begin now : RunPlace) (clock : SiteTimes) (first watcher : W) (blank full : Option (List ℕ)) (held : ℕ) : Type 0 where
  pub comes : ComesTimed r rule limit begin now clock held
  pub watches : HasWatched noted text begin.core.plan rule (timed_start begin.core.state) first watcher blank full comes.reached.trace

none-watched : {W : Type 0} (noted : W → Made → TimedMove → W) (text : W → Made → TimedMove → List ℕ) (plan : Plan) (rule : DelayRule) (begin : TimedTurn)
    (first : W) (blank : Option (List ℕ)) → HasWatched noted text plan rule begin first first blank blank []
unfolding watched watched_text
none-watched noted text plan rule begin first blank = record { watcher_is = refl; put = writes-nothing blank }

pub watched-first : {W : Type 0} (noted : W → Made → TimedMove → W) (text : W → Made → TimedMove → List ℕ) (r : GuessRule) (rule : DelayRule) (limit : ℕ)
    (begin : RunPlace) (clock : SiteTimes) (first : W) (blank : Option (List ℕ)) (held stages : ℕ) → begin.tally ≡ no_tally →
    clock ≡ started begin.core.plan rule → stages ≡ begin.core.plan.stages → held ≡ stopped stages 0 →
    ComesWatched noted text r rule limit begin begin clock first first blank blank held
watched-first noted text r rule limit begin clock first blank held stages none begun beside zero_held = record {
  comes = timed-first r rule limit begin clock held stages none begun beside zero_held;
  watches = subst (HasWatched noted text begin.core.plan rule (timed_start begin.core.state) first first blank blank)
      (sym (first-trace r rule limit begin clock held stages none begun beside zero_held))
      (none-watched noted text begin.core.plan rule (timed_start begin.core.state) first blank);
}

-- one more move
pub watched-more : {W : Type 0} (noted : W → Made → TimedMove → W) (text : W → Made → TimedMove → List ℕ) (r : GuessRule) (rule : DelayRule) (limit : ℕ)
    (begin now new : RunPlace) (clock after : SiteTimes) (step : TimedStep) (first watcher next : W) (blank told full : Option (List ℕ)) (held later : ℕ) →
    IsBegun rule limit begin → ComesWatched noted text r rule limit begin now clock first watcher blank told held → now.core.state.retired ≤ limit →
    MakesEarliest limit r now new held later clock after step → next ≡ noted watcher (made_as step.done.mv step.event new.core.state) step.done →
    Writes told full (text watcher (made_as step.done.mv step.event new.core.state) step.done) →
    ComesWatched noted text r rule limit begin new after first next blank full later
watched-more noted text r rule limit begin now new clock after step first watcher next blank told full held later b c within m next_is puts =
    let plan : Plan = begin.core.plan in
    let t : TimedTurn = timed_start begin.core.state in
    let made : Made = made_as step.done.mv step.event new.core.state in
    let trace : List Made = c.comes.reached.trace in
    let done_is = step-done r rule limit begin now new clock after step held later b c.comes within m in
    record {
      comes = timed-more r rule limit begin now new clock after step held later b c.comes within m;
      watches = subst (HasWatched noted text plan rule t first next blank full)
          (sym (trace-more r rule limit begin now new clock after step held later b c.comes within m)) (record {
            watcher_is = watcher-more noted plan rule t c.comes.turn first watcher next trace made step.done c.comes.so_far.turn_is done_is c.watches.watcher_is
                next_is;
            put = subst (Writes blank full)
                (sym (text-more noted text plan rule t c.comes.turn first watcher trace made step.done c.comes.so_far.turn_is done_is c.watches.watcher_is))
                (writes-again blank told full (watched_text noted text plan rule t first trace) (text watcher made step.done) c.watches.put puts);
          });
    }

-- a run that its report stops is one of the sequential machine
breaks_sequentially : (limit : ℕ) (begin new : RunPlace) → IsAccepted begin.core.plan → length begin.core.state.regs ≡ 32 →
    (h : Reaches limit show.report begin new) → RunsSequentially show.report (moves_of h.trace) begin new (Ran ran.ReportFault)
unfolding StopsAt Gets
breaks_sequentially limit begin new accepted wide h =
    comes_sequentially limit show.report begin new (moves_of h.trace) (Ran ran.ReportFault) accepted wide
    (comes_here limit show.report begin new new (Ran ran.ReportFault) h refl (λ x m s. s)
    (λ text w. part-whole begin.report new.report text w))

-- or the report failed after it
pub watched-breaks : {W : Type 0} (noted : W → Made → TimedMove → W) (text : W → Made → TimedMove → List ℕ) (r : GuessRule) (rule : DelayRule) (limit : ℕ)
    (begin now new : RunPlace) (clock after : SiteTimes) (step : TimedStep) (first watcher : W) (blank told full : Option (List ℕ)) (held later : ℕ) →
    IsBegun rule limit begin → ComesWatched noted text r rule limit begin now clock first watcher blank told held →
    now.core.state.retired ≤ limit → MakesEarliest limit r now new held later clock after step →
    WritesFront told full (text watcher (made_as step.done.mv step.event new.core.state) step.done) →
    BreaksWatched noted text r rule limit begin first blank full
watched-breaks noted text r rule limit begin now new clock after step first watcher blank told full held later b c within m front =
    let plan : Plan = begin.core.plan in
    let t : TimedTurn = timed_start begin.core.state in
    let made : Made = made_as step.done.mv step.event new.core.state in
    let trace : List Made = c.comes.reached.trace in
    let done_is = step-done r rule limit begin now new clock after step held later b c.comes within m in
    let more = timed-more r rule limit begin now new clock after step held later b c.comes within m in
    record {
      now = new;
      reached = more.reached;
      picks = more.picks;
      last = chooser r [] more.turn.count;
      picked = more.picked;
      are_earliest = more.so_far.are_earliest;
      sequential = breaks_sequentially limit begin new b.accepted b.wide more.reached;
      bounded = reached-bounded r first_pick later_picks limit show.report begin new more.picks (chooser r [] more.turn.count) b.accepted b.wide b.is_opened
          more.reached more.picked;
      front = subst (λ (l : List Made). WritesFront blank full (watched_text noted text plan rule t first l))
          (sym (trace-more r rule limit begin now new clock after step held later b c.comes within m))
          (subst (WritesFront blank full)
          (sym (text-more noted text plan rule t c.comes.turn first watcher trace made step.done c.comes.so_far.turn_is done_is c.watches.watcher_is))
          (front-again blank told full (watched_text noted text plan rule t first trace) (text watcher made step.done) c.watches.put front));
    }

-- or the run stops there
pub runs-watched : {W : Type 0} (noted : W → Made → TimedMove → W) (text : W → Made → TimedMove → List ℕ) (r : GuessRule) (rule : DelayRule) (limit : ℕ)
    (core new : Processor) (before after : Streams) (now : RunPlace) (tally : Tally) (clock last : SiteTimes) (first watcher : W)
    (blank full : Option (List ℕ)) (held : ℕ) (answer : Answer) (timed : Timed) → IsBegun rule limit (begins core before) →
    ComesWatched noted text r rule limit (begins core before) now clock first watcher blank full held → now.core.state.retired ≤ limit →
    StopsEarliest limit r now (run_place_of new after None tally) held clock answer → answer_of_timed timed ≡ answer → last ≡ clock →
    RunsWatched noted text r rule limit (begins core before) new after last first watcher blank full tally.moves timed
runs-watched noted text r rule limit core new before after now tally clock last first watcher blank full held answer timed b c within stops same clock_is =
    let begin : RunPlace = begins core before in
    let place : RunPlace = run_place_of new after None tally in
    let stops_so : StopsEarliest limit r now place held clock (answer_of_timed timed) =
    subst (λ (a : Answer). StopsEarliest limit r now place held clock a) (sym same) stops in
    let ends = timed-ends r rule limit begin now place clock held (answer_of_timed timed) b c.comes within stops_so in
    let trace_is = ends-trace r rule limit begin now place clock held (answer_of_timed timed) b c.comes within stops_so in
    let run = runs-timed r rule limit core new before after tally clock last timed b ends clock_is in
    let run_is : run.right.runs.reaches.trace ≡ c.comes.reached.trace =
    run-trace r rule limit core new before after tally clock last timed b ends clock_is ∙ trace_is in
    record {
      run = run;
      noted_all = c.watches.watcher_is ∙ ap (watched noted core.plan rule (timed_start core.state) first) (sym run_is);
      put = subst (λ (l : List Made). Writes blank full (watched_text noted text core.plan rule (timed_start core.state) first l)) (sym run_is) c.watches.put;
    }

-- the run came to its end, or its report failed
pub goes-broken : {W : Type 0} (noted : W → Made → TimedMove → W) (text : W → Made → TimedMove → List ℕ) (r : GuessRule) (rule : DelayRule) (limit : ℕ)
    (begin : RunPlace) (core : Processor) (streams : Streams) (clock : SiteTimes) (first later : W) (blank full : Option (List ℕ))
    (result : Result TimedRun Failed) → IsErr result → BreaksWatched noted text r rule limit begin first blank full →
    GoesWatched noted text r rule limit begin core streams clock first later blank full result
goes-broken noted text r rule limit begin core streams clock first later blank full (Ok run) failed h = absurd (false≢true failed)
goes-broken noted text r rule limit begin core streams clock first later blank full (Err e) failed h = h
