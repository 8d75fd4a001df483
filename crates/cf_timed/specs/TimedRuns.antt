-- A timed run: the moves that finish earliest, one after another, and what the clock knows about them.
use Rattle.std.specs.Prelude.{◌≡◌, ◌≤◌, ◌-◌, ℕ, List, [], Option, Some, None, Result, Ok, Err}
use Rattle.run_options.specs.declared.guess_rule.GuessRule.{GuessRule}
use Rattle.run_options.specs.Limits.{most_timed_limit}
use Rattle.run_options.specs.Reportings as show
use Rattle.cf_io.specs.Causes.{HasCause}
use Rattle.cf_io.specs.Puts.{Writes, WritesFront}
use Rattle.cf_io.specs.declared.failed.Failed.{Failed}
use Rattle.rv_machine.specs.Streams.{Streams}
use Rattle.cf_semantics.specs.state.State.{State}
use Rattle.cf_core.specs.Processors.{Processor}
use Rattle.cf_report.specs.declared.tally.Tally.{Tally}
use Rattle.run_finishes.specs.declared.finish.Ran.{Ran as Answer}
use Rattle.run_finishes.specs.declared.finish.Ran.TheVariants as ran
use Rattle.run_finishes.specs.declared.finish.Scripted.TheVariants.{Ran}
use Rattle.run_finishes.specs.Stopped.{input_stopped, output_stopped}
use Rattle.cf_run.specs.Ending.{EndsSequentially}
use Rattle.cf_run.specs.Headline.{RunsSequentially}
use Rattle.cf_run.specs.Made.{Made, moves_of}
use Rattle.cf_run.specs.Moving.{RunPlace, run_place_of}
use Rattle.cf_run.specs.Policies.{CanRun, Chooser, Picks, RunsRight, first_pick, fresh_chooser, later_picks, most_moves}
use Rattle.cf_run.specs.Reaching.{Reaches, no_tally}
use Rattle.cf_timed.specs.declared.answer.Timed.{Timed}
use Rattle.cf_timed.specs.declared.answer.TimedRun.{TimedRun}
use Rattle.cf_timed.specs.declared.answer.Timed.TheVariants.{Exit, Trap, Limit, ReadFault, WriteFault}
use Rattle.cf_timed.specs.declared.timed_move.TimedMove.{TimedMove}
use Rattle.cf_timed.specs.Clocks.{SiteTimes, ClockKnows, rule_of_clock, started}
use Rattle.cf_timed.specs.DelayedRuns.{DelayRule, timed_visits, visits_of}
use Rattle.cf_timed.specs.Earliest.{AreEarliest, TimedTurn}
use Rattle.cf_timed.specs.MoveLines.{timed_move_lines}
use Rattle.cf_timed.specs.Watching.{watched, watched_text}

-- the answer of a timed run as that of any run
abbrev pub answer_of_timed : Timed → Answer
answer_of_timed (Exit status) = ran.Exit status
answer_of_timed (Trap cause pc detail) = ran.Trap cause pc detail
answer_of_timed Limit = ran.Limit
answer_of_timed ReadFault = ran.ReadFault
answer_of_timed WriteFault = ran.WriteFault

-- a run may begin, with a limit so small that no time exceeds 62 bits
pub record CanRunTimed (limit : ℕ) (core : Processor) : Type 0 where
  pub can_run : CanRun limit core
  pub few : limit ≤ most_timed_limit

-- a timed run may begin: a run may begin, and the clock has recorded no move
pub record CanBegin (limit : ℕ) (core : Processor) (clock : SiteTimes) : Type 0 where
  pub can_run : CanRunTimed limit core
  pub clock_is : clock ≡ started core.plan (rule_of_clock clock)

-- the counts of the faults of the input and of the output, before and after: the count of the one that failed the run
-- rose
pub record HasCauses (input input_after output output_after : ℕ) (answer : Option Answer) : Type 0 where
  pub of_input : HasCause input input_after (input_stopped answer)
  pub of_output : HasCause output output_after (output_stopped answer)

-- the beginning of a timed run that reports nothing
abbrev pub begins : Processor → Streams → RunPlace
begins core streams = run_place_of core streams None no_tally

-- no move was made yet
abbrev pub timed_start : State → TimedTurn
timed_start s = record { count = 0; state = s; earlier = [] }

-- from there the run makes, of the moves that its guess rule offers, the one that finishes earliest, and it is a run of
-- the sequential machine; this many moves were made, and the clock has recorded exactly these
pub record RunsTimed (r : GuessRule) (rule : DelayRule) (limit : ℕ) (begin : RunPlace) (core : Processor) (streams : Streams) (clock : SiteTimes)
    (moves : ℕ) (answer : Timed) : Type 0 where
  pub tally : Tally
  pub counted : tally.moves ≡ moves
  -- its picks, each by its index among the offered moves
  pub picks : List ℕ
  pub right : RunsRight r first_pick later_picks limit show.report begin (run_place_of core streams None tally) picks [] (answer_of_timed answer)
  pub are_earliest : AreEarliest r begin.core.plan rule (timed_start begin.core.state) picks right.runs.reaches.trace
  pub told : ClockKnows begin.core.plan rule (timed_visits begin.core.plan rule (visits_of begin.core.state right.runs.reaches.trace)) clock
  -- it ends as the sequential machine does under the same limit
  pub ends : EndsSequentially limit begin (run_place_of core streams None tally) (Ran (answer_of_timed answer))

-- it is such a run, and a watcher has noted each move of it and written about each, given how it notes a move and what
-- it writes about it; `blank` and `full` are what the report exposed before and after
pub record RunsWatched {W : Type 0} (noted : W → Made → TimedMove → W) (text : W → Made → TimedMove → List ℕ) (r : GuessRule) (rule : DelayRule) (limit : ℕ)
    (begin : RunPlace) (core : Processor) (streams : Streams) (clock : SiteTimes) (first later : W) (blank full : Option (List ℕ)) (moves : ℕ)
    (answer : Timed) : Type 0 where
  pub run : RunsTimed r rule limit begin core streams clock moves answer
  pub noted_all : later ≡ watched noted begin.core.plan rule (timed_start begin.core.state) first run.right.runs.reaches.trace
  pub put : Writes blank full (watched_text noted text begin.core.plan rule (timed_start begin.core.state) first run.right.runs.reaches.trace)

-- the report failed after a move of such a run: a part of this text about its moves so far was written; with these
-- moves it is a run of the sequential machine, and there are at most a stated number of them
pub record BreaksTimed (text : List Made → List ℕ) (r : GuessRule) (rule : DelayRule) (limit : ℕ) (begin : RunPlace) (blank full : Option (List ℕ)) : Type 0
  where
    pub now : RunPlace
    pub reached : Reaches limit show.report begin now
    pub picks : List ℕ
    pub last : Chooser (List ℕ)
    pub picked : Picks first_pick later_picks begin.core.plan (fresh_chooser r picks) begin.core.state reached.trace last
    pub are_earliest : AreEarliest r begin.core.plan rule (timed_start begin.core.state) picks reached.trace
    pub sequential : RunsSequentially show.report (moves_of reached.trace) begin now (Ran ran.ReportFault)
    pub bounded : now.tally.moves ≤ most_moves begin.core.plan (now.core.state.retired - begin.core.state.retired)
    pub front : WritesFront blank full (text reached.trace)

-- the text is what a watcher writes
abbrev pub BreaksWatched : {W : Type 0} → (noted : W → Made → TimedMove → W) → (text : W → Made → TimedMove → List ℕ) → GuessRule → DelayRule → ℕ →
    RunPlace → W → (blank full : Option (List ℕ)) → Type 0
BreaksWatched noted text r rule limit begin first blank full =
    BreaksTimed (watched_text noted text begin.core.plan rule (timed_start begin.core.state) first) r rule limit begin blank full

-- a watched run comes to its end, or its report fails
abbrev pub GoesWatched : {W : Type 0} → (noted : W → Made → TimedMove → W) → (text : W → Made → TimedMove → List ℕ) → GuessRule → DelayRule → ℕ →
    RunPlace → Processor → Streams → SiteTimes → (first later : W) → (blank full : Option (List ℕ)) → Result TimedRun Failed → Type 0
GoesWatched noted text r rule limit begin core streams clock first later blank full (Ok run) =
    RunsWatched noted text r rule limit begin core streams clock first later blank full run.moves run.answer
GoesWatched noted text r rule limit begin core streams clock first later blank full (Err failed) =
    BreaksWatched noted text r rule limit begin first blank full

-- the lines of the moves of a run from its start
abbrev pub timed_lines_from : RunPlace → DelayRule → List Made → List ℕ
timed_lines_from begin rule trace = timed_move_lines 1 begin.core.plan rule (timed_start begin.core.state) trace

-- a timed run whose moves have their lines
pub record RunsShown (r : GuessRule) (rule : DelayRule) (limit : ℕ) (begin : RunPlace) (core : Processor) (streams : Streams) (clock : SiteTimes)
    (blank full : Option (List ℕ)) (moves : ℕ) (answer : Timed) : Type 0 where
  pub run : RunsTimed r rule limit begin core streams clock moves answer
  pub put : Writes blank full (timed_lines_from begin rule run.right.runs.reaches.trace)

-- it comes to its end, or its report fails
abbrev pub GoesShown : GuessRule → DelayRule → ℕ → RunPlace → Processor → Streams → SiteTimes → (blank full : Option (List ℕ)) → Result TimedRun Failed → Type 0
GoesShown r rule limit begin core streams clock blank full (Ok run) = RunsShown r rule limit begin core streams clock blank full run.moves run.answer
GoesShown r rule limit begin core streams clock blank full (Err failed) = BreaksTimed (timed_lines_from begin rule) r rule limit begin blank full

-- its answer, if it came to its end
abbrev pub answer_at_end : Result TimedRun Failed → Option Answer
answer_at_end (Ok run) = Some (answer_of_timed run.answer)
answer_at_end (Err failed) = None
