-- Where a timed run has arrived: the moves so far are those that finish earliest, and the clock has recorded them.
use Rattle.std.specs.Prelude.{◌≡◌, ◌<◌, ◌≤◌, ◌*◌, ℕ, Bool, List, [], ◌∷◌, Option, Some, None, filter, length}
use Rattle.run_options.specs.Limits.{most_timed_limit}
use Rattle.run_options.specs.Reportings as show
use Rattle.run_options.specs.declared.guess_rule.GuessRule.{GuessRule}
use Rattle.rv_machine.specs.Streams.{Streams}
use Rattle.cf_layout.specs.Accepted.{IsAccepted}
use Rattle.cf_layout.specs.Layout.{Plan}
use Rattle.cf_semantics.specs.moves.Sites.{Site}
use Rattle.cf_core.specs.Processors.{IsOpened, Processor}
use Rattle.cf_index.specs.Sites.{uses_place}
use Rattle.cf_report.specs.declared.tally.Tally.{Tally}
use Rattle.cf_sched.specs.Paces.{PaceCount, stopped}
use Rattle.cf_run.specs.Made.{Made}
use Rattle.cf_run.specs.Moving.{RunPlace, run_place_of}
use Rattle.cf_run.specs.Policies.{Picks, chooser, first_pick, fresh_chooser, later_picks}
use Rattle.cf_run.specs.Reaching.{Reaches}
use Rattle.cf_timed.specs.declared.draws.DelayDraws.{DelayDraws}
use Rattle.cf_timed.specs.declared.timed_move.TimedMove.{TimedMove}
use Rattle.cf_timed.specs.Clocks.{HasRoom, IsKept, SiteTimes, rule_of_clock, time_at}
use Rattle.cf_timed.specs.DelayedRuns.{DelayRule, drawn_before}
use Rattle.cf_timed.specs.Delays.{AreDelays}
use Rattle.cf_timed.specs.Drawing.{generator, stream_count}
use Rattle.cf_timed.specs.Earliest.{AreEarliest, TimedTurn, after_turn}
use Rattle.cf_timed.specs.Numbers.{number_at}
use Rattle.cf_timed.specs.TimedRuns.{timed_start}
use Rattle.cf_timed.specs.Times.{greatest_time}

-- the state of each stream is that after as many words as moves drew from it
abbrev pub HasDrawnWords : Option ℕ → List TimedMove → DelayDraws → Type 0
HasDrawnWords None moves draws = draws.seed ≡ None
HasDrawnWords (Some seed) moves draws = record {
  seeded : draws.seed ≡ Some seed;
  size : length draws.states ≡ stream_count;
  states : (stream : ℕ) → stream < stream_count → number_at draws.states stream ≡ (generator seed stream (drawn_before stream moves)).state;
}

-- the maximum time of the moves that pass a test
abbrev pub greatest_where : (TimedMove → Bool) → List TimedMove → ℕ
greatest_where test moves = greatest_time (filter test moves)

-- the maximum time of the moves that use the site
abbrev pub last_at : Plan → List TimedMove → Site → ℕ
last_at plan moves x = greatest_where (λ done. uses_place plan done.mv x) moves

-- the clock has recorded the moves
pub record ClockFollows (plan : Plan) (rule : DelayRule) (moves : List TimedMove) (c : SiteTimes) : Type 0 where
  pub plan_is : c.plan ≡ plan
  pub rule_is : rule_of_clock c ≡ rule
  pub drawn : HasDrawnWords rule.seed moves c.draws
  pub room : HasRoom c
  pub latest_is : c.latest ≡ greatest_time moves
  pub times_are : (x : Site) → IsKept x → time_at c x ≡ last_at plan moves x

-- the state of a run after some moves
abbrev pub turn_after : Plan → DelayRule → TimedTurn → List Made → TimedTurn
turn_after plan rule t [] = t
turn_after plan rule t (made ∷ trace) = turn_after plan rule (after_turn plan rule t made) trace

-- the moves so far, made by these picks, lead to this turn, and the clock has recorded them
pub record SoFar (r : GuessRule) (plan : Plan) (rule : DelayRule) (begin : TimedTurn) (picks : List ℕ) (trace : List Made) (turn : TimedTurn)
    (clock : SiteTimes) : Type 0 where
  pub turn_is : turn ≡ turn_after plan rule begin trace
  pub are_earliest : AreEarliest r plan rule begin picks trace
  pub size : length picks ≡ length trace
  pub follows : ClockFollows plan rule turn.earlier clock
  pub early : greatest_time turn.earlier ≤ 1000 * length trace

-- the picks so far lead from one place to another, and the clock has recorded what was made
pub record ComesTimed (r : GuessRule) (rule : DelayRule) (limit : ℕ) (begin now : RunPlace)
    (clock : SiteTimes) (held : ℕ) : Type 0 where
  pub reached : Reaches limit show.report begin now
  pub picks : List ℕ
  pub turn : TimedTurn
  pub picked : Picks first_pick later_picks begin.core.plan (fresh_chooser r picks) begin.core.state reached.trace (chooser r [] turn.count)
  pub so_far : SoFar r begin.core.plan rule (timed_start begin.core.state) picks reached.trace turn clock
  pub held_is : held ≡ stopped begin.core.plan.stages turn.count
  pub state_is : now.core.state ≡ turn.state

-- a run that has begun properly
pub record IsBegun (rule : DelayRule) (limit : ℕ) (begin : RunPlace) : Type 0 where
  pub accepted : IsAccepted begin.core.plan
  pub wide : length begin.core.state.regs ≡ 32
  pub is_opened : IsOpened begin.core
  pub delays : AreDelays rule.spans
  pub few : limit ≤ most_timed_limit

-- where a timed run has arrived, but for what its streams expose: the processor, the clock, and what was counted
pub record TimedPlace : Type 0 where
  pub core : Processor
  pub clock : SiteTimes
  pub tally : Tally

-- the place with these parts
abbrev pub timed_at : Processor → SiteTimes → Tally → TimedPlace
timed_at core clock tally = record { core = core; clock = clock; tally = tally }

-- a run that has begun there has come here with this pace, where the streams expose this
abbrev pub ComesHere : DelayRule → (limit : ℕ) → (begin : RunPlace) → Streams → PaceCount → TimedPlace → Type 0
ComesHere rule limit begin streams pace at =
    ComesTimed pace.rule rule limit begin (run_place_of at.core streams None at.tally) at.clock pace.count

-- some timed run has
pub record HasComeTimed (limit : ℕ) (pace : PaceCount) (at : TimedPlace) : Type 0 where
  pub rule : DelayRule
  pub begin : RunPlace
  pub streams : Streams
  pub is_begun : IsBegun rule limit begin
  pub comes : ComesHere rule limit begin streams pace at
  pub within : at.core.state.retired ≤ limit
  pub stages : pace.stages ≡ at.core.plan.stages

-- each timed run that has come to the one place comes to the other, with the same pace and the same streams
pub record LeadsTimed (limit : ℕ) (pace : PaceCount) (now new : TimedPlace) : Type 0 where
  pub leads : (rule : DelayRule) → (begin : RunPlace) → (streams : Streams) → IsBegun rule limit begin → ComesHere rule limit begin streams pace now →
      ComesHere rule limit begin streams pace new
  pub within : new.core.state.retired ≤ limit
  pub plan : new.core.plan ≡ now.core.plan
  pub counted : now.tally.moves ≤ new.tally.moves
