-- One turn of a timed run: the move that finishes earliest is made and recorded by the clock, or the run stops.
use Rattle.std.specs.Prelude.{◌≡◌, ℕ, [], ◌∷◌, Option, Some, None, Result, Ok, Err}
use Rattle.run_options.specs.declared.guess_rule.GuessRule.{GuessRule}
use Rattle.run_options.specs.Reportings as show
use Rattle.cf_bind.specs.declared.moves.Move.{Move}
use Rattle.cf_core.specs.Processors.{Processor}
use Rattle.cf_semantics.specs.declared.event.Event.{Event}
use Rattle.cf_semantics.specs.state.State.{State}
use Rattle.cf_sched.specs.Paces.{offered_by}
use Rattle.run_finishes.specs.declared.finish.Ran.{Ran as Answer}
use Rattle.cf_run.specs.Made.{Made}
use Rattle.cf_run.specs.Moving.{RunPlace}
use Rattle.run_finishes.specs.declared.finish.Ran.TheVariants as ran
use Rattle.cf_run.specs.Reaching.{IsOver}
use Rattle.cf_run.specs.Policies.{StopsAtPick, Turned, chooser, first_pick, later_picks}
use Rattle.cf_timed.specs.declared.step.TimedStep.{TimedStep}
use Rattle.cf_timed.specs.declared.timed_move.TimedMove.{TimedMove}
use Rattle.cf_timed.specs.Clocks.{SiteTimes, capped, clocked, delay_by, stamped}
use Rattle.cf_timed.specs.Earliest.{first_least}
use Rattle.cf_timed.specs.Times.{delayed, done_at}

-- the index, among the offered moves, of the first that finishes earliest by the clock
abbrev pub pick_by : SiteTimes → GuessRule → ℕ → Processor → ℕ
pick_by clock r held core = first_least (capped (clocked clock core.state)) (offered_by r core.plan held core.state)

-- a move that was made, its event, and the state that it left
abbrev pub made_as : Move → Event → State → Made
made_as mv e s = record { move = mv; event = e; state = s }

-- the move, how long it takes and when it finishes by the clock
abbrev pub timed_by : SiteTimes → State → Move → TimedMove
timed_by clock s mv = done_at (delayed mv (delay_by (clocked clock s) mv)) (capped (clocked clock s) mv)

-- that move is made, and the clock records it
pub record MakesEarliest (limit : ℕ) (r : GuessRule) (now new : RunPlace) (held later : ℕ) (clock after : SiteTimes) (step : TimedStep) : Type 0 where
  pub makes : Turned first_pick later_picks limit show.report now new (chooser r (pick_by clock r held now.core ∷ []) held) (chooser r [] later)
  pub clock_is : after ≡ stamped clock makes.takes.move (capped (clocked clock now.core.state) makes.takes.move)
  pub event_is : step.event ≡ makes.takes.event
  pub done_is : step.done ≡ timed_by clock now.core.state makes.takes.move

-- the run stops there: it is over, and nothing changes; or it tries that move as its last
abbrev pub StopsEarliest : ℕ → GuessRule → (now new : RunPlace) → ℕ → SiteTimes → Answer → Type 0
StopsEarliest limit r now new held clock (ran.Exit status) = IsOver limit now.core.state (ran.Exit status) × (new ≡ now)
StopsEarliest limit r now new held clock (ran.Trap cause pc detail) = IsOver limit now.core.state (ran.Trap cause pc detail) × (new ≡ now)
StopsEarliest limit r now new held clock ran.Limit = IsOver limit now.core.state ran.Limit × (new ≡ now)
StopsEarliest limit r now new held clock ran.ReadFault =
    StopsAtPick first_pick later_picks limit show.report (chooser r (pick_by clock r held now.core ∷ []) held) now new [] ran.ReadFault
StopsEarliest limit r now new held clock ran.WriteFault =
    StopsAtPick first_pick later_picks limit show.report (chooser r (pick_by clock r held now.core ∷ []) held) now new [] ran.WriteFault
StopsEarliest limit r now new held clock ran.ReportFault = ⊥

-- the move is made, or the run stops
abbrev pub TurnsTimed : ℕ → GuessRule → (now new : RunPlace) → (held later : ℕ) → (clock after : SiteTimes) → Result TimedStep Answer → Type 0
TurnsTimed limit r now new held later clock after (Ok step) = MakesEarliest limit r now new held later clock after step
TurnsTimed limit r now new held later clock after (Err answer) = StopsEarliest limit r now new held clock answer × (after ≡ clock)

-- why the run stops, if it does
abbrev pub stop_of : Result TimedStep Answer → Option Answer
stop_of (Ok step) = None
stop_of (Err answer) = Some answer
