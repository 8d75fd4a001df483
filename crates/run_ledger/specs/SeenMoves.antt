-- The moves of a timed run, each with its time, its event and the state that it leaves.
use Rattle.std.specs.Prelude.{ℕ, ◌-◌, List, [], ◌∷◌, map}
use Rattle.cf_layout.specs.Layout.{Plan}
use Rattle.cf_semantics.specs.declared.event.Event.{Event}
use Rattle.cf_semantics.specs.state.State.{State}
use Rattle.cf_run.specs.Made.{Made}
use Rattle.cf_timed.specs.declared.timed_move.TimedMove.{TimedMove}
use Rattle.cf_timed.specs.DelayedRuns.{DelayRule, delayed_at}
use Rattle.cf_timed.specs.Earliest.{TimedTurn, after_turn}
use Rattle.cf_timed.specs.TimedRuns.{timed_start}
use Rattle.cf_timed.specs.Times.{DelayedMove, delayed, done_after, greatest_time, moves_with_times}

-- a move that was made, with its time, its event and the state after it
pub record SeenMove : Type 0 where
  pub done : TimedMove
  pub event : Event
  pub state : State

-- the move with that time
abbrev pub seen_move : TimedMove → Made → SeenMove
seen_move done made = record { done = done; event = made.event; state = made.state }

-- the moves of a run from a turn on, in their order
abbrev pub seen_from : Plan → DelayRule → TimedTurn → List Made → List SeenMove
seen_from plan rule t [] = []
seen_from plan rule t (made ∷ trace) =
    seen_move (done_after plan t.earlier (delayed_at rule t.state t.earlier made.move)) made ∷ seen_from plan rule (after_turn plan rule t made) trace

-- and from its start
abbrev pub seen_in : Plan → DelayRule → State → List Made → List SeenMove
seen_in plan rule s trace = seen_from plan rule (timed_start s) trace

-- a move without its time
abbrev pub untimed : TimedMove → DelayedMove
untimed done = delayed done.mv done.delay

-- the moves, each with its delay
abbrev pub untimed_all : List SeenMove → List DelayedMove
untimed_all moves = map (λ m. untimed m.done) moves

-- when a move starts
abbrev pub move_start : TimedMove → ℕ
move_start done = done.time - done.delay

-- when the last of the moves finishes
abbrev pub time_of : Plan → List SeenMove → ℕ
time_of plan moves = greatest_time (moves_with_times plan (untimed_all moves))
