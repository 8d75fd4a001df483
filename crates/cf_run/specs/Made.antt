-- Moves that were made: the counts, and what a report shows.
use Rattle.std.specs.Prelude.{ℕ, ◌+◌, ◌<◌, ◌^◌, List, [], ◌∷◌, ◌++◌, length, map, count_by, Bool, true, false, Option, Some, None, if◌then◌else◌}
use Rattle.run_options.specs.declared.reporting.Reporting.{Reporting}
use Rattle.run_options.specs.declared.show.Show.{Show}
use Rattle.run_options.specs.declared.show.Show.TheVariants as shows
use Rattle.cf_layout.specs.Layout.{Plan}
use Rattle.cf_bind.specs.declared.moves.Move.{Move}
use Rattle.cf_bind.specs.declared.moves.Move.TheVariants.{Meet}
use Rattle.cf_semantics.specs.declared.event.Event.{Event}
use Rattle.cf_semantics.specs.declared.event.Event.TheVariants as event
use Rattle.cf_semantics.specs.state.State.{State}
use Rattle.cf_core.specs.Processors.{Processor}
use Rattle.cf_report.specs.declared.tally.Tally.{Tally}
use Rattle.cf_report.specs.Lines.{retired_line, numbered_move}
use Rattle.cf_report.specs.Picture.{picture}
use Rattle.cf_report.specs.Progress.{is_step, moves_line}

-- a move that was made, its event, and the state that it left
pub record Made : Type 0 where
  pub move : Move
  pub event : Event
  pub state : State

-- the moves of these, in order
abbrev pub moves_of : List Made → List Move
moves_of trace = map (λ made. made.move) trace

-- the move is a meeting
abbrev pub is_meeting : Move → Bool
is_meeting (Meet i) = true
is_meeting mv = false

-- the result was killed
abbrev pub is_killed : Event → Bool
is_killed event.Killed = true
is_killed e = false

-- a live instruction died
abbrev pub is_died : Event → Bool
is_died event.Died = true
is_died e = false

-- the count of some moves
unfoldable pub tally_of : List Made → Tally
tally_of trace = record {
  moves = length trace;
  meets = count_by (λ made. is_meeting made.move) trace;
  kills = count_by (λ made. is_killed made.event) trace;
  dead = count_by (λ made. is_died made.event) trace;
}

-- one more if the test holds
abbrev pub raised_if : Bool → ℕ → ℕ
raised_if test n = if test then n + 1 else n

-- the count with one more move
abbrev pub counted_event : Tally → Move → Event → Tally
counted_event tally mv e = record {
  moves = tally.moves + 1;
  meets = raised_if (is_meeting mv) tally.meets;
  kills = raised_if (is_killed e) tally.kills;
  dead = raised_if (is_died e) tally.dead;
}

-- one more of each can be counted in 64 bits
pub record CanCount (tally : Tally) : Type 0 where
  pub moves : tally.moves + 1 < 2 ^ 64
  pub meets : tally.meets + 1 < 2 ^ 64
  pub kills : tally.kills + 1 < 2 ^ 64
  pub dead : tally.dead + 1 < 2 ^ 64

-- the line of an instruction that retired with a move, the n-th to retire; no line for another event
abbrev pub retirement : ℕ → Event → List ℕ
retirement n (event.Retired line) = retired_line n line
retirement n event.Plain = []
retirement n event.Killed = []
retirement n event.Died = []
retirement n (event.Ended e) = []

-- how far the run has come with the move of this number, if that is shown: an instruction retired with the move, and
-- the count of retired instructions is then a multiple of the step
abbrev pub progress : (every : Option ℕ) → (retired n : ℕ) → Event → List ℕ
progress None retired n e = []
progress (Some every) retired n (event.Retired line) = if is_step (Some every) retired then moves_line retired n else []
progress (Some every) retired n event.Plain = []
progress (Some every) retired n event.Killed = []
progress (Some every) retired n event.Died = []
progress (Some every) retired n (event.Ended e) = []

-- the line of the instruction that retired, and after it how far the run has come
abbrev pub retirement_and_progress : (every : Option ℕ) → (retired n : ℕ) → Event → List ℕ
retirement_and_progress None retired n e = retirement retired e
retirement_and_progress (Some every) retired n e = retirement retired e ++ progress (Some every) retired n e

-- what is shown of the move of this number
abbrev pub shown_as : Show → (every : Option ℕ) → Plan → ℕ → Made → List ℕ
shown_as shows.Report every plan n made = progress every made.state.retired n made.event
shown_as shows.Retired every plan n made = retirement_and_progress every made.state.retired n made.event
shown_as shows.Moves every plan n made =
    numbered_move n made.move ++ retirement_and_progress every made.state.retired n made.event ++ picture plan made.state

unfoldable pub shown : Reporting → Plan → ℕ → Made → List ℕ
shown reporting plan n made = shown_as reporting.show reporting.every plan n made

-- what is shown of the move of this number, with its event, that left this processor
abbrev pub shown_after : Reporting → Processor → ℕ → Move → Event → List ℕ
shown_after show core n mv event = shown show core.plan n (record { move = mv; event = event; state = core.state })

-- what is shown of some moves, the first of which has this number
unfoldable pub all_shown : Reporting → Plan → ℕ → List Made → List ℕ
all_shown show plan n [] = []
all_shown show plan n (made ∷ trace) = shown show plan n made ++ all_shown show plan (n + 1) trace
