-- How long each move of a run takes: by the class of the instruction that it executes, launches or recovers, and by how
-- many earlier moves have drawn from its stream.
use Rattle.std.specs.Prelude.{ℕ, List, [], ◌∷◌, length, filter, ◌==◌, Option, Some, None}
use Rattle.rv_inst.specs.declared.classes.Class.{Class}
use Rattle.rv_inst.specs.declared.classes.Class.TheVariants.{Free}
use Rattle.rv_inst.specs.Operands.{class_of}
use Rattle.cf_layout.specs.Layout.{Plan}
use Rattle.cf_bind.specs.declared.cell.Cell.{Cell}
use Rattle.cf_bind.specs.declared.moves.Move.{Move}
use Rattle.cf_bind.specs.declared.moves.Move.TheVariants.{Execute, Launch, Recover}
use Rattle.cf_semantics.specs.moves.Moves.{next}
use Rattle.cf_semantics.specs.state.Options.{on}
use Rattle.cf_semantics.specs.state.State.{Moment, State, cell_at}
use Rattle.cf_run.specs.Made.{Made}
use Rattle.cf_timed.specs.declared.span.Span.{Span}
use Rattle.cf_timed.specs.declared.timed_move.TimedMove.{TimedMove}
use Rattle.cf_timed.specs.Delays.{span_of}
use Rattle.cf_timed.specs.Drawing.{stream_of, ticks_in, drawn_word}
use Rattle.cf_timed.specs.Times.{DelayedMove, delayed, done_after, times_after}

-- the delays of a run, and the seed from which they are drawn, if there is one
pub record DelayRule : Type 0 where
  pub spans : List Span
  pub seed : Option ℕ

-- the class of the instruction in a stage; Free if there is none, or if nothing was decoded for it
unfoldable pub class_in : Option Cell → Class
class_in cell = on cell Free (λ c. on c.passenger Free (λ p. on p.what Free class_of))

-- the class of the instruction that the move executes, launches or recovers; Free for any other move
unfoldable pub class_of_move : State → Move → Class
class_of_move s (Execute i) = class_in (cell_at s.cells i)
class_of_move s (Launch i) = class_in (cell_at s.cells i)
class_of_move s (Recover i) = class_in (cell_at s.cells i)
class_of_move s mv = Free

-- how many of the earlier moves drew from a stream
unfoldable pub drawn_before : ℕ → List TimedMove → ℕ
drawn_before stream earlier = length (filter (λ done. stream_of done.mv == stream) earlier)

-- the word that a move draws after earlier ones
unfoldable pub word_of_move : Option ℕ → List TimedMove → Move → Option ℕ
word_of_move None earlier mv = None
word_of_move (Some seed) earlier mv = Some (drawn_word seed (stream_of mv) (drawn_before (stream_of mv) earlier))

-- how long a move takes in a state after earlier ones
unfoldable pub delay_at : DelayRule → State → List TimedMove → Move → ℕ
delay_at rule s earlier mv = ticks_in (span_of rule.spans mv (class_of_move s mv)) (word_of_move rule.seed earlier mv)

-- the move with that delay
abbrev pub delayed_at : DelayRule → State → List TimedMove → Move → DelayedMove
delayed_at rule s earlier mv = delayed mv (delay_at rule s earlier mv)

-- a move, and the state in which it is made
pub record Visit : Type 0 where
  pub state : State
  pub mv : Move

-- the move in that state
abbrev pub visit : State → Move → Visit
visit s mv = record { state = s; mv = mv }

-- moves that were made one after another, the first of them in this state
abbrev pub visits_of : State → List Made → List Visit
visits_of s [] = []
visits_of s (made ∷ trace) = visit s made.move ∷ visits_of made.state trace

-- the same for the moves of a run
abbrev pub visits_from : Plan → Moment → List Move → List Visit
visits_from plan m [] = []
visits_from plan m (mv ∷ moves) = visit m.state mv ∷ visits_from plan (next plan m mv) moves

-- moves after earlier ones, each with its delay
abbrev pub delays_after : Plan → DelayRule → List TimedMove → List Visit → List DelayedMove
delays_after plan rule earlier [] = []
delays_after plan rule earlier (v ∷ visits) =
    delayed_at rule v.state earlier v.mv
    ∷ delays_after plan rule (done_after plan earlier (delayed_at rule v.state earlier v.mv) ∷ earlier) visits

-- moves after earlier ones, each with its delay and its time; the last comes first
unfoldable pub timed_after : Plan → DelayRule → List TimedMove → List Visit → List TimedMove
timed_after plan rule earlier visits = times_after plan earlier (delays_after plan rule earlier visits)

-- the moves of a run, each with its delay
unfoldable pub delays_of : Plan → DelayRule → List Visit → List DelayedMove
delays_of plan rule visits = delays_after plan rule [] visits

-- and with its time; the last comes first
abbrev pub timed_visits : Plan → DelayRule → List Visit → List TimedMove
timed_visits plan rule visits = timed_after plan rule [] visits
