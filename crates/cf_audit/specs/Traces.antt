-- Recorded traces: the text of a run, and where a text that is not a trace goes wrong (a format of this project).
use Rattle.std.specs.Prelude.{◌≡◌, ◌⊎◌, ℕ, ◌+◌, ◌-◌, ◌<◌, ◌^◌, Bool, true, false, List, [], ◌∷◌, ◌++◌, length, take, slice_get, count_by, Option, Some, None, Ok}
use Rattle.std.specs.List.{list_any}
use Rattle.run_options.specs.Reportings as show
use Rattle.rv_text.specs.Lines.{is_line_feed}
use Rattle.rv_machine.specs.Streams.{IsTold, Becomes, streams_of}
use Rattle.cf_layout.specs.Layout.{Plan}
use Rattle.cf_bind.specs.declared.moves.Move.{Move}
use Rattle.cf_bind.specs.declared.moves.Move.TheVariants.{Serve}
use Rattle.cf_bind.specs.MoveTexts.{move_line}
use Rattle.cf_semantics.specs.moves.Bars.{bar as first_bar}
use Rattle.cf_semantics.specs.moves.Moves.{next}
use Rattle.cf_semantics.specs.state.State.{Moment}
use Rattle.cf_core.specs.Processors.{Processor, in_state}
use Rattle.cf_core.specs.Stepping.{FailsToRead}
use Rattle.cf_report.specs.Lines.{numbered_move}
use Rattle.run_scripts.specs.MoveLines.{move_in}
use Rattle.cf_run.specs.Made.{Made, shown, all_shown}
use Rattle.cf_run.specs.Going.{moment_of, Finds, IsMade, Leads}
use Rattle.run_scripts.specs.declared.trace_refusal.TraceKind.{TraceKind}
use Rattle.run_scripts.specs.declared.trace_refusal.TraceKind.TheVariants.{NotAMove, Barred, Differs, Cut}

-- at most this many instructions can retire: their count is a u64
abbrev pub most_retired : ℕ
most_retired = 2 ^ 64 - 1

-- the line that is written for the move is read as that move
abbrev pub IsReadBack : Move → Type 0
IsReadBack mv = move_in (move_line mv) ≡ Ok mv

-- the same for each of these moves
abbrev pub AreReadBack : List Made → Type 0
AreReadBack [] = Unit {0}
AreReadBack (made ∷ trace) = IsReadBack made.move × AreReadBack trace

-- The text is the trace of a run of n moves from the processor, over what the input exposes: for each move its line,
-- the line of the instruction that retired with it, if one did, and the picture after it. The run leads to this moment.
pub record IsTrace (core : Processor) (told : Option (List ℕ)) (text : List ℕ) (n : ℕ) (last : Moment) : Type 0 where
  pub trace : List Made
  pub rest : List ℕ
  pub is_told : IsTold told rest
  pub leads : Leads core.plan most_retired told (moment_of core rest) trace last
  pub read_back : AreReadBack trace
  pub count : length trace ≡ n
  pub is : text ≡ all_shown show.moves core.plan 1 trace

-- the processor and the input are as the moves that lead to the moment leave them
pub record ReachesMoment (core new : Processor) (told now : Option (List ℕ)) (last : Moment) : Type 0 where
  pub processor : new ≡ in_state core last.state
  pub input : Becomes told now last.rest

-- the text begins with the line of this move under this number
pub record BeginsWithMove (text : List ℕ) (n : ℕ) (mv : Move) : Type 0 where
  pub told : IsReadBack mv
  pub after : List ℕ
  pub is : text ≡ numbered_move n mv ++ after

-- the text has a line feed
abbrev pub has_line : List ℕ → Bool
has_line text = list_any is_line_feed text

-- the line of the byte at an index, counted from 1
unfoldable pub line_of_byte : List ℕ → ℕ → ℕ
line_of_byte text place = 1 + count_by is_line_feed (take place text)

-- a prefix of the text is the trace of a run of n moves that leads to this moment; what is left of the text is this,
-- and it is not empty
pub record AgreesSoFar (core : Processor) (told : Option (List ℕ)) (text front left : List ℕ) (n : ℕ) (last : Moment) : Type 0 where
  pub parts : text ≡ front ++ left
  pub some : 0 < length left
  pub is : IsTrace core told front n last

-- the next move, of this number, is made at the moment, and its group is this: all that is shown for it
pub record IsGroup (plan : Plan) (told : Option (List ℕ)) (last : Moment) (n : ℕ) (mv : Move) (group : List ℕ) : Type 0 where
  pub rest : List ℕ
  pub finds : Finds told last.rest rest
  pub made : Made
  pub is_made : IsMade plan most_retired (record last { rest = rest }) made
  pub move : made.move ≡ mv
  pub is : group ≡ shown show.moves plan n made

-- what is left begins with the line of a move that can be made and leads to the moment `stop`; it agrees with the
-- move's group up to this index, at which the group has another byte or the text has ended
pub record PartsAt (plan : Plan) (told : Option (List ℕ)) (last : Moment) (n : ℕ) (left : List ℕ) (place : ℕ) (stop : Moment) : Type 0 where
  pub move : Move
  pub begins : BeginsWithMove left n move
  pub group : List ℕ
  pub is_group : IsGroup plan told last n move group
  pub leads : stop ≡ next plan (record last { rest = is_group.rest }) move
  pub same : take place left ≡ take place group
  pub other : ℕ
  pub goes_on : slice_get group place ≡ Some other
  pub differs : slice_get left place ≡ Some other → ⊥

-- why what is left, which is not empty, is not the trace of further moves from the moment; the next of these has this
-- number, and the index is that of the byte that shows it. The tests, in their order: no line feed is left; the first
-- line is not a move's; the move is barred; what follows is not its group. Only the last test makes a move: then the
-- audit stops at the moment to which that move leads, and otherwise at this one
unfoldable pub TraceFails : Plan → Option (List ℕ) → Moment → ℕ → List ℕ → ℕ → TraceKind → (stop : Moment) → Type 0
TraceFails plan told last n left place Cut stop =
    ((has_line left ≡ false) × (place ≡ 0) × (stop ≡ last))
    ⊎ (PartsAt plan told last n left place stop × (place ≡ length left))
TraceFails plan told last n left place NotAMove stop =
    (has_line left ≡ true) × ((mv : Move) → BeginsWithMove left n mv → ⊥) × (place ≡ 0) × (stop ≡ last)
TraceFails plan told last n left place (Barred b) stop =
    (mv : Move) × BeginsWithMove left n mv × (first_bar plan last.state mv ≡ Some b) × (place ≡ 0) × (stop ≡ last)
TraceFails plan told last n left place Differs stop =
    PartsAt plan told last n left place stop × (place < length left)

-- The text is not the trace of a run: after the groups of a run a test fails, in this line. The moves that are made
-- lead to the moment `stop`.
pub record GoesWrong (core : Processor) (told : Option (List ℕ)) (text : List ℕ) (line : ℕ) (kind : TraceKind) (stop : Moment) : Type 0 where
  pub front : List ℕ
  pub left : List ℕ
  pub n : ℕ
  pub last : Moment
  pub agrees : AgreesSoFar core told text front left n last
  pub place : ℕ
  pub fails : TraceFails core.plan told last (n + 1) left place kind stop
  pub line_is : line ≡ line_of_byte text (length front + place)

-- After the groups of a run comes the line of Serve, which nothing bars: this call failed, and the processor and the
-- input are as it leaves them.
pub record StopsAtCall (core new : Processor) (told now : Option (List ℕ)) (text : List ℕ) : Type 0 where
  pub front : List ℕ
  pub left : List ℕ
  pub n : ℕ
  pub last : Moment
  pub agrees : AgreesSoFar core told text front left n last
  pub begins : BeginsWithMove left (n + 1) Serve
  pub allowed : first_bar core.plan last.state Serve ≡ None
  pub asked : Option (List ℕ)
  pub input : Becomes told asked last.rest
  pub fails : FailsToRead (in_state core last.state) new (streams_of asked None) (streams_of now None)
