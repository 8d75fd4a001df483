-- What is measured of a program on a layout: its timed run, which ends as on the sequential machine, how long that
-- takes, what that time is made of, and the lines of its moves.
use Rattle.std.specs.Prelude.{◌≡◌, ◌≤◌, ◌-◌, ℕ, List, [], ◌∷◌, Option, Some, None}
use Rattle.rv_machine.specs.Machine.{Machine}
use Rattle.rv_machine.specs.Streams.{Streams, streams_of}
use Rattle.cf_layout.specs.Layout.{Plan}
use Rattle.cf_core.specs.Processors.{Processor, opened_processor}
use Rattle.cf_run.specs.Ending.{EndsAsMachine}
use Rattle.cf_run.specs.Made.{Made}
use Rattle.cf_run.specs.Moving.{RunPlace, run_place_of}
use Rattle.cf_run.specs.Policies.{most_moves}
use Rattle.cf_timed.specs.Chains.{IsLongest}
use Rattle.cf_timed.specs.Clocks.{SiteTimes}
use Rattle.cf_timed.specs.DelayedRuns.{DelayRule, delays_of, visits_of}
use Rattle.cf_timed.specs.declared.span.Span.{Span}
use Rattle.cf_timed.specs.TimedRuns.{BreaksTimed, RunsTimed, answer_of_timed, begins, timed_lines_from}
use Rattle.cf_timed.specs.Times.{DelayedMove, greatest_time, moves_with_times}
use Rattle.run_ledger.specs.Breakdowns.{breakdown}
use Rattle.run_ledger.specs.SeenMoves.{SeenMove, seen_in}
use Rattle.run_ledger.specs.declared.breakdown.Breakdown.{Breakdown}
use Rattle.cli_time.specs.declared.choices.RunChoices.{RunChoices}
use Rattle.cli_time.specs.declared.measuring.Measured.{Measured}
use Rattle.run_options.specs.declared.time_show.TimeShow.{TimeShow}
use Rattle.run_options.specs.declared.time_show.TimeShow.TheVariants as shows

-- the program's streams: an input that has these bytes left, and an output that keeps nothing
abbrev pub over : List ℕ → Streams
over bytes = streams_of (Some bytes) None

-- the delays, and the seed from which they are drawn
abbrev pub rule_by : List Span → RunChoices → DelayRule
rule_by delays options = record { spans = delays; seed = options.seed }

-- the moves of a run of this processor, each with its delay
abbrev pub moves_by : DelayRule → Plan → Processor → List Made → List DelayedMove
moves_by rule plan core trace = delays_of plan rule (visits_of core.state trace)

-- the same moves, each with its time, its event and the state that it leaves
abbrev pub seen_by : DelayRule → Plan → Processor → List Made → List SeenMove
seen_by rule plan core trace = seen_in plan rule core.state trace

-- what the time of some moves is made of, if that is shown
abbrev pub made_of : TimeShow → Plan → List SeenMove → Option Breakdown
made_of shows.Nothing plan moves = None
made_of shows.Sites plan moves = Some (breakdown plan moves)
made_of shows.Moves plan moves = None

-- the lines of the moves of a run, if they are shown
abbrev pub lines_of : TimeShow → DelayRule → RunPlace → List Made → List ℕ
lines_of shows.Nothing rule begin trace = []
lines_of shows.Sites rule begin trace = []
lines_of shows.Moves rule begin trace = timed_lines_from begin rule trace

-- what was measured, and what was shown of the moves
pub record TakenRun : Type 0 where
  pub measured : Measured
  pub shown : List ℕ

-- an opened processor of this layout makes the moves that finish earliest, over an input of these bytes, and this was
-- measured: how it ended, the maximum time of a move, how many moves there were, how many instructions retired, and
-- what the time is made of and the lines of the moves, if that is shown; the number of moves is at most a stated number
-- for these instructions
pub record MeasuresRun (rule : DelayRule) (options : RunChoices) (plan : Plan) (core : Processor) (bytes : List ℕ) (taken : TakenRun) : Type 0 where
  pub last : Processor
  pub left : List ℕ
  pub clock : SiteTimes
  pub runs : RunsTimed options.rule rule options.limit (begins core (over bytes)) last (over left) clock taken.measured.moves taken.measured.answer
  pub time_is : taken.measured.time ≡ greatest_time (moves_with_times plan (moves_by rule plan core runs.right.runs.reaches.trace))
  pub retired_is : taken.measured.retired ≡ last.state.retired
  pub bounded : taken.measured.moves ≤ most_moves plan (last.state.retired - core.state.retired)
  pub sites_are : taken.measured.sites ≡ made_of options.show plan (seen_by rule plan core runs.right.runs.reaches.trace)
  pub shown_is : taken.shown ≡ lines_of options.show rule (begins core (over bytes)) runs.right.runs.reaches.trace

-- the same for the layout's processor, opened on the hart of the machine at its start, over the whole of its input
pub record Measures (delays : List Span) (options : RunChoices) (plan : Plan) (start : Machine) (taken : TakenRun) : Type 0 where
  pub takes : MeasuresRun (rule_by delays options) options plan (opened_processor plan start.hart) start.rest taken
  -- the time is the sum of the delays of a longest chain of the run
  pub longest : IsLongest plan (moves_by (rule_by delays options) plan (opened_processor plan start.hart) takes.runs.right.runs.reaches.trace)
      taken.measured.time
  -- ending, count and what is left of the input are those of the sequential machine over the same input, so the run ended
  -- by itself or at the limit
  pub machine : EndsAsMachine options.limit start.hart (begins (opened_processor plan start.hart) (over start.rest))
      (run_place_of takes.last (over takes.left) None takes.runs.tally) (answer_of_timed taken.measured.answer)

-- the report failed after a move of such a run: a part of the lines of the moves so far was written
abbrev pub BreaksTaking : DelayRule → RunChoices → Processor → List ℕ → (blank full : Option (List ℕ)) → Type 0
BreaksTaking rule options core bytes blank full =
    BreaksTimed (timed_lines_from (begins core (over bytes)) rule) options.rule rule options.limit (begins core (over bytes)) blank full

-- the same for the first layouts
abbrev pub MeasuresFirst : List Span → RunChoices → Machine → List Plan → List TakenRun → Type 0
MeasuresFirst delays options start plans [] = Unit {0}
MeasuresFirst delays options start [] (taken ∷ more) = ⊥
MeasuresFirst delays options start (plan ∷ plans) (taken ∷ more) =
    Measures delays options plan start taken × MeasuresFirst delays options start plans more
