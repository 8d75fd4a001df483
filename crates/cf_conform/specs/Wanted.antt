-- The line that an observation should be: a line of a report, or of a picture (a format of this project).
use Rattle.std.specs.Prelude.{ℕ, ◌-◌, ◌&&◌, List, ◌++◌, length, take, slice_get, Option, Some, None, codes, nat_le, nat_lt, if◌then◌else◌}
use Rattle.cf_layout.specs.Layout.{Plan}
use Rattle.cf_bind.specs.declared.cell.Cell.{Cell}
use Rattle.cf_bind.specs.declared.passenger.End.{End}
use Rattle.cf_bind.specs.declared.passenger.End.TheVariants as ending
use Rattle.cf_semantics.specs.state.State.{State, cell_at, siding_at}
use Rattle.cf_log.specs.declared.said.ObservedPart.{ObservedPart}
use Rattle.cf_log.specs.declared.said.ObservedPart.TheVariants.{Retire, Fetch, Lane, Cache, Stage, Siding, Register, Ended}
use Rattle.cf_report.specs.Lines.{retired_line, register_line}
use Rattle.cf_report.specs.Passengers.{any_stage_line}
use Rattle.cf_report.specs.Picture.{fetch_line, lane_line, cache_line, any_siding_line}
use Rattle.texts.specs.Lines.{counted_line, trap_line}
use Rattle.cf_conform.specs.declared.progress.LatestRetired.{LatestRetired}

-- the text of a line, without the line feed at its end
unfoldable pub without_feed : List ℕ → List ℕ
without_feed line = take (length line - 1) line

-- the line of the instruction that retired last
abbrev pub latest_wanted : Option LatestRetired → Option (List ℕ)
latest_wanted None = None
latest_wanted (Some latest) = Some (retired_line latest.number latest.retired)

-- the line of a stage that holds this
abbrev pub cell_line : ℕ → Option Cell → Option (List ℕ)
cell_line i None = None
cell_line i (Some cell) = Some (any_stage_line i cell)

-- the line of a stage, if there is one of this number
abbrev pub stage_wanted : Plan → State → Option ℕ → Option (List ℕ)
stage_wanted plan s None = None
stage_wanted plan s (Some i) = if nat_lt 0 i && nat_le i plan.stages then cell_line i (cell_at s.cells i) else None

-- the line of a siding, if there is one of this number
abbrev pub siding_wanted : Plan → State → Option ℕ → Option (List ℕ)
siding_wanted plan s None = None
siding_wanted plan s (Some k) = if nat_lt k (length plan.sidings) then Some (any_siding_line k (siding_at s k)) else None

-- the line of a register that holds this
abbrev pub value_wanted : ℕ → Option ℕ → Option (List ℕ)
value_wanted r None = None
value_wanted r (Some value) = Some (register_line r value)

-- the line of a register
abbrev pub register_wanted : State → ℕ → Option (List ℕ)
register_wanted s r = value_wanted r (slice_get s.regs r)

-- the line that says how the program ended, as in the first line of a closing report
unfoldable pub ended_line : End → List ℕ
ended_line (ending.Exit status) = codes "ended " ++ counted_line (codes "exit ") status
ended_line (ending.Trap cause pc detail) = codes "ended " ++ trap_line cause pc detail

-- the same, if the program has ended
abbrev pub end_wanted : Option End → Option (List ℕ)
end_wanted None = None
end_wanted (Some end) = Some (ended_line end)

-- the line that an observation of this part should be; none if the processor does not have that part, if no instruction
-- has retired, or if the program has not ended
unfoldable pub wanted_line : Plan → State → Option LatestRetired → ObservedPart → Option (List ℕ)
wanted_line plan s latest Retire = latest_wanted latest
wanted_line plan s latest Fetch = Some (fetch_line s.fetch)
wanted_line plan s latest Lane = Some (lane_line s.lane)
wanted_line plan s latest Cache = if plan.cache then Some (cache_line s.cache) else None
wanted_line plan s latest (Stage number) = stage_wanted plan s number
wanted_line plan s latest (Siding number) = siding_wanted plan s number
wanted_line plan s latest (Register r) = register_wanted s r
wanted_line plan s latest Ended = end_wanted s.ending
