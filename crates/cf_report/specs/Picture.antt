-- A picture of the processor: fetch, the lane of requests, the cache, the stages from the top down, and the sidings (a
-- format of this project).
use Rattle.std.specs.Prelude.{ℕ, zero, suc, List, [], ◌∷◌, ◌++◌, Option, Some, None, Bool, codes, decimal, is_some, if◌then◌else◌}
use Rattle.std.specs.List.{list_any}
use Rattle.cf_bind.specs.declared.packet.Fetch.{Fetch}
use Rattle.cf_bind.specs.declared.packet.Fetch.TheVariants.{Running, Waiting}
use Rattle.cf_bind.specs.declared.cell.Cell.{Cell}
use Rattle.cf_bind.specs.declared.cell.Op.{Op}
use Rattle.cf_layout.specs.Layout.{Plan}
use Rattle.cf_semantics.specs.state.State.{State}
use Rattle.cf_semantics.specs.state.Passengers.{cached}
use Rattle.texts.specs.Hexadecimal.{hex8}
use Rattle.texts.specs.Lines.{line, register_name}
use Rattle.cf_report.specs.Passengers.{value_text, stage_line}

-- where fetch runs, or that it waits
unfoldable pub fetch_line : Fetch → List ℕ
fetch_line (Running pc) = line (codes "fetch " ++ hex8 pc)
fetch_line Waiting = line (codes "fetch wait")

-- the list, or `-` if it is empty
abbrev pub or_dash : List ℕ → List ℕ
or_dash [] = codes " -"
or_dash (byte ∷ listed) = byte ∷ listed

-- registers, each after a space
abbrev pub requests_text : List ℕ → List ℕ
requests_text [] = []
requests_text (r ∷ lane) = codes " " ++ register_name r ++ requests_text lane

-- the requested registers, the next to be answered first
unfoldable pub lane_line : List ℕ → List ℕ
lane_line lane = line (codes "lane" ++ or_dash (requests_text lane))

-- a register after a space, if it is cached
abbrev pub cached_text : ℕ → Option ℕ → List ℕ
cached_text r None = []
cached_text r (Some v) = codes " " ++ value_text r v

-- the cached registers with numbers below n, ascending
unfoldable pub kept_below : ℕ → List (Option ℕ) → List ℕ
kept_below zero cache = []
kept_below (suc r) cache = kept_below r cache ++ cached_text r (cached cache r)

-- the cached registers among all 32
unfoldable pub cache_line : List (Option ℕ) → List ℕ
cache_line cache = line (codes "cache" ++ or_dash (kept_below 32 cache))

-- the lines of the stages from number i on, the highest first
abbrev pub stage_lines : ℕ → List Cell → List ℕ
stage_lines i [] = []
stage_lines i (c ∷ cells) = stage_lines (suc i) cells ++ stage_line i c

-- an operation that has its answer is marked
abbrev pub answered_text : Option ℕ → List ℕ
answered_text (Some answer) = codes "*"
answered_text None = []

-- a cell of a siding: the address of its operation, or `-`
unfoldable pub op_text : Option Op → List ℕ
op_text (Some op) = codes " " ++ hex8 op.pc ++ answered_text op.answer
op_text None = codes " -"

-- the cells of a siding in order
abbrev pub ops_text : List (Option Op) → List ℕ
ops_text [] = []
ops_text (cell ∷ ops) = op_text cell ++ ops_text ops

-- the line of any siding: one without an operation has a line too
unfoldable pub any_siding_line : ℕ → List (Option Op) → List ℕ
any_siding_line k ops = line (codes "siding " ++ decimal k ++ ops_text ops)

-- the line of a siding, and no line for one without an operation
unfoldable pub siding_line : ℕ → List (Option Op) → List ℕ
siding_line k ops = if list_any is_some ops then any_siding_line k ops else []

-- the lines of the sidings from number k on
abbrev pub siding_lines : ℕ → List (List (Option Op)) → List ℕ
siding_lines k [] = []
siding_lines k (ops ∷ sidings) = siding_line k ops ++ siding_lines (suc k) sidings

-- the cache is drawn if the layout has one
abbrev pub cache_text : Bool → List (Option ℕ) → List ℕ
cache_text has cache = if has then cache_line cache else []

-- the picture of a state
unfoldable pub picture : Plan → State → List ℕ
picture plan s =
    fetch_line s.fetch ++ lane_line s.lane ++ cache_text plan.cache s.cache
    ++ stage_lines 1 s.cells ++ siding_lines 0 s.sidings
