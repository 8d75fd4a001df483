-- A clock: for each site of a processor the time of the last move that used it.
use Rattle.std.specs.Prelude.{◌≡◌, ◌<◌, ◌≤◌, ℕ, ◌+◌, List, [], ◌∷◌, map, max, min, ◌-◌, ◌^◌, length, replicate, slice_get, slice_set, unwrap_or}
use Rattle.std.specs.List.{AllByRecursion}
use Rattle.cf_layout.specs.Layout.{Plan}
use Rattle.cf_bind.specs.declared.moves.Move.{Move}
use Rattle.cf_semantics.specs.moves.Sites.{Site, Stage, SidingCell, Lane, Fetching, Memory, Code}
use Rattle.cf_index.specs.Sites.{HasSites, used}
use Rattle.cf_semantics.specs.state.State.{State}
use Rattle.cf_timed.specs.declared.draws.DelayDraws.{DelayDraws}
use Rattle.cf_timed.specs.declared.span.Span.{Span}
use Rattle.cf_timed.specs.declared.timed_move.TimedMove.{TimedMove}
use Rattle.cf_timed.specs.Delays.{span_of}
use Rattle.cf_timed.specs.DelayedRuns.{DelayRule, Visit, class_of_move, delayed_at}
use Rattle.cf_timed.specs.Drawing.{after_word, drawn_from, next_word, stream_of, ticks_in}
use Rattle.cf_timed.specs.Numbers.{number_at}
use Rattle.cf_timed.specs.Times.{done_after, greatest, greatest_time}

-- the layout, the delays and what they are drawn from; the times of the stages, by number; of the cells, by the numbers
-- of siding and cell; of the lane, of fetch, of the memory and of the code; and the maximum of all
pub record SiteTimes : Type 0 where
  pub plan : Plan
  pub delays : List Span
  pub draws : DelayDraws
  pub stages : List ℕ
  pub cells : List (List ℕ)
  pub lane : ℕ
  pub fetch : ℕ
  pub memory : ℕ
  pub code : ℕ
  pub latest : ℕ

-- the clock before the first move
unfoldable pub started : Plan → DelayRule → SiteTimes
started plan rule = record {
  plan = plan;
  delays = rule.spans;
  draws = drawn_from rule.seed;
  stages = replicate 34 0;
  cells = replicate 8 (replicate 8 0);
  lane = 0;
  fetch = 0;
  memory = 0;
  code = 0;
  latest = 0;
}

-- the cells of a siding
abbrev pub siding_row : List (List ℕ) → ℕ → List ℕ
siding_row rows k = unwrap_or (slice_get rows k) []

-- the time of a site
abbrev pub time_at : SiteTimes → Site → ℕ
time_at c (Stage i) = number_at c.stages i
time_at c (SidingCell k i) = number_at (siding_row c.cells k) i
time_at c Lane = c.lane
time_at c Fetching = c.fetch
time_at c Memory = c.memory
time_at c Code = c.code
time_at c _ = 0

-- no site has a later time than the maximum
pub record NoneLater (c : SiteTimes) : Type 0 where
  pub each : (x : Site) → time_at c x ≤ c.latest

-- the clock with a new time at a site
abbrev pub put_time : SiteTimes → ℕ → Site → SiteTimes
put_time c t (Stage i) = record c { stages = slice_set c.stages i t }
put_time c t (SidingCell k i) = record c { cells = slice_set c.cells k (slice_set (siding_row c.cells k) i t) }
put_time c t Lane = record c { lane = t }
put_time c t Fetching = record c { fetch = t }
put_time c t Memory = record c { memory = t }
put_time c t Code = record c { code = t }
put_time c t _ = c

-- and at each of some sites
abbrev pub put_times : SiteTimes → ℕ → List Site → SiteTimes
put_times c t [] = c
put_times c t (x ∷ xs) = put_times (put_time c t x) t xs

-- the clock keeps the time of this site, if the layout has it
abbrev pub IsKept : Site → Type 0
IsKept (Stage i) = i < 34
IsKept (SidingCell k c) = (k < 8) × (c < 8)
IsKept Lane = Unit {0}
IsKept Fetching = Unit {0}
IsKept Memory = Unit {0}
IsKept Code = Unit {0}
IsKept _ = ⊥

-- and that of each site that the move uses
abbrev pub AreKept : Plan → Move → Type 0
AreKept plan mv = AllByRecursion IsKept (used plan mv)

-- as many times as a clock keeps
pub record HasRoom (c : SiteTimes) : Type 0 where
  pub stages : length c.stages ≡ 34
  pub sidings : length c.cells ≡ 8
  pub cells : (k : ℕ) → k < 8 → length (siding_row c.cells k) ≡ 8

-- the clock is one of this layout
pub record IsClockOf (plan : Plan) (c : SiteTimes) : Type 0 where
  pub plan_is : c.plan ≡ plan
  pub room : HasRoom c

-- a clock, and the state of the processor that it is at
pub record ClockedState : Type 0 where
  pub clock : SiteTimes
  pub state : State

-- the clock in that state
abbrev pub clocked : SiteTimes → State → ClockedState
clocked clock state = record { clock = clock; state = state }

-- how long a move takes if it is made now
unfoldable pub delay_by : ClockedState → Move → ℕ
delay_by c mv = ticks_in (span_of c.clock.delays mv (class_of_move c.state mv)) (next_word c.clock.draws (stream_of mv))

-- the delays that a clock uses, and the seed from which they are drawn
abbrev pub rule_of_clock : SiteTimes → DelayRule
rule_of_clock c = record { spans = c.delays; seed = c.draws.seed }

-- when it begins: at the maximum time of the sites that it uses
abbrev pub begin_time : SiteTimes → Move → ℕ
begin_time c mv = greatest (map (time_at c) (used c.plan mv))

-- when it finishes: at that time, plus its delay
unfoldable pub finish_time : ClockedState → Move → ℕ
finish_time c mv = begin_time c.clock mv + delay_by c mv

-- the same, capped at the maximum number of 64 bits
abbrev pub capped : ClockedState → Move → ℕ
capped c mv = min (finish_time c mv) (2 ^ 64 - 1)

-- the clock with this maximum time, if it is later
abbrev pub allowed : SiteTimes → ℕ → SiteTimes
allowed c t = record c { latest = max c.latest t }

-- the clock once the move has drawn its delay
abbrev pub drawing : SiteTimes → Move → SiteTimes
drawing c mv = record c { draws = after_word c.draws (stream_of mv) }

-- the clock after a move that finishes at this time
abbrev pub stamped : SiteTimes → Move → ℕ → SiteTimes
stamped c mv t = drawing (put_times (allowed c t) t (used c.plan mv)) mv

-- the clock after a move
unfoldable pub made : ClockedState → Move → SiteTimes
made c mv = stamped c.clock mv (finish_time c mv)

-- and after some moves
abbrev pub made_all : SiteTimes → List Visit → SiteTimes
made_all c [] = c
made_all c (v ∷ visits) = made_all (made (clocked c v.state) v.mv) visits

-- the clock has recorded these moves of a run, each with its time; the last comes first
pub record ClockKnows (plan : Plan) (rule : DelayRule) (moves : List TimedMove) (c : SiteTimes) : Type 0 where
  -- it is a clock of this layout and of these delays
  pub plan_is : c.plan ≡ plan
  pub rule_is : rule_of_clock c ≡ rule
  -- its maximum time is theirs
  pub latest_is : c.latest ≡ greatest_time moves
  -- it knows how long a further move takes in any state, and when it finishes
  pub delays : (s : State) (mv : Move) → HasSites plan mv → delay_by (clocked c s) mv ≡ (delayed_at rule s moves mv).delay
  pub finishes : (s : State) (mv : Move) → HasSites plan mv → finish_time (clocked c s) mv ≡ (done_after plan moves (delayed_at rule s moves mv)).time
