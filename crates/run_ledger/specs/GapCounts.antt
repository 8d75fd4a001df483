-- How the gaps of the stages are counted, move after move.
use Rattle.std.specs.Prelude.{ℕ, ◌-◌, List, length, map, slice_get, unwrap_or, Bool, false, not, if◌then◌else◌}
use Rattle.cf_layout.specs.Layout.{Plan}
use Rattle.cf_semantics.specs.moves.Candidates.{counted_from}
use Rattle.cf_semantics.specs.state.State.{State}
use Rattle.cf_timed.specs.declared.timed_move.TimedMove.{TimedMove}
use Rattle.run_ledger.specs.Gaps.{holds_any}
use Rattle.run_ledger.specs.Ledgers.{plus_if}
use Rattle.run_ledger.specs.SeenMoves.{move_start}
use Rattle.run_ledger.specs.Using.{uses_stage}
use Rattle.run_ledger.specs.declared.gaps.StageGaps.{StageGaps}

-- no move has used the stage
abbrev pub no_gaps : StageGaps
no_gaps = record { until = 0; is_held = false; waiting = 0; empty = 0 }

-- the counted gaps of a stage
abbrev pub gaps_at : List StageGaps → ℕ → StageGaps
gaps_at all i = unwrap_or (slice_get all i) no_gaps

-- the gap up to an end counts as well
abbrev pub with_gap : StageGaps → ℕ → StageGaps
with_gap g end = record {
  until = g.until;
  is_held = g.is_held;
  waiting = plus_if g.is_held g.waiting (end - g.until);
  empty = plus_if (not g.is_held) g.empty (end - g.until);
}

-- after a move has used the stage, and left an instruction or a result in it, or left it empty
abbrev pub after_use : StageGaps → TimedMove → Bool → StageGaps
after_use g done held = record {
  until = done.time;
  is_held = held;
  waiting = (with_gap g (move_start done)).waiting;
  empty = (with_gap g (move_start done)).empty;
}

-- what a move that leaves a state changes, if it uses the stage
unfoldable pub gaps_after : Plan → TimedMove → State → ℕ → StageGaps → StageGaps
gaps_after plan done s i g = if uses_stage plan i done.mv then after_use g done (holds_any s i) else g

-- the same for each stage
abbrev pub gaps_noted : Plan → TimedMove → State → List StageGaps → List StageGaps
gaps_noted plan done s all = map (λ i. gaps_after plan done s i (gaps_at all i)) (counted_from 0 (length all))

-- how long each stage waits, and how long it is empty, up to an end
abbrev pub waiting_until : ℕ → List StageGaps → List ℕ
waiting_until end all = map (λ i. (with_gap (gaps_at all i) end).waiting) (counted_from 0 (length all))

abbrev pub empty_until : ℕ → List StageGaps → List ℕ
empty_until end all = map (λ i. (with_gap (gaps_at all i) end).empty) (counted_from 0 (length all))
