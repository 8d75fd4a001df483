-- What the time of a run consists of: how long each stage is in use, waits and is empty; how long each siding is in
-- use; how many moves of each kind are made; how long instructions of each class take; and a longest chain.
use Rattle.std.specs.Prelude.{ℕ, ◌-◌, List, [], ◌∷◌, ◌++◌, length, map, filter, Bool, ◌==◌, ◌&&◌, if◌then◌else◌}
use Rattle.cf_layout.specs.Layout.{Plan}
use Rattle.cf_bind.specs.declared.moves.Move.{Move}
use Rattle.cf_semantics.specs.moves.Candidates.{counted_from}
use Rattle.cf_index.specs.Order.{kind_place}
use Rattle.cf_index.specs.Sites.{shares}
use Rattle.cf_timed.specs.Chains.{sum_of_delays}
use Rattle.cf_timed.specs.declared.timed_move.TimedMove.{TimedMove}
use Rattle.cf_timed.specs.Times.{DelayedMove, greatest_time, moves_with_times}
use Rattle.run_ledger.specs.Gaps.{empty_time, waiting}
use Rattle.run_ledger.specs.Latencies.{latency, retired_count}
use Rattle.run_ledger.specs.SeenMoves.{SeenMove, untimed, untimed_all}
use Rattle.run_ledger.specs.Using.{uses_siding, uses_stage}
use Rattle.run_ledger.specs.declared.breakdown.Breakdown.{Breakdown}

-- the sum of the delays of those moves that pass a test
unfoldable pub busy : (Move → Bool) → List DelayedMove → ℕ
busy test moves = sum_of_delays (filter (λ d. test d.mv) moves)

-- how many of the moves are of the kind
unfoldable pub of_kind : List DelayedMove → ℕ → ℕ
of_kind moves kind = length (filter (λ d. kind_place d.mv == kind) moves)

-- the same for each of the fourteen kinds, in their order
abbrev pub kind_counts : List DelayedMove → List ℕ
kind_counts moves = map (of_kind moves) (counted_from 0 14)

-- the earlier move shares a site with the later one, and finishes when the later one begins
abbrev pub leads_to : Plan → TimedMove → TimedMove → Bool
leads_to plan later earlier = shares plan later.mv earlier.mv && (earlier.time == (later.time - later.delay))

-- of moves with their times, the last first: the chain that ends with the last move that passes the test; before each
-- move in it comes the last earlier move that leads to it
abbrev pub chain_to : Plan → (TimedMove → Bool) → List TimedMove → List DelayedMove
chain_to plan test [] = []
chain_to plan test (done ∷ earlier) =
    if test done then chain_to plan (leads_to plan done) earlier ++ untimed done ∷ []
    else chain_to plan test earlier

-- none of the moves finishes later
abbrev pub is_last : List TimedMove → TimedMove → Bool
is_last moves done = done.time == greatest_time moves

-- the chain of a run that ends with the last of the moves that finish latest
unfoldable pub longest_chain : Plan → List DelayedMove → List DelayedMove
longest_chain plan moves = chain_to plan (is_last (moves_with_times plan moves)) (moves_with_times plan moves)

-- what the time of a run consists of; stages and sidings are by their numbers, classes by their places
unfoldable pub breakdown : Plan → List SeenMove → Breakdown
breakdown plan moves = record {
  layout = plan;
  stages = map (λ i. busy (uses_stage plan i) (untimed_all moves)) (counted_from 0 33);
  waiting = map (waiting plan moves) (counted_from 0 33);
  empty = map (empty_time plan moves) (counted_from 0 33);
  sidings = map (λ k. busy (uses_siding plan k) (untimed_all moves)) (counted_from 0 8);
  moves = kind_counts (untimed_all moves);
  retired = map (retired_count plan moves) (counted_from 0 11);
  latencies = map (latency plan moves) (counted_from 0 11);
  chain = kind_counts (longest_chain plan (untimed_all moves));
}
