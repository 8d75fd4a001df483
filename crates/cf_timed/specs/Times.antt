-- Times of the moves of a run: a move begins when all earlier moves that share a site with it have finished.
use Rattle.std.specs.Prelude.{ℕ, ◌+◌, List, [], ◌∷◌, map, filter, max}
use Rattle.cf_layout.specs.Layout.{Plan}
use Rattle.cf_bind.specs.declared.moves.Move.{Move}
use Rattle.cf_index.specs.Sites.{shares}
use Rattle.cf_timed.specs.declared.timed_move.TimedMove.{TimedMove}

-- a move, and how long it takes
pub record DelayedMove : Type 0 where
  pub mv : Move
  pub delay : ℕ

-- the move with that delay
abbrev pub delayed : Move → ℕ → DelayedMove
delayed mv delay = record { mv = mv; delay = delay }

-- the move with that delay, which finishes at this time
abbrev pub done_at : DelayedMove → ℕ → TimedMove
done_at d time = record { mv = d.mv; delay = d.delay; time = time }

-- the maximum of some numbers, or 0 if there are none
abbrev pub greatest : List ℕ → ℕ
greatest [] = 0
greatest (t ∷ ts) = max t (greatest ts)

-- the maximum time of some moves
unfoldable pub greatest_time : List TimedMove → ℕ
greatest_time moves = greatest (map (λ done. done.time) moves)

-- those of the earlier moves that share a site with the move
abbrev pub before : Plan → Move → List TimedMove → List TimedMove
before plan mv earlier = filter (λ done. shares plan mv done.mv) earlier

-- when a move with this delay finishes after earlier ones: at the maximum time of those that share a site with it, plus
-- its delay
unfoldable pub finish_after : Plan → List TimedMove → DelayedMove → ℕ
finish_after plan earlier d = greatest_time (before plan d.mv earlier) + d.delay

-- the move after earlier ones, with its time
abbrev pub done_after : Plan → List TimedMove → DelayedMove → TimedMove
done_after plan earlier d = done_at d (finish_after plan earlier d)

-- moves after earlier ones, each with its time; the last comes first
abbrev pub times_after : Plan → List TimedMove → List DelayedMove → List TimedMove
times_after plan earlier [] = earlier
times_after plan earlier (d ∷ moves) = times_after plan (done_after plan earlier d ∷ earlier) moves

-- the moves of a run, each with its time; the last comes first
unfoldable pub moves_with_times : Plan → List DelayedMove → List TimedMove
moves_with_times plan moves = times_after plan [] moves
