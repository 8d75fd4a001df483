-- A stage is in use, waits or is empty for the whole time of a run.
use Rattle.std.proofs.Common.{◌≡◌, ◌∙◌, refl, sym, ap, ℕ, ◌+◌, ◌-◌, ◌≤◌, List, [], ◌∷◌, max, Bool, true, false, cond, arith}
use Rattle.std.specs.Prelude.{filter, not}
use Rattle.cf_layout.specs.Layout.{Plan}
use Rattle.cf_semantics.specs.moves.Sites.{Stage}
use Rattle.cf_semantics.specs.state.State.{State}
use Rattle.cf_index.specs.Sites.{uses_place}
use Rattle.cf_run.specs.Made.{Made}
use Rattle.cf_timed.specs.Chains.{sum_of_delays}
use Rattle.cf_timed.specs.declared.timed_move.TimedMove.{TimedMove}
use Rattle.cf_timed.specs.DelayedRuns.{DelayRule, delayed_at}
use Rattle.cf_timed.specs.Earliest.{TimedTurn, after_turn}
use Rattle.cf_timed.specs.TimedRuns.{timed_start}
use Rattle.cf_timed.specs.Times.{DelayedMove, before, delayed, done_after, greatest_time, finish_after, moves_with_times, times_after}
use Rattle.cf_timed.proofs.Delaying.{kept_time}
use Rattle.cf_timed.specs.Arrivals.{last_at}
use Rattle.cf_timed.proofs.Following.{no_later}
use Rattle.cf_timed.proofs.Greatest.{where_more, where_none}
use Rattle.run_ledger.specs.Breakdowns.{busy}
use Rattle.run_ledger.specs.Gaps.{Gap, empty_time, gaps, gaps_from, holds_any, gap_total, users, waiting}
use Rattle.run_ledger.specs.SeenMoves.{SeenMove, seen_move, seen_from, seen_in, time_of, untimed_all}
use Rattle.run_ledger.specs.Using.{uses_stage}

-- a move starts when the moves before it that use the same stage have finished
starts_late : (plan : Plan) (earlier : List TimedMove) (d : DelayedMove) (i : ℕ) → uses_stage plan i d.mv ≡ true →
    last_at plan earlier (Stage i) + d.delay ≤ finish_after plan earlier d
unfolding finish_after
starts_late plan earlier d i e =
    let n : last_at plan earlier (Stage i) ≤ greatest_time (before plan d.mv earlier) + 0 = no_later plan earlier (delayed d.mv 0) (Stage i) e in
    omega (arith, n)

-- the last move that uses it is then that move, or the same as before
last_more : (plan : Plan) (earlier : List TimedMove) (d : DelayedMove) (i : ℕ) (b : Bool) → uses_stage plan i d.mv ≡ b →
    last_at plan (done_after plan earlier d ∷ earlier) (Stage i) ≡ max (cond b (finish_after plan earlier d) 0) (last_at plan earlier (Stage i))
last_more plan earlier d i b e =
    where_more (λ done. uses_place plan done.mv (Stage i)) (done_after plan earlier d) earlier
    ∙ ap (λ (c : Bool). max (cond c (finish_after plan earlier d) 0) (last_at plan earlier (Stage i))) e

last_used : (plan : Plan) (earlier : List TimedMove) (d : DelayedMove) (i : ℕ) → uses_stage plan i d.mv ≡ true →
    finish_after plan earlier d ≡ last_at plan (done_after plan earlier d ∷ earlier) (Stage i)
last_used plan earlier d i e =
    let m = last_more plan earlier d i true e in
    let s = starts_late plan earlier d i e in
    omega (arith, m, s)

last_same : (plan : Plan) (earlier : List TimedMove) (d : DelayedMove) (i : ℕ) → uses_stage plan i d.mv ≡ false →
    last_at plan earlier (Stage i) ≡ last_at plan (done_after plan earlier d ∷ earlier) (Stage i)
last_same plan earlier d i e = let m = last_more plan earlier d i false e in omega (arith, m)

-- the next move of a run, and the moves after it
abbrev next_delayed : DelayRule → TimedTurn → Made → DelayedMove
next_delayed rule t made = delayed_at rule t.state t.earlier made.move

abbrev next_seen : Plan → DelayRule → TimedTurn → Made → SeenMove
next_seen plan rule t made = seen_move (done_after plan t.earlier (next_delayed rule t made)) made

abbrev rest_seen : Plan → DelayRule → TimedTurn → Made → List Made → List SeenMove
rest_seen plan rule t made trace = seen_from plan rule (after_turn plan rule t made) trace

-- the delays of those of some moves that use the stage
abbrev in_use : Plan → ℕ → List SeenMove → List DelayedMove
in_use plan i moves = filter (λ d. uses_stage plan i d.mv) (untimed_all moves)

-- the moves that use it, and the gaps between them, make up the whole time from the first gap on
spans : (plan : Plan) (rule : DelayRule) (i : ℕ) (t : TimedTurn) (trace : List Made) (begin end : ℕ) (held : Bool) →
    begin ≡ last_at plan t.earlier (Stage i) → greatest_time (times_after plan t.earlier (untimed_all (seen_from plan rule t trace))) ≤ end →
    sum_of_delays (in_use plan i (seen_from plan rule t trace)) + gap_total (gaps_from i begin held (users plan i (seen_from plan rule t trace)) end) + begin
    ≡ end
unfolding sum_of_delays
spans plan rule i t [] begin end held is late =
    let k : last_at plan t.earlier (Stage i) ≤ greatest_time t.earlier = kept_time (λ done. uses_place plan done.mv (Stage i)) t.earlier in
    let l : greatest_time t.earlier ≤ end = late in
    omega (arith, k, is, l)
spans plan rule i t (made ∷ trace) begin end held is late =
    by (uses_stage plan i made.move) refl
    (λ e. spans plan rule i (after_turn plan rule t made) trace (finish_after plan t.earlier (next_delayed rule t made)) end (holds_any made.state i)
    (last_used plan t.earlier (next_delayed rule t made) i e) late)
    (λ e. spans plan rule i (after_turn plan rule t made) trace begin end held (is ∙ last_same plan t.earlier (next_delayed rule t made) i e) late)
  where
    by : (b : Bool) → uses_stage plan i made.move ≡ b →
        (uses_stage plan i made.move ≡ true → sum_of_delays (in_use plan i (rest_seen plan rule t made trace))
        + gap_total (gaps_from i (finish_after plan t.earlier (next_delayed rule t made)) (holds_any made.state i)
        (users plan i (rest_seen plan rule t made trace)) end)
        + finish_after plan t.earlier (next_delayed rule t made) ≡ end) →
        (uses_stage plan i made.move ≡ false → sum_of_delays (in_use plan i (rest_seen plan rule t made trace))
        + gap_total (gaps_from i begin held (users plan i (rest_seen plan rule t made trace)) end) + begin ≡ end) →
        sum_of_delays (cond b (next_delayed rule t made ∷ in_use plan i (rest_seen plan rule t made trace)) (in_use plan i (rest_seen plan rule t made trace)))
        + gap_total (gaps_from i begin held (cond b (next_seen plan rule t made ∷ users plan i (rest_seen plan rule t made trace))
        (users plan i (rest_seen plan rule t made trace))) end) + begin ≡ end
    by true e used unused =
        added (next_delayed rule t made).delay (finish_after plan t.earlier (next_delayed rule t made)) (last_at plan t.earlier (Stage i))
        (sum_of_delays (in_use plan i (rest_seen plan rule t made trace)))
        (gap_total (gaps_from i (finish_after plan t.earlier (next_delayed rule t made)) (holds_any made.state i)
        (users plan i (rest_seen plan rule t made trace)) end))
        (starts_late plan t.earlier (next_delayed rule t made) i e) (used e) is
      where
        added : (delay time last used left : ℕ) → last + delay ≤ time → used + left + time ≡ end → begin ≡ last →
            (delay + used) + ((time - delay) - begin + left) + begin ≡ end
        added delay time last used left s r is = omega (arith, s, r, is)
    by false e used unused = unused e

-- a gap is of one of the two kinds
two_kinds : (some : List Gap) → gap_total (filter (λ g. g.is_held) some) + gap_total (filter (λ g. not g.is_held) some) ≡ gap_total some
two_kinds [] = refl
two_kinds (g ∷ some) = by g.is_held (two_kinds some)
  where
    by : (b : Bool) → gap_total (filter (λ x. x.is_held) some) + gap_total (filter (λ x. not x.is_held) some) ≡ gap_total some →
        gap_total (cond b (g ∷ filter (λ x. x.is_held) some) (filter (λ x. x.is_held) some))
        + gap_total (cond (not b) (g ∷ filter (λ x. not x.is_held) some) (filter (λ x. not x.is_held) some)) ≡ (g.end - g.begin) + gap_total some
    by true r = omega (arith, r)
    by false r = omega (arith, r)

-- the law
pub whole-time : (plan : Plan) (rule : DelayRule) (s : State) (trace : List Made) (i : ℕ) →
    busy (uses_stage plan i) (untimed_all (seen_in plan rule s trace)) + waiting plan (seen_in plan rule s trace) i
    + empty_time plan (seen_in plan rule s trace) i
    ≡ time_of plan (seen_in plan rule s trace)
unfolding busy waiting empty_time gaps moves_with_times
whole-time plan rule s trace i =
    let moves : List SeenMove = seen_in plan rule s trace in
    let end : ℕ = time_of plan moves in
    let z = where_none (λ done. uses_place plan done.mv (Stage i)) in
    let last : greatest_time (times_after plan [] (untimed_all moves)) ≤ end = least end in
    all (sum_of_delays (in_use plan i moves)) (gap_total (filter (λ g. g.is_held) (gaps_from i 0 false (users plan i moves) end)))
    (gap_total (filter (λ g. not g.is_held) (gaps_from i 0 false (users plan i moves) end))) (gap_total (gaps_from i 0 false (users plan i moves) end)) end
    (spans plan rule i (timed_start s) trace 0 end false (sym z) last) (two_kinds (gaps_from i 0 false (users plan i moves) end))
  where
    least : (n : ℕ) → n ≤ n
    least n = omega arith

    all : (used held others both end : ℕ) → used + both + 0 ≡ end → held + others ≡ both → used + held + others ≡ end
    all used held others both end a k = omega (arith, a, k)
