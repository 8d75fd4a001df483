-- No move takes more than 1,000 ticks.
use Rattle.std.proofs.Common.{◌≡◌, refl, ℕ, zero, suc, ◌+◌, ◌-◌, ◌%◌, ◌<◌, ◌≤◌, List, [], ◌∷◌, length, max, Bool, true, false, cond, arith}
use Rattle.std.specs.Prelude.{filter, slice_get, unwrap_or, Option, Some, None}
use Rattle.std.specs.List.{slice_index_or}
use Rattle.rv_inst.specs.declared.classes.Class.{Class}
use Rattle.cf_layout.specs.Layout.{Plan}
use Rattle.cf_bind.specs.declared.moves.Move.{Move}
use Rattle.cf_index.specs.Sites.{shares}
use Rattle.cf_semantics.specs.state.State.{State}
use Rattle.cf_timed.specs.declared.span.Span.{Span}
use Rattle.cf_timed.specs.declared.timed_move.TimedMove.{TimedMove}
use Rattle.cf_timed.specs.Delays.{AreDelays, IsSpan, one_tick, slot_of, span_of}
use Rattle.cf_timed.specs.DelayedRuns.{DelayRule, class_of_move, delay_at, delayed_at, word_of_move}
use Rattle.cf_timed.specs.Drawing.{ticks_in}
use Rattle.cf_timed.specs.Times.{greatest_time, finish_after}
use Rattle.cf_timed.proofs.Greatest.{where_more, where_none}

-- each delay is a range
span_at : (spans : List Span) (k : ℕ) → ((i : ℕ) (d : Span) → i < length spans → IsSpan (slice_index_or spans i d)) →
    IsSpan (unwrap_or (slice_get spans k) one_tick)
span_at [] k h = (omega arith, omega arith, omega arith)
span_at (x ∷ xs) zero h = h 0 x (omega arith)
span_at (x ∷ xs) (suc k) h = span_at xs k (λ i d within. h (suc i) d (omega (arith, within)))

pub is_span : (spans : List Span) (mv : Move) (class : Class) → AreDelays spans → IsSpan (span_of spans mv class)
unfolding span_of
is_span spans mv class h = span_at spans (slot_of mv class) h.each

-- the ticks that a word chooses are within the range
pub ticks_few : (span : Span) (word : Option ℕ) → IsSpan span → ticks_in span word ≤ 1000
unfolding ticks_in
ticks_few span None (low, between, high) = omega (arith, low, between, high)
ticks_few span (Some word) (low, between, high) =
    let r = rest word (span.greatest - span.least) in omega (arith, low, between, high, r)
  where
    rest : (a b : ℕ) → a % (b + 1) ≤ b
    rest a b = grind arith

-- and there is at least one
pub ticks_some : (span : Span) (word : Option ℕ) → IsSpan span → 1 ≤ ticks_in span word
unfolding ticks_in
ticks_some span None (low, between, high) = omega (arith, low)
ticks_some span (Some word) (low, between, high) = omega (arith, low)

pub delay_few : (rule : DelayRule) (s : State) (moves : List TimedMove) (mv : Move) → AreDelays rule.spans → delay_at rule s moves mv ≤ 1000
unfolding delay_at
delay_few rule s moves mv h = ticks_few (span_of rule.spans mv (class_of_move s mv)) (word_of_move rule.seed moves mv)
    (is_span rule.spans mv (class_of_move s mv) h)

-- a move finishes at most its delay after all earlier ones
pub all_time : (done : TimedMove) (moves : List TimedMove) → greatest_time (done ∷ moves) ≡ max done.time (greatest_time moves)
unfolding greatest_time
all_time done moves = refl

pub kept_time : (test : TimedMove → Bool) (moves : List TimedMove) → greatest_time (filter test moves) ≤ greatest_time moves
kept_time test [] = let e = where_none test in omega (arith, e)
kept_time test (done ∷ moves) =
    let e = where_more test done moves in
    let r = kept_time test moves in
    let a = all_time done moves in
    let c : cond (test done) done.time 0 ≤ done.time = few (test done) in
    omega (arith, e, r, a, c)
  where
    few : (b : Bool) → cond b done.time 0 ≤ done.time
    few true = omega arith
    few false = omega arith

pub time_few : (plan : Plan) (rule : DelayRule) (s : State) (moves : List TimedMove) (mv : Move) → AreDelays rule.spans →
    finish_after plan moves (delayed_at rule s moves mv) ≤ greatest_time moves + 1000
unfolding finish_after
time_few plan rule s moves mv h =
    let k = kept_time (λ done. shares plan mv done.mv) moves in
    let d = delay_few rule s moves mv h in
    omega (arith, k, d)
