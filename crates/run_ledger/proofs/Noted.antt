-- The ledger of a timed run has recorded its moves.
use Rattle.std.proofs.Common.{◌≡◌, ◌∙◌, refl, sym, ap, subst, ℕ, ◌+◌, ◌-◌, ◌*◌, ◌^◌, ◌<◌, List, [], ◌∷◌, length, map, suc, Option, arith}
use Rattle.std.specs.Prelude.{min, replicate}
use Rattle.std.specs.List.{AllByRecursion}
use Rattle.run_options.specs.declared.guess_rule.GuessRule.{GuessRule}
use Rattle.rv_machine.specs.Streams.{Streams}
use Rattle.cf_layout.specs.Layout.{Plan}
use Rattle.cf_layout.specs.Accepted.{IsAccepted}
use Rattle.cf_semantics.specs.moves.Candidates.{counted_from}
use Rattle.cf_semantics.specs.state.State.{State}
use Rattle.cf_core.specs.Processors.{Processor}
use Rattle.cf_run.specs.Made.{Made}
use Rattle.cf_run.specs.Policies.{fresh_chooser}
use Rattle.cf_timed.specs.declared.answer.Timed.{Timed}
use Rattle.cf_timed.specs.declared.timed_move.TimedMove.{TimedMove}
use Rattle.cf_timed.specs.Clocks.{AreKept, SiteTimes}
use Rattle.cf_timed.specs.Delays.{AreDelays}
use Rattle.cf_timed.specs.DelayedRuns.{DelayRule, delayed_at, delays_after, visits_of}
use Rattle.cf_timed.specs.Earliest.{TimedTurn, after_turn}
use Rattle.cf_timed.specs.TimedRuns.{CanRunTimed, RunsWatched, begins, timed_start}
use Rattle.cf_timed.specs.Times.{DelayedMove, done_after, greatest_time}
use Rattle.cf_timed.specs.Watching.{watched}
use Rattle.cf_timed.proofs.Delaying.{all_time}
use Rattle.cf_timed.proofs.Numbered.{numbered_length}
use Rattle.cf_timed.proofs.Few.{delays-length, delays-short, moves-few, moves-kept}
use Rattle.run_ledger.specs.Breakdowns.{breakdown}
use Rattle.run_ledger.specs.ClassCounts.{latencies_noted, no_latencies}
use Rattle.run_ledger.specs.GapCounts.{empty_until, gaps_at, gaps_noted, no_gaps, waiting_until, with_gap}
use Rattle.run_ledger.specs.Gaps.{empty_time, gaps, waiting}
use Rattle.run_ledger.specs.Latencies.{latency, of_class, passages, passages_after, retired_count, total_ticks}
use Rattle.run_ledger.specs.Ledgers.{ledger_noted, noted_all, new_ledger}
use Rattle.run_ledger.specs.NotedRuns.{RunsNoted}
use Rattle.run_ledger.specs.RunLedgers.{begun, move_noted, moves_noted, breakdown_in}
use Rattle.run_ledger.specs.SeenMoves.{SeenMove, seen_move, seen_from, seen_in, time_of, untimed_all}
use Rattle.run_ledger.specs.declared.gaps.StageGaps.{StageGaps}
use Rattle.run_ledger.specs.declared.latencies.Latencies.{Latencies}
use Rattle.run_ledger.specs.declared.run_ledger.RunLedger.{RunLedger}
use Rattle.run_ledger.proofs.Gapped.{all_over, at_number, empty-over, gaps_over, over_each, waiting-over}
use Rattle.run_ledger.proofs.Growing.{AreShort, time_short, times_few}
use Rattle.run_ledger.proofs.Keeping.{KnowsSites, knows-all}
use Rattle.run_ledger.proofs.Numbered.{numbered_same}
use Rattle.run_ledger.proofs.Passed.{grown-all, latencies_over, latency-short, no-issues-yet, raised, raised-each, retired-few, total_of, total_one, total_same}
use Rattle.run_ledger.proofs.StageTimes.{whole-time}

-- how a ledger notes a move
abbrev pub notes : RunLedger → Made → TimedMove → RunLedger
notes l made done = move_noted l (seen_move done made)

-- and it writes nothing
abbrev pub silent : RunLedger → Made → TimedMove → List ℕ
silent l made done = []

-- it records the moves that are made, each with its time and the state that it leaves
watched-all : (plan : Plan) (rule : DelayRule) (t : TimedTurn) (l : RunLedger) (trace : List Made) →
    watched notes plan rule t l trace ≡ moves_noted l (seen_from plan rule t trace)
unfolding watched
watched-all plan rule t l [] = refl
watched-all plan rule t l (made ∷ trace) =
    watched-all plan rule (after_turn plan rule t made)
    (notes l made (done_after plan t.earlier (delayed_at rule t.state t.earlier made.move))) trace

-- without their times they are the moves with their delays
untimed-seen : (plan : Plan) (rule : DelayRule) (t : TimedTurn) (trace : List Made) →
    untimed_all (seen_from plan rule t trace) ≡ delays_after plan rule t.earlier (visits_of t.state trace)
untimed-seen plan rule t [] = refl
untimed-seen plan rule t (made ∷ trace) =
    ap (λ (more : List DelayedMove). delayed_at rule t.state t.earlier made.move ∷ more) (untimed-seen plan rule (after_turn plan rule t made) trace)

-- each part of the ledger has recorded them
sites-noted : (l : RunLedger) (moves : List SeenMove) → (moves_noted l moves).sites ≡ noted_all l.sites (untimed_all moves)
unfolding move_noted
sites-noted l [] = refl
sites-noted l (m ∷ moves) = sites-noted (move_noted l m) moves

layout-kept : (plan : Plan) (l : RunLedger) (m : SeenMove) → l.sites.layout ≡ plan → (move_noted l m).sites.layout ≡ plan
unfolding move_noted ledger_noted
layout-kept plan l m is = is

layout-begun : (plan : Plan) → (begun plan).sites.layout ≡ plan
unfolding begun new_ledger
layout-begun plan = refl

gaps-noted : (plan : Plan) (l : RunLedger) (moves : List SeenMove) → l.sites.layout ≡ plan → (moves_noted l moves).gaps ≡ all_over plan moves l.gaps
unfolding move_noted
gaps-noted plan l [] is = refl
gaps-noted plan l (m ∷ moves) is =
    gaps-noted plan (move_noted l m) moves (layout-kept plan l m is) ∙ ap (λ (p : Plan). all_over plan moves (gaps_noted p m.done m.state l.gaps)) is

latencies-noted : (plan : Plan) (l : RunLedger) (moves : List SeenMove) → l.sites.layout ≡ plan →
    (moves_noted l moves).latencies ≡ latencies_over plan moves l.latencies
unfolding move_noted
latencies-noted plan l [] is = refl
latencies-noted plan l (m ∷ moves) is =
    latencies-noted plan (move_noted l m) moves (layout-kept plan l m is)
    ∙ ap (λ (p : Plan). latencies_over plan moves (latencies_noted p m.done m.event l.latencies)) is

-- the gaps of a stage, up to the end of the run
waiting-is : (plan : Plan) (moves : List SeenMove) (i : ℕ) → waiting plan moves i < 2 ^ 64 →
    (with_gap (gaps_over plan i moves no_gaps) (time_of plan moves)).waiting ≡ waiting plan moves i
unfolding waiting gaps
waiting-is plan moves i small = waiting-over plan i moves no_gaps (time_of plan moves) (omega arith) ∙ omega (arith, small)

empty-is : (plan : Plan) (moves : List SeenMove) (i : ℕ) → empty_time plan moves i < 2 ^ 64 →
    (with_gap (gaps_over plan i moves no_gaps) (time_of plan moves)).empty ≡ empty_time plan moves i
unfolding empty_time gaps
empty-is plan moves i small = empty-over plan i moves no_gaps (time_of plan moves) (omega arith) ∙ omega (arith, small)

gaps-each : (plan : Plan) (moves : List SeenMove) → all_over plan moves (replicate 33 no_gaps) ≡ map (λ i. gaps_over plan i moves no_gaps) (counted_from 0 33)
gaps-each plan moves = over_each plan 33 moves (λ i. no_gaps)

-- the gaps of each stage
each-until : (field : StageGaps → ℕ) (plan : Plan) (moves : List SeenMove) (f : ℕ → ℕ) →
    ((i : ℕ) → field (with_gap (gaps_over plan i moves no_gaps) (time_of plan moves)) ≡ f i) →
    map (λ i. field (with_gap (gaps_at (all_over plan moves (replicate 33 no_gaps)) i) (time_of plan moves)))
    (counted_from 0 (length (all_over plan moves (replicate 33 no_gaps)))) ≡ map f (counted_from 0 33)
each-until field plan moves f each =
    let end : ℕ = time_of plan moves in
    ap (λ (all : List StageGaps). map (λ i. field (with_gap (gaps_at all i) end)) (counted_from 0 (length all))) (gaps-each plan moves)
    ∙ ap (λ (n : ℕ). map (λ i. field (with_gap (gaps_at (map (λ k. gaps_over plan k moves no_gaps) (counted_from 0 33)) i) end)) (counted_from 0 n))
    (numbered_length (λ k. gaps_over plan k moves no_gaps) 0 33)
    ∙ numbered_same (λ i. field (with_gap (gaps_at (map (λ k. gaps_over plan k moves no_gaps) (counted_from 0 33)) i) end)) f 33
    (λ i within. ap (λ (g : StageGaps). field (with_gap g end)) (at_number (λ k. gaps_over plan k moves no_gaps) 33 i within) ∙ each i)

waiting-each : (plan : Plan) (moves : List SeenMove) → ((i : ℕ) → waiting plan moves i < 2 ^ 64) →
    waiting_until (time_of plan moves) (all_over plan moves (replicate 33 no_gaps)) ≡ map (waiting plan moves) (counted_from 0 33)
waiting-each plan moves small = each-until (λ g. g.waiting) plan moves (waiting plan moves) (λ i. waiting-is plan moves i (small i))

empty-each : (plan : Plan) (moves : List SeenMove) → ((i : ℕ) → empty_time plan moves i < 2 ^ 64) →
    empty_until (time_of plan moves) (all_over plan moves (replicate 33 no_gaps)) ≡ map (empty_time plan moves) (counted_from 0 33)
empty-each plan moves small = each-until (λ g. g.empty) plan moves (empty_time plan moves) (λ i. empty-is plan moves i (small i))

-- the instructions of each class
retired-each : (plan : Plan) (moves : List SeenMove) → length moves < 2 ^ 64 →
    raised (2 ^ 64 - 1) (λ p. 1) (replicate 11 0) (passages_after plan [] moves) ≡ map (retired_count plan moves) (counted_from 0 11)
unfolding retired_count passages
retired-each plan moves small =
    raised-each (2 ^ 64 - 1) (λ p. 1) (λ place. 0) (passages_after plan [] moves) (λ place. omega arith)
    ∙ numbered_same (λ place. min (0 + total_of (λ p. 1) (of_class place (passages_after plan [] moves))) (2 ^ 64 - 1))
    (λ place. length (of_class place (passages_after plan [] moves))) 11
    (λ place within.
    let a = total_one (of_class place (passages_after plan [] moves)) in
    let b = retired-few plan [] moves place in
    omega (arith, a, b, small))

latency-each : (plan : Plan) (moves : List SeenMove) → AllByRecursion (λ m. m.done.time < 2 ^ 64) moves → length moves < 2 ^ 63 →
    raised (2 ^ 128 - 1) (λ p. p.ticks) (replicate 11 0) (passages_after plan [] moves) ≡ map (latency plan moves) (counted_from 0 11)
unfolding latency passages
latency-each plan moves few small =
    raised-each (2 ^ 128 - 1) (λ p. p.ticks) (λ place. 0) (passages_after plan [] moves) (λ place. omega arith)
    ∙ numbered_same (λ place. min (0 + total_of (λ p. p.ticks) (of_class place (passages_after plan [] moves))) (2 ^ 128 - 1))
    (λ place. total_ticks (of_class place (passages_after plan [] moves))) 11
    (λ place within.
    let a = total_same (of_class place (passages_after plan [] moves)) in
    let b = latency-short plan [] moves place few in
    omega (arith, a, b, small))

-- no move finishes later than the sum of all delays
seen-short : (plan : Plan) (rule : DelayRule) (t : TimedTurn) (trace : List Made) → AreShort (untimed_all (seen_from plan rule t trace)) →
    greatest_time t.earlier + 1000 * length (seen_from plan rule t trace) < 2 ^ 64 → AllByRecursion (λ m. m.done.time < 2 ^ 64) (seen_from plan rule t trace)
seen-short plan rule t [] short few = tt
seen-short plan rule t (made ∷ trace) short few =
    let d : DelayedMove = delayed_at rule t.state t.earlier made.move in
    let s = time_short plan t.earlier d short.0 in
    let f : greatest_time t.earlier + 1000 * suc (length (seen_from plan rule (after_turn plan rule t made) trace)) < 2 ^ 64 = few in
    let a = all_time (done_after plan t.earlier d) t.earlier in
    (omega (arith, s, f), seen-short plan rule (after_turn plan rule t made) trace short.1 (omega (arith, s, a, f)))

-- the same for moves with and without their times
kept-seen : (plan : Plan) (moves : List SeenMove) → AllByRecursion (λ d. AreKept plan d.mv) (untimed_all moves) →
    AllByRecursion (λ m. AreKept plan m.done.mv) moves
kept-seen plan [] kept = tt
kept-seen plan (m ∷ moves) kept = (kept.0, kept-seen plan moves kept.1)

untimed-length : (moves : List SeenMove) → length (untimed_all moves) ≡ length moves
untimed-length [] = refl
untimed-length (m ∷ moves) = let r = untimed-length moves in omega (arith, r)

none-done : greatest_time [] ≡ 0
unfolding greatest_time
none-done = refl

-- the parts of a new ledger
sites-begun : (plan : Plan) (moves : List SeenMove) → (moves_noted (begun plan) moves).sites ≡ noted_all (new_ledger plan) (untimed_all moves)
unfolding begun
sites-begun plan moves = sites-noted (begun plan) moves

gaps-begun : (plan : Plan) (moves : List SeenMove) → (moves_noted (begun plan) moves).gaps ≡ all_over plan moves (replicate 33 no_gaps)
unfolding begun
gaps-begun plan moves = gaps-noted plan (begun plan) moves (layout-begun plan)

latencies-begun : (plan : Plan) (moves : List SeenMove) → (moves_noted (begun plan) moves).latencies ≡ latencies_over plan moves no_latencies
unfolding begun
latencies-begun plan moves = latencies-noted plan (begun plan) moves (layout-begun plan)

-- they make up the ledger's breakdown
told-parts : (plan : Plan) (moves : List SeenMove) (l : RunLedger) → KnowsSites plan (untimed_all moves) l.sites →
    waiting_until l.sites.last.time l.gaps ≡ map (waiting plan moves) (counted_from 0 33) →
    empty_until l.sites.last.time l.gaps ≡ map (empty_time plan moves) (counted_from 0 33) →
    l.latencies.retired ≡ map (retired_count plan moves) (counted_from 0 11) → l.latencies.ticks ≡ map (latency plan moves) (counted_from 0 11) →
    breakdown_in l ≡ breakdown plan moves
unfolding breakdown_in breakdown
told-parts plan moves l k waits empties counts sums =
    let a = k.layout_is in
    let b = k.stages_are in
    let c = k.sidings_are in
    let d = k.kinds_are in
    let e = k.chain_is in
    rw (a, b, c, d, e, waits, empties, counts, sums) refl

-- so it knows what their time consists of
told-seen : (plan : Plan) (rule : DelayRule) (s : State) (trace : List Made) → plan.stages < 34 → AreShort (untimed_all (seen_in plan rule s trace)) →
    AllByRecursion (λ d. AreKept plan d.mv) (untimed_all (seen_in plan rule s trace)) → 1000 * length (untimed_all (seen_in plan rule s trace)) < 2 ^ 64 →
    breakdown_in (moves_noted (begun plan) (seen_in plan rule s trace)) ≡ breakdown plan (seen_in plan rule s trace)
told-seen plan rule s trace low short kept small =
    let moves : List SeenMove = seen_in plan rule s trace in
    let l : RunLedger = moves_noted (begun plan) moves in
    let n = untimed-length moves in
    let f = times_few plan (untimed_all moves) short in
    let k : KnowsSites plan (untimed_all moves) l.sites =
    subst (KnowsSites plan (untimed_all moves)) (sym (sites-begun plan moves)) (knows-all plan (untimed_all moves) short kept small) in
    let g = gaps-begun plan moves in
    let c = latencies-begun plan moves in
    let grown = grown-all plan [] moves no_latencies low no-issues-yet (kept-seen plan moves kept) in
    told-parts plan moves l k
    (ap (λ (end : ℕ). waiting_until end l.gaps) k.end_is ∙ ap (waiting_until (time_of plan moves)) g
    ∙ waiting-each plan moves (λ i. let w = whole-time plan rule s trace i in omega (arith, w, f, small)))
    (ap (λ (end : ℕ). empty_until end l.gaps) k.end_is ∙ ap (empty_until (time_of plan moves)) g
    ∙ empty-each plan moves (λ i. let w = whole-time plan rule s trace i in omega (arith, w, f, small)))
    (ap (λ (counts : Latencies). counts.retired) c ∙ grown.retired ∙ retired-each plan moves (omega (arith, n, small)))
    (ap (λ (counts : Latencies). counts.ticks) c ∙ grown.ticks
    ∙ latency-each plan moves (seen-short plan rule (timed_start s) trace short (let z = none-done in omega (arith, n, small, z))) (omega (arith, n, small)))

pub runs-noted : (r : GuessRule) (rule : DelayRule) (limit : ℕ) (core new : Processor) (before after : Streams) (clock : SiteTimes) (first later : RunLedger)
    (blank full : Option (List ℕ)) (moves : ℕ) (answer : Timed) → IsAccepted core.plan → length core.state.regs ≡ 32 → CanRunTimed limit core →
    AreDelays rule.spans → first ≡ begun core.plan →
    RunsWatched notes silent r rule limit (begins core before) new after clock first later blank full moves answer →
    RunsNoted r rule limit (begins core before) new after clock later moves answer
runs-noted r rule limit core new before after clock first later blank full moves answer acc wide can few begun_so h =
    let plan : Plan = core.plan in
    let runs = h.run.right.runs in
    let trace : List Made = runs.reaches.trace in
    let t : TimedTurn = timed_start core.state in
    let small = moves-few r limit (begins core before) runs.now h.run.picks runs.at acc wide can runs.reaches runs.picks in
    let n = delays-length plan rule [] core.state trace in
    let u = untimed-seen plan rule t trace in
    let top = acc.stages in
    record {
      timed = h.run;
      tells = ap breakdown_in (h.noted_all ∙ ap (λ (l : RunLedger). watched notes plan rule t l trace) begun_so ∙ watched-all plan rule t (begun plan) trace)
          ∙ told-seen plan rule core.state trace (omega (arith, top))
          (subst AreShort (sym u) (delays-short plan rule [] (visits_of core.state trace) few))
          (subst (AllByRecursion (λ d. AreKept plan d.mv)) (sym u) (moves-kept plan rule (fresh_chooser r h.run.picks) runs.at core.state trace acc runs.picks))
          (subst (λ (ms : List DelayedMove). 1000 * length ms < 2 ^ 64) (sym u) (omega (arith, small, n)));
    }
