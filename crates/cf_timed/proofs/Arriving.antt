-- The state of a timed run on its way: its picks are those that finish earliest, and the clock has recorded its moves.
use Rattle.std.proofs.Common.{◌≡◌, ◌∙◌, refl, sym, ap, subst, ℕ, suc, ◌+◌, ◌^◌, ◌<◌, List, [], ◌∷◌, ◌++◌, length, arith, append-nil, append_assoc}
use Rattle.std.specs.List.{AllByRecursion}
use Rattle.run_options.specs.declared.guess_rule.GuessRule.{GuessRule}
use Rattle.cf_layout.specs.Layout.{Plan}
use Rattle.cf_layout.specs.Accepted.{IsAccepted}
use Rattle.cf_bind.specs.declared.moves.Move.{Move}
use Rattle.cf_semantics.specs.state.State.{State}
use Rattle.cf_sched.specs.Paces.{offered_by, stopped}
use Rattle.cf_run.specs.Made.{Made}
use Rattle.cf_run.specs.Policies.{Chooser, Picks, chooser, first_pick, later_picks}
use Rattle.cf_run.proofs.Stopped.{offered-stopped}
use Rattle.cf_timed.specs.declared.timed_move.TimedMove.{TimedMove}
use Rattle.cf_timed.specs.Arrivals.{ClockFollows, SoFar, turn_after}
use Rattle.cf_timed.specs.Delays.{AreDelays}
use Rattle.cf_timed.specs.DelayedRuns.{DelayRule, delay_at, delayed_at, timed_after, visits_of}
use Rattle.cf_timed.specs.Times.{delayed, done_after, done_at, greatest_time}
use Rattle.cf_timed.specs.Clocks.{AreKept, SiteTimes, capped, clocked, stamped}
use Rattle.cf_timed.specs.Earliest.{AreEarliest, TimedTurn, earliest, first_least, time_in, after_turn}
use Rattle.cf_timed.specs.Turns.{timed_by}
use Rattle.cf_timed.specs.Watching.{watched, watched_text}
use Rattle.cf_timed.proofs.Delaying.{all_time, time_few}
use Rattle.cf_timed.proofs.Following.{delay_follows, finish_follows, follows_more}
use Rattle.cf_timed.proofs.Leasts.{least-same}
use Rattle.cf_timed.proofs.Room.{offered_kept}

-- the state of a run after some moves and one more
pub turn-last : (plan : Plan) (rule : DelayRule) (t : TimedTurn) (trace : List Made) (made : Made) →
    turn_after plan rule t (trace ++ made ∷ []) ≡ after_turn plan rule (turn_after plan rule t trace) made
turn-last plan rule t [] made = refl
turn-last plan rule t (first ∷ trace) made = turn-last plan rule (after_turn plan rule t first) trace made

-- its moves, each with its time
pub timed-there : (plan : Plan) (rule : DelayRule) (t : TimedTurn) (trace : List Made) →
    timed_after plan rule t.earlier (visits_of t.state trace) ≡ (turn_after plan rule t trace).earlier
unfolding timed_after
timed-there plan rule t [] = refl
timed-there plan rule t (made ∷ trace) = timed-there plan rule (after_turn plan rule t made) trace

-- one more pick, and the move that is made by it
pub tried-last : (r : GuessRule) (plan : Plan) (rule : DelayRule) (t : TimedTurn) (picks : List ℕ) (trace : List Made) (place : ℕ) →
    AreEarliest r plan rule t picks trace → length picks ≡ length trace → place ≡ earliest r plan rule (turn_after plan rule t trace) →
    AreEarliest r plan rule t (picks ++ place ∷ []) trace
unfolding AreEarliest
tried-last r plan rule t [] [] place h size e = e
tried-last r plan rule t (p ∷ picks) [] place h size e = absurd (omega (arith, size))
tried-last r plan rule t [] (made ∷ trace) place h size e = absurd h
tried-last r plan rule t (p ∷ picks) (made ∷ trace) place h size e =
    (h.0, tried-last r plan rule (after_turn plan rule t made) picks trace place h.1 (omega (arith, size)) e)

made-last : (r : GuessRule) (plan : Plan) (rule : DelayRule) (t : TimedTurn) (picks : List ℕ) (trace : List Made) (place : ℕ) (made : Made) →
    AreEarliest r plan rule t picks trace → length picks ≡ length trace → place ≡ earliest r plan rule (turn_after plan rule t trace) →
    AreEarliest r plan rule t (picks ++ place ∷ []) (trace ++ made ∷ [])
unfolding AreEarliest
made-last r plan rule t [] [] place made h size e = (e, tt)
made-last r plan rule t (p ∷ picks) [] place made h size e = absurd (omega (arith, size))
made-last r plan rule t [] (first ∷ trace) place made h size e = absurd h
made-last r plan rule t (p ∷ picks) (first ∷ trace) place made h size e =
    (h.0, made-last r plan rule (after_turn plan rule t first) picks trace place made h.1 (omega (arith, size)) e)

-- one more move was noted
pub watched-last : {W : Type 0} (noted : W → Made → TimedMove → W) (plan : Plan) (rule : DelayRule) (t : TimedTurn) (w : W) (trace : List Made) (made : Made) →
    watched noted plan rule t w (trace ++ made ∷ []) ≡ noted (watched noted plan rule t w trace) made
    (done_after plan (turn_after plan rule t trace).earlier (delayed_at rule (turn_after plan rule t trace).state
    (turn_after plan rule t trace).earlier made.move))
unfolding watched
watched-last noted plan rule t w [] made = refl
watched-last noted plan rule t w (first ∷ trace) made =
    watched-last noted plan rule (after_turn plan rule t first)
    (noted w first (done_after plan t.earlier (delayed_at rule t.state t.earlier first.move))) trace made

-- and one more text written
text-after : {W : Type 0} (noted : W → Made → TimedMove → W) (text : W → Made → TimedMove → List ℕ) (plan : Plan) (rule : DelayRule) (t : TimedTurn) (w : W)
    (trace : List Made) (made : Made) → watched_text noted text plan rule t w (trace ++ made ∷ []) ≡ watched_text noted text plan rule t w trace
    ++ text (watched noted plan rule t w trace) made (done_after plan (turn_after plan rule t trace).earlier (delayed_at rule
    (turn_after plan rule t trace).state (turn_after plan rule t trace).earlier made.move))
unfolding watched watched_text
text-after noted text plan rule t w [] made = append-nil (text w made (done_after plan t.earlier (delayed_at rule t.state t.earlier made.move)))
text-after {W} noted text plan rule t w (first ∷ trace) made =
    let next : W = noted w first (done_after plan t.earlier (delayed_at rule t.state t.earlier first.move)) in
    ap (λ (l : List ℕ). text w first (done_after plan t.earlier (delayed_at rule t.state t.earlier first.move)) ++ l)
    (text-after noted text plan rule (after_turn plan rule t first) next trace made)
    ∙ sym (append_assoc (text w first (done_after plan t.earlier (delayed_at rule t.state t.earlier first.move)))
    (watched_text noted text plan rule (after_turn plan rule t first) next trace)
    (text (watched noted plan rule (after_turn plan rule t first) next trace) made (done_after plan
    (turn_after plan rule (after_turn plan rule t first) trace).earlier (delayed_at rule (turn_after plan rule (after_turn plan rule t first) trace).state
    (turn_after plan rule (after_turn plan rule t first) trace).earlier made.move))))

-- a watcher after a turn, and what it has written: the text of the last move, by the clock, comes last
pub watcher-more : {W : Type 0} (noted : W → Made → TimedMove → W) (plan : Plan) (rule : DelayRule) (begin turn : TimedTurn) (first watcher next : W)
    (trace : List Made) (made : Made) (done : TimedMove) → turn ≡ turn_after plan rule begin trace →
    done ≡ done_after plan turn.earlier (delayed_at rule turn.state turn.earlier made.move) → watcher ≡ watched noted plan rule begin first trace →
    next ≡ noted watcher made done → next ≡ watched noted plan rule begin first (trace ++ made ∷ [])
watcher-more {W} noted plan rule begin turn first watcher next trace made done turn_is done_is watcher_is next_is =
    next_is ∙ ap (noted watcher made) done_is
    ∙ ap (λ (w : W). noted w made (done_after plan turn.earlier (delayed_at rule turn.state turn.earlier made.move))) watcher_is
    ∙ ap (λ (t : TimedTurn). noted (watched noted plan rule begin first trace) made
    (done_after plan t.earlier (delayed_at rule t.state t.earlier made.move))) turn_is
    ∙ sym (watched-last noted plan rule begin first trace made)

pub text-more : {W : Type 0} (noted : W → Made → TimedMove → W) (text : W → Made → TimedMove → List ℕ) (plan : Plan) (rule : DelayRule) (begin turn : TimedTurn)
    (first watcher : W) (trace : List Made) (made : Made) (done : TimedMove) → turn ≡ turn_after plan rule begin trace →
    done ≡ done_after plan turn.earlier (delayed_at rule turn.state turn.earlier made.move) → watcher ≡ watched noted plan rule begin first trace →
    watched_text noted text plan rule begin first (trace ++ made ∷ []) ≡ watched_text noted text plan rule begin first trace ++ text watcher made done
text-more {W} noted text plan rule begin turn first watcher trace made done turn_is done_is watcher_is =
    text-after noted text plan rule begin first trace made
    ∙ ap (λ (l : List ℕ). watched_text noted text plan rule begin first trace ++ l)
    (sym (ap (text watcher made) done_is
    ∙ ap (λ (w : W). text w made (done_after plan turn.earlier (delayed_at rule turn.state turn.earlier made.move))) watcher_is
    ∙ ap (λ (t : TimedTurn). text (watched noted plan rule begin first trace) made
    (done_after plan t.earlier (delayed_at rule t.state t.earlier made.move))) turn_is))

-- the picks of a run, and more picks after them
pub picks-longer : (plan : Plan) (r : GuessRule) (xs ys : List ℕ) (n : ℕ) (s : State) (trace : List Made) (last : Chooser (List ℕ)) →
    length xs ≡ length trace → Picks first_pick later_picks plan (chooser r xs n) s trace last →
    Picks first_pick later_picks plan (chooser r (xs ++ ys) n) s trace (record last { policy = ys })
unfolding Picks
picks-longer plan r [] ys n s [] last size picks = ap (λ (c : Chooser (List ℕ)). record c { policy = ys }) picks
picks-longer plan r (x ∷ xs) ys n s [] last size picks = absurd (omega (arith, size))
picks-longer plan r [] ys n s (made ∷ trace) last size picks = absurd (omega (arith, size))
picks-longer plan r (x ∷ xs) ys n s (made ∷ trace) last size (pick, picks) =
    (pick, picks-longer plan r xs ys _ made.state trace last (omega (arith, size)) picks)

-- the time of a move by the clock is its time
pub capped-is : (plan : Plan) (rule : DelayRule) (t : TimedTurn) (clock : SiteTimes) (mv : Move) → AreDelays rule.spans →
    ClockFollows plan rule t.earlier clock → greatest_time t.earlier + 1000 < 2 ^ 64 → AreKept plan mv →
    capped (clocked clock t.state) mv ≡ time_in plan rule t.state t.earlier mv
capped-is plan rule t clock mv few h early kept =
    let f = finish_follows plan rule t.earlier clock t.state mv h kept in
    let g = time_few plan rule t.state t.earlier mv few in
    omega (arith, f, g, early)

each_capped : (plan : Plan) (rule : DelayRule) (t : TimedTurn) (clock : SiteTimes) (moves : List Move) → AreDelays rule.spans →
    ClockFollows plan rule t.earlier clock →
    greatest_time t.earlier + 1000 < 2 ^ 64 → AllByRecursion (AreKept plan) moves →
    AllByRecursion (λ mv. capped (clocked clock t.state) mv ≡ time_in plan rule t.state t.earlier mv) moves
each_capped plan rule t clock [] few h early kept = tt
each_capped plan rule t clock (mv ∷ moves) few h early kept =
    (capped-is plan rule t clock mv few h early kept.0, each_capped plan rule t clock moves few h early kept.1)

-- so the clock picks the move that finishes earliest
pub pick-is : (r : GuessRule) (plan : Plan) (rule : DelayRule) (t : TimedTurn) (clock : SiteTimes) (held : ℕ) → IsAccepted plan → AreDelays rule.spans →
    ClockFollows plan rule t.earlier clock → greatest_time t.earlier + 1000 < 2 ^ 64 → held ≡ stopped plan.stages t.count →
    first_least (capped (clocked clock t.state)) (offered_by r plan held t.state) ≡ earliest r plan rule t
unfolding earliest
pick-is r plan rule t clock held acc few h early e =
    ap (λ (moves : List Move). first_least (capped (clocked clock t.state)) moves)
    (ap (λ (n : ℕ). offered_by r plan n t.state) e ∙ offered-stopped r plan t.count t.state)
    ∙ least-same (capped (clocked clock t.state)) (time_in plan rule t.state t.earlier) (offered_by r plan t.count t.state)
    (each_capped plan rule t clock (offered_by r plan t.count t.state) few h early (offered_kept r plan t.count t.state acc))

-- what the clock says of the move is its delay and its time
pub timed-is : (plan : Plan) (rule : DelayRule) (t : TimedTurn) (clock : SiteTimes) (mv : Move) → AreDelays rule.spans →
    ClockFollows plan rule t.earlier clock → greatest_time t.earlier + 1000 < 2 ^ 64 → AreKept plan mv →
    timed_by clock t.state mv ≡ done_after plan t.earlier (delayed_at rule t.state t.earlier mv)
timed-is plan rule t clock mv few h early kept =
    let d = delay_follows plan rule t.earlier clock t.state mv h kept in
    let c = capped-is plan rule t clock mv few h early kept in
    ap (λ (n : ℕ). done_at (delayed mv n) (capped (clocked clock t.state) mv)) d
    ∙ ap (λ (n : ℕ). done_at (delayed mv (delay_at rule t.state t.earlier mv)) n) c

-- the moves so far and one more
length-last : {X : Type 0} (xs : List X) (x : X) → length (xs ++ x ∷ []) ≡ suc (length xs)
length-last [] x = refl
length-last (y ∷ ys) x = ap suc (length-last ys x)

pub so-far-more : (r : GuessRule) (plan : Plan) (rule : DelayRule) (begin : TimedTurn) (picks : List ℕ) (trace : List Made) (turn : TimedTurn)
    (clock after : SiteTimes) (place : ℕ) (made : Made) → AreDelays rule.spans → SoFar r plan rule begin picks trace turn clock →
    greatest_time turn.earlier + 1000 < 2 ^ 64 → AreKept plan made.move → place ≡ earliest r plan rule turn →
    after ≡ stamped clock made.move (capped (clocked clock turn.state) made.move) →
    SoFar r plan rule begin (picks ++ place ∷ []) (trace ++ made ∷ []) (after_turn plan rule turn made) after
so-far-more r plan rule begin picks trace turn clock after place made few h early kept picked stamps =
    let there : place ≡ earliest r plan rule (turn_after plan rule begin trace) = picked ∙ ap (earliest r plan rule) h.turn_is in
    let c = capped-is plan rule turn clock made.move few h.follows early kept in
    let n = length-last trace made in
    record {
      turn_is = ap (λ (t : TimedTurn). after_turn plan rule t made) h.turn_is ∙ sym (turn-last plan rule begin trace made);
      are_earliest = made-last r plan rule begin picks trace place made h.are_earliest h.size there;
      size = let p = length-last picks place in let s = h.size in omega (arith, p, n, s);
      follows = subst (λ (k : SiteTimes). ClockFollows plan rule (after_turn plan rule turn made).earlier k)
          (sym (stamps ∙ ap (λ (n : ℕ). stamped clock made.move n) c))
          (follows_more plan rule turn.earlier clock (delayed_at rule turn.state turn.earlier made.move) h.follows kept);
      early =
          let a = all_time (done_after plan turn.earlier (delayed_at rule turn.state turn.earlier made.move)) turn.earlier in
          let g = time_few plan rule turn.state turn.earlier made.move few in
          let y = h.early in
          omega (arith, a, g, y, n);
    }
