-- A clock that has recorded some moves of a run has, for each site, the maximum time of the moves that use it.
use Rattle.std.proofs.Common.{◌≡◌, ◌∙◌, refl, sym, ap, subst, ℕ, zero, suc, ◌+◌, ◌<◌, ◌≤◌, List, [], ◌∷◌, length, map, max, Bool, true, false, cond, nat_eq, arith}
use Rattle.std.specs.Prelude.{Option, Some, None, replicate, slice_set, ◌&&◌, ◌||◌}
use Rattle.std.specs.List.{AllByRecursion}
use Rattle.std.proofs.lemmas.Bool.Decides.{nat_tests}
use Rattle.cf_layout.specs.Layout.{Plan}
use Rattle.cf_layout.specs.Accepted.{IsAccepted}
use Rattle.cf_bind.specs.declared.moves.Move.{Move}
use Rattle.cf_semantics.specs.moves.Sites.{Site, Stage, SidingCell, Lane, Fetching, Memory, Code, among, same_site}
use Rattle.cf_index.specs.Sites.{HasSites, LayoutHasSite, shares, used, uses_place}
use Rattle.cf_index.proofs.SharedSites.{IsOne, is_other, same_site_is, used_ones}
use Rattle.cf_index.proofs.SiteWords.{siding_within}
use Rattle.cf_bind.specs.declared.moves.Move.TheVariants.{Issue, Emit, Climb, Fall, Meet, Execute, Send, Launch, Slide, Access, Recover, Leave, Exit, Serve}
use Rattle.cf_semantics.specs.state.State.{State}
use Rattle.cf_timed.specs.declared.draws.DelayDraws.{DelayDraws}
use Rattle.cf_timed.specs.declared.timed_move.TimedMove.{TimedMove}
use Rattle.cf_timed.specs.Arrivals.{ClockFollows, HasDrawnWords, last_at}
use Rattle.cf_timed.specs.Delays.{span_of}
use Rattle.cf_timed.specs.DelayedRuns.{DelayRule, Visit, class_of_move, delay_at, delayed_at, timed_after, word_of_move}
use Rattle.cf_timed.specs.Drawing.{after_word, drawn_from, stream_count, stream_of, ticks_in}
use Rattle.cf_timed.specs.Numbers.{number_at}
use Rattle.cf_timed.specs.Times.{DelayedMove, done_at, done_after, greatest, greatest_time, finish_after}
use Rattle.cf_timed.specs.Clocks.{AreKept, ClockKnows, HasRoom, IsKept, SiteTimes, allowed, clocked, delay_by, drawing, finish_time, made, made_all, put_time, put_times, siding_row, rule_of_clock, stamped, started, time_at}
use Rattle.cf_timed.proofs.Drawn.{drawn_start, number_put, word_drawn, word_taken}
use Rattle.cf_timed.proofs.SiteTimes.{at_start, put_delays, put_draws, put_latest, put_same, same_drawn, same_times}
use Rattle.cf_timed.proofs.Greatest.{where_any, where_more, where_none}

-- two functions that agree on the sites of a list
map_same : (f g : Site → ℕ) (xs : List Site) → AllByRecursion IsKept xs → ((x : Site) → IsKept x → f x ≡ g x) → map f xs ≡ map g xs
map_same f g [] kept same = refl
map_same f g (x ∷ xs) kept same =
    let h = same x kept.0 in
    let r = map_same f g xs kept.1 same in
    rw (h, r) refl

-- the stream of a move is one of the clock's
pub stream_kept : (plan : Plan) (mv : Move) → AreKept plan mv → stream_of mv < stream_count
unfolding stream_of
stream_kept plan (Issue g) kept = omega arith
stream_kept plan Emit kept = omega arith
stream_kept plan (Climb i) kept = let k = kept.0 in omega (arith, k)
stream_kept plan (Fall i) kept = let k = kept.0 in omega (arith, k)
stream_kept plan (Meet i) kept = let k = kept.0 in omega (arith, k)
stream_kept plan (Execute i) kept = let k = kept.0 in omega (arith, k)
stream_kept plan (Send i) kept = let k = kept.0 in omega (arith, k)
stream_kept plan (Launch i) kept = let k = kept.0 in omega (arith, k)
stream_kept plan (Slide k c) kept = let a = kept.0.0 in let b = kept.0.1 in omega (arith, a, b)
stream_kept plan Access kept = omega arith
stream_kept plan (Recover i) kept = let k = kept.0 in omega (arith, k)
stream_kept plan Leave kept = omega arith
stream_kept plan Exit kept = omega arith
stream_kept plan Serve kept = omega arith

-- how long a further move takes
pub delay_follows : (plan : Plan) (rule : DelayRule) (moves : List TimedMove) (c : SiteTimes) (s : State) (mv : Move) → ClockFollows plan rule moves c →
    AreKept plan mv → delay_by (clocked c s) mv ≡ delay_at rule s moves mv
unfolding delay_by delay_at
delay_follows plan rule moves c s mv h kept =
    let w = word_drawn rule.seed moves c.draws mv h.drawn (stream_kept plan mv kept) in
    ap (ticks_in (span_of c.delays mv (class_of_move s mv))) w
    ∙ ap (λ (r : DelayRule). ticks_in (span_of r.spans mv (class_of_move s mv)) (word_of_move rule.seed moves mv)) h.rule_is

-- when a further move finishes
pub finish_follows : (plan : Plan) (rule : DelayRule) (moves : List TimedMove) (c : SiteTimes) (s : State) (mv : Move) → ClockFollows plan rule moves c →
    AreKept plan mv → finish_time (clocked c s) mv ≡ finish_after plan moves (delayed_at rule s moves mv)
unfolding finish_time finish_after shares delay_by greatest_time
finish_follows plan rule moves c s mv h kept =
    let p = h.plan_is in
    let d = delay_follows plan rule moves c s mv h kept in
    rw (p, d) (ap (λ (n : ℕ). n + delay_at rule s moves mv)
    (ap greatest (map_same (time_at c) (last_at plan moves) (used plan mv) kept h.times_are)
    ∙ where_any (λ x done. uses_place plan done.mv x) (used plan mv) moves))

row_put : (rows : List (List ℕ)) (k m : ℕ) (row : List ℕ) → k < length rows → siding_row (slice_set rows k row) m ≡ cond (nat_eq m k) row (siding_row rows m)
row_put [] k m row within = absurd (omega arith)
row_put (r ∷ rows) zero zero row within = refl
row_put (r ∷ rows) zero (suc m) row within = let e : nat_eq (suc m) 0 ≡ false = grind (arith, nat_tests) in rw e refl
row_put (r ∷ rows) (suc k) zero row within = let e : nat_eq 0 (suc k) ≡ false = grind (arith, nat_tests) in rw e refl
row_put (r ∷ rows) (suc k) (suc m) row within = let e : nat_eq (suc m) (suc k) ≡ nat_eq m k = grind (arith, nat_tests) in
    rw e (row_put rows k m row (omega arith))

cell_put : (rows : List (List ℕ)) (k i m j t : ℕ) → k < length rows → i < length (siding_row rows k) →
    number_at (siding_row (slice_set rows k (slice_set (siding_row rows k) i t)) m) j ≡ cond (nat_eq m k && nat_eq j i) t (number_at (siding_row rows m) j)
cell_put rows k i m j t within inside = ap (λ (row : List ℕ). number_at row j) (row_put rows k m (slice_set (siding_row rows k) i t) within)
    ∙ by (nat_eq m k) refl
  where
    by : (same : Bool) → nat_eq m k ≡ same → number_at (cond same (slice_set (siding_row rows k) i t) (siding_row rows m)) j
        ≡ cond (same && nat_eq j i) t (number_at (siding_row rows m) j)
    by true e = let q : m ≡ k = grind (arith, nat_tests) in rw q (number_put (siding_row rows k) i j t inside)
    by false e = refl

-- the time of a site after one time was set
pub time_put : (c : SiteTimes) (t : ℕ) (y x : Site) → HasRoom c → IsKept y → IsKept x → time_at (put_time c t y) x ≡ cond (same_site x y) t (time_at c x)
time_put c t (Stage i) (Stage j) room ky kx = number_put c.stages i j t (omega (arith, room.stages, ky))
time_put c t (SidingCell k i) (SidingCell m j) room ky kx = cell_put c.cells k i m j t (omega (arith, room.sidings, ky.0))
    (omega (arith, room.cells k ky.0, ky.1))
time_put c t (Stage i) (SidingCell m j) room ky kx = refl
time_put c t (Stage i) Lane room ky kx = refl
time_put c t (Stage i) Fetching room ky kx = refl
time_put c t (Stage i) Memory room ky kx = refl
time_put c t (Stage i) Code room ky kx = refl
time_put c t (SidingCell k i) (Stage j) room ky kx = refl
time_put c t (SidingCell k i) Lane room ky kx = refl
time_put c t (SidingCell k i) Fetching room ky kx = refl
time_put c t (SidingCell k i) Memory room ky kx = refl
time_put c t (SidingCell k i) Code room ky kx = refl
time_put c t Lane (Stage j) room ky kx = refl
time_put c t Lane (SidingCell m j) room ky kx = refl
time_put c t Lane Lane room ky kx = refl
time_put c t Lane Fetching room ky kx = refl
time_put c t Lane Memory room ky kx = refl
time_put c t Lane Code room ky kx = refl
time_put c t Fetching (Stage j) room ky kx = refl
time_put c t Fetching (SidingCell m j) room ky kx = refl
time_put c t Fetching Lane room ky kx = refl
time_put c t Fetching Fetching room ky kx = refl
time_put c t Fetching Memory room ky kx = refl
time_put c t Fetching Code room ky kx = refl
time_put c t Memory (Stage j) room ky kx = refl
time_put c t Memory (SidingCell m j) room ky kx = refl
time_put c t Memory Lane room ky kx = refl
time_put c t Memory Fetching room ky kx = refl
time_put c t Memory Memory room ky kx = refl
time_put c t Memory Code room ky kx = refl
time_put c t Code (Stage j) room ky kx = refl
time_put c t Code (SidingCell m j) room ky kx = refl
time_put c t Code Lane room ky kx = refl
time_put c t Code Fetching room ky kx = refl
time_put c t Code Memory room ky kx = refl
time_put c t Code Code room ky kx = refl
time_put c t _ _ room ky kx = absurd (search kx)

-- setting a time leaves the room unchanged
room_put : (c : SiteTimes) (t : ℕ) (y : Site) → HasRoom c → IsKept y → HasRoom (put_time c t y)
room_put c t (Stage i) room kept = record { stages = size c.stages i t ∙ room.stages; sidings = room.sidings; cells = room.cells }
  where
    size : (xs : List ℕ) (i t : ℕ) → length (slice_set xs i t) ≡ length xs
    size [] i t = refl
    size (x ∷ xs) zero t = refl
    size (x ∷ xs) (suc i) t = ap suc (size xs i t)
room_put c t (SidingCell k i) room kept =
    record { stages = room.stages; sidings = sizes c.cells k (slice_set (siding_row c.cells k) i t) ∙ room.sidings; cells = cells }
  where
    size : (xs : List ℕ) (i t : ℕ) → length (slice_set xs i t) ≡ length xs
    size [] i t = refl
    size (x ∷ xs) zero t = refl
    size (x ∷ xs) (suc i) t = ap suc (size xs i t)

    sizes : (xs : List (List ℕ)) (i : ℕ) (row : List ℕ) → length (slice_set xs i row) ≡ length xs
    sizes [] i row = refl
    sizes (x ∷ xs) zero row = refl
    sizes (x ∷ xs) (suc i) row = ap suc (sizes xs i row)

    cells : (m : ℕ) → m < 8 → length (siding_row (slice_set c.cells k (slice_set (siding_row c.cells k) i t)) m) ≡ 8
    cells m small = ap length (row_put c.cells k m (slice_set (siding_row c.cells k) i t) (omega (arith, room.sidings, kept.0))) ∙ by (nat_eq m k)
      where
        by : (same : Bool) → length (cond same (slice_set (siding_row c.cells k) i t) (siding_row c.cells m)) ≡ 8
        by true = size (siding_row c.cells k) i t ∙ room.cells k kept.0
        by false = room.cells m small
room_put c t Lane room kept = record { stages = room.stages; sidings = room.sidings; cells = room.cells }
room_put c t Fetching room kept = record { stages = room.stages; sidings = room.sidings; cells = room.cells }
room_put c t Memory room kept = record { stages = room.stages; sidings = room.sidings; cells = room.cells }
room_put c t Code room kept = record { stages = room.stages; sidings = room.sidings; cells = room.cells }
room_put c t _ room kept = absurd (search kept)

-- a time that is set at each of several sites
pub times_put : (c : SiteTimes) (t : ℕ) (ys : List Site) (x : Site) → HasRoom c → AllByRecursion IsKept ys → IsKept x →
    time_at (put_times c t ys) x ≡ cond (among x ys) t (time_at c x)
times_put c t [] x room kept here = refl
times_put c t (y ∷ ys) x room kept here =
    times_put (put_time c t y) t ys x (room_put c t y room kept.0) kept.1 here
    ∙ ap (λ (n : ℕ). cond (among x ys) t n) (time_put c t y x room kept.0 here)
    ∙ both (same_site x y) (among x ys)
  where
    both : (a b : Bool) → cond b t (cond a t (time_at c x)) ≡ cond (a || b) t (time_at c x)
    both true true = refl
    both true false = refl
    both false true = refl
    both false false = refl

pub room_times : (c : SiteTimes) (t : ℕ) (ys : List Site) → HasRoom c → AllByRecursion IsKept ys → HasRoom (put_times c t ys)
room_times c t [] room kept = room
room_times c t (y ∷ ys) room kept = room_times (put_time c t y) t ys (room_put c t y room kept.0) kept.1

-- the time of a site that is used is at most the latest of those that are
reaches : (f : Site → ℕ) (x : Site) (xs : List Site) → among x xs ≡ true → f x ≤ greatest (map f xs)
reaches f x [] e = absurd (cc)
reaches f x (y ∷ ys) e = by (same_site x y) refl (reaches f x ys)
  where
    by : (same : Bool) → same_site x y ≡ same → (among x ys ≡ true → f x ≤ greatest (map f ys)) → f x ≤ max (f y) (greatest (map f ys))
    by true s rest = let q = same_site_is x y s in rw q (omega arith)
    by false s rest = let r = rest (rw s at e) in omega (arith, r)

-- the time of a site after one more move
place_more : (plan : Plan) (moves : List TimedMove) (c : SiteTimes) (d : DelayedMove) (t : ℕ) (x : Site) → HasRoom c → AreKept plan d.mv → IsKept x →
    time_at c x ≡ last_at plan moves x → (uses_place plan d.mv x ≡ true → last_at plan moves x ≤ t) →
    time_at (put_times (allowed c t) t (used plan d.mv)) x ≡ last_at plan (done_at d t ∷ moves) x
unfolding uses_place
place_more plan moves c d t x room kept here before_is late =
    times_put (allowed c t) t (used plan d.mv) x (record { stages = room.stages; sidings = room.sidings; cells = room.cells }) kept here
    ∙ ap (λ (n : ℕ). cond (among x (used plan d.mv)) t n) (same_times c t x ∙ before_is)
    ∙ by (among x (used plan d.mv)) refl
    ∙ sym (where_more (λ done. uses_place plan done.mv x) (done_at d t) moves)
  where
    by : (b : Bool) → among x (used plan d.mv) ≡ b → cond b t (last_at plan moves x) ≡ max (cond b t 0) (last_at plan moves x)
    by true e = let g = late e in omega (arith, g)
    by false e = omega arith

-- whether or not one more move has the latest time
latest_more : (moves : List TimedMove) (d : DelayedMove) (t : ℕ) → max (greatest_time moves) t ≡ greatest_time (done_at d t ∷ moves)
unfolding greatest_time
latest_more moves d t = omega arith

-- no site that a move uses has a later time than the move
pub no_later : (plan : Plan) (moves : List TimedMove) (d : DelayedMove) (x : Site) → uses_place plan d.mv x ≡ true →
    last_at plan moves x ≤ finish_after plan moves d
unfolding finish_after shares uses_place
no_later plan moves d x e =
    let r = reaches (last_at plan moves) x (used plan d.mv) e in
    let a = where_any (λ y done. uses_place plan done.mv y) (used plan d.mv) moves in
    omega (arith, r, a)

-- the seed is unchanged
seed_kept : (c : SiteTimes) (mv : Move) → (drawing c mv).draws.seed ≡ c.draws.seed
unfolding after_word
seed_kept c mv = by c.draws.seed refl
  where
    by : (seed : Option ℕ) → c.draws.seed ≡ seed → (drawing c mv).draws.seed ≡ c.draws.seed
    by None e = rw e refl
    by (Some n) e = rw e refl

-- a clock that records one more move
pub follows_more : (plan : Plan) (rule : DelayRule) (moves : List TimedMove) (c : SiteTimes) (d : DelayedMove) → ClockFollows plan rule moves c →
    AreKept plan d.mv → ClockFollows plan rule (done_after plan moves d ∷ moves) (stamped c d.mv (finish_after plan moves d))
follows_more plan rule moves c d h kept =
    let t : ℕ = finish_after plan moves d in
    let put : SiteTimes = put_times (allowed c t) t (used plan d.mv) in
    let draws_are : put.draws ≡ c.draws = put_draws (allowed c t) t (used plan d.mv) in
    let spans_are : put.delays ≡ c.delays = put_delays (allowed c t) t (used plan d.mv) in
    let room_is = room_times (allowed c t) t (used plan d.mv)
    (record { stages = h.room.stages; sidings = h.room.sidings; cells = h.room.cells }) kept in
    subst (λ (l : Plan). ClockFollows plan rule (done_after plan moves d ∷ moves) (drawing (put_times (allowed c t) t (used l d.mv)) d.mv)) (sym h.plan_is)
    (record {
      plan_is = put_same (allowed c t) t (used plan d.mv) ∙ h.plan_is;
      rule_is = same_rule (drawing put d.mv) c spans_are (seed_kept put d.mv ∙ ap (λ (w : DelayDraws). w.seed) draws_are) ∙ h.rule_is;
      drawn = subst (λ (w : DelayDraws). HasDrawnWords rule.seed (done_after plan moves d ∷ moves) (after_word w (stream_of d.mv))) (sym draws_are)
          (word_taken rule.seed moves c.draws (done_after plan moves d) h.drawn (stream_kept plan d.mv kept));
      room = record { stages = room_is.stages; sidings = room_is.sidings; cells = room_is.cells };
      latest_is = put_latest (allowed c t) t (used plan d.mv) ∙ ap (λ (n : ℕ). max n t) h.latest_is ∙ latest_more moves d t;
      times_are = λ x here. same_drawn put d.mv x ∙ place_more plan moves c d t x h.room kept here (h.times_are x here) (no_later plan moves d x);
    })
  where
    same_rule : (a b : SiteTimes) → a.delays ≡ b.delays → a.draws.seed ≡ b.draws.seed → rule_of_clock a ≡ rule_of_clock b
    same_rule a b e f = rw (e, f) refl

-- the clock at the start
zero_row : (m n k : ℕ) → k < m → length (siding_row (replicate m (replicate n 0)) k) ≡ n
zero_row zero n k within = absurd (omega arith)
zero_row (suc m) n zero within = size n
  where
    size : (n : ℕ) → length {A = ℕ} (replicate n 0) ≡ n
    size zero = refl
    size (suc n) = ap suc (size n)
zero_row (suc m) n (suc k) within = zero_row m n k (omega arith)

started_at : (plan : Plan) (rule : DelayRule) (x : Site) → IsKept x → time_at (started plan rule) x ≡ last_at plan [] x
started_at plan rule x here = let a = at_start plan rule x in let b = where_none (λ done. uses_place plan done.mv x) in omega (arith, a, b)

pub follows_start : (plan : Plan) (rule : DelayRule) → ClockFollows plan rule [] (started plan rule)
unfolding started greatest_time drawn_from
follows_start plan rule = record {
  plan_is = refl;
  rule_is = refl;
  drawn = drawn_start rule.seed;
  room = record { stages = refl; sidings = refl; cells = zero_row 8 8 };
  latest_is = refl;
  times_are = started_at plan rule;
}

-- the clock has room for every site that the layout has
there_kept : (plan : Plan) (x : Site) → IsAccepted plan → is_other x ≡ false → LayoutHasSite plan x → IsKept x
there_kept plan (Stage i) a o h = omega (arith, a.stages.1, h.1)
there_kept plan (SidingCell k c) a o h = let w = siding_within plan k a h.0 in (w.2, omega (arith, w.1, h.1))
there_kept plan Lane a o h = tt
there_kept plan Fetching a o h = tt
there_kept plan Memory a o h = tt
there_kept plan Code a o h = tt
there_kept plan _ a o h = absurd (cc)

all_kept : (plan : Plan) (xs : List Site) → IsAccepted plan → AllByRecursion IsOne xs → AllByRecursion (LayoutHasSite plan) xs → AllByRecursion IsKept xs
all_kept plan [] a o h = tt
all_kept plan (x ∷ xs) a o h = (there_kept plan x a o.0 h.0, all_kept plan xs a o.1 h.1)

pub moves_kept : (plan : Plan) (mv : Move) → IsAccepted plan → HasSites plan mv → AreKept plan mv
moves_kept plan mv a there = all_kept plan (used plan mv) a (used_ones plan mv) there

-- so it knows when a further move finishes
pub follows_tells : (plan : Plan) (rule : DelayRule) (moves : List TimedMove) (c : SiteTimes) → IsAccepted plan → ClockFollows plan rule moves c →
    ClockKnows plan rule moves c
follows_tells plan rule moves c a h = record {
  plan_is = h.plan_is;
  rule_is = h.rule_is;
  latest_is = h.latest_is;
  delays = λ s mv there. delay_follows plan rule moves c s mv h (moves_kept plan mv a there);
  finishes = λ s mv there. finish_follows plan rule moves c s mv h (moves_kept plan mv a there);
}

-- and so does a clock that records the moves of a run
pub follows_all : (plan : Plan) (rule : DelayRule) (earlier : List TimedMove) (c : SiteTimes) (visits : List Visit) → IsAccepted plan →
    AllByRecursion (λ v. HasSites plan v.mv) visits → ClockFollows plan rule earlier c →
    ClockFollows plan rule (timed_after plan rule earlier visits) (made_all c visits)
unfolding made timed_after
follows_all plan rule earlier c [] a there h = h
follows_all plan rule earlier c (v ∷ visits) a there h =
    let d : DelayedMove = delayed_at rule v.state earlier v.mv in
    let kept = moves_kept plan v.mv a there.0 in
    let e = finish_follows plan rule earlier c v.state v.mv h kept in
    let next : ClockFollows plan rule (done_after plan earlier d ∷ earlier) (stamped c v.mv (finish_time (clocked c v.state) v.mv)) =
    rw e (follows_more plan rule earlier c d h kept) in
    follows_all plan rule (done_after plan earlier d ∷ earlier) (stamped c v.mv (finish_time (clocked c v.state) v.mv)) visits a there.1 next

pub run_told : (plan : Plan) (rule : DelayRule) (visits : List Visit) → IsAccepted plan → AllByRecursion (λ v. HasSites plan v.mv) visits →
    ClockKnows plan rule (timed_after plan rule [] visits) (made_all (started plan rule) visits)
run_told plan rule visits a there = follows_tells plan rule (timed_after plan rule [] visits) (made_all (started plan rule) visits) a
    (follows_all plan rule [] (started plan rule) visits a there (follows_start plan rule))
