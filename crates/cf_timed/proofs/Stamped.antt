-- A move that was recorded delays the moves that share a site with it, and no other.
use Rattle.std.proofs.Common.{◌≡◌, ◌∙◌, refl, ap, ℕ, zero, suc, ◌≤◌, List, [], ◌∷◌, map, max, Option, Some, None, Bool, true, false, cond, arith}
use Rattle.std.specs.Prelude.{slice_set}
use Rattle.std.specs.List.{AllByRecursion, list_any}
use Rattle.rand_pcg.specs.Pcg.{output_xsh_rr}
use Rattle.rv_inst.specs.declared.classes.Class.{Class}
use Rattle.cf_bind.specs.declared.moves.Move.{Move}
use Rattle.cf_semantics.specs.moves.Sites.{Site, among}
use Rattle.cf_semantics.specs.state.Options.{on}
use Rattle.cf_semantics.specs.state.State.{State}
use Rattle.cf_index.specs.Sites.{shares, used, uses_place}
use Rattle.cf_timed.specs.declared.draws.DelayDraws.{DelayDraws}
use Rattle.cf_timed.specs.declared.span.Span.{Span}
use Rattle.cf_timed.specs.Clocks.{AreKept, HasRoom, IsKept, SiteTimes, allowed, begin_time, clocked, delay_by, put_times, stamped, time_at}
use Rattle.cf_timed.specs.Delays.{span_of}
use Rattle.cf_timed.specs.DelayedRuns.{class_of_move}
use Rattle.cf_timed.specs.Drawing.{after_word, next_draw_state, next_word, stream_of, ticks_in}
use Rattle.cf_timed.specs.Numbers.{number_at}
use Rattle.cf_timed.specs.Times.{greatest}
use Rattle.cf_timed.proofs.Following.{times_put}
use Rattle.cf_timed.proofs.SiteTimes.{put_delays, put_draws, put_same, same_drawn, same_times}
use Rattle.cf_timed.proofs.Streams.{stream_shared}

-- the time of a site after the move
time_stamped : (c : SiteTimes) (mv : Move) (t : ℕ) (x : Site) → HasRoom c → AreKept c.plan mv → IsKept x →
    time_at (stamped c mv t) x ≡ cond (among x (used c.plan mv)) t (time_at c x)
time_stamped c mv t x room kept here =
    same_drawn (put_times (allowed c t) t (used c.plan mv)) mv x
    ∙ times_put (allowed c t) t (used c.plan mv) x (record { stages = room.stages; sidings = room.sidings; cells = room.cells }) kept here
    ∙ ap (λ (n : ℕ). cond (among x (used c.plan mv)) t n) (same_times c t x)

pub plan_stamped : (c : SiteTimes) (mv : Move) (t : ℕ) → (stamped c mv t).plan ≡ c.plan
plan_stamped c mv t = put_same (allowed c t) t (used c.plan mv)

-- if one of some sites was used, their maximum time is that of the move or a later one; otherwise it is unchanged
sites_later : (c : SiteTimes) (mv : Move) (t : ℕ) (xs : List Site) → HasRoom c → AreKept c.plan mv → AllByRecursion IsKept xs →
    list_any (uses_place c.plan mv) xs ≡ true → t ≤ greatest (map (time_at (stamped c mv t)) xs)
unfolding uses_place
sites_later c mv t [] room kept here e = absurd (cc)
sites_later c mv t (x ∷ xs) room kept here e = by (among x (used c.plan mv)) refl (sites_later c mv t xs room kept here.1)
  where
    by : (b : Bool) → among x (used c.plan mv) ≡ b →
        (list_any (λ y. among y (used c.plan mv)) xs ≡ true → t ≤ greatest (map (time_at (stamped c mv t)) xs)) →
        t ≤ max (time_at (stamped c mv t) x) (greatest (map (time_at (stamped c mv t)) xs))
    by true f more = let h : time_at (stamped c mv t) x ≡ t = rw f at (time_stamped c mv t x room kept here.0) in omega (arith, h)
    by false f more = let r = more (rw f at e) in omega (arith, r)

sites_same : (c : SiteTimes) (mv : Move) (t : ℕ) (xs : List Site) → HasRoom c → AreKept c.plan mv → AllByRecursion IsKept xs →
    list_any (uses_place c.plan mv) xs ≡ false → greatest (map (time_at (stamped c mv t)) xs) ≡ greatest (map (time_at c) xs)
unfolding uses_place
sites_same c mv t [] room kept here e = refl
sites_same c mv t (x ∷ xs) room kept here e = by (among x (used c.plan mv)) refl (sites_same c mv t xs room kept here.1)
  where
    by : (b : Bool) → among x (used c.plan mv) ≡ b →
        (list_any (λ y. among y (used c.plan mv)) xs ≡ false →
        greatest (map (time_at (stamped c mv t)) xs) ≡ greatest (map (time_at c) xs)) →
        max (time_at (stamped c mv t) x) (greatest (map (time_at (stamped c mv t)) xs)) ≡ max (time_at c x) (greatest (map (time_at c) xs))
    by true f more = absurd (let g = rw f at e in cc)
    by false f more =
        let h : time_at (stamped c mv t) x ≡ time_at c x = rw f at (time_stamped c mv t x room kept here.0) in
        let r = more (rw f at e) in
        rw (h, r) refl

-- so a move that shares a site begins at that time or later, and another when it would have
pub begins_later : (c : SiteTimes) (mv other : Move) (t : ℕ) → HasRoom c → AreKept c.plan mv → AreKept c.plan other → shares c.plan other mv ≡ true →
    t ≤ begin_time (stamped c mv t) other
unfolding shares
begins_later c mv other t room kept here e =
    let p = plan_stamped c mv t in
    rw p (sites_later c mv t (used c.plan other) room kept here e)

pub begins_same : (c : SiteTimes) (mv other : Move) (t : ℕ) → HasRoom c → AreKept c.plan mv → AreKept c.plan other → shares c.plan other mv ≡ false →
    begin_time (stamped c mv t) other ≡ begin_time c other
unfolding shares
begins_same c mv other t room kept here e =
    let p = plan_stamped c mv t in
    rw p (sites_same c mv t (used c.plan other) room kept here e)

-- the next word of another stream is unchanged
number_other : (xs : List ℕ) (i j t : ℕ) → (j ≡ i → ⊥) → number_at (slice_set xs i t) j ≡ number_at xs j
number_other [] i j t other = refl
number_other (x ∷ xs) zero zero t other = absurd (other refl)
number_other (x ∷ xs) zero (suc j) t other = refl
number_other (x ∷ xs) (suc i) zero t other = refl
number_other (x ∷ xs) (suc i) (suc j) t other = number_other xs i j t (λ e. other (ap suc e))

word_other : (draws : DelayDraws) (i j : ℕ) → (j ≡ i → ⊥) → next_word (after_word draws i) j ≡ next_word draws j
unfolding next_word after_word
word_other draws i j other = by draws.seed
  where
    by : (seed : Option ℕ) → next_word (on seed draws (λ n. record draws { states = slice_set draws.states i (next_draw_state draws i) })) j ≡ next_word draws j
    by None = refl
    by (Some n) = ap (λ (k : ℕ). on draws.seed None (λ seed. Some (output_xsh_rr k))) (number_other draws.states i j (next_draw_state draws i) other)

-- so a move that shares no site takes as long as it would have
pub delay_same : (c : SiteTimes) (s after : State) (mv other : Move) (t : ℕ) → AreKept c.plan mv → AreKept c.plan other → shares c.plan other mv ≡ false →
    class_of_move after other ≡ class_of_move s other → delay_by (clocked (stamped c mv t) after) other ≡ delay_by (clocked c s) other
unfolding delay_by
delay_same c s after mv other t kept here apart same =
    let put : SiteTimes = put_times (allowed c t) t (used c.plan mv) in
    let streams : stream_of other ≡ stream_of mv → ⊥ = λ e. (let both = stream_shared c.plan other mv here kept e in cc) in
    ap (λ (l : List Span). ticks_in (span_of l other (class_of_move after other)) (next_word (after_word put.draws (stream_of mv)) (stream_of other)))
    (put_delays (allowed c t) t (used c.plan mv))
    ∙ ap (λ (d : DelayDraws). ticks_in (span_of c.delays other (class_of_move after other)) (next_word (after_word d (stream_of mv)) (stream_of other)))
    (put_draws (allowed c t) t (used c.plan mv))
    ∙ ap (ticks_in (span_of c.delays other (class_of_move after other))) (word_other c.draws (stream_of mv) (stream_of other) streams)
    ∙ ap (λ (k : Class). ticks_in (span_of c.delays other k) (next_word c.draws (stream_of other))) same
