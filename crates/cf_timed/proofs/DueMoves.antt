-- The moves that are due go on being right: after a move that finished at their time, those that share no site with it
-- are left, and no other move has become due.
use Rattle.std.proofs.Common.{◌≡◌, ◌∙◌, refl, sym, ap, subst, ℕ, zero, suc, ◌-◌, ◌^◌, ◌<◌, ◌≤◌, List, [], ◌∷◌, ◌++◌, drop, length, get_or, Option, Some, None, Bool, true, false, cond, nat_eq, nat_lt, arith}
use Rattle.std.specs.Prelude.{◌&&◌, filter, not, slice_get}
use Rattle.std.specs.List.{AllByRecursion}
use Rattle.std.proofs.lemmas.Bool.Decides.{nat_tests}
use Rattle.std.proofs.lemmas.List.Elements.{filter-append}
use Rattle.std.proofs.lemmas.Option.{slice_get_within}
use Rattle.cf_layout.specs.Layout.{Plan}
use Rattle.cf_layout.specs.Accepted.{IsAccepted}
use Rattle.cf_bind.specs.declared.moves.Move.{Move}
use Rattle.cf_semantics.specs.moves.Bars.{bar}
use Rattle.cf_semantics.specs.moves.Candidates.{all_moves, candidates}
use Rattle.cf_semantics.specs.moves.Moves.{next}
use Rattle.cf_semantics.specs.claims.Weight.{is_issue}
use Rattle.cf_semantics.specs.state.State.{Moment, State}
use Rattle.cf_index.specs.Allowed.{allowed_others, is_allowed}
use Rattle.cf_index.specs.Alone.{HasSidings, stands_alone}
use Rattle.cf_index.specs.Sites.{shares, used}
use Rattle.cf_index.proofs.Firsts.{others_are}
use Rattle.cf_index.proofs.Independence.{unshared_back}
use Rattle.cf_timed.specs.Clocks.{AreKept, ClockedState, IsClockOf, SiteTimes, allowed, begin_time, capped, clocked, delay_by, finish_time, stamped}
use Rattle.cf_timed.specs.Delays.{AreDelays, span_of}
use Rattle.cf_timed.specs.DelayedRuns.{class_of_move}
use Rattle.cf_timed.specs.Drawing.{next_word, stream_of}
use Rattle.cf_timed.specs.DueMoves.{AreDue, IsLeft, KeptMoves, finishing, is_serve, kept_after, none_kept, still_due, without_first}
use Rattle.cf_timed.specs.Soonest.{IsFirstDue}
use Rattle.cf_timed.specs.declared.soonest.Due.{Due}
use Rattle.cf_timed.proofs.Delaying.{is_span, ticks_some}
use Rattle.cf_timed.proofs.Leasts.{IsFirst, after_one}
use Rattle.cf_timed.proofs.Room.{all_moves_kept, all_passed}
use Rattle.cf_timed.proofs.SiteTimes.{put_delays}
use Rattle.cf_timed.proofs.Stamped.{begins_later, begins_same, delay_same}
use Rattle.cf_timed.proofs.Streams.{stream_shared}
use Rattle.cf_timed.proofs.Untouched.{allowed_stays, alone_ends, class_stays}

-- one test after another, and two tests that agree
filter_both : (p q : Move → Bool) (xs : List Move) → filter q (filter p xs) ≡ filter (λ x. p x && q x) xs
filter_both p q [] = refl
filter_both p q (x ∷ xs) = by (p x) (filter_both p q xs)
  where
    by : (b : Bool) → filter q (filter p xs) ≡ filter (λ y. p y && q y) xs → filter q (cond b (x ∷ filter p xs) (filter p xs))
        ≡ cond (b && q x) (x ∷ filter (λ y. p y && q y) xs) (filter (λ y. p y && q y) xs)
    by true e = rw e refl
    by false e = e

filter_same : (p q : Move → Bool) (xs : List Move) → AllByRecursion (λ x. p x ≡ q x) xs → filter p xs ≡ filter q xs
filter_same p q [] same = refl
filter_same p q (x ∷ xs) same = let h = same.0 in let r = filter_same p q xs same.1 in rw (h, r) refl

all_from : (P Q : Move → Type 0) (xs : List Move) → ((x : Move) → P x → Q x) → AllByRecursion P xs → AllByRecursion Q xs
all_from P Q [] f h = tt
all_from P Q (x ∷ xs) f h = (f x h.0, all_from P Q xs f h.1)

-- what a move did to another: nothing, or the other is late
record Left (p q : Move → Bool) (f g : Move → ℕ) (met : Move → Bool) (t : ℕ) (mv : Move) : Type 0 where
  apart : met mv ≡ false → (q mv ≡ p mv) × (g mv ≡ f mv)
  late : met mv ≡ true → t < g mv

-- so none has become due
least_left : (p q : Move → Bool) (f g : Move → ℕ) (met : Move → Bool) (t : ℕ) (xs : List Move) → AllByRecursion (Left p q f g met t) xs →
    AllByRecursion (λ mv. t ≤ f mv) (filter p xs) → AllByRecursion (λ mv. t ≤ g mv) (filter q xs)
least_left p q f g met t [] h least = tt
least_left p q f g met t (x ∷ xs) h least = by (q x) refl (met x) refl (least_left p q f g met t xs h.1 (rest (p x) least))
  where
    rest : (b : Bool) → AllByRecursion (λ mv. t ≤ f mv) (cond b (x ∷ filter p xs) (filter p xs)) → AllByRecursion (λ mv. t ≤ f mv) (filter p xs)
    rest true l = l.1
    rest false l = l

    first : (b : Bool) → b ≡ true → AllByRecursion (λ mv. t ≤ f mv) (cond b (x ∷ filter p xs) (filter p xs)) → t ≤ f x
    first true e l = l.0
    first false e l = absurd (cc)

    by : (b : Bool) → q x ≡ b → (m : Bool) → met x ≡ m → AllByRecursion (λ mv. t ≤ g mv) (filter q xs) →
        AllByRecursion (λ mv. t ≤ g mv) (cond b (x ∷ filter q xs) (filter q xs))
    by false e m d more = more
    by true e true d more = (let late = h.0.late d in omega (arith, late), more)
    by true e false d more =
        let a = h.0.apart d in
        let under = first (p x) (sym a.0 ∙ e) least in
        (let same = a.1 in omega (arith, same, under), more)

-- and those that were due and that the move did not meet still are
due_left : (p q : Move → Bool) (f g : Move → ℕ) (met : Move → Bool) (t : ℕ) (xs : List Move) → AllByRecursion (Left p q f g met t) xs →
    filter (λ mv. nat_eq (g mv) t) (filter q xs) ≡ filter (λ mv. not (met mv)) (filter (λ mv. nat_eq (f mv) t) (filter p xs))
due_left p q f g met t xs h =
    filter_both q (λ mv. nat_eq (g mv) t) xs
    ∙ filter_same (λ mv. q mv && nat_eq (g mv) t) (λ mv. (p mv && nat_eq (f mv) t) && not (met mv)) xs
    (all_from (Left p q f g met t) (λ mv. (q mv && nat_eq (g mv) t) ≡ ((p mv && nat_eq (f mv) t) && not (met mv))) xs one h)
    ∙ sym (filter_both (λ mv. p mv && nat_eq (f mv) t) (λ mv. not (met mv)) xs)
    ∙ ap (filter (λ mv. not (met mv))) (sym (filter_both p (λ mv. nat_eq (f mv) t) xs))
  where
    none : (b : Bool) (n : ℕ) → t < n → (b && nat_eq n t) ≡ false
    none b n later = grind (arith, nat_tests)

    off : (b : Bool) → (b && false) ≡ false
    off true = refl
    off false = refl

    on_it : (b : Bool) → b ≡ (b && true)
    on_it true = refl
    on_it false = refl

    one : (mv : Move) → Left p q f g met t mv → (q mv && nat_eq (g mv) t) ≡ ((p mv && nat_eq (f mv) t) && not (met mv))
    one mv l = by (met mv) refl
      where
        by : (m : Bool) → met mv ≡ m → (q mv && nat_eq (g mv) t) ≡ ((p mv && nat_eq (f mv) t) && not m)
        by true d = none (q mv) (g mv) (l.late d) ∙ sym (off (p mv && nat_eq (f mv) t))
        by false d = let a = l.apart d in rw (a.0, a.1) (on_it (p mv && nat_eq (f mv) t))

-- the allowed moves other than Issue, chosen from all moves
abbrev chosen : Plan → State → Move → Bool
chosen plan s mv = is_allowed plan s mv && not (is_issue mv)

others_chosen : (plan : Plan) (s : State) → allowed_others plan s ≡ filter (chosen plan s) (all_moves plan)
unfolding candidates
others_chosen plan s = sym (others_are plan s) ∙ filter_both (is_allowed plan s) (λ mv. not (is_issue mv)) (all_moves plan)

pub others_kept : (plan : Plan) (s : State) → IsAccepted plan → AllByRecursion (AreKept plan) (allowed_others plan s)
others_kept plan s a = subst (AllByRecursion (AreKept plan)) (sym (others_chosen plan s))
    (all_passed (AreKept plan) (chosen plan s) (all_moves plan) (all_moves_kept plan a))

-- a move takes at least one tick
pub delay_some : (c : ClockedState) (mv : Move) → AreDelays c.clock.delays → 1 ≤ delay_by c mv
unfolding delay_by
delay_some c mv h = ticks_some (span_of c.clock.delays mv (class_of_move c.state mv)) (next_word c.clock.draws (stream_of mv))
    (is_span c.clock.delays mv (class_of_move c.state mv) h)

-- a move that is made now, at the time of what is kept
pub record IsMadeNow (plan : Plan) (m : Moment) (clock : SiteTimes) (mv : Move) : Type 0 where
  pub sidings : HasSidings plan m.state
  pub is_clock : IsClockOf plan clock
  pub delays : AreDelays clock.delays
  pub allowed : bar plan m.state mv ≡ None
  pub plain : stands_alone plan m.state mv ≡ false
  pub kept : AreKept plan mv

-- it leaves each move that shares no site with it, and delays the others past the time
begins_after : (plan : Plan) (m : Moment) (clock : SiteTimes) (mv other : Move) (t : ℕ) → IsMadeNow plan m clock mv → AreKept plan other →
    shares plan other mv ≡ true → t ≤ begin_time (stamped clock mv t) other
begins_after plan m clock mv other t made here met =
    let p = made.is_clock.plan_is in
    begins_later clock mv other t made.is_clock.room (rw p made.kept) (rw p here) (rw p met)

begins_then : (plan : Plan) (m : Moment) (clock : SiteTimes) (mv other : Move) (t : ℕ) → IsMadeNow plan m clock mv → AreKept plan other →
    shares plan other mv ≡ false → begin_time (stamped clock mv t) other ≡ begin_time clock other
begins_then plan m clock mv other t made here apart =
    let p = made.is_clock.plan_is in
    begins_same clock mv other t made.is_clock.room (rw p made.kept) (rw p here) (rw p apart)

-- the delays of the clock stay
same_delays : (clock : SiteTimes) (mv : Move) (t : ℕ) → AreDelays clock.delays → AreDelays (stamped clock mv t).delays
same_delays clock mv t h = subst AreDelays (sym (put_delays (allowed clock t) t (used clock.plan mv))) h

-- so a move that shares no site with it is allowed if it was, and finishes when it did; another finishes after the time
pub allowed_then : (plan : Plan) (m : Moment) (clock : SiteTimes) (mv other : Move) → IsMadeNow plan m clock mv → shares plan other mv ≡ false →
    is_allowed plan (next plan m mv).state other ≡ is_allowed plan m.state other
allowed_then plan m clock mv other made apart =
    allowed_stays plan m mv other made.sidings made.allowed made.plain (unshared_back plan other mv apart)

pub finishes_then : (plan : Plan) (m : Moment) (clock : SiteTimes) (mv other : Move) (t : ℕ) → IsMadeNow plan m clock mv → AreKept plan other →
    shares plan other mv ≡ false → capped (clocked (stamped clock mv t) (next plan m mv).state) other ≡ capped (clocked clock m.state) other
unfolding finish_time
finishes_then plan m clock mv other t made here apart =
    let begins = begins_then plan m clock mv other t made here apart in
    let p = made.is_clock.plan_is in
    let takes = delay_same clock m.state (next plan m mv).state mv other t (rw p made.kept) (rw p here) (rw p apart)
    (class_stays plan m mv other made.allowed (unshared_back plan other mv apart)) in
    rw (begins, takes) refl

pub finishes_after : (plan : Plan) (m : Moment) (clock : SiteTimes) (mv other : Move) (t : ℕ) → IsMadeNow plan m clock mv → t < 2 ^ 64 - 1 →
    AreKept plan other → shares plan other mv ≡ true → t < capped (clocked (stamped clock mv t) (next plan m mv).state) other
unfolding finish_time
finishes_after plan m clock mv other t made below here met =
    let begins = begins_after plan m clock mv other t made here met in
    let takes = delay_some (clocked (stamped clock mv t) (next plan m mv).state) other (same_delays clock mv t made.delays) in
    omega (arith, begins, takes, below)

left_by : (plan : Plan) (m : Moment) (clock : SiteTimes) (mv other : Move) (t : ℕ) → IsMadeNow plan m clock mv → t < 2 ^ 64 - 1 → AreKept plan other →
    Left (chosen plan m.state) (chosen plan (next plan m mv).state) (capped (clocked clock m.state))
    (capped (clocked (stamped clock mv t) (next plan m mv).state)) (λ x. shares plan x mv) t other
left_by plan m clock mv other t made below here = record {
  apart = λ apart.
      (ap (λ (b : Bool). b && not (is_issue other)) (allowed_then plan m clock mv other made apart), finishes_then plan m clock mv other t made here apart);
  late = λ met. finishes_after plan m clock mv other t made below here met;
}

-- what is kept stays right
due_more : (plan : Plan) (m : Moment) (clock : SiteTimes) (mv : Move) (kept : KeptMoves) → IsAccepted plan → IsMadeNow plan m clock mv →
    kept.time < 2 ^ 64 - 1 → AreDue plan (clocked clock m.state) kept → AreDue plan (clocked (stamped clock mv kept.time) (next plan m mv).state) kept
unfolding finishing still_due
due_more plan m clock mv kept acc made below due =
    let t : ℕ = kept.time in
    let met : Move → Bool = λ x. shares plan x mv in
    let s : State = m.state in
    let after : State = (next plan m mv).state in
    let now : ClockedState = clocked clock s in
    let later : ClockedState = clocked (stamped clock mv t) after in
    let each = all_from (AreKept plan) (Left (chosen plan s) (chosen plan after) (capped now) (capped later) met t) (all_moves plan)
    (λ x here. left_by plan m clock mv x t made below here) (all_moves_kept plan acc) in
    let these = others_chosen plan s in
    let those = others_chosen plan after in
    record {
      least = rw those (least_left (chosen plan s) (chosen plan after) (capped now) (capped later) met t (all_moves plan) each (rw these at due.least));
      others = filter (λ x. not (met x)) due.others;
      first =
          ap (filter (λ x. nat_eq (capped later x) t)) those
          ∙ due_left (chosen plan s) (chosen plan after) (capped now) (capped later) met t (all_moves plan) each
          ∙ ap (λ (l : List Move). filter (λ x. not (met x)) (filter (λ x. nat_eq (capped now x) t) l)) (sym these)
          ∙ ap (filter (λ x. not (met x))) due.first
          ∙ filter-append (λ x. not (met x)) (filter (λ x. nat_lt (begin_time clock x) t) kept.moves) due.others
          ∙ ap (λ (l : List Move). l ++ filter (λ x. not (met x)) due.others)
          (filter_both (λ x. nat_lt (begin_time clock x) t) (λ x. not (met x)) kept.moves
          ∙ sym (filter_same (λ x. nat_lt (begin_time (stamped clock mv t) x) t) (λ x. nat_lt (begin_time clock x) t && not (met x)) kept.moves
          (all_from (AreKept plan) (λ x. nat_lt (begin_time (stamped clock mv t) x) t ≡ (nat_lt (begin_time clock x) t && not (met x))) kept.moves
          still due.sites)));
      sites = due.sites;
      below = λ some. below;
    }
  where
    off : (b : Bool) → false ≡ (b && false)
    off true = refl
    off false = refl

    on_it : (b : Bool) → b ≡ (b && true)
    on_it true = refl
    on_it false = refl

    still : (x : Move) → AreKept plan x →
        nat_lt (begin_time (stamped clock mv kept.time) x) kept.time ≡ (nat_lt (begin_time clock x) kept.time && not (shares plan x mv))
    still x here = by (shares plan x mv) refl
      where
        by : (b : Bool) → shares plan x mv ≡ b → nat_lt (begin_time (stamped clock mv kept.time) x) kept.time ≡ (nat_lt (begin_time clock x) kept.time && not b)
        by true e =
            let begins = begins_after plan m clock mv x kept.time made here e in
            let none : nat_lt (begin_time (stamped clock mv kept.time) x) kept.time ≡ false = grind (arith, nat_tests) in
            none ∙ off (nat_lt (begin_time clock x) kept.time)
        by false e =
            let begins = begins_then plan m clock mv x kept.time made here e in
            ap (λ (n : ℕ). nat_lt n kept.time) begins ∙ on_it (nat_lt (begin_time clock x) kept.time)

-- no moves are right at any time
all_later : (f : Move → ℕ) (xs : List Move) → AllByRecursion (λ mv. 0 ≤ f mv) xs
all_later f [] = tt
all_later f (x ∷ xs) = (omega arith, all_later f xs)

pub due_none : (plan : Plan) (c : ClockedState) → AreDue plan c none_kept
unfolding still_due
due_none plan c = record {
  least = all_later (capped c) (allowed_others plan c.state);
  others = finishing c 0 (allowed_others plan c.state);
  first = refl;
  sites = tt;
  below = λ some. absurd (omega (arith, some));
}

-- what is kept after a move is right, unless the program has ended
pub due_after : (plan : Plan) (m : Moment) (clock : SiteTimes) (mv : Move) (time : ℕ) (kept : KeptMoves) → IsAccepted plan → HasSidings plan m.state →
    IsClockOf plan clock → AreDelays clock.delays → bar plan m.state mv ≡ None → AreKept plan mv → AreDue plan (clocked clock m.state) kept →
    (next plan m mv).state.ending ≡ None → AreDue plan (clocked (stamped clock mv time) (next plan m mv).state) (kept_after kept mv time)
due_after plan m clock mv time kept acc sidings is_clock delays allowed here due unended = by (is_serve mv) refl
  where
    after : (s t b : Bool) → is_serve mv ≡ false → nat_eq time kept.time ≡ s → nat_lt time (2 ^ 64 - 1) ≡ t → stands_alone plan m.state mv ≡ b →
        AreDue plan (clocked (stamped clock mv time) (next plan m mv).state) (cond (s && t) kept none_kept)
    after false t b other same below alone = due_none plan (clocked (stamped clock mv time) (next plan m mv).state)
    after true false b other same below alone = due_none plan (clocked (stamped clock mv time) (next plan m mv).state)
    after true true true other same below alone = absurd (alone_ends plan m mv alone other unended)
    after true true false other same below alone =
        let e : time ≡ kept.time = grind (arith, nat_tests) in
        let under : kept.time < 2 ^ 64 - 1 = grind (arith, nat_tests) in
        rw e (due_more plan m clock mv kept acc (record {
          sidings = sidings;
          is_clock = is_clock;
          delays = delays;
          allowed = allowed;
          plain = alone;
          kept = here;
        }) under due)

    by : (b : Bool) → is_serve mv ≡ b → AreDue plan (clocked (stamped clock mv time) (next plan m mv).state)
        (cond b none_kept (cond (nat_eq time kept.time && nat_lt time (2 ^ 64 - 1)) kept none_kept))
    by true e = due_none plan (clocked (stamped clock mv time) (next plan m mv).state)
    by false e = after (nat_eq time kept.time) (nat_lt time (2 ^ 64 - 1)) (stands_alone plan m.state mv) e refl refl refl

-- without a first move that is no longer due, those that are due are the same
pub still_skipped : (clock : SiteTimes) (kept : KeptMoves) (mv : Move) → Some mv ≡ slice_get kept.moves 0 → kept.time ≤ begin_time clock mv →
    still_due clock (without_first kept) ≡ still_due clock kept
unfolding still_due
still_skipped clock kept mv at past = same kept.moves at
  where
    one : (x : Move) (xs : List Move) → x ≡ mv → filter (λ y. nat_lt (begin_time clock y) kept.time) xs
        ≡ filter (λ y. nat_lt (begin_time clock y) kept.time) (x ∷ xs)
    one x xs e = let f : nat_lt (begin_time clock x) kept.time ≡ false = rw e (grind (arith, nat_tests, past)) in rw f refl

    same : (l : List Move) → Some mv ≡ slice_get l 0 → filter (λ y. nat_lt (begin_time clock y) kept.time) (drop 1 l)
        ≡ filter (λ y. nat_lt (begin_time clock y) kept.time) l
    same [] e = refl
    same (x ∷ xs) e = one x xs (cc)

-- and what is kept is right
pub due_skipped : (plan : Plan) (c : ClockedState) (kept : KeptMoves) (mv : Move) → AreDue plan c kept → Some mv ≡ slice_get kept.moves 0 →
    kept.time ≤ begin_time c.clock mv → AreDue plan c (without_first kept)
due_skipped plan c kept mv due at past = record {
  least = due.least;
  others = due.others;
  first = due.first ∙ ap (λ (l : List Move). l ++ due.others) (sym (still_skipped c.clock kept mv at past));
  sites = rest kept.moves due.sites;
  below = λ some. due.below (longer kept.moves some);
}
  where
    rest : (l : List Move) → AllByRecursion (AreKept plan) l → AllByRecursion (AreKept plan) (drop 1 l)
    rest [] h = tt
    rest (x ∷ xs) h = h.1

    longer : (l : List Move) → 0 < length (drop 1 l) → 0 < length l
    longer [] some = some
    longer (x ∷ xs) some = omega arith

-- a kept move that is made is not due then, so what is left without it is right
pub left_all : (plan : Plan) (c : ClockedState) (kept : KeptMoves) (mv : Move) → AreDue plan c kept → IsLeft plan c kept mv
left_all plan c kept mv due = record { before = kept; due = due; skipped = false; left = refl; first = λ x skipped at. absurd (cc) }

pub left_first : (plan : Plan) (c : ClockedState) (kept later : KeptMoves) (due : Due) → AreDue plan c kept → IsFirstDue c kept due →
    later ≡ without_first kept → IsLeft plan c later due.mv
left_first plan c kept later due right first is = record {
  before = kept;
  due = right;
  skipped = true;
  left = is;
  first = λ x skipped at. let same : Some x ≡ Some due.mv = at ∙ sym first.mv in cc;
}

made_late : (plan : Plan) (clock : SiteTimes) (mv : Move) (t : ℕ) → IsClockOf plan clock → AreKept plan mv → t ≤ begin_time (stamped clock mv t) mv
made_late plan clock mv t is_clock here =
    let p = is_clock.plan_is in
    let met = stream_shared plan mv mv here here refl in
    begins_later clock mv mv t is_clock.room (rw p here) (rw p here) (rw p met)

without_none : (kept : KeptMoves) → slice_get kept.moves 0 ≡ None → kept ≡ without_first kept
without_none kept none = ap (λ (l : List Move). record kept { moves = l }) (same kept.moves none)
  where
    same : (l : List Move) → slice_get l 0 ≡ None → l ≡ drop 1 l
    same [] e = refl
    same (x ∷ xs) e = absurd (cc)

due_without : (plan : Plan) (c : ClockedState) (kept : KeptMoves) (mv : Move) → AreDue plan c kept →
    ((x : Move) → Some x ≡ slice_get kept.moves 0 → x ≡ mv) → kept.time ≤ begin_time c.clock mv → AreDue plan c (without_first kept)
due_without plan c kept mv due first past = by (slice_get kept.moves 0) refl
  where
    by : (o : Option Move) → slice_get kept.moves 0 ≡ o → AreDue plan c (without_first kept)
    by None e = subst (AreDue plan c) (without_none kept e) due
    by (Some x) e =
        let is = first x (sym e) in
        due_skipped plan c kept mv due (ap Some (sym is) ∙ sym e) past

pub left_after : (plan : Plan) (m : Moment) (clock : SiteTimes) (mv : Move) (time : ℕ) (kept : KeptMoves) → IsAccepted plan → HasSidings plan m.state →
    IsClockOf plan clock → AreDelays clock.delays → bar plan m.state mv ≡ None → AreKept plan mv → IsLeft plan (clocked clock m.state) kept mv →
    (next plan m mv).state.ending ≡ None → AreDue plan (clocked (stamped clock mv time) (next plan m mv).state) (kept_after kept mv time)
left_after plan m clock mv time kept acc sidings is_clock delays allowed here left unended = by left.skipped refl
  where
    after : ClockedState
    after = clocked (stamped clock mv time) (next plan m mv).state

    right : AreDue plan after (kept_after left.before mv time)
    right = due_after plan m clock mv time left.before acc sidings is_clock delays allowed here left.due unended

    taken : (v s t : Bool) → nat_eq time left.before.time ≡ s → left.skipped ≡ true →
        AreDue plan after (cond v none_kept (cond (s && t) left.before none_kept)) →
        AreDue plan after (cond v none_kept (cond (s && t) (without_first left.before) none_kept))
    taken true s t e skipped due = due
    taken false false t e skipped due = due
    taken false true false e skipped due = due
    taken false true true e skipped due =
        let same : time ≡ left.before.time = grind (arith, nat_tests) in
        let late = made_late plan clock mv time is_clock here in
        due_without plan after left.before mv due (λ x at. left.first x skipped at) (rw (← same) late)

    by : (b : Bool) → left.skipped ≡ b → AreDue plan after (kept_after kept mv time)
    by false e = subst (λ (k : KeptMoves). AreDue plan after (kept_after k mv time)) (sym (rw e at left.left)) right
    by true e = subst (λ (k : KeptMoves). AreDue plan after (kept_after k mv time)) (sym (rw e at left.left))
        (taken (is_serve mv) (nat_eq time left.before.time) (nat_lt time (2 ^ 64 - 1)) refl e right)

-- the first of some moves that have the least time
all_at : (f : Move → ℕ) (t : ℕ) (xs : List Move) → AllByRecursion (λ mv. t ≤ f mv) xs → (k : ℕ) (d : Move) → k < length xs → t ≤ f (get_or xs k d)
all_at f t [] h k d below = absurd (omega arith)
all_at f t (x ∷ xs) h zero d below = h.0
all_at f t (x ∷ xs) h (suc k) d below = all_at f t xs h.1 k d (omega arith)

first_of : (f : Move → ℕ) (t : ℕ) (xs rest : List Move) (mv : Move) → AllByRecursion (λ x. t ≤ f x) xs → filter (λ x. nat_eq (f x) t) xs ≡ mv ∷ rest →
    IsFirst f xs t mv
first_of f t [] rest mv least e = absurd (cc)
first_of f t (x ∷ xs) rest mv least e = by (nat_eq (f x) t) refl (λ g. first_of f t xs rest mv least.1 g)
  where
    by : (b : Bool) → nat_eq (f x) t ≡ b → (filter (λ y. nat_eq (f y) t) xs ≡ mv ∷ rest → IsFirst f xs t mv) → IsFirst f (x ∷ xs) t mv
    by true g more =
        let same : f x ≡ t = grind (arith, nat_tests) in
        let is : x ≡ mv = (let h : x ∷ filter (λ y. nat_eq (f y) t) xs ≡ mv ∷ rest = rw g at e in cc) in
        record {
          place = 0;
          is_least = record {
            within = omega arith;
            is = λ d. omega (arith, same);
            most = all_at f t (x ∷ xs) least;
            first = λ k d before. absurd (omega arith);
          };
          there = ap Some is;
          is = ap f (sym is) ∙ same;
        }
    by false g more =
        let r = more (rw g at e) in
        let low = least.0 in
        let later : t < f x = grind (arith, nat_tests, low) in
        record { place = suc r.place; is_least = after_one f x xs r.place t later r.is_least; there = r.there; is = r.is }

-- the first of the kept moves that is still due is the first of all that finish earliest
pub first_due : (plan : Plan) (c : ClockedState) (kept : KeptMoves) (mv : Move) → AreDue plan c kept → Some mv ≡ slice_get (still_due c.clock kept) 0 →
    IsFirst (capped c) (allowed_others plan c.state) kept.time mv
unfolding finishing
first_due plan c kept mv due e = by (still_due c.clock kept) refl e
  where
    by : (l : List Move) → still_due c.clock kept ≡ l → Some mv ≡ slice_get l 0 → IsFirst (capped c) (allowed_others plan c.state) kept.time mv
    by [] h f = absurd (cc)
    by (x ∷ xs) h f =
        let is : x ≡ mv = cc in
        first_of (capped c) kept.time (allowed_others plan c.state) (xs ++ due.others) mv due.least
        (due.first ∙ ap (λ (l : List Move). l ++ due.others) h ∙ ap (λ (y : Move). y ∷ xs ++ due.others) is)

-- no allowed move other than Issue finishes before
pub none_before : (plan : Plan) (c : ClockedState) (kept : KeptMoves) → AreDue plan c kept → (k : ℕ) (d : Move) → k < length (allowed_others plan c.state) →
    kept.time ≤ capped c (get_or (allowed_others plan c.state) k d)
none_before plan c kept due = all_at (capped c) kept.time (allowed_others plan c.state) due.least

-- a first move that is due is the first of those that are
pub first_still : (clock : SiteTimes) (kept : KeptMoves) (mv : Move) → Some mv ≡ slice_get kept.moves 0 → begin_time clock mv < kept.time →
    Some mv ≡ slice_get (still_due clock kept) 0
unfolding still_due
first_still clock kept mv at before = by kept.moves at
  where
    one : (x : Move) (xs : List Move) → x ≡ mv → Some mv ≡ slice_get (filter (λ y. nat_lt (begin_time clock y) kept.time) (x ∷ xs)) 0
    one x xs e = let f : nat_lt (begin_time clock x) kept.time ≡ true = rw e (grind (arith, nat_tests, before)) in rw f (ap Some (sym e))

    by : (l : List Move) → Some mv ≡ slice_get l 0 → Some mv ≡ slice_get (filter (λ y. nat_lt (begin_time clock y) kept.time) l) 0
    by [] e = absurd (cc)
    by (x ∷ xs) e = one x xs (cc)

pub none_still : (clock : SiteTimes) (kept : KeptMoves) → None ≡ slice_get kept.moves 0 → still_due clock kept ≡ []
unfolding still_due
none_still clock kept at = by kept.moves at
  where
    by : (l : List Move) → None ≡ slice_get l 0 → filter (λ y. nat_lt (begin_time clock y) kept.time) l ≡ []
    by [] e = refl
    by (x ∷ xs) e = absurd (cc)

-- it takes what is left until their time
pub first_timed : (plan : Plan) (c : ClockedState) (kept : KeptMoves) (due : Due) → AreDue plan c kept → Some due.mv ≡ slice_get kept.moves 0 →
    begin_time c.clock due.mv < kept.time → due.delay ≡ kept.time - begin_time c.clock due.mv → due.time ≡ kept.time → IsFirstDue c kept due
unfolding finish_time
first_timed plan c kept due right at before takes time =
    let first = first_still c.clock kept due.mv at before in
    let is = (first_due plan c kept due.mv right first).is in
    let below = right.below (slice_get_within kept.moves 0 due.mv (sym at)) in
    record { mv = at; begins = before; delay = omega (arith, is, below, before, takes); time = time }
