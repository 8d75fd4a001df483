-- The maximum time of a run is the sum of the delays of a chain of it, and no chain has a larger sum.
use Rattle.std.proofs.Common.{◌≡◌, ◌∙◌, refl, sym, ap, subst, ℕ, ◌+◌, ◌≤◌, ◌⊎◌, inl, inr, List, [], ◌∷◌, ◌++◌, max, Bool, true, false, cond, arith, append-nil, append_assoc}
use Rattle.std.specs.Prelude.{filter}
use Rattle.cf_layout.specs.Layout.{Plan}
use Rattle.cf_index.specs.Sites.{shares}
use Rattle.cf_index.proofs.SharedSites.{shared_at, shared_place}
use Rattle.cf_bind.specs.declared.moves.Move.{Move}
use Rattle.cf_timed.specs.declared.timed_move.TimedMove.{TimedMove}
use Rattle.cf_timed.specs.Times.{DelayedMove, before, delayed, done_at, done_after, greatest_time, finish_after, moves_with_times, times_after}
use Rattle.cf_timed.specs.Chains.{AreLinked, ArePart, IsChain, IsLongest, sum_of_delays}
use Rattle.cf_timed.proofs.Greatest.{where_more, where_none}

-- sharing a site is symmetric
pub shares_turned : (plan : Plan) (a b : Move) → shares plan a b ≡ true → shares plan b a ≡ true
shares_turned plan a b e = let x = shared_place plan a b e in shared_at plan b a x.0 x.2 x.1

-- a part of a run, with one more move after the run, or after both
pub part_more : (part moves : List DelayedMove) (move : DelayedMove) → ArePart part moves → ArePart part (moves ++ move ∷ [])
part_more [] moves move h = tt
part_more (p ∷ part) [] move h = absurd h
part_more (p ∷ part) (first ∷ moves) move (inl h) = inl (h.0, part_more part moves move h.1)
part_more (p ∷ part) (first ∷ moves) move (inr h) = inr (part_more (p ∷ part) moves move h)

pub part_last : (part moves : List DelayedMove) (move : DelayedMove) → ArePart part moves → ArePart (part ++ move ∷ []) (moves ++ move ∷ [])
part_last [] [] move h = inl (refl, tt)
part_last [] (first ∷ moves) move h = inr (part_last [] moves move tt)
part_last (p ∷ part) [] move h = absurd h
part_last (p ∷ part) (first ∷ moves) move (inl h) = inl (h.0, part_last part moves move h.1)
part_last (p ∷ part) (first ∷ moves) move (inr h) = inr (part_last (p ∷ part) moves move h)

-- a chain that ends with a move, and a next move that shares a site with it
pub linked_last : (plan : Plan) (chain : List DelayedMove) (last move : DelayedMove) → AreLinked plan (chain ++ last ∷ []) →
    shares plan last.mv move.mv ≡ true →
    AreLinked plan ((chain ++ last ∷ []) ++ move ∷ [])
linked_last plan [] last move h e = (e, tt)
linked_last plan (c ∷ []) last move h e = (h.0, (e, tt))
linked_last plan (c ∷ d ∷ chain) last move h e = (h.0, linked_last plan (d ∷ chain) last move h.1 e)

-- the sum of no delays, of one delay and others, and of others and one delay
pub sum_none : sum_of_delays [] ≡ 0
unfolding sum_of_delays
sum_none = refl

sum_first : (move : DelayedMove) (moves : List DelayedMove) → sum_of_delays (move ∷ moves) ≡ move.delay + sum_of_delays moves
unfolding sum_of_delays
sum_first move moves = refl

pub sum_last : (moves : List DelayedMove) (move : DelayedMove) → sum_of_delays (moves ++ move ∷ []) ≡ sum_of_delays moves + move.delay
unfolding sum_of_delays
sum_last [] move = omega arith
sum_last (m ∷ moves) move = let r = sum_last moves move in omega (arith, r)

-- a chain of the moves that ends with this move at this time
record EndsAt (plan : Plan) (moves : List DelayedMove) (move : DelayedMove) (time : ℕ) : Type 0 where
  front : List DelayedMove
  part : ArePart (front ++ move ∷ []) moves
  linked : AreLinked plan (front ++ move ∷ [])
  is : sum_of_delays (front ++ move ∷ []) ≡ time

-- each of the moves with their times has such a chain
abbrev AllEnd : Plan → List DelayedMove → List TimedMove → Type 0
AllEnd plan moves [] = Unit {0}
AllEnd plan moves (done ∷ earlier) = EndsAt plan moves (delayed done.mv done.delay) done.time × AllEnd plan moves earlier

all_more : (plan : Plan) (moves : List DelayedMove) (move : DelayedMove) (earlier : List TimedMove) → AllEnd plan moves earlier →
    AllEnd plan (moves ++ move ∷ []) earlier
all_more plan moves move [] h = tt
all_more plan moves move (done ∷ earlier) h = (
  record { front = h.0.front; part = part_more (h.0.front ++ delayed done.mv done.delay ∷ []) moves move h.0.part; linked = h.0.linked; is = h.0.is },
  all_more plan moves move earlier h.1,
)

-- the latest of the moves that pass a test, if any does
record Latest (plan : Plan) (moves : List DelayedMove) (test : Move → Bool) (time : ℕ) : Type 0 where
  move : DelayedMove
  passes : test move.mv ≡ true
  ends : EndsAt plan moves move time

latest_of : (plan : Plan) (moves : List DelayedMove) (test : Move → Bool) (earlier : List TimedMove) → AllEnd plan moves earlier →
    Latest plan moves test (greatest_time (filter (λ done. test done.mv) earlier)) ⊎ (greatest_time (filter (λ done. test done.mv) earlier) ≡ 0)
latest_of plan moves test [] h = inr (where_none (λ done. test done.mv))
latest_of plan moves test (done ∷ earlier) h = subst (λ (n : ℕ). Latest plan moves test n ⊎ (n ≡ 0))
    (sym (where_more (λ d. test d.mv) done earlier)) (by (test done.mv) refl (latest_of plan moves test earlier h.1))
  where
    greater : (a b : ℕ) → (max a b ≡ a) ⊎ (max a b ≡ b)
    greater a b = grind arith

    by : (b : Bool) → test done.mv ≡ b → Latest plan moves test (greatest_time (filter (λ d. test d.mv) earlier))
        ⊎ (greatest_time (filter (λ d. test d.mv) earlier) ≡ 0) → Latest plan moves test
        (max (cond b done.time 0) (greatest_time (filter (λ d. test d.mv) earlier))) ⊎ (max (cond b done.time 0)
        (greatest_time (filter (λ d. test d.mv) earlier)) ≡ 0)
    by true e old = pick (greater done.time (greatest_time (filter (λ d. test d.mv) earlier))) old
      where
        pick : (max done.time (greatest_time (filter (λ d. test d.mv) earlier)) ≡ done.time)
            ⊎ (max done.time (greatest_time (filter (λ d. test d.mv) earlier)) ≡ greatest_time (filter (λ d. test d.mv) earlier)) →
            Latest plan moves test (greatest_time (filter (λ d. test d.mv) earlier)) ⊎ (greatest_time (filter (λ d. test d.mv) earlier) ≡ 0) →
            Latest plan moves test (max done.time (greatest_time (filter (λ d. test d.mv) earlier)))
            ⊎ (max done.time (greatest_time (filter (λ d. test d.mv) earlier)) ≡ 0)
        pick (inl m) old = inl (subst (λ (n : ℕ). Latest plan moves test n) (sym m) (record { move = delayed done.mv done.delay; passes = e; ends = h.0 }))
        pick (inr m) (inl l) = inl (subst (λ (n : ℕ). Latest plan moves test n) (sym m) l)
        pick (inr m) (inr z) = inr (m ∙ z)
    by false e (inl l) = let z : max 0 (greatest_time (filter (λ d. test d.mv) earlier)) ≡ greatest_time (filter (λ d. test d.mv) earlier) = omega arith in
        inl (subst (λ (n : ℕ). Latest plan moves test n) (sym z) l)
    by false e (inr z) = inr (omega (arith, z))

-- a further move ends a chain at its time
ends_more : (plan : Plan) (moves : List DelayedMove) (earlier : List TimedMove) (move : DelayedMove) → AllEnd plan moves earlier →
    EndsAt plan (moves ++ move ∷ []) move (finish_after plan earlier move)
unfolding finish_after
ends_more plan moves earlier move h = by (latest_of plan moves (shares plan move.mv) earlier h)
  where
    by : Latest plan moves (shares plan move.mv) (greatest_time (before plan move.mv earlier)) ⊎ (greatest_time (before plan move.mv earlier) ≡ 0) →
        EndsAt plan (moves ++ move ∷ []) move (greatest_time (before plan move.mv earlier) + move.delay)
    by (inl l) = record {
      front = l.ends.front ++ l.move ∷ [];
      part = part_last (l.ends.front ++ l.move ∷ []) moves move l.ends.part;
      linked = linked_last plan l.ends.front l.move move l.ends.linked (shares_turned plan move.mv l.move.mv l.passes);
      is = sum_last (l.ends.front ++ l.move ∷ []) move ∙ ap (λ (n : ℕ). n + move.delay) l.ends.is;
    }
    by (inr z) = record {
      front = [];
      part = part_last [] moves move tt;
      linked = tt;
      is = sum_last [] move ∙ ap (λ (n : ℕ). n + move.delay) (sum_none ∙ sym z);
    }

-- so each move of a run ends a chain
all_ends : (plan : Plan) (moves : List DelayedMove) (earlier : List TimedMove) (rest : List DelayedMove) → AllEnd plan moves earlier →
    AllEnd plan (moves ++ rest) (times_after plan earlier rest)
all_ends plan moves earlier [] h = subst (λ (l : List DelayedMove). AllEnd plan l earlier) (sym (append-nil moves)) h
all_ends plan moves earlier (move ∷ rest) h =
    subst (λ (l : List DelayedMove). AllEnd plan l (times_after plan (done_after plan earlier move ∷ earlier) rest))
    (append_assoc moves (move ∷ []) rest)
    (all_ends plan (moves ++ move ∷ []) (done_after plan earlier move ∷ earlier) rest
    (ends_more plan moves earlier move h, all_more plan moves move earlier h))

-- every move passes a test that always holds
pub always : (moves : List TimedMove) → filter (λ done. true) moves ≡ moves
always [] = refl
always (done ∷ moves) = ap (λ (l : List TimedMove). done ∷ l) (always moves)

-- one more move does not lower the maximum time
time_grows : (test : TimedMove → Bool) (done : TimedMove) (moves : List TimedMove) →
    greatest_time (filter test moves) ≤ greatest_time (filter test (done ∷ moves))
time_grows test done moves = let e = where_more test done moves in omega (arith, e)

all_grows : (done : TimedMove) (moves : List TimedMove) → greatest_time moves ≤ greatest_time (done ∷ moves)
unfolding greatest_time
all_grows done moves = omega arith

own_time : (done : TimedMove) (moves : List TimedMove) → done.time ≤ greatest_time (done ∷ moves)
unfolding greatest_time
own_time done moves = omega arith

passing_time : (test : TimedMove → Bool) (done : TimedMove) (moves : List TimedMove) → test done ≡ true → done.time ≤ greatest_time (filter test (done ∷ moves))
passing_time test done moves e = let w = where_more test done moves in let z : cond (test done) done.time 0 ≡ done.time = rw e refl in omega (arith, w, z)

-- the time that a chain has reached is at most the time for which its next move waits
abbrev IsReady : Plan → List TimedMove → ℕ → List DelayedMove → Type 0
IsReady plan earlier s [] = Unit {0}
IsReady plan earlier s (move ∷ chain) = s ≤ greatest_time (before plan move.mv earlier)

ready_more : (plan : Plan) (done : TimedMove) (earlier : List TimedMove) (s : ℕ) (chain : List DelayedMove) → IsReady plan earlier s chain →
    IsReady plan (done ∷ earlier) s chain
ready_more plan done earlier s [] h = tt
ready_more plan done earlier s (move ∷ chain) h = let g = time_grows (λ d. shares plan move.mv d.mv) done earlier in omega (arith, g, h)

ready_next : (plan : Plan) (move : DelayedMove) (t s : ℕ) (earlier : List TimedMove) (chain : List DelayedMove) → AreLinked plan (move ∷ chain) → s ≤ t →
    IsReady plan (done_at move t ∷ earlier) s chain
ready_next plan move t s earlier [] h g = tt
ready_next plan move t s earlier (next ∷ chain) h g =
    let p = passing_time (λ d. shares plan next.mv d.mv) (done_at move t) earlier (shares_turned plan move.mv next.mv h.0) in
    omega (arith, p, g)

linked_rest : (plan : Plan) (move : DelayedMove) (chain : List DelayedMove) → AreLinked plan (move ∷ chain) → AreLinked plan chain
linked_rest plan move [] h = tt
linked_rest plan move (next ∷ chain) h = h.1

waits : (plan : Plan) (earlier : List TimedMove) (move : DelayedMove) (s : ℕ) → s ≤ greatest_time (before plan move.mv earlier) →
    s + move.delay ≤ finish_after plan earlier move
unfolding finish_after
waits plan earlier move s h = omega (arith, h)

-- no chain has a larger sum
most_of : (plan : Plan) (earlier : List TimedMove) (rest chain : List DelayedMove) (s : ℕ) → s ≤ greatest_time earlier → IsReady plan earlier s chain →
    ArePart chain rest → AreLinked plan chain → s + sum_of_delays chain ≤ greatest_time (times_after plan earlier rest)
most_of plan earlier [] [] s most ready part linked = let z = sum_none in omega (arith, z)
most_of plan earlier [] (c ∷ chain) s most ready part linked = absurd part
most_of plan earlier (move ∷ rest) [] s most ready part linked =
    let done = done_after plan earlier move in
    most_of plan (done ∷ earlier) rest [] s (let g = all_grows done earlier in omega (arith, g)) tt tt tt
most_of plan earlier (move ∷ rest) (c ∷ chain) s most ready (inr part) linked =
    let done = done_after plan earlier move in
    most_of plan (done ∷ earlier) rest (c ∷ chain) s (let g = all_grows done earlier in
    omega (arith, g)) (ready_more plan done earlier s (c ∷ chain) ready) part linked
most_of plan earlier (move ∷ rest) (c ∷ chain) s most ready (inl h) linked =
    let done = done_after plan earlier move in
    let same : c ≡ move = h.0 in
    let later : s + move.delay ≤ done.time = waits plan earlier move s (subst (λ (x : DelayedMove). s ≤ greatest_time (before plan x.mv earlier)) same ready) in
    let links : AreLinked plan (move ∷ chain) = subst (λ (x : DelayedMove). AreLinked plan (x ∷ chain)) same linked in
    let r = most_of plan (done ∷ earlier) rest chain (s + move.delay) (let g = own_time done earlier in
    omega (arith, g, later)) (ready_next plan move done.time (s + move.delay) earlier chain links later) h.1 (linked_rest plan move chain links) in
    let e = sum_first move chain in
    let q = ap (λ (x : DelayedMove). sum_of_delays (x ∷ chain)) same in
    omega (arith, r, e, q)

-- the maximum time of a run is that of its longest chain
pub longest : (plan : Plan) (moves : List DelayedMove) → IsLongest plan moves (greatest_time (moves_with_times plan moves))
unfolding moves_with_times
longest plan moves = by (latest_of plan moves (λ move. true) (times_after plan [] moves) (all_ends plan [] [] moves tt))
  where
    most : (other : List DelayedMove) → IsChain plan moves other → sum_of_delays other ≤ greatest_time (times_after plan [] moves)
    most other h = let r = most_of plan [] moves other 0 (omega arith) (ready other) h.part h.linked in omega (arith, r)
      where
        ready : (chain : List DelayedMove) → IsReady plan [] 0 chain
        ready [] = tt
        ready (move ∷ chain) = omega arith

    all : greatest_time (filter (λ done. true) (times_after plan [] moves)) ≡ greatest_time (times_after plan [] moves)
    all = ap greatest_time (always (times_after plan [] moves))

    by : Latest plan moves (λ move. true) (greatest_time (filter (λ done. true) (times_after plan [] moves)))
        ⊎ (greatest_time (filter (λ done. true) (times_after plan [] moves)) ≡ 0) →
        IsLongest plan moves (greatest_time (times_after plan [] moves))
    by (inl l) = record {
      chain = l.ends.front ++ l.move ∷ [];
      is_chain = record { part = l.ends.part; linked = l.ends.linked };
      is = l.ends.is ∙ all;
      most =
          most;
    }
    by (inr z) = record { chain = []; is_chain = record { part = tt; linked = tt }; is = sum_none ∙ sym z ∙ all; most = most }
