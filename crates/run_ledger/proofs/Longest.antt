-- The chain of a run that is followed back from the last of the moves that finish latest is a longest one.
use Rattle.std.proofs.Common.{◌≡◌, ◌∙◌, refl, sym, ap, subst, ℕ, ◌+◌, ◌-◌, List, [], ◌∷◌, ◌++◌, max, Bool, true, false, cond, nat_eq, arith}
use Rattle.std.proofs.Common.{append-nil, append_assoc}
use Rattle.std.specs.Prelude.{◌&&◌}
use Rattle.std.proofs.lemmas.Bool.Decides.{nat_tests}
use Rattle.cf_layout.specs.Layout.{Plan}
use Rattle.cf_index.specs.Sites.{shares}
use Rattle.cf_timed.specs.Chains.{AreLinked, ArePart, IsChain, sum_of_delays}
use Rattle.cf_timed.specs.declared.timed_move.TimedMove.{TimedMove}
use Rattle.cf_timed.specs.Times.{DelayedMove, done_after, greatest_time, finish_after, moves_with_times, times_after}
use Rattle.cf_timed.proofs.Chaining.{always, linked_last, part_last, part_more, shares_turned, sum_last, sum_none}
use Rattle.cf_timed.specs.Arrivals.{greatest_where}
use Rattle.cf_timed.proofs.Greatest.{where_more, where_none}
use Rattle.run_ledger.specs.Breakdowns.{chain_to, is_last, leads_to, longest_chain}
use Rattle.run_ledger.specs.SeenMoves.{untimed}

-- the moves in the order of the run; in the list the last comes first
abbrev run_of : List TimedMove → List DelayedMove
run_of [] = []
run_of (done ∷ earlier) = run_of earlier ++ untimed done ∷ []

run-after : (plan : Plan) (earlier : List TimedMove) (moves : List DelayedMove) → run_of (times_after plan earlier moves) ≡ run_of earlier ++ moves
run-after plan earlier [] = sym (append-nil (run_of earlier))
run-after plan earlier (mv ∷ moves) = run-after plan (done_after plan earlier mv ∷ earlier) moves
    ∙ append_assoc (run_of earlier) (mv ∷ []) moves

-- each move has its time
abbrev AreTimed : Plan → List TimedMove → Type 0
AreTimed plan [] = Unit {0}
AreTimed plan (done ∷ earlier) = (done.time ≡ finish_after plan earlier (untimed done)) × AreTimed plan earlier

timed-after : (plan : Plan) (earlier : List TimedMove) (moves : List DelayedMove) → AreTimed plan earlier →
    AreTimed plan (times_after plan earlier moves)
timed-after plan earlier [] h = h
timed-after plan earlier (mv ∷ moves) h = timed-after plan (done_after plan earlier mv ∷ earlier) moves (refl, h)

-- a chain consists of some of the moves
part-of : (plan : Plan) (test : TimedMove → Bool) (done : List TimedMove) → ArePart (chain_to plan test done) (run_of done)
part-of plan test [] = tt
part-of plan test (d ∷ earlier) = by (test d) (part-of plan (leads_to plan d) earlier) (part-of plan test earlier)
  where
    by : (b : Bool) → ArePart (chain_to plan (leads_to plan d) earlier) (run_of earlier) →
        ArePart (chain_to plan test earlier) (run_of earlier) → ArePart (cond b (chain_to plan (leads_to plan d) earlier ++ untimed d ∷ [])
        (chain_to plan test earlier)) (run_of earlier ++ untimed d ∷ [])
    by true h g = part_last (chain_to plan (leads_to plan d) earlier) (run_of earlier) (untimed d) h
    by false h g = part_more (chain_to plan test earlier) (run_of earlier) (untimed d) g

-- each move of the chain shares a site with the next one
both-hold : (a b : Bool) → (a && b) ≡ true → a ≡ true
both-hold true b e = refl
both-hold false b e = e

linked-to : (plan : Plan) (next : TimedMove) (done : List TimedMove) → AreLinked plan (chain_to plan (leads_to plan next) done
    ++ untimed next ∷ [])
linked-to plan next [] = tt
linked-to plan next (d ∷ earlier) = by (leads_to plan next d) refl (linked-to plan d earlier) (linked-to plan next earlier)
  where
    by : (b : Bool) → leads_to plan next d ≡ b → AreLinked plan (chain_to plan (leads_to plan d) earlier ++ untimed d ∷ []) →
        AreLinked plan (chain_to plan (leads_to plan next) earlier ++ untimed next ∷ []) →
        AreLinked plan (cond b (chain_to plan (leads_to plan d) earlier ++ untimed d ∷ []) (chain_to plan (leads_to plan next) earlier)
        ++ untimed next ∷ [])
    by true e h g = linked_last plan (chain_to plan (leads_to plan d) earlier) (untimed d) (untimed next) h
        (shares_turned plan next.mv d.mv (both-hold (shares plan next.mv d.mv) (nat_eq d.time (next.time - next.delay)) e))
    by false e h g = g

linked-of : (plan : Plan) (test : TimedMove → Bool) (done : List TimedMove) → AreLinked plan (chain_to plan test done)
linked-of plan test [] = tt
linked-of plan test (d ∷ earlier) = by (test d) (linked-to plan d earlier) (linked-of plan test earlier)
  where
    by : (b : Bool) → AreLinked plan (chain_to plan (leads_to plan d) earlier ++ untimed d ∷ []) →
        AreLinked plan (chain_to plan test earlier) → AreLinked plan (cond b (chain_to plan (leads_to plan d) earlier ++ untimed d ∷ [])
        (chain_to plan test earlier))
    by true h g = h
    by false h g = g

-- the chain to the last of those that pass and finish latest takes as long as they do
start-is : (plan : Plan) (earlier : List TimedMove) (d : TimedMove) → d.time ≡ finish_after plan earlier (untimed d) →
    d.time ≡ greatest_where (λ e. shares plan d.mv e.mv) earlier + d.delay
unfolding finish_after
start-is plan earlier d h = h

sum-to : (plan : Plan) (p : TimedMove → Bool) (done : List TimedMove) (s : ℕ) → AreTimed plan done → s ≡ greatest_where p done →
    sum_of_delays (chain_to plan (λ d. p d && nat_eq d.time s) done) ≡ s
sum-to plan p [] s h is = let z = where_none p in let n = sum_none in omega (arith, z, n, is)
sum-to plan p (d ∷ earlier) s h is =
    let w = where_more p d earlier in
    let t = start-is plan earlier d h.0 in
    let e : d.time - d.delay ≡ greatest_where (λ x. shares plan d.mv x.mv) earlier = omega (arith, t) in
    let r = sum-to plan (λ x. shares plan d.mv x.mv) earlier (d.time - d.delay) h.1 e in
    let l = sum_last (chain_to plan (leads_to plan d) earlier) (untimed d) in
    by (p d) (nat_eq d.time s) refl (is ∙ w) (omega (arith, l, r, t)) (λ g. sum-to plan p earlier s h.1 g)
  where
    by : (b c : Bool) → nat_eq d.time s ≡ c → s ≡ max (cond b d.time 0) (greatest_where p earlier) →
        sum_of_delays (chain_to plan (leads_to plan d) earlier ++ untimed d ∷ []) ≡ d.time
        → (s ≡ greatest_where p earlier → sum_of_delays (chain_to plan (λ x. p x && nat_eq x.time s) earlier) ≡ s)
        → sum_of_delays (cond (b && c) (chain_to plan (leads_to plan d) earlier ++ untimed d ∷ [])
        (chain_to plan (λ x. p x && nat_eq x.time s) earlier)) ≡ s
    by true true e m now later = let q : d.time ≡ s = grind (arith, nat_tests) in now ∙ q
    by true false e m now later = let q : s ≡ greatest_where p earlier = grind (arith, nat_tests) in later q
    by false c e m now later = later (omega (arith, m))

pub chain-is : (plan : Plan) (moves : List DelayedMove) → IsChain plan moves (longest_chain plan moves)
unfolding longest_chain moves_with_times
chain-is plan moves =
    let done : List TimedMove = times_after plan [] moves in
    record {
      part = subst (λ (ms : List DelayedMove). ArePart (chain_to plan (is_last done) done) ms) (run-after plan [] moves)
          (part-of plan (is_last done) done);
      linked = linked-of plan (is_last done) done;
    }

pub chain-sum : (plan : Plan) (moves : List DelayedMove) → sum_of_delays (longest_chain plan moves)
    ≡ greatest_time (moves_with_times plan moves)
unfolding longest_chain moves_with_times
chain-sum plan moves =
    let done : List TimedMove = times_after plan [] moves in
    sum-to plan (λ d. true) done (greatest_time done) (timed-after plan [] moves tt) (ap greatest_time (sym (always done)))
