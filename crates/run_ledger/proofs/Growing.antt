-- How one more move changes times, sums of delays, and numbers of moves by kind.
use Rattle.std.proofs.Common.{◌≡◌, ◌≢◌, ◌∙◌, refl, ap, ℕ, suc, ◌+◌, ◌*◌, ◌^◌, ◌<◌, ◌≤◌, List, [], ◌∷◌, ◌++◌, length, Bool, true, false, cond, nat_eq, arith}
use Rattle.std.specs.Prelude.{filter, slice_set, ◌==◌}
use Rattle.std.proofs.lemmas.Bool.Decides.{nat_tests}
use Rattle.std.proofs.lemmas.List.{length-append}
use Rattle.std.proofs.lemmas.List.Elements.{filter-append}
use Rattle.cf_layout.specs.Layout.{Plan}
use Rattle.cf_bind.specs.declared.moves.Move.{Move}
use Rattle.cf_bind.specs.declared.moves.Move.TheVariants.{Issue, Emit, Climb, Fall, Meet, Execute, Send, Launch, Slide, Access, Recover, Leave, Exit, Serve}
use Rattle.cf_index.specs.Order.{kind_place}
use Rattle.cf_timed.specs.Chains.{sum_of_delays}
use Rattle.std.specs.List.{AllByRecursion}
use Rattle.cf_index.specs.Sites.{shares}
use Rattle.cf_timed.specs.declared.timed_move.TimedMove.{TimedMove}
use Rattle.cf_timed.specs.Times.{DelayedMove, done_after, greatest_time, finish_after, moves_with_times, times_after}
use Rattle.cf_timed.proofs.Delaying.{all_time, kept_time}
use Rattle.cf_timed.proofs.Numbered.{numbered_at}
use Rattle.run_ledger.specs.Breakdowns.{busy, chain_to, kind_counts, leads_to, of_kind}
use Rattle.run_ledger.specs.SeenMoves.{untimed}
use Rattle.run_ledger.specs.Ledgers.{one_more, plus, plus_if}
use Rattle.run_ledger.proofs.Numbered.{numbered_set}

-- the times of moves and one more
after_more : (plan : Plan) (earlier : List TimedMove) (moves : List DelayedMove) (move : DelayedMove) →
    times_after plan earlier (moves ++ move ∷ []) ≡ done_after plan (times_after plan earlier moves) move
    ∷ times_after plan earlier moves
after_more plan earlier [] move = refl
after_more plan earlier (m ∷ moves) move = after_more plan (done_after plan earlier m ∷ earlier) moves move

pub times_more : (plan : Plan) (moves : List DelayedMove) (move : DelayedMove) → moves_with_times plan (moves ++ move ∷ [])
    ≡ done_after plan (moves_with_times plan moves) move ∷ moves_with_times plan moves
unfolding moves_with_times
times_more plan moves move = after_more plan [] moves move

pub times_none : (plan : Plan) → moves_with_times plan [] ≡ []
unfolding moves_with_times
times_none plan = refl

-- there is one time for each move
after_length : (plan : Plan) (earlier : List TimedMove) (moves : List DelayedMove) →
    length (times_after plan earlier moves) ≡ length earlier + length moves
after_length plan earlier [] = omega arith
after_length plan earlier (move ∷ moves) = let r = after_length plan (done_after plan earlier move ∷ earlier) moves in omega (arith, r)

pub times_length : (plan : Plan) (moves : List DelayedMove) → length (moves_with_times plan moves) ≡ length moves
unfolding moves_with_times
times_length plan moves = let r = after_length plan [] moves in omega (arith, r)

-- no move takes more than 1,000 ticks
abbrev pub AreShort : List DelayedMove → Type 0
AreShort moves = AllByRecursion (λ d. d.delay ≤ 1000) moves

-- a move finishes at most 1,000 ticks after the latest earlier one
pub time_short : (plan : Plan) (earlier : List TimedMove) (d : DelayedMove) → d.delay ≤ 1000 → finish_after plan earlier d ≤ greatest_time earlier + 1000
unfolding finish_after
time_short plan earlier d h = let k = kept_time (λ done. shares plan d.mv done.mv) earlier in omega (arith, k, h)

after_few : (plan : Plan) (earlier : List TimedMove) (moves : List DelayedMove) → AreShort moves →
    greatest_time (times_after plan earlier moves) ≤ greatest_time earlier + 1000 * length moves
after_few plan earlier [] h = omega arith
after_few plan earlier (d ∷ moves) h =
    let r = after_few plan (done_after plan earlier d ∷ earlier) moves h.1 in
    let a = all_time (done_after plan earlier d) earlier in
    let t = time_short plan earlier d h.0 in
    omega (arith, r, a, t)

pub times_few : (plan : Plan) (moves : List DelayedMove) → AreShort moves → greatest_time (moves_with_times plan moves) ≤ 1000 * length moves
unfolding moves_with_times greatest_time
times_few plan moves h = let r = after_few plan [] moves h in omega (arith, r)

-- sums of delays
sum_more : (front back : List DelayedMove) → sum_of_delays (front ++ back) ≡ sum_of_delays front + sum_of_delays back
unfolding sum_of_delays
sum_more [] back = omega arith
sum_more (move ∷ front) back = let r = sum_more front back in omega (arith, r)

sum_if : (b : Bool) (move : DelayedMove) → sum_of_delays (cond b (move ∷ []) []) ≡ cond b (move.delay) 0
unfolding sum_of_delays
sum_if true move = omega arith
sum_if false move = refl

pub busy_more : (test : Move → Bool) (moves : List DelayedMove) (move : DelayedMove) → busy test (moves ++ move ∷ [])
    ≡ busy test moves + cond (test move.mv) (move.delay) 0
unfolding busy
busy_more test moves move =
    ap (sum_of_delays) (filter-append (λ d. test d.mv) moves (move ∷ []))
    ∙ sum_more (filter (λ d. test d.mv) moves) (cond (test move.mv) (move ∷ []) [])
    ∙ ap (λ (n : ℕ). sum_of_delays (filter (λ d. test d.mv) moves) + n) (sum_if (test move.mv) move)

-- so the sums of delays are small too
sum_few : (test : Move → Bool) (moves : List DelayedMove) → AreShort moves → sum_of_delays (filter (λ d. test d.mv) moves) ≤ 1000 * length moves
unfolding sum_of_delays
sum_few test [] h = omega arith
sum_few test (move ∷ moves) h =
    let r = sum_few test moves h.1 in
    let d = h.0 in
    by (test move.mv) r d
  where
    by : (b : Bool) → sum_of_delays (filter (λ d. test d.mv) moves) ≤ 1000 * length moves → move.delay ≤ 1000 →
        sum_of_delays (cond b (move ∷ filter (λ d. test d.mv) moves) (filter (λ d. test d.mv) moves)) ≤ 1000 * suc (length moves)
    by true r d = omega (arith, r, d)
    by false r d = omega (arith, r)

pub busy_few : (test : Move → Bool) (moves : List DelayedMove) → AreShort moves → busy test moves ≤ 1000 * length moves
unfolding busy
busy_few test moves h = sum_few test moves h

-- a number that counts grows within 64 bits
pub grows : (counts : Bool) (number more : ℕ) → number + more < 2 ^ 64 → plus_if counts number more ≡ number + cond counts more 0
grows true number more small = omega (arith, small)
grows false number more small = omega arith

-- moves of a kind
length_if : (b : Bool) (move : DelayedMove) → length (cond b (move ∷ []) []) ≡ cond b 1 0
length_if true move = refl
length_if false move = refl

of_kind_more : (moves : List DelayedMove) (move : DelayedMove) (kind : ℕ) →
    of_kind (moves ++ move ∷ []) kind ≡ of_kind moves kind + cond (nat_eq (kind_place move.mv) kind) 1 0
unfolding of_kind
of_kind_more moves move kind =
    ap length (filter-append (λ m. kind_place m.mv == kind) moves (move ∷ []))
    ∙ length-append (filter (λ m. kind_place m.mv == kind) moves) (cond (nat_eq (kind_place move.mv) kind) (move ∷ []) [])
    ∙ ap (λ (n : ℕ). length (filter (λ m. kind_place m.mv == kind) moves) + n) (length_if (nat_eq (kind_place move.mv) kind) move)

of_kind_few : (moves : List DelayedMove) (kind : ℕ) → of_kind moves kind ≤ length moves
unfolding of_kind
of_kind_few [] kind = omega arith
of_kind_few (move ∷ moves) kind = by (nat_eq (kind_place move.mv) kind) (of_kind_few moves kind)
  where
    by : (b : Bool) → length (filter (λ m. kind_place m.mv == kind) moves) ≤ length moves → length
        (cond b (move ∷ filter (λ m. kind_place m.mv == kind) moves) (filter (λ m. kind_place m.mv == kind) moves)) ≤ suc (length moves)
    by true r = omega (arith, r)
    by false r = omega (arith, r)

-- there are fourteen kinds
kind_within : (move : Move) → kind_place move < 14
kind_within (Issue g) = omega arith
kind_within Emit = omega arith
kind_within (Climb i) = omega arith
kind_within (Fall i) = omega arith
kind_within (Meet i) = omega arith
kind_within (Execute i) = omega arith
kind_within (Send i) = omega arith
kind_within (Launch i) = omega arith
kind_within (Slide k c) = omega arith
kind_within Access = omega arith
kind_within (Recover i) = omega arith
kind_within Leave = omega arith
kind_within Exit = omega arith
kind_within Serve = omega arith

-- one more move of its kind
pub kinds_more : (moves : List DelayedMove) (move : DelayedMove) → length moves + 1 < 2 ^ 64 →
    one_more (kind_counts moves) move.mv ≡ kind_counts (moves ++ move ∷ [])
kinds_more moves move small =
    ap (λ (n : ℕ). slice_set (kind_counts moves) (kind_place move.mv) (plus n 1)) (numbered_at (of_kind moves) 14 (kind_place move.mv) (kind_within move.mv))
    ∙ numbered_set (of_kind moves) (of_kind (moves ++ move ∷ [])) 14 (kind_place move.mv) (plus (of_kind moves (kind_place move.mv)) 1)
    (kind_within move.mv) here others
  where
    here : plus (of_kind moves (kind_place move.mv)) 1 ≡ of_kind (moves ++ move ∷ []) (kind_place move.mv)
    here =
        let few = of_kind_few moves (kind_place move.mv) in
        let more = of_kind_more moves move (kind_place move.mv) in
        let e : nat_eq (kind_place move.mv) (kind_place move.mv) ≡ true = grind (arith, nat_tests) in
        let one : ◌≡◌ {A = ℕ} (cond (nat_eq (kind_place move.mv) (kind_place move.mv)) 1 0) 1 = rw e refl in
        omega (arith, few, more, one, small)

    others : (j : ℕ) → j ≢ kind_place move.mv → of_kind moves j ≡ of_kind (moves ++ move ∷ []) j
    others j other =
        let more = of_kind_more moves move j in
        let e : nat_eq (kind_place move.mv) j ≡ false = grind (arith, nat_tests) in
        let none : ◌≡◌ {A = ℕ} (cond (nat_eq (kind_place move.mv) j) 1 0) 0 = rw e refl in
        omega (arith, more, none)

-- a chain has no more moves than the run
pub chain_few : (plan : Plan) (test : TimedMove → Bool) (moves : List TimedMove) → length (chain_to plan test moves) ≤ length moves
chain_few plan test [] = omega arith
chain_few plan test (done ∷ earlier) = by (test done) (chain_few plan (leads_to plan done) earlier) (chain_few plan test earlier)
  where
    by : (b : Bool) → length (chain_to plan (leads_to plan done) earlier) ≤ length earlier →
        length (chain_to plan test earlier) ≤ length earlier → length (cond b (chain_to plan (leads_to plan done) earlier ++ untimed done
        ∷ []) (chain_to plan test earlier)) ≤ suc (length earlier)
    by true h g = let n = length-append (chain_to plan (leads_to plan done) earlier) (untimed done ∷ []) in omega (arith, n, h)
    by false h g = omega (arith, g)
