-- The counts of a list of moves: what a meeting adds to them, and that each move is counted when it is made.
use Rattle.std.proofs.Common.{◌≡◌, ℕ, ◌+◌, ◌-◌, ◌≤◌, ◌<◌, ◌^◌, List, [], ◌∷◌, ◌++◌, length, get_or, take, Option, Some, None, Bool, true, false, cond, not, refl, sym, ap, subst, ◌∙◌, arith}
use Rattle.std.specs.Prelude.{◌&&◌, count_by, zero, suc}
use Rattle.std.proofs.lemmas.List.{length-take}
use Rattle.std.proofs.lemmas.List.Sums.{count_by-le-length, sum_by-append}
use Rattle.std.proofs.lemmas.Option.{slice_get-get_or}
use Rattle.cf_layout.specs.Layout.{Plan}
use Rattle.cf_bind.specs.declared.cell.Cell.{Cell}
use Rattle.cf_bind.specs.declared.packet.Packet.{Packet}
use Rattle.cf_bind.specs.declared.passenger.Passenger.{Passenger}
use Rattle.cf_bind.specs.declared.moves.Move.{Move}
use Rattle.cf_bind.specs.declared.moves.Move.TheVariants.{Issue, Emit, Climb, Fall, Meet, Execute, Send, Launch, Slide, Access, Recover, Leave, Exit, Serve}
use Rattle.cf_bind.specs.Meeting.{Met}
use Rattle.cf_semantics.specs.state.Options.{on, is_some}
use Rattle.cf_semantics.specs.state.State.{State, Moment, cell_at, put_cell, with_cell}
use Rattle.order_rules.specs.declared.rule.Rule.{Rule}
use Rattle.order_model.specs.RuleMoves.{cell_met_without, meeting_without, moved_without, next_without}
use Rattle.order_keys.specs.declared.node.Node.{Node}
use Rattle.order_keys.specs.Situations.{without_memory}
use Rattle.order_claims.specs.MoveLists.{moment_after_without}
use Rattle.order_graph.specs.declared.found.OrderCounts.{OrderCounts}
use Rattle.order_graph.specs.OrderCounts.{is_meeting, is_meeting_that, is_kill, is_death, count_made}
use Rattle.order_graph.specs.CountsMade.{counts_of, counts_with, counts_between, has_packet, has_live, has_dead, no_counts, AreCountsUpTo}
use Rattle.order_graph.specs.OrderTrial.{OrderTrial, first_moment}
use Rattle.order_graph.specs.TrialParts.{IsSoundTrial}
use Rattle.order_graph.specs.KeyGraph.{first_node, node_next, nodes_after, state_of_node}
use Rattle.order_graph.proofs.Paths.{stands_at}
use Rattle.order_graph.proofs.Wrongs.{take_next}

-- the stage after a meeting
cell_put : (cells : List Cell) (i : ℕ) (c d : Cell) → cell_at cells i ≡ Some c → cell_at (put_cell cells i d) i ≡ Some d
cell_put cells zero c d e = absurd (cc)
cell_put [] (suc i) c d e = absurd (cc)
cell_put (b ∷ cells) (suc zero) c d e = refl
cell_put (b ∷ cells) (suc (suc i)) c d e = cell_put cells (suc i) c d e

-- a test of a meeting, by the contents of its stage before and after it
module _ (away : Option Rule) (s : State) (i : ℕ) where
  -- what the meeting leaves in its stage
  left_by : Option Cell → List Cell
  left_by o = (on o s (λ c. on c.passenger s (λ p. on c.packet s (λ k. with_cell s i (cell_met_without away c p k))))).cells

  module _ (f : Option Cell → Option Cell → Bool) (test : Passenger → Met → Bool)
      (nothing : f None None ≡ false)
      (same : (c : Cell) → f (Some c) (Some c) ≡ false)
      (met : (c : Cell) (p : Passenger) (k : Packet) → c.passenger ≡ Some p → c.packet ≡ Some k →
      f (Some c) (Some (cell_met_without away c p k)) ≡ test p (meeting_without away p k)) where
    tested : f (cell_at s.cells i) (cell_at (left_by (cell_at s.cells i)) i) ≡ is_meeting_that test away s (Meet i)
    unfolding left_by
    tested = go (cell_at s.cells i) refl
      where
        both : (c : Cell) (op : Option Passenger) (ok : Option Packet) → cell_at s.cells i ≡ Some c → c.passenger ≡ op → c.packet ≡ ok →
            f (Some c) (cell_at (on op s (λ p. on ok s (λ k. with_cell s i (cell_met_without away c p k)))).cells i)
            ≡ on op false (λ p. on ok false (λ k. test p (meeting_without away p k)))
        both c None ok e ep ek = ap (f (Some c)) e ∙ same c
        both c (Some p) None e ep ek = ap (f (Some c)) e ∙ same c
        both c (Some p) (Some k) e ep ek = ap (f (Some c)) (cell_put s.cells i c (cell_met_without away c p k) e) ∙ met c p k ep ek

        go : (o : Option Cell) → cell_at s.cells i ≡ o → f o (cell_at (left_by o) i)
            ≡ on o false (λ c. on c.passenger false (λ p. on c.packet false (λ k. test p (meeting_without away p k))))
        go None e = ap (f None) e ∙ nothing
        go (Some c) e = both c c.passenger c.packet e refl refl

-- a result that is there before, but not after
is_lost : Option Cell → Option Cell → Bool
is_lost found left = has_packet found && not (has_packet left)

-- a live instruction that is dead afterwards
is_dying : Option Cell → Option Cell → Bool
is_dying found left = has_live found && has_dead left

and_not : (b : Bool) → (b && not b) ≡ false
and_not true = refl
and_not false = refl

not_and : (b : Bool) → (not b && b) ≡ false
not_and true = refl
not_and false = refl

still_alive : (o : Option Passenger) → (on o false (λ p. not p.dead) && on o false (λ p. p.dead)) ≡ false
still_alive None = refl
still_alive (Some p) = not_and p.dead

kill_is : (away : Option Rule) (plan : Plan) (s : State) (i : ℕ) →
    is_lost (cell_at s.cells i) (cell_at (moved_without away plan s (Meet i)).cells i) ≡ is_kill away s (Meet i)
unfolding moved_without is_lost left_by
kill_is away plan s i = tested away s i is_lost (λ p m. not (is_some m.packet)) refl (λ c. and_not (is_some c.packet))
    (λ c p k ep ek. ap (λ o. is_some o && not (is_some (meeting_without away p k).packet)) ek)

death_is : (away : Option Rule) (plan : Plan) (s : State) (i : ℕ) →
    is_dying (cell_at s.cells i) (cell_at (moved_without away plan s (Meet i)).cells i) ≡ is_death away s (Meet i)
unfolding moved_without is_dying left_by
death_is away plan s i = tested away s i is_dying (λ p m. not p.dead && m.passenger.dead) refl (λ c. still_alive c.passenger)
    (λ c p k ep ek. ap (λ o. on o false (λ q. not q.dead) && (meeting_without away p k).passenger.dead) ep)

-- so a meeting is counted by the contents of its stage in two nodes
meeting_counts : (t : OrderTrial) (n next : Node) (i : ℕ) (k : OrderCounts) → next ≡ node_next t n (Meet i) →
    counts_between (cell_at n.situation.cells i) (cell_at next.situation.cells i) k ≡ counts_with t.away n.situation (Meet i) k
unfolding counts_with next_without node_next is_lost is_dying
meeting_counts t n next i k e =
    let cells : next.situation.cells ≡ (moved_without t.away t.plan (state_of_node t n) (Meet i)).cells = ap (λ (x : Node). x.situation.cells) e in
    let kill : is_lost (cell_at n.situation.cells i) (cell_at next.situation.cells i) ≡ is_kill t.away n.situation (Meet i)
    = ap (λ l. is_lost (cell_at n.situation.cells i) (cell_at l i)) cells ∙ kill_is t.away t.plan (state_of_node t n) i in
    let death : is_dying (cell_at n.situation.cells i) (cell_at next.situation.cells i) ≡ is_death t.away n.situation (Meet i)
    = ap (λ l. is_dying (cell_at n.situation.cells i) (cell_at l i)) cells ∙ death_is t.away t.plan (state_of_node t n) i in
    ap (λ b. let r : OrderCounts = record {
      meets = k.meets + 1;
      kills = k.kills + cond b 1 0;
      dead = k.dead + cond (is_dying (cell_at n.situation.cells i) (cell_at next.situation.cells i)) 1 0;
    } in r) kill
    ∙ ap (λ b. let r : OrderCounts = record {
      meets = k.meets + 1;
      kills = k.kills + cond (is_kill t.away n.situation (Meet i)) 1 0;
      dead = k.dead + cond b 1 0;
    } in r) death

pub meeting_counted : (t : OrderTrial) (n next : Node) (mv : Move) (i : ℕ) (k after : OrderCounts) (found left : Option Cell) → mv ≡ Meet i →
    next ≡ node_next t n mv → found ≡ cell_at n.situation.cells i → left ≡ cell_at next.situation.cells i → after ≡ counts_between found left k →
    after ≡ counts_with t.away n.situation mv k
meeting_counted t n next mv i k after found left is made before behind counted =
    counted ∙ ap (λ (o : Option Cell). counts_between o left k) before
    ∙ ap (λ (o : Option Cell). counts_between (cell_at n.situation.cells i) o k) behind
    ∙ meeting_counts t n next i k (made ∙ ap (node_next t n) is) ∙ ap (λ (m : Move). counts_with t.away n.situation m k) (sym is)

-- the counts of a move do not depend on memory
meeting_bare : (test : Passenger → Met → Bool) (away : Option Rule) (s : State) (mv : Move) →
    is_meeting_that test away (without_memory s) mv ≡ is_meeting_that test away s mv
meeting_bare test away s (Issue g) = refl
meeting_bare test away s Emit = refl
meeting_bare test away s (Climb i) = refl
meeting_bare test away s (Fall i) = refl
meeting_bare test away s (Meet i) = refl
meeting_bare test away s (Execute i) = refl
meeting_bare test away s (Send i) = refl
meeting_bare test away s (Launch i) = refl
meeting_bare test away s (Slide k c) = refl
meeting_bare test away s Access = refl
meeting_bare test away s (Recover i) = refl
meeting_bare test away s Leave = refl
meeting_bare test away s Exit = refl
meeting_bare test away s Serve = refl

-- one more move at the end of a list
made_behind : (test : State → Move → Bool) (away : Option Rule) (plan : Plan) (m : Moment) (xs : List Move) (mv : Move) →
    count_made test away plan m (xs ++ mv ∷ []) ≡ count_made test away plan m xs + cond (test (moment_after_without away plan m xs).state mv) 1 0
unfolding count_made moment_after_without
made_behind test away plan m [] mv = omega arith
made_behind test away plan m (x ∷ xs) mv =
    let later = made_behind test away plan (next_without away plan m x) xs mv in omega arith

met_behind : (xs : List Move) (mv : Move) → count_by is_meeting (xs ++ mv ∷ []) ≡ count_by is_meeting xs + cond (is_meeting mv) 1 0
met_behind xs mv = let sum = sum_by-append (λ x. cond (is_meeting x) 1 0) xs (mv ∷ []) in omega (arith, sum)

pub counted_behind : (t : OrderTrial) (xs : List Move) (mv : Move) → IsSoundTrial t →
    counts_with t.away (nodes_after t (first_node t) xs).situation mv (counts_of t xs) ≡ counts_of t (xs ++ mv ∷ [])
unfolding counts_of counts_with
counted_behind t xs mv is =
    let m : Moment = moment_after_without t.away t.plan (first_moment t) xs in
    let n : Node = nodes_after t (first_node t) xs in
    let situation : n.situation ≡ without_memory m.state = (stands_at t xs is).situation in
    let kill : is_kill t.away n.situation mv ≡ is_kill t.away m.state mv
    = ap (λ (s : State). is_kill t.away s mv) situation ∙ meeting_bare (λ p w. not (is_some w.packet)) t.away m.state mv in
    let death : is_death t.away n.situation mv ≡ is_death t.away m.state mv
    = ap (λ (s : State). is_death t.away s mv) situation ∙ meeting_bare (λ p w. not p.dead && w.passenger.dead) t.away m.state mv in
    let meets = met_behind xs mv in
    let kills = ap (λ b. count_made (is_kill t.away) t.away t.plan (first_moment t) xs + cond b 1 0) kill
    ∙ sym (made_behind (is_kill t.away) t.away t.plan (first_moment t) xs mv) in
    let dead = ap (λ b. count_made (is_death t.away) t.away t.plan (first_moment t) xs + cond b 1 0) death
    ∙ sym (made_behind (is_death t.away) t.away t.plan (first_moment t) xs mv) in
    same_counts (sym meets) kills dead
  where
    same_counts : {a b c x y z : ℕ} → a ≡ x → b ≡ y → c ≡ z →
        (let r : OrderCounts = record { meets = a; kills = b; dead = c } in r) ≡ (let r : OrderCounts = record { meets = x; kills = y; dead = z } in r)
    same_counts p q r = cc

-- no count is larger than the number of moves
made_few : (test : State → Move → Bool) (away : Option Rule) (plan : Plan) (m : Moment) (xs : List Move) → count_made test away plan m xs ≤ length xs
unfolding count_made
made_few test away plan m [] = omega arith
made_few test away plan m (x ∷ xs) = by (test m.state x) (made_few test away plan (next_without away plan m x) xs)
  where
    by : (b : Bool) → count_made test away plan (next_without away plan m x) xs ≤ length xs →
        cond b 1 0 + count_made test away plan (next_without away plan m x) xs ≤ length (x ∷ xs)
    by true few = omega arith
    by false few = omega arith

pub counted_few : (t : OrderTrial) (xs : List Move) (most : ℕ) → length xs ≤ most → AreCountsUpTo most (counts_of t xs)
unfolding counts_of
counted_few t xs most few =
    let meets = count_by-le-length is_meeting xs in
    let kills = made_few (is_kill t.away) t.away t.plan (first_moment t) xs in
    let dead = made_few (is_death t.away) t.away t.plan (first_moment t) xs in
    record { meets = omega arith; kills = omega arith; dead = omega arith }

-- the loop over the moves, by index
pub counted_none : (t : OrderTrial) (k : OrderCounts) → k ≡ no_counts → k ≡ counts_of t []
unfolding counts_of count_made
counted_none t k e = e

pub counted_step : (t : OrderTrial) (n : Node) (moves : List Move) (i : ℕ) (d : Move) (before after : OrderCounts) → IsSoundTrial t →
    n ≡ nodes_after t (first_node t) (take i moves) → before ≡ counts_of t (take i moves) → i < length moves →
    after ≡ counts_with t.away n.situation (get_or moves i d) before → after ≡ counts_of t (take (i + 1) moves)
counted_step t n moves i d before after is e k within made =
    let one : suc i ≡ i + 1 = omega arith in
    made ∙ ap (λ (x : Node). counts_with t.away x.situation (get_or moves i d) before) e
    ∙ ap (counts_with t.away (nodes_after t (first_node t) (take i moves)).situation (get_or moves i d)) k
    ∙ counted_behind t (take i moves) (get_or moves i d) is
    ∙ ap (counts_of t) (sym (take_next moves i (get_or moves i d) (slice_get-get_or moves i d within)) ∙ ap (λ j. take j moves) one)

-- the moves before one in a list that fits into memory leave room for one more
pub counts_room : (t : OrderTrial) (moves : List Move) (i : ℕ) (k : OrderCounts) → k ≡ counts_of t (take i moves) → i < 2 ^ 64 - 1 →
    AreCountsUpTo (2 ^ 64 - 2) k
counts_room t moves i k e few = subst (AreCountsUpTo (2 ^ 64 - 2)) (sym e)
    (counted_few t (take i moves) (2 ^ 64 - 2) (let short = length-take i moves in omega (arith, few, short)))
