-- The first wrong list of moves, made again: only the last of its moves is wrong.
use Rattle.std.proofs.Common.{◌≡◌, ℕ, zero, suc, ◌+◌, ◌<◌, List, [], ◌∷◌, ◌++◌, Some, length, get_or, take, drop, refl, sym, ap, subst, ◌∙◌, arith, inl, inr}
use Rattle.std.specs.Prelude.{slice_get}
use Rattle.std.specs.List.{Contains}
use Rattle.std.proofs.lemmas.Option.{slice_get-get_or}
use Rattle.mem_regions.specs.Memory.{Memory}
use Rattle.cf_bind.specs.declared.moves.Move.{Move}
use Rattle.cf_bind.specs.declared.moves.Move.TheVariants.{Emit}
use Rattle.cf_semantics.specs.claims.Weight.{issues, counts, is_issue}
use Rattle.cf_semantics.specs.state.State.{Moment, State}
use Rattle.mem_changes.specs.Applied.{memory_after}
use Rattle.mem_changes.proofs.Made.{no_changes}
use Rattle.order_keys.specs.declared.node.Node.{Node}
use Rattle.order_claims.specs.declared.wrong_kind.WrongKind.{WrongKind}
use Rattle.order_claims.specs.MoveLists.{issued_with, moment_after_without, IsOrder}
use Rattle.order_claims.specs.WrongLists.{HasWrongEnd}
use Rattle.order_search.specs.SearchOrder.{IsLower, IsNotAfter, Precedes}
use Rattle.order_graph.specs.OrderTrial.{OrderTrial, first_moment, leads_on, moment_next, IsTrialOrder}
use Rattle.order_graph.specs.OrderLists.{IsFirstWrong, IsPlacedFrom}
use Rattle.order_graph.specs.TrialParts.{IsSoundTrial}
use Rattle.order_graph.specs.KeyGraph.{AreRightMoves, IsOrderNode, IsRightNode, first_node, memory_loaded, moves_from, node_next, nodes_after, state_of_node}
use Rattle.order_graph.proofs.Nodes.{StandsFor, its_state}
use Rattle.order_graph.proofs.Paths.{order_of, stands_at}

-- a prefix of a list in which each move leads on, and the move after it
order_front : (t : OrderTrial) (m : Moment) (issued : ℕ) (xs ys : List Move) → IsOrder t.away t.plan t.most m issued (xs ++ ys) →
    IsOrder t.away t.plan t.most m issued xs
unfolding IsOrder
order_front t m issued [] ys o = tt
order_front t m issued (mv ∷ xs) ys o = (o.0, order_front t (moment_next t m mv) (issued_with issued mv) xs ys o.1)

leads_behind : (t : OrderTrial) (m : Moment) (issued : ℕ) (xs : List Move) (mv : Move) (ys : List Move) →
    IsOrder t.away t.plan t.most m issued (xs ++ mv ∷ ys) →
    Contains (leads_on t (moment_after_without t.away t.plan m xs).state (issued + issues xs)) mv
unfolding IsOrder moment_after_without
leads_behind t m issued [] mv ys o =
    let same : issued ≡ issued + 0 = omega arith in subst (λ (i : ℕ). Contains (leads_on t m.state i) mv) same o.0
leads_behind t m issued (x ∷ xs) mv ys o =
    let same : issued_with issued x + issues xs ≡ issued + (counts (is_issue x) 1 + issues xs) = omega arith in
    subst (λ (i : ℕ). Contains (leads_on t (moment_after_without t.away t.plan (moment_next t m x) xs).state i) mv) same
    (leads_behind t (moment_next t m x) (issued_with issued x) xs mv ys o.1)

-- and the node after it
pub after_one : (t : OrderTrial) (n : Node) (xs : List Move) (mv : Move) → nodes_after t n (xs ++ mv ∷ []) ≡ node_next t (nodes_after t n xs) mv
unfolding nodes_after
after_one t n [] mv = refl
after_one t n (x ∷ xs) mv = after_one t (node_next t n x) xs mv

pub its_moves : (t : OrderTrial) (m : Moment) (issued : ℕ) (n : Node) → StandsFor t m issued n → leads_on t m.state issued ≡ moves_from t n
its_moves t m issued n h = ap (λ (s : State). leads_on t s issued) (sym (its_state t m issued n h)) ∙ ap (leads_on t (state_of_node t n)) (sym h.issues)

pub leads_at : (t : OrderTrial) (xs : List Move) (mv : Move) (ys : List Move) → IsSoundTrial t → IsTrialOrder t (xs ++ mv ∷ ys) →
    Contains (moves_from t (nodes_after t (first_node t) xs)) mv
leads_at t xs mv ys is o =
    let same : 0 + issues xs ≡ issues xs = omega arith in
    subst (λ (l : List Move). Contains l mv) (its_moves t _ (issues xs) _ (stands_at t xs is))
    (subst (λ (i : ℕ). Contains (leads_on t (moment_after_without t.away t.plan (first_moment t) xs).state i) mv) same
    (leads_behind t (first_moment t) 0 xs mv ys o))

pub front_node : (t : OrderTrial) (xs ys : List Move) → IsTrialOrder t (xs ++ ys) → IsOrderNode t (nodes_after t (first_node t) xs)
front_node t xs ys o = record { moves = xs; allowed = order_front t (first_moment t) 0 xs ys o; is = refl }

-- a list, split at an index
pub split_at : (xs : List Move) (i : ℕ) (mv : Move) → slice_get xs i ≡ Some mv → xs ≡ take i xs ++ mv ∷ drop (suc i) xs
split_at [] i mv e = absurd (cc)
split_at (x ∷ xs) zero mv e = let same : x ≡ mv = cc in ap (λ (y : Move). y ∷ xs) same
split_at (x ∷ xs) (suc i) mv e = ap (λ (l : List Move). x ∷ l) (split_at xs i mv e)

pub take_next : (xs : List Move) (i : ℕ) (mv : Move) → slice_get xs i ≡ Some mv → take (suc i) xs ≡ take i xs ++ mv ∷ []
take_next [] i mv e = absurd (cc)
take_next (x ∷ xs) zero mv e = let same : x ≡ mv = cc in ap (λ (y : Move). y ∷ []) same
take_next (x ∷ xs) (suc i) mv e = ap (λ (l : List Move). x ∷ l) (take_next xs i mv e)

-- the loop over the moves: at each index its node is reached, and its move leads on from there to the next
pub node_at_index : (t : OrderTrial) (moves : List Move) (i : ℕ) (mv : Move) → IsTrialOrder t moves → slice_get moves i ≡ Some mv →
    IsOrderNode t (nodes_after t (first_node t) (take i moves))
node_at_index t moves i mv o e = front_node t (take i moves) (mv ∷ drop (suc i) moves) (subst (IsTrialOrder t) (split_at moves i mv e) o)

pub move_at_index : (t : OrderTrial) (moves : List Move) (i : ℕ) (mv : Move) → IsSoundTrial t → IsTrialOrder t moves → slice_get moves i ≡ Some mv →
    Contains (moves_from t (nodes_after t (first_node t) (take i moves))) mv
move_at_index t moves i mv is o e = leads_at t (take i moves) mv (drop (suc i) moves) is (subst (IsTrialOrder t) (split_at moves i mv e) o)

pub next_at_index : (t : OrderTrial) (moves : List Move) (i : ℕ) (mv : Move) → slice_get moves i ≡ Some mv →
    node_next t (nodes_after t (first_node t) (take i moves)) mv ≡ nodes_after t (first_node t) (take (suc i) moves)
next_at_index t moves i mv e = sym (ap (nodes_after t (first_node t)) (take_next moves i mv e) ∙ after_one t (first_node t) (take i moves) mv)

-- a list is as long as its places
placed_length : (t : OrderTrial) (m : Moment) (issued : ℕ) (places : List ℕ) (moves : List Move) → IsPlacedFrom t m issued places moves →
    length places ≡ length moves
unfolding IsPlacedFrom
placed_length t m issued [] [] p = refl
placed_length t m issued [] (mv ∷ moves) p = absurd p
placed_length t m issued (place ∷ places) [] p = absurd p
placed_length t m issued (place ∷ places) (mv ∷ moves) p = ap (λ (n : ℕ). suc n) (placed_length t (moment_next t m mv) (issued_with issued mv) places moves p.1)

-- a longer list is after a shorter one
not_longer : (xs ys : List ℕ) → length ys < length xs → IsNotAfter xs ys → ⊥
unfolding Precedes
not_longer xs ys h (inl e) = let same = ap length e in omega arith
not_longer xs ys h (inr (inl less)) = omega arith
not_longer xs ys h (inr (inr (same, lower))) = omega arith

tails_after : (x : ℕ) (xs ys : List ℕ) → IsNotAfter (x ∷ xs) (x ∷ ys) → IsNotAfter xs ys
unfolding Precedes IsLower
tails_after x xs ys (inl e) = inl (let same : xs ≡ ys = cc in same)
tails_after x xs ys (inr (inl less)) = inr (inl (omega arith))
tails_after x xs ys (inr (inr (same, inl less))) = absurd (omega arith)
tails_after x xs ys (inr (inr (same, inr lower))) = inr (inr (omega arith, lower.1))

-- of the first wrong list no move but the last is wrong
right_front : (t : OrderTrial) (m : Moment) (issued : ℕ) (places : List ℕ) (xs : List Move) (last : Move) → IsPlacedFrom t m issued places (xs ++ last ∷ []) →
    ((others : List ℕ) (list : List Move) (other : WrongKind) → IsPlacedFrom t m issued others list →
    HasWrongEnd t.away t.plan t.most t.machine m issued list other →
    IsNotAfter places others) → AreRightMoves t m xs
unfolding IsPlacedFrom HasWrongEnd AreRightMoves
right_front t m issued places [] last p least = tt
right_front t m issued [] (mv ∷ xs) last p least = absurd p
right_front t m issued (place ∷ places) (mv ∷ xs) last p least = (
  λ kind w. not_longer (place ∷ places) (place ∷ []) (longer xs (placed_length t (moment_next t m mv) (issued_with issued mv) places (xs ++ last ∷ []) p.1))
      (least (place ∷ []) (mv ∷ []) kind (p.0, tt) (inl w)),
  right_front t (moment_next t m mv) (issued_with issued mv) places xs last p.1
      (λ others list other q w. tails_after place places others (further others list other q w)),
)
  where
    longer : (ys : List Move) → length places ≡ length (ys ++ last ∷ []) → length (let l : List ℕ = place ∷ [] in l) < length (place ∷ places)
    longer [] e = omega arith
    longer (y ∷ ys) e = omega arith

    further : (others : List ℕ) (list : List Move) (other : WrongKind) → IsPlacedFrom t (moment_next t m mv) (issued_with issued mv) others list →
        HasWrongEnd t.away t.plan t.most t.machine (moment_next t m mv) (issued_with issued mv) list other → IsNotAfter (place ∷ places) (place ∷ others)
    further others [] other q w = absurd w
    further others (x ∷ list) other q w = least (place ∷ others) (mv ∷ x ∷ list) other (p.0, q) w

pub right_before : (t : OrderTrial) (bound : ℕ) (moves before : List Move) (last : Move) (kind : WrongKind) → IsFirstWrong t bound moves kind →
    moves ≡ before ++ last ∷ [] → IsRightNode t (nodes_after t (first_node t) before)
right_before t bound moves before last kind x e =
    let placed = subst (IsPlacedFrom t (first_moment t) 0 x.places) e x.placed in
    record {
      moves = before;
      allowed = order_front t (first_moment t) 0 before (last ∷ []) (order_of t (first_moment t) 0 x.places (before ++ last ∷ []) placed);
      right = right_front t (first_moment t) 0 x.places before last placed
          (λ others list other q w. x.least others list other q (record { allowed = order_of t (first_moment t) 0 others list q; wrong = w }));
      is = refl;
    }

pub some_moves : (t : OrderTrial) (bound : ℕ) (moves : List Move) (kind : WrongKind) → IsFirstWrong t bound moves kind → 0 < length moves
unfolding HasWrongEnd
some_moves t bound [] kind x = absurd x.wrong.wrong
some_moves t bound (mv ∷ moves) kind x = omega arith

-- the last of its moves
pub last_is : (moves : List Move) (i : ℕ) (mv : Move) → slice_get moves i ≡ Some mv → length moves ≡ suc i → moves ≡ take i moves ++ mv ∷ []
last_is [] i mv e f = absurd (cc)
last_is (x ∷ []) zero mv e f = let same : x ≡ mv = cc in ap (λ (y : Move). y ∷ []) same
last_is (x ∷ y ∷ moves) zero mv e f = absurd (omega arith)
last_is (x ∷ moves) (suc i) mv e f = ap (λ (l : List Move). x ∷ l) (last_is moves i mv e (omega arith))

-- the loop over the moves, by index
first_memory : (t : OrderTrial) → IsSoundTrial t → memory_loaded t ≡ memory_after (first_node t).changes (memory_loaded t)
unfolding first_node
first_memory t is = (no_changes (memory_loaded t) is.is_loaded).makes

pub memory_start : (t : OrderTrial) (n : Node) (mem : Memory) → IsSoundTrial t → n ≡ first_node t → mem ≡ memory_loaded t →
    mem ≡ memory_after n.changes (memory_loaded t)
memory_start t n mem is e f = f ∙ first_memory t is ∙ ap (λ (k : Node). memory_after k.changes (memory_loaded t)) (sym e)

pub node_start : (t : OrderTrial) (n : Node) → n ≡ first_node t → n ≡ nodes_after t (first_node t) []
unfolding nodes_after
node_start t n e = e

pub node_at_step : (t : OrderTrial) (moves : List Move) (i : ℕ) → IsTrialOrder t moves → i < length moves →
    IsOrderNode t (nodes_after t (first_node t) (take i moves))
node_at_step t moves i o within = node_at_index t moves i (get_or moves i Emit) o (slice_get-get_or moves i Emit within)

pub leads_at_step : (t : OrderTrial) (n : Node) (moves : List Move) (i : ℕ) (d : Move) → IsSoundTrial t → n ≡ nodes_after t (first_node t) (take i moves) →
    IsTrialOrder t moves → i < length moves → Contains (moves_from t n) (get_or moves i d)
leads_at_step t n moves i d is e o within = subst (λ (k : Node). Contains (moves_from t k) (get_or moves i d)) (sym e)
    (move_at_index t moves i (get_or moves i d) is o (slice_get-get_or moves i d within))

pub node_step : (t : OrderTrial) (n next : Node) (moves : List Move) (i : ℕ) (d : Move) → n ≡ nodes_after t (first_node t) (take i moves) → i < length moves →
    next ≡ node_next t n (get_or moves i d) → next ≡ nodes_after t (first_node t) (take (i + 1) moves)
node_step t n next moves i d e within made =
    let one : suc i ≡ i + 1 = omega arith in
    made ∙ ap (λ (k : Node). node_next t k (get_or moves i d)) e
    ∙ next_at_index t moves i (get_or moves i d) (slice_get-get_or moves i d within) ∙ ap (λ (j : ℕ). nodes_after t (first_node t) (take j moves)) one

-- the end of the first wrong list
pub record EndsWrong (t : OrderTrial) (moves : List Move) (i : ℕ) (last : Move) : Type 0 where
  pub whole : moves ≡ take i moves ++ last ∷ []
  pub allowed : IsTrialOrder t (take i moves)
  pub right : IsRightNode t (nodes_after t (first_node t) (take i moves))
  pub leads : Contains (moves_from t (nodes_after t (first_node t) (take i moves))) last

pub ends_wrong : (t : OrderTrial) (bound : ℕ) (moves : List Move) (kind : WrongKind) (i : ℕ) (d : Move) → IsSoundTrial t → IsFirstWrong t bound moves kind →
    length moves ≡ suc i → EndsWrong t moves i (get_or moves i d)
ends_wrong t bound moves kind i d is x e =
    let there = slice_get-get_or moves i d (omega arith) in
    let whole = last_is moves i (get_or moves i d) there e in
    record {
      whole = whole;
      allowed = order_front t (first_moment t) 0 (take i moves) (get_or moves i d ∷ []) (subst (IsTrialOrder t) whole x.wrong.allowed);
      right = right_before t bound moves (take i moves) (get_or moves i d) kind x whole;
      leads = leads_at t (take i moves) (get_or moves i d) [] is (subst (IsTrialOrder t) whole x.wrong.allowed);
    }
