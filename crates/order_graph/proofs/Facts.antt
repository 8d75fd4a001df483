-- What is known about a node that moves lead to.
use Rattle.std.proofs.Common.{◌≡◌, ℕ, ◌+◌, ◌<◌, ◌≤◌, ◌^◌, List, None, Bool, true, false, refl, sym, ap, subst, ◌∙◌, arith}
use Rattle.std.specs.List.{Contains}
use Rattle.std.specs.Prelude.{MatchBool}
use Rattle.mem_regions.specs.Memory.{Memory}
use Rattle.cf_bind.specs.declared.moves.Move.{Move}
use Rattle.cf_semantics.specs.claims.Weight.{issues}
use Rattle.cf_semantics.specs.state.State.{Moment, State}
use Rattle.mem_changes.specs.Applied.{memory_after}
use Rattle.mem_changes.specs.Differing.{AreChanges, AreChangesOf}
use Rattle.mem_changes.specs.MemoryChanges.{MemoryChanges}
use Rattle.mem_changes.proofs.Once.{listed_once}
use Rattle.order_model.specs.RuleBars.{bar_without}
use Rattle.order_model.specs.RuleMoves.{next_without}
use Rattle.order_model.specs.Situations.{lone_moment, in_memory}
use Rattle.order_keys.specs.declared.node.Node.{Node}
use Rattle.order_keys.specs.Keys.{node_of}
use Rattle.order_keys.specs.Situations.{IsWhole, without_memory}
use Rattle.order_claims.specs.MoveLists.{issued_with, moment_after_without}
use Rattle.order_graph.specs.OrderTrial.{OrderTrial, first_moment}
use Rattle.order_graph.specs.ChangesNext.{changes_next}
use Rattle.order_graph.specs.TrialParts.{HasPlace, IsSoundTrial}
use Rattle.order_graph.specs.KeyGraph.{IsOrderKey, IsOrderNode, IsRightNode, memory_loaded, moves_from, node_next, state_of_node}
use Rattle.order_graph.proofs.Changed.{changes_right}
use Rattle.order_graph.proofs.Leading.{few_issues, is_allowed}
use Rattle.order_graph.proofs.Nodes.{StandsFor, its_key}
use Rattle.order_graph.proofs.Paths.{stands_at}
use Rattle.order_graph.proofs.Places.{count_fits, place_after}

-- the moment that the node represents, how many instructions were issued, and how many have retired
pub record NodeFacts (t : OrderTrial) (n : Node) : Type 0 where
  pub m : Moment
  pub issued : ℕ
  pub stands : StandsFor t m issued n
  pub few : n.issues ≤ t.most
  pub fits : n.situation.retired ≤ t.machine.hart.retired + t.most

pub order_facts : (t : OrderTrial) (n : Node) → IsSoundTrial t → IsOrderNode t n → NodeFacts t n
order_facts t n is h =
    let m : Moment = moment_after_without t.away t.plan (first_moment t) h.moves in
    let stands : StandsFor t m (issues h.moves) n = subst (StandsFor t m (issues h.moves)) (sym h.is) (stands_at t h.moves is) in
    let few = few_issues t (first_moment t) 0 h.moves h.allowed (omega arith) in
    let fits = count_fits t h.moves is h.allowed in
    let same = ap (λ (s : State). s.retired) stands.situation in
    let count = stands.issues in
    record { m = m; issued = issues h.moves; stands = stands; few = omega arith; fits = omega arith }

pub order_node : (t : OrderTrial) (n : Node) → IsRightNode t n → IsOrderNode t n
order_node t n h = record { moves = h.moves; allowed = h.allowed; is = h.is }

-- its changes
pub node_changes : (t : OrderTrial) (n : Node) → IsSoundTrial t → IsOrderNode t n → AreChanges (memory_loaded t) n.changes
node_changes t n is h = (order_facts t n is h).stands.changes.lists

pub node_memory : (t : OrderTrial) (n : Node) (mem : Memory) → IsSoundTrial t → IsOrderNode t n → mem ≡ memory_after n.changes (memory_loaded t) →
    AreChangesOf (memory_loaded t) mem n.changes
node_memory t n mem is h e = record { lists = node_changes t n is h; makes = e }

-- how many more instructions may be issued, and how many more may retire
pub node_issues : (t : OrderTrial) (n : Node) → IsSoundTrial t → IsOrderNode t n → n.issues ≤ 64
node_issues t n is h = let few = (order_facts t n is h).few in let most = is.few in omega arith

pub node_count : (t : OrderTrial) (n : Node) → IsSoundTrial t → IsOrderNode t n → n.situation.retired + 1 < 2 ^ 64
node_count t n is h = let fits = (order_facts t n is h).fits in let room = is.room in omega arith

-- a move that leads on from it is allowed
in_its : (t : OrderTrial) (n : Node) (mem : Memory) → mem ≡ memory_after n.changes (memory_loaded t) → in_memory n.situation mem ≡ state_of_node t n
in_its t n mem e = ap (in_memory n.situation) e

pub node_allows : (t : OrderTrial) (n : Node) (mem : Memory) (mv : Move) → mem ≡ memory_after n.changes (memory_loaded t) → Contains (moves_from t n) mv →
    bar_without t.away t.plan (in_memory n.situation mem) mv ≡ None
node_allows t n mem mv e there = subst (λ (s : State). bar_without t.away t.plan s mv ≡ None) (sym (in_its t n mem e))
    (is_allowed t (state_of_node t n) n.issues mv there)

-- the node after the move
pub node_stepped : (t : OrderTrial) (n : Node) (mv : Move) (mem new : Memory) (s : State) (k : MemoryChanges) (i : ℕ) → IsSoundTrial t → IsOrderNode t n →
    mem ≡ memory_after n.changes (memory_loaded t) →
    in_memory s new ≡ (next_without t.away t.plan (lone_moment (in_memory n.situation mem)) mv).state → AreChangesOf (memory_loaded t) new k →
    without_memory s ≡ s → i ≡ issued_with n.issues mv → (let r : Node = record { situation = s; changes = k; issues = i } in r) ≡ node_next t n mv
unfolding node_next
node_stepped t n mv mem new s k i is h e made changed own count =
    let x : State = (next_without t.away t.plan (lone_moment (state_of_node t n)) mv).state in
    let same : in_memory s new ≡ x = made ∙ ap (λ (y : State). (next_without t.away t.plan (lone_moment y) mv).state) (in_its t n mem e) in
    let situation : s ≡ without_memory x = sym own ∙ ap without_memory same in
    let memory : new ≡ x.mem = ap (λ (y : State). y.mem) same in
    let before : AreChangesOf (memory_loaded t) (state_of_node t n).mem n.changes = record { lists = node_changes t n is h; makes = refl } in
    let changes : k ≡ changes_next t.plan (memory_loaded t) (state_of_node t n) mv n.changes
    = listed_once (memory_loaded t) x.mem k (changes_next t.plan (memory_loaded t) (state_of_node t n) mv n.changes) is.is_loaded
    (subst (λ (w : Memory). AreChangesOf (memory_loaded t) w k) memory changed)
    (changes_right t.away t.plan (memory_loaded t) (state_of_node t n) mv n.changes is.is_loaded before) in
    ap (λ (y : State). let r : Node = record { situation = y; changes = k; issues = i } in r) situation
    ∙ ap (λ (c : MemoryChanges). let r : Node = record { situation = without_memory x; changes = c; issues = i } in r) changes
    ∙ ap (λ (j : ℕ). let r : Node = record {
      situation = without_memory x;
      changes = changes_next t.plan (memory_loaded t) (state_of_node t n) mv n.changes;
      issues = j;
    } in r) count

-- the machine's place
pub node_place : (t : OrderTrial) (n : Node) → IsSoundTrial t → IsRightNode t n → HasPlace t n.situation
node_place t n is h =
    let stands = stands_at t h.moves is in
    let place = place_after t h.moves is h.allowed h.right in
    let there : HasPlace t (without_memory (moment_after_without t.away t.plan (first_moment t) h.moves).state)
    = record { at = place.at; count = place.count; rises = place.rises; few = place.few } in
    subst (HasPlace t) (sym (ap (λ (k : Node). k.situation) h.is ∙ stands.situation)) there

-- the node of its key
pub key_node : (t : OrderTrial) (key : List ℕ) → IsSoundTrial t → (h : IsOrderKey t key) → node_of key ≡ h.node
key_node t key is h =
    let f = order_facts t h.node is (order_node t h.node h.right) in
    ap node_of h.is ∙ its_key t f.m f.issued h.node f.stands

-- and it is read back
pub key_missing : (t : OrderTrial) (key : List ℕ) (found : Bool) (n : Node) → IsSoundTrial t → IsOrderKey t key →
    MatchBool found (n ≡ node_of key) (IsWhole (node_of key).situation → ⊥) → found ≡ false → ⊥
key_missing t key false n is h m e = m (subst (λ (k : Node). IsWhole k.situation) (sym (key_node t key is h)) h.whole)
key_missing t key true n is h m e = absurd (cc)

pub key_right : (t : OrderTrial) (key : List ℕ) (found : Bool) (n : Node) → IsSoundTrial t → IsOrderKey t key →
    MatchBool found (n ≡ node_of key) (IsWhole (node_of key).situation → ⊥) → found ≡ true → IsRightNode t n
key_right t key false n is h m e = absurd (cc)
key_right t key true n is h m e = subst (IsRightNode t) (sym (key_node t key is h) ∙ sym m) h.right
