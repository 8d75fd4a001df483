-- The node of a list of moves represents the moment after it, whatever was written on the way.
use Rattle.std.proofs.Common.{◌≡◌, ℕ, [], false, refl, sym, ap, subst, ◌∙◌}
use Rattle.mem_regions.specs.Memory.{Memory}
use Rattle.cf_bind.specs.declared.moves.Move.{Move}
use Rattle.cf_semantics.specs.runs.Runs.{opened}
use Rattle.cf_semantics.specs.state.State.{State, Moment}
use Rattle.mem_changes.specs.Applied.{memory_after}
use Rattle.mem_changes.specs.Differing.{AreChangesOf}
use Rattle.mem_changes.specs.MemoryChanges.{MemoryChanges}
use Rattle.mem_changes.proofs.Made.{no_changes}
use Rattle.mem_changes.proofs.Once.{listed_once}
use Rattle.order_model.specs.RuleMoves.{next_without}
use Rattle.order_model.specs.Situations.{lone_moment, in_memory}
use Rattle.order_keys.specs.declared.node.Node.{Node}
use Rattle.order_keys.specs.Keys.{key_of_node, node_of, bare_node}
use Rattle.order_keys.specs.Situations.{without_memory}
use Rattle.order_keys.proofs.KeysBack.{read_back}
use Rattle.order_claims.specs.MoveLists.{issued_with}
use Rattle.order_graph.specs.OrderTrial.{OrderTrial, first_moment, moment_next}
use Rattle.order_graph.specs.TrialParts.{IsSoundTrial}
use Rattle.order_graph.specs.KeyGraph.{memory_loaded, state_of_node, node_next, first_node}
use Rattle.order_graph.specs.ChangesNext.{changes_next}
use Rattle.order_graph.proofs.Changed.{changes_right}
use Rattle.order_graph.proofs.Still.{goes_on}

-- the node is that of the moment, after this many Issue moves
pub record StandsFor (t : OrderTrial) (m : Moment) (issued : ℕ) (n : Node) : Type 0 where
  pub situation : n.situation ≡ without_memory m.state
  pub changes : AreChangesOf (memory_loaded t) m.state.mem n.changes
  pub issues : n.issues ≡ issued
  pub rest : m.rest ≡ []
  pub failed : m.state.failed ≡ false

-- its state is the moment's
in_its_memory : (s : State) (mem : Memory) → s.mem ≡ mem → s.failed ≡ false → in_memory (without_memory s) mem ≡ s
in_its_memory s mem e f = ap (λ (w : Memory). let r : State = record s { mem = w; failed = false } in r) (sym e)
    ∙ ap (λ (b : _). let r : State = record s { failed = b } in r) (sym f)

pub its_state : (t : OrderTrial) (m : Moment) (issued : ℕ) (n : Node) → StandsFor t m issued n → state_of_node t n ≡ m.state
its_state t m issued n h =
    ap (λ (s : State). in_memory s (memory_after n.changes (memory_loaded t))) h.situation
    ∙ in_its_memory m.state (memory_after n.changes (memory_loaded t)) h.changes.makes h.failed

-- and it is read back from its key
pub its_bare : (t : OrderTrial) (m : Moment) (issued : ℕ) (n : Node) → StandsFor t m issued n → bare_node n ≡ n
its_bare t m issued n h = ap (λ (s : State). let k : Node = record n { situation = without_memory s } in k) h.situation
    ∙ ap (λ (s : State). let k : Node = record n { situation = s } in k) (sym h.situation)

pub its_key : (t : OrderTrial) (m : Moment) (issued : ℕ) (n : Node) → StandsFor t m issued n → node_of (key_of_node n) ≡ n
its_key t m issued n h = read_back n ∙ its_bare t m issued n h

-- the start
pub first_stands : (t : OrderTrial) → IsSoundTrial t → StandsFor t (first_moment t) 0 (first_node t)
unfolding first_node opened
first_stands t is = record {
  situation = refl;
  changes = no_changes (memory_loaded t) is.is_loaded;
  issues = refl;
  rest = is.rest;
  failed = refl;
}

-- and after one more move
pub next_stands : (t : OrderTrial) (m : Moment) (issued : ℕ) (n : Node) (mv : Move) → IsSoundTrial t → StandsFor t m issued n →
    StandsFor t (moment_next t m mv) (issued_with issued mv) (node_next t n mv)
unfolding node_next
next_stands t m issued n mv is h =
    let same : state_of_node t n ≡ m.state = its_state t m issued n h in
    let g = goes_on t.away t.plan m mv h.rest in
    let state : (next_without t.away t.plan (lone_moment (state_of_node t n)) mv).state ≡ (next_without t.away t.plan m mv).state
    = ap (λ (s : State). (next_without t.away t.plan (lone_moment s) mv).state) same ∙ sym g.state in
    record {
      situation = ap without_memory state;
      changes = subst (λ (s : State). AreChangesOf (memory_loaded t) s.mem (changes_next t.plan (memory_loaded t) (state_of_node t n) mv n.changes)) state
          (changes_right t.away t.plan (memory_loaded t) (state_of_node t n) mv n.changes is.is_loaded
          (subst (λ (s : State). AreChangesOf (memory_loaded t) s.mem n.changes) (sym same) h.changes));
      issues = ap (λ (i : ℕ). issued_with i mv) h.issues;
      rest = g.rest;
      failed = g.failed ∙ h.failed;
    }

-- two nodes that represent the same state, after equally many Issue moves, are the same
pub stands_once : (t : OrderTrial) (m w : Moment) (issued : ℕ) (n k : Node) → IsSoundTrial t → StandsFor t m issued n → StandsFor t w issued k →
    m.state ≡ w.state → n ≡ k
stands_once t m w issued n k is h g e =
    let situation : n.situation ≡ k.situation = h.situation ∙ ap without_memory e ∙ sym g.situation in
    let changes : n.changes ≡ k.changes = listed_once (memory_loaded t) w.state.mem n.changes k.changes is.is_loaded
    (subst (λ (s : State). AreChangesOf (memory_loaded t) s.mem n.changes) e h.changes) g.changes in
    let issues : n.issues ≡ k.issues = h.issues ∙ sym g.issues in
    ap (λ (s : State). let r : Node = record n { situation = s } in r) situation
    ∙ ap (λ (c : MemoryChanges). let r : Node = record n { situation = k.situation; changes = c } in r) changes
    ∙ ap (λ (i : ℕ). let r : Node = record k { issues = i } in r) issues
