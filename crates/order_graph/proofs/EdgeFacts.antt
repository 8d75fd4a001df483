-- An edge from a node, made and judged.
use Rattle.std.proofs.Common.{◌≡◌, ℕ, zero, suc, ◌+◌, ◌<◌, ◌^◌, List, [], ◌∷◌, ◌++◌, Option, Some, None, false, length, map, get_or, take, refl, sym, ap, subst, ◌∙◌, arith, inl, inr}
use Rattle.std.specs.Prelude.{IfNone, slice_get}
use Rattle.std.specs.List.{All, Contains}
use Rattle.std.proofs.lemmas.List.{length-map}
use Rattle.std.proofs.lemmas.Option.{slice_get-get_or}
use Rattle.mem_regions.specs.Memory.{Memory}
use Rattle.rv_machine.specs.After.{after}
use Rattle.rv_machine.specs.Machine.{Machine}
use Rattle.cf_bind.specs.declared.moves.Move.{Move}
use Rattle.cf_semantics.specs.claims.Refines.{gained}
use Rattle.cf_semantics.specs.claims.Weight.{counts, is_issue, issues}
use Rattle.cf_semantics.specs.moves.Candidates.{all_moves}
use Rattle.cf_semantics.specs.state.Layouts.{isa_of}
use Rattle.cf_semantics.specs.state.State.{Moment, State}
use Rattle.mem_changes.specs.Applied.{memory_after}
use Rattle.mem_changes.specs.Differing.{AreChangesOf}
use Rattle.order_model.specs.Situations.{lone_moment, in_memory}
use Rattle.order_keys.specs.declared.node.Node.{Node}
use Rattle.order_keys.specs.Keys.{key_of_node, node_of}
use Rattle.order_keys.specs.Situations.{IsWhole, without_memory}
use Rattle.order_machine.specs.Waypoints.{MachinePlace}
use Rattle.order_claims.specs.declared.wrong_kind.WrongKind.{WrongKind}
use Rattle.order_claims.specs.MoveLists.{issued_with, moment_after_without, IsOrder}
use Rattle.order_claims.specs.WrongLists.{IsWrongMove, IsWrongMoment}
use Rattle.order_judging.specs.declared.judging.FailedTest.{FailedTest}
use Rattle.order_judging.specs.FirstTests.{IsMoveJudged, IsStateJudged, state_reached}
use Rattle.order_judging.specs.Places.{IsPlaceOf}
use Rattle.order_search.specs.declared.graph.Edge.{Edge}
use Rattle.order_search.specs.Paths.{EdgeView, HasEdgeFault}
use Rattle.order_search.specs.Views.{IsJudged, TellsFault, edge_view}
use Rattle.order_graph.specs.OrderTrial.{OrderTrial, first_moment, leads_on, moment_next}
use Rattle.order_graph.specs.ChangesNext.{changes_next}
use Rattle.order_graph.specs.Kinds.{wrong_kind_told}
use Rattle.order_graph.specs.TrialParts.{HasPlace, IsSoundTrial}
use Rattle.order_graph.specs.KeyGraph.{AreRightMoves, IsOrderKey, IsOrderNode, IsRightNode, IsWrongAlong, IsWrongEdge, IsWrongFrom, IsWrongNode, IsWrongThere, edge_of, edges_from, first_node, memory_loaded, moves_from, node_next, state_of_node}
use Rattle.order_graph.proofs.Changed.{changes_right}
use Rattle.order_graph.proofs.Facts.{key_node, node_changes, order_facts, order_node}
use Rattle.order_graph.proofs.Faults.{move_from}
use Rattle.order_graph.proofs.Firsts.{judged_by_first}
use Rattle.order_graph.proofs.Judgings.{move_told, moment_told}
use Rattle.order_graph.proofs.Leading.{few_leading}
use Rattle.order_graph.proofs.Nodes.{StandsFor, its_key, its_state}
use Rattle.order_graph.proofs.Paths.{stands_at}
use Rattle.order_graph.proofs.Still.{goes_on}
use Rattle.order_graph.proofs.Wrongs.{after_one, its_moves}

-- the state after the move, in its memory
module _ (t : OrderTrial) (n : Node) (mv : Move) (mem : Memory) (next : Node) (is : IsSoundTrial t) (h : IsOrderNode t n)
    (e : mem ≡ memory_after n.changes (memory_loaded t)) (made : next ≡ node_next t n mv) where
  here : in_memory n.situation mem ≡ state_of_node t n
  here = ap (in_memory n.situation) e

  back_in_memory : (s : State) → s.failed ≡ false → in_memory (without_memory s) s.mem ≡ s
  back_in_memory s f = ap (λ (b : _). let r : State = record s { failed = b } in r) (sym f)

  unfailed : (state_reached t.away t.plan (state_of_node t n) mv).failed ≡ false
  unfailed =
      let f = order_facts t n is h in
      let same : state_of_node t n ≡ f.m.state = its_state t f.m f.issued n f.stands in
      (goes_on t.away t.plan (lone_moment (state_of_node t n)) mv refl).failed ∙ ap (λ (s : State). s.failed) same ∙ f.stands.failed

  situation_is : (node_next t n mv).situation ≡ without_memory (state_reached t.away t.plan (state_of_node t n) mv)
  unfolding node_next
  situation_is = refl

  changes_are : (node_next t n mv).changes ≡ changes_next t.plan (memory_loaded t) (state_of_node t n) mv n.changes
  unfolding node_next
  changes_are = refl

  pub judged_after : in_memory next.situation (state_reached t.away t.plan (in_memory n.situation mem) mv).mem ≡ state_reached t.away t.plan
      (in_memory n.situation mem) mv
  judged_after = subst (λ (s : State). in_memory next.situation (state_reached t.away t.plan s mv).mem ≡ state_reached t.away t.plan s mv) (sym here)
      (ap (λ (k : Node). in_memory k.situation (state_reached t.away t.plan (state_of_node t n) mv).mem) made
      ∙ ap (λ (s : State). in_memory s (state_reached t.away t.plan (state_of_node t n) mv).mem) situation_is
      ∙ back_in_memory (state_reached t.away t.plan (state_of_node t n) mv) unfailed)

  pub judged_changes : AreChangesOf (memory_loaded t) (state_reached t.away t.plan (in_memory n.situation mem) mv).mem next.changes
  judged_changes = subst (λ (s : State). AreChangesOf (memory_loaded t) (state_reached t.away t.plan s mv).mem next.changes) (sym here)
      (subst (λ (k : Node). AreChangesOf (memory_loaded t) (state_reached t.away t.plan (state_of_node t n) mv).mem k.changes) (sym made)
      (subst (λ c. AreChangesOf (memory_loaded t) (state_reached t.away t.plan (state_of_node t n) mv).mem c) (sym changes_are)
      (changes_right t.away t.plan (memory_loaded t) (state_of_node t n) mv n.changes is.is_loaded (record { lists = node_changes t n is h; makes = refl }))))

-- what the judge says about the move, and about the state
pub fault_told : (t : OrderTrial) (n : Node) (mv : Move) (mem : Memory) (place : MachinePlace) (found : Option FailedTest) (told : Option WrongKind) →
    mem ≡ memory_after n.changes (memory_loaded t) → HasPlace t n.situation →
    ((x : Machine) → after (isa_of t.plan) t.machine (gained t.machine n.situation) ≡ Some x → IsPlaceOf (isa_of t.plan) (memory_loaded t) x place) →
    ((x : Machine) → IsPlaceOf (isa_of t.plan) (memory_loaded t) x place → IsMoveJudged t.away t.plan x (in_memory n.situation mem) mv found) →
    told ≡ wrong_kind_told found → TellsFault (IsWrongFrom t n mv) told
fault_told t n mv mem place found told e h at judged f =
    let x : Machine = h.at in
    subst (TellsFault (IsWrongFrom t n mv)) (sym f)
    (move_told t.away t.plan t.machine x (state_of_node t n) mv h.count found
    (subst (λ (s : State). IsMoveJudged t.away t.plan x s mv found) (ap (in_memory n.situation) e) (judged x (at x h.count))))

pub state_told : (t : OrderTrial) (n : Node) (place : MachinePlace) (moves : List Move) (found : Option FailedTest) (told : Option WrongKind) → IsSoundTrial t →
    IsOrderNode t n → HasPlace t n.situation →
    ((x : Machine) → after (isa_of t.plan) t.machine (gained t.machine n.situation) ≡ Some x → IsPlaceOf (isa_of t.plan) (memory_loaded t) x place) →
    ((x : Machine) (mem : Memory) → IsPlaceOf (isa_of t.plan) (memory_loaded t) x place → AreChangesOf (memory_loaded t) mem n.changes →
    IsStateJudged x moves (in_memory n.situation mem) found) → moves ≡ take 1 (moves_from t n) → told ≡ wrong_kind_told found →
    TellsFault (IsWrongThere t n) told
state_told t n place moves found told is o h at judged e f =
    let x : Machine = h.at in
    let first = subst (λ (l : List Move). IsStateJudged x l (state_of_node t n) found) e
    (judged x (memory_after n.changes (memory_loaded t)) (at x h.count) (record { lists = node_changes t n is o; makes = refl })) in
    subst (TellsFault (IsWrongThere t n)) (sym f)
    (moment_told t.plan t.machine x (moves_from t n) (state_of_node t n) h.count found (judged_by_first x (moves_from t n) (state_of_node t n) found first))

-- one more move, which is not wrong
order_more : (t : OrderTrial) (m : Moment) (issued : ℕ) (xs : List Move) (mv : Move) → IsOrder t.away t.plan t.most m issued xs →
    Contains (leads_on t (moment_after_without t.away t.plan m xs).state (issued + issues xs)) mv → IsOrder t.away t.plan t.most m issued (xs ++ mv ∷ [])
unfolding IsOrder moment_after_without
order_more t m issued [] mv o there = (subst (λ (i : ℕ). Contains (leads_on t m.state i) mv) (let same : issued + 0 ≡ issued = omega arith in same) there, tt)
order_more t m issued (x ∷ xs) mv o there =
    let same : issued + (counts (is_issue x) 1 + issues xs) ≡ issued_with issued x + issues xs = omega arith in (
      o.0,
      order_more t (moment_next t m x) (issued_with issued x) xs mv o.1
          (subst (λ (i : ℕ). Contains (leads_on t (moment_after_without t.away t.plan (moment_next t m x) xs).state i) mv) same there),
    )

right_more : (t : OrderTrial) (m : Moment) (xs : List Move) (mv : Move) → AreRightMoves t m xs →
    ((kind : WrongKind) → IsWrongMove t.away t.plan t.machine (moment_after_without t.away t.plan m xs) mv kind → ⊥) → AreRightMoves t m (xs ++ mv ∷ [])
unfolding AreRightMoves moment_after_without
right_more t m [] mv r none = (none, tt)
right_more t m (x ∷ xs) mv r none = (r.0, right_more t (moment_next t m x) xs mv r.1 none)

pub next_right : (t : OrderTrial) (n : Node) (mv : Move) → IsSoundTrial t → IsRightNode t n → Contains (moves_from t n) mv →
    ((kind : WrongKind) → IsWrongFrom t n mv kind → ⊥) → IsRightNode t (node_next t n mv)
next_right t n mv is h there none =
    let m : Moment = moment_after_without t.away t.plan (first_moment t) h.moves in
    let stands : StandsFor t m (issues h.moves) n = subst (StandsFor t m (issues h.moves)) (sym h.is) (stands_at t h.moves is) in
    let same : issues h.moves ≡ 0 + issues h.moves = omega arith in
    record {
      moves = h.moves ++ mv ∷ [];
      allowed = order_more t (first_moment t) 0 h.moves mv h.allowed
          (subst (λ (i : ℕ). Contains (leads_on t m.state i) mv) same
          (subst (λ (l : List Move). Contains l mv) (sym (its_moves t m (issues h.moves) n stands)) there));
      right = right_more t (first_moment t) h.moves mv h.right (λ kind w. none kind (move_from t m (issues h.moves) n mv kind stands w));
      is = ap (λ (k : Node). node_next t k mv) h.is ∙ sym (after_one t (first_node t) h.moves mv);
    }

-- the fault of making the move: that of the move, or otherwise that of the next node
pub own_told : (t : OrderTrial) (n : Node) (mv : Move) (own : Option WrongKind) (kind : WrongKind) → own ≡ Some kind → TellsFault (IsWrongFrom t n mv) own →
    TellsFault (IsWrongAlong t n mv) (Some kind)
own_told t n mv own kind e told = let same = subst (TellsFault (IsWrongFrom t n mv)) e told in inl same

not_own : (t : OrderTrial) (n : Node) (mv : Move) (own : Option WrongKind) → own ≡ None → TellsFault (IsWrongFrom t n mv) own →
    (kind : WrongKind) → IsWrongFrom t n mv kind → ⊥
not_own t n mv own e told = subst (TellsFault (IsWrongFrom t n mv)) e told

pub next_right_told : (t : OrderTrial) (n next : Node) (mv : Move) (own : Option WrongKind) → IsSoundTrial t → IsRightNode t n → Contains (moves_from t n) mv →
    next ≡ node_next t n mv → own ≡ None → TellsFault (IsWrongFrom t n mv) own → IsRightNode t next
next_right_told t n next mv own is h there made e told = subst (IsRightNode t) (sym made) (next_right t n mv is h there (not_own t n mv own e told))

pub there_told : (t : OrderTrial) (n next : Node) (mv : Move) (own found : Option WrongKind) → next ≡ node_next t n mv → own ≡ None →
    TellsFault (IsWrongFrom t n mv) own → TellsFault (IsWrongThere t next) found → TellsFault (IsWrongAlong t n mv) found
there_told t n next mv own None made e told there = λ kind w. by kind w
  where
    by : (kind : WrongKind) → IsWrongAlong t n mv kind → ⊥
    by kind (inl w) = not_own t n mv own e told kind w
    by kind (inr (none, w)) = there kind (subst (λ (k : Node). IsWrongThere t k kind) (sym made) w)
there_told t n next mv own (Some kind) made e told there =
    inr (not_own t n mv own e told, subst (λ (k : Node). IsWrongThere t k kind) made there)

pub ruleset along = (own_told, next_right_told)

pub key_told : (t : OrderTrial) (n next : Node) (mv : Move) (fault : Option WrongKind) (key : List ℕ) → IsSoundTrial t → IsRightNode t n →
    Contains (moves_from t n) mv → next ≡ node_next t n mv → TellsFault (IsWrongAlong t n mv) fault → key ≡ key_of_node next → IsWhole next.situation →
    IfNone fault (IsOrderKey t key)
key_told t n next mv (Some kind) key is h there e told is_key whole = tt
key_told t n next mv None key is h there e told is_key whole =
    let right = next_right t n mv is h there (λ kind w. told kind (inl w)) in
    record { node = next; right = subst (IsRightNode t) (sym e) right; whole = whole; is = is_key }

-- so it is the fault of the edge
module _ (t : OrderTrial) (n next : Node) (mv : Move) (key : List ℕ) (is : IsSoundTrial t) (h : IsRightNode t n) (there : Contains (moves_from t n) mv)
    (made : next ≡ node_next t n mv) (is_key : key ≡ key_of_node next) where
  read : (k : Node) → IsRightNode t k → node_of (key_of_node k) ≡ k
  read k r = let f = order_facts t k is (order_node t k r) in its_key t f.m f.issued k f.stands

  its_end : ((kind : WrongKind) → IsWrongFrom t n mv kind → ⊥) → node_of key ≡ node_next t n mv
  its_end none = ap node_of (is_key ∙ ap key_of_node made) ∙ read (node_next t n mv) (next_right t n mv is h there none)

  edge_fault : (kind : WrongKind) → IsWrongAlong t n mv kind →
      HasEdgeFault (IsWrongEdge t) (IsWrongNode t) (key_of_node n) (let e : EdgeView Move = record { label = mv; node = key } in e) kind
  unfolding HasEdgeFault
  edge_fault kind (inl w) = inl (subst (λ (k : Node). IsWrongFrom t k mv kind) (sym (read n h)) w)
  edge_fault kind (inr (none, w)) = inr (
    λ other v. none other (subst (λ (k : Node). IsWrongFrom t k mv other) (read n h) v),
    subst (λ (k : Node). IsWrongThere t k kind) (sym (its_end none)) w,
  )

  fault_along : (kind : WrongKind) → HasEdgeFault (IsWrongEdge t) (IsWrongNode t) (key_of_node n)
      (let e : EdgeView Move = record { label = mv; node = key } in e) kind →
      IsWrongAlong t n mv kind
  unfolding HasEdgeFault
  fault_along kind (inl w) = inl (subst (λ (k : Node). IsWrongFrom t k mv kind) (read n h) w)
  fault_along kind (inr (none, w)) =
      let free = λ (other : WrongKind) (v : IsWrongFrom t n mv other). none other (subst (λ (k : Node). IsWrongFrom t k mv other) (sym (read n h)) v) in
      inr (free, subst (λ (k : Node). IsWrongThere t k kind) (its_end free) w)

  pub edge_told : (fault : Option WrongKind) → TellsFault (IsWrongAlong t n mv) fault →
      TellsFault (HasEdgeFault (IsWrongEdge t) (IsWrongNode t) (key_of_node n) (let e : EdgeView Move = record { label = mv; node = key } in e)) fault
  edge_told None told = λ kind w. told kind (fault_along kind w)
  edge_told (Some kind) told = edge_fault kind told

-- one more edge
pub edges_more : (f : Move → EdgeView Move) (es : List (Edge Move WrongKind)) (e : Edge Move WrongKind) (ms : List Move) (i : ℕ) (m : Move) →
    map edge_view es ≡ map f (take i ms) → slice_get ms i ≡ Some m → edge_view e ≡ f m → map edge_view (es ++ e ∷ []) ≡ map f (take (suc i) ms)
edges_more f es e ms i m so there same = map_more edge_view es e ∙ ap (λ (l : List (EdgeView Move)). l ++ edge_view e ∷ []) so
    ∙ ap (λ (d : EdgeView Move). map f (take i ms) ++ d ∷ []) same ∙ sym (ap (map f) (taken ms i m there) ∙ map_more f (take i ms) m) where
      map_more : {A B : Type 0} (g : A → B) (xs : List A) (y : A) → map g (xs ++ y ∷ []) ≡ map g xs ++ g y ∷ []
      map_more g [] y = refl
      map_more g (x ∷ xs) y = ap (λ l. g x ∷ l) (map_more g xs y)

      taken : (xs : List Move) (j : ℕ) (y : Move) → slice_get xs j ≡ Some y → take (suc j) xs ≡ take j xs ++ y ∷ []
      taken [] j y q = absurd (cc)
      taken (x ∷ xs) zero y q = let k : x ≡ y = cc in ap (λ (z : Move). z ∷ []) k
      taken (x ∷ xs) (suc j) y q = ap (λ (l : List Move). x ∷ l) (taken xs j y q)

-- what holds for each edge, and for one more
pub all_more : {A : Type 0} (P : A → Type 0) (xs : List A) (y : A) → All P xs → P y → All P (xs ++ y ∷ [])
all_more P [] y all here zero d within = here
all_more P [] y all here (suc k) d within = absurd (omega (arith, within))
all_more P (x ∷ xs) y all here zero d within = all 0 d (omega arith)
all_more P (x ∷ xs) y all here (suc k) d within =
    all_more P xs y (λ j e inside. all (suc j) e (omega (arith, inside))) here k d (omega (arith, within))

-- the edges of a node are judged, and there are few of them
pub all_judged : (t : OrderTrial) (key : List ℕ) (n : Node) (es : List (Edge Move WrongKind)) → IsSoundTrial t → IsOrderKey t key → n ≡ node_of key →
    All (IsJudged (HasEdgeFault (IsWrongEdge t) (IsWrongNode t) (key_of_node n))) es → All (IsJudged (HasEdgeFault (IsWrongEdge t) (IsWrongNode t) key)) es
all_judged t key n es is h e all =
    subst (λ (k : List ℕ). All (IsJudged (HasEdgeFault (IsWrongEdge t) (IsWrongNode t) k)) es) (ap key_of_node (e ∙ key_node t key is h) ∙ sym h.is) all

pub edges_few : (t : OrderTrial) (n : Node) (es : List (Edge Move WrongKind)) → length (all_moves t.plan) < 2 ^ 32 →
    map edge_view es ≡ map (edge_of t n) (moves_from t n) → length es < 2 ^ 32
edges_few t n es fits e =
    let same = sym (length-map es edge_view) ∙ ap length e ∙ length-map (moves_from t n) (edge_of t n) in
    let few = few_leading t (state_of_node t n) n.issues in omega arith

pub edges_of_key : (t : OrderTrial) (key : List ℕ) (n : Node) (es : List (Edge Move WrongKind)) → n ≡ node_of key →
    map edge_view es ≡ map (edge_of t n) (moves_from t n) → map edge_view es ≡ edges_from t key
unfolding edges_from
edges_of_key t key n es e so = so ∙ ap (λ (m : Node). map (edge_of t m) (moves_from t m)) e

-- one iteration of the loop over the moves
pub edges_grown : (f : Move → EdgeView Move) (es new : List (Edge Move WrongKind)) (e : Edge Move WrongKind) (ms : List Move) (i : ℕ) (d : Move) →
    new ≡ es ++ e ∷ [] →
    map edge_view es ≡ map f (take i ms) → i < length ms → edge_view e ≡ f (get_or ms i d) → map edge_view new ≡ map f (take (i + 1) ms)
edges_grown f es new e ms i d grown so within same =
    let one : suc i ≡ i + 1 = omega arith in
    ap (λ (l : List (Edge Move WrongKind)). map edge_view l) grown ∙ edges_more f es e ms i (get_or ms i d) so (slice_get-get_or ms i d within) same
    ∙ ap (λ (j : ℕ). map f (take j ms)) one

pub all_grown : {A : Type 0} (P : A → Type 0) (es new : List A) (e : A) → new ≡ es ++ e ∷ [] → All P es → P e → All P new
all_grown P es new e grown all here = subst (All P) (sym grown) (all_more P es e all here)
