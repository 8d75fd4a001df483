-- What follows from visiting one edge, at the end of the edges of a node, and at the end of the search.
use Rattle.std.proofs.Common.{◌≡◌, ℕ, zero, suc, ◌+◌, ◌^◌, ◌<◌, ◌≤◌, List, [], ◌∷◌, ◌++◌, length, map, take, get_or, slice_get, cond, Bool, true, false, Option, Some, None, refl, sym, ap, subst, ◌∙◌, arith, ◌⊎◌, inl, inr}
use Rattle.std.specs.Prelude.{sum_by, Result, Ok, Err, IfOk, IfNone, MatchOption}
use Rattle.std.proofs.lemmas.Option.{get_or_from_slice_get}
use Rattle.order_search.specs.declared.breadth_first.SearchAnswer.{SearchAnswer}
use Rattle.std.specs.List.{All}
use Rattle.std.proofs.Math.Nat.{eq-or-lt_of_le}
use Rattle.std.proofs.lemmas.List.{map-append, append_assoc, length-append, length-map, length-take, take-append-le, get_or_append_left, get_or_push, take_all}
use Rattle.std.proofs.lemmas.List.Sums.{sum_by_more}
use Rattle.std.proofs.lemmas.List.Elements.{All-push}
use Rattle.order_search.specs.declared.trail.Entered.{Entered}
use Rattle.order_search.specs.declared.trail.Passed.{Passed}
use Rattle.order_search.specs.declared.trail.Passed.TheVariants.{Fault, Node}
use Rattle.order_search.specs.Answers.{IsFirstFault, IsCounted, HasMore}
use Rattle.order_search.specs.Numbers.{node_at}
use Rattle.order_search.specs.Paths.{EdgeView, EdgesOf, EdgeFaults, NodeFaults, HasEdgeFault}
use Rattle.order_search.specs.Routes.{is_none}
use Rattle.order_search.specs.Rows.{AreTargets, IsTarget, numbered_row}
use Rattle.order_search.specs.Exploring.{Explored, GoesAlong, LeadsBack, LeadsOn, LabelsTo, EndsWithLabel}
use Rattle.order_search.specs.SearchAnswers.{IsUnderWay, Progress, PassesEdges, Visits}
use Rattle.order_search.proofs.Precedence.{by_earlier_edge, next_edge, precedes_not_after}
use Rattle.order_search.proofs.Exploring.{known_edge, new_edge, next_node}
use Rattle.order_search.proofs.Leading.{path-push, last-push, path_to, reached_by, is_reached}
use Rattle.order_search.proofs.Along.{least, listed_before, has_reached, none_at_end}
use Rattle.order_search.proofs.Ordered.{in_order}
use Rattle.order_search.proofs.Counts.{slice_get_seam}

-- numbers of nodes stay valid in a longer list
targets_still : {L : Type 0} (nodes new : List (List ℕ)) (row : List ℕ) (es : List (EdgeView L)) → length nodes ≤ length new →
    ((k : ℕ) → k < length nodes → node_at new k ≡ node_at nodes k) → AreTargets nodes row es → AreTargets new row es
targets_still nodes new [] [] longer same h = tt
targets_still nodes new [] (e ∷ es) longer same h = absurd h
targets_still nodes new (to ∷ row) [] longer same h = absurd h
targets_still nodes new (to ∷ row) (e ∷ es) longer same h = (
  record { within = omega (arith, h.0.within, longer); node = same to h.0.within ∙ h.0.node },
  targets_still nodes new row es longer same h.1,
)

targets_push : {L : Type 0} (nodes : List (List ℕ)) (row : List ℕ) (es : List (EdgeView L)) (to : ℕ) (e : EdgeView L) →
    AreTargets nodes row es → IsTarget nodes to e → AreTargets nodes (row ++ to ∷ []) (es ++ e ∷ [])
targets_push nodes [] [] to e h last = (last, tt)
targets_push nodes [] (d ∷ ds) to e h last = absurd h
targets_push nodes (n ∷ row) [] to e h last = absurd h
targets_push nodes (n ∷ row) (d ∷ ds) to e h last = (h.0, targets_push nodes row ds to e h.1 last)

-- the numbers of nodes are below the number of nodes
pub targets_below : {L : Type 0} (nodes : List (List ℕ)) (row : List ℕ) (es : List (EdgeView L)) → AreTargets nodes row es →
    (k d : ℕ) → k < length row → get_or row k d < length nodes
targets_below nodes [] es h k d within = absurd (omega (arith, within))
targets_below nodes (to ∷ row) [] h k d within = absurd h
targets_below nodes (to ∷ row) (e ∷ es) h zero d within = h.0.within
targets_below nodes (to ∷ row) (e ∷ es) h (suc k) d within = targets_below nodes row es h.1 k d (omega (arith, within))

-- what visiting an edge did, for an equal answer
pub reread : {L F : Type 0} (wrong : EdgeFaults L F) (flawed : NodeFaults F) (nodes new : List (List ℕ)) (entered after : List (Entered L)) (at : ℕ)
    (e : EdgeView L) (answer same : Passed F) → answer ≡ same → GoesAlong wrong flawed nodes new entered after at e answer →
    GoesAlong wrong flawed nodes new entered after at e same
reread wrong flawed nodes new entered after at e answer same a h = subst (GoesAlong wrong flawed nodes new entered after at e) a h

-- an edge that was visited without a fault reports none, and so leads to a node
pub leads_to_node : {L F : Type 0} (known : Type 0) (wrong : EdgeFaults L F) (flawed : NodeFaults F) (nodes new : List (List ℕ)) (entered after : List
    (Entered L))
    (at to : ℕ) (e : EdgeView L) (said : Option F) → GoesAlong wrong flawed nodes new entered after at e (Node to) →
    MatchOption said ((fault : F) → HasEdgeFault wrong flawed (node_at nodes at) e fault → ⊥) (λ fault. HasEdgeFault wrong flawed (node_at nodes at) e fault) →
    IfNone said known → known
unfolding GoesAlong HasEdgeFault
leads_to_node known wrong flawed nodes new entered after at to e None goes judged leads = leads
leads_to_node known wrong flawed nodes new entered after at to e (Some fault) goes (inl own) leads = absurd (goes.0.edge fault own)
leads_to_node known wrong flawed nodes new entered after at to e (Some fault) goes (inr (none, there)) leads = absurd (goes.0.node fault there)

-- the next edge of a list that is visited leaves the node, at the next place
pub leaving : {A L : Type 0} (see : A → EdgeView L) (leads : EdgesOf L) (yielded items left : List A) (edge : A) (node here : List ℕ) →
    items ≡ edge ∷ left → map see yielded ++ map see items ≡ leads node → here ≡ node → slice_get (leads here) (length yielded) ≡ Some (see edge)
leaving see leads yielded items left edge node here next rest same =
    ap (λ l. slice_get l (length yielded)) (ap leads same ∙ sym rest ∙ ap (λ l. map see yielded ++ map see l) next)
    ∙ ap (slice_get (map see yielded ++ see edge ∷ map see left)) (sym (length-map yielded see))
    ∙ slice_get_seam (map see yielded) (see edge) (map see left)

-- and the rest of the list is shorter by it
pub moved : {A B : Type 0} (see : A → B) (yielded items left : List A) (edge : A) → items ≡ edge ∷ left →
    map see (yielded ++ edge ∷ []) ++ map see left ≡ map see yielded ++ map see items
moved see yielded items left edge next =
    ap (λ l. l ++ map see left) (map-append see yielded (edge ∷ []))
    ∙ append_assoc (map see yielded) (see edge ∷ []) (map see left) ∙ ap (λ l. map see yielded ++ map see l) (sym next)

-- after an edge with no fault, which leads to the node with a number
pub record PassedOn {L F : Type 0} (known : List ℕ → Type 0) (leads : EdgesOf L) (wrong : EdgeFaults L F) (flawed : NodeFaults F) (first : List ℕ)
    (nodes new : List (List ℕ)) (after : List (Entered L)) (at part to : ℕ) (e : EdgeView L) : Type 0 where
  pub explored : Explored leads wrong flawed first new after at part
  pub all_known : All known new
  pub same : (k : ℕ) → k ≤ length nodes → take k new ≡ take k nodes
  pub node : (k : ℕ) → k < length nodes → node_at new k ≡ node_at nodes k
  pub longer : length nodes ≤ length new
  pub target : IsTarget new to e

module _ {L F : Type 0} (known : List ℕ → Type 0) (leads : EdgesOf L) (wrong : EdgeFaults L F) (flawed : NodeFaults F) (first : List ℕ) (nodes new : List
    (List ℕ))
    (entered after : List (Entered L)) (at part : ℕ) where
  pub passed : (e : EdgeView L) (to : ℕ) → at < length nodes → slice_get (leads (node_at nodes at)) part ≡ Some e →
      GoesAlong wrong flawed nodes new entered after at e (Node to) → All known nodes → known e.node →
      Explored leads wrong flawed first nodes entered at part → PassedOn known leads wrong flawed first nodes new after at (part + 1) to e
  unfolding GoesAlong
  passed e to inside leaves (sound, ways) all_known is_known x = by ways
    where
      by : LeadsBack nodes new entered after e to ⊎ LeadsOn flawed nodes new entered after at e to →
          PassedOn known leads wrong flawed first nodes new after at (part + 1) to e
      by (inl h) = record {
        explored = subst (λ l. Explored leads wrong flawed first l after at (part + 1)) (sym h.nodes)
            (subst (λ l. Explored leads wrong flawed first nodes l at (part + 1)) (sym h.same)
            (known_edge leads wrong flawed first nodes entered at part e to inside leaves h.within h.node sound x));
        all_known = subst (All known) (sym h.nodes) all_known;
        same = λ k within. ap (take k) h.nodes;
        node = λ k within. ap (λ l. node_at l k) h.nodes;
        longer = omega (arith, ap length h.nodes);
        target = record { within = omega (arith, h.within, ap length h.nodes); node = ap (λ l. node_at l to) h.nodes ∙ h.node };
      }
      by (inr h) =
          let by : Entered L = record { from = at; label = e.label } in record {
            explored = subst (λ l. Explored leads wrong flawed first l after at (part + 1)) (sym h.nodes)
                (subst (λ l. Explored leads wrong flawed first (nodes ++ e.node ∷ []) l at (part + 1)) (sym h.more)
                (new_edge leads wrong flawed first nodes entered at part e by inside leaves x refl refl h.fresh sound h.sound));
            all_known = subst (All known) (sym h.nodes) (All-push known nodes e.node all_known is_known);
            same = λ k within. ap (take k) h.nodes ∙ take-append-le k nodes (e.node ∷ []) within;
            node = λ k within. ap (λ l. node_at l k) h.nodes ∙ get_or_append_left nodes (e.node ∷ []) [] k within;
            longer = omega (arith, ap length h.nodes, length-append nodes (e.node ∷ []));
            target = record {
              within = omega (arith, h.last, ap length h.nodes, length-append nodes (e.node ∷ []));
              node = ap (λ l. node_at l to) h.nodes ∙ get_or_push nodes e.node [] to (sym h.last);
            };
          }

  -- the edge has a fault
  unchanged : (e : EdgeView L) (fault : F) → GoesAlong wrong flawed nodes new entered after at e (Fault fault) → after ≡ entered
  unfolding GoesAlong
  unchanged e fault passes = passes.1

  pub found : (most : ℕ) (e : EdgeView L) (fault : F) (labels : List L) → at < length nodes → length nodes ≤ most →
      slice_get (leads (node_at nodes at)) part ≡ Some e → GoesAlong wrong flawed nodes new entered after at e (Fault fault) →
      EndsWithLabel after at e.label labels → Explored leads wrong flawed first nodes entered at part → IsFirstFault leads wrong flawed first most labels fault
  unfolding GoesAlong
  found most e fault labels inside room leaves (is_wrong, same) trace x =
      let h = path_to leads wrong flawed first nodes entered at part x at trace.before (subst (λ l. LabelsTo l at trace.before) same trace.lead) in record {
        places = x.paths at ++ part ∷ [];
        edges = h.edges ++ e ∷ [];
        names = trace.whole ∙ ap (λ l. l ++ e.label ∷ []) h.names ∙ sym (map-append (λ d. d.label) h.edges (e ∷ []));
        ends = record {
          path = path-push leads first (x.paths at) h.edges part e h.path (subst (λ node. slice_get (leads node) part ≡ Some e) (sym h.end) leaves);
          last = last-push leads wrong flawed first h.edges e fault (subst (λ node. HasEdgeFault wrong flawed node e fault) (sym h.end) is_wrong);
        };
        least = least leads wrong flawed first nodes entered at part x inside;
        nodes = nodes;
        few = room;
        earlier = listed_before leads wrong flawed first nodes entered at part x inside;
      }

  -- so what leads to its nodes stays the same
  pub earlier : (e : EdgeView L) (fault : F) → GoesAlong wrong flawed nodes new entered after at e (Fault fault) →
      Explored leads wrong flawed first nodes entered at part → (k : ℕ) (by : Entered L) → slice_get after k ≡ Some by → by.from ≤ k
  earlier e fault passes x k by there =
      let old : slice_get entered k ≡ Some by = ap (λ l. slice_get l k) (sym (unchanged e fault passes)) ∙ there in
      omega (arith, (x.came k by old).earlier)

  pub inside_still : (e : EdgeView L) (fault : F) → at < length nodes → GoesAlong wrong flawed nodes new entered after at e (Fault fault) →
      Explored leads wrong flawed first nodes entered at part → at ≤ length after
  inside_still e fault inside passes x = omega (arith, inside, x.as_many, ap length (unchanged e fault passes))

  -- there are too many nodes
  pub too_many : (most to : ℕ) (e : EdgeView L) → at < length nodes → most < length new →
      PassedOn known leads wrong flawed first nodes new after at (part + 1) to e → HasMore leads wrong flawed first most
  too_many most to e inside many h =
      let x = h.explored in record {
        nodes = new;
        last = x.paths at ++ part ∷ [];
        once = x.once;
        many = many;
        near = λ node there. reached_by leads wrong flawed first new after at (part + 1) x (x.paths at ++ part ∷ []) node
            (λ number within. next_edge (x.paths number) (x.paths at) part (x.near number within (omega (arith, inside, h.longer)))) there;
        least = λ places path fault ends. precedes_not_after (x.paths at ++ part ∷ []) (x.paths at ++ (part + 1) ∷ []) places
            (by_earlier_edge (x.paths at) part (part + 1) (omega arith))
            (least leads wrong flawed first new after at (part + 1) x (omega (arith, inside, h.longer)) places path fault ends);
      }

  -- the search continues with the next edge
  pub went_on : (most to : ℕ) (e : EdgeView L) (rows : List (List ℕ)) → at < length nodes → length new ≤ most →
      IsUnderWay known leads wrong flawed first most nodes entered rows at part → PassedOn known leads wrong flawed first nodes new after at (part + 1) to e →
      IsUnderWay known leads wrong flawed first most new after rows at (part + 1)
  went_on most to e rows inside room u h = record {
    explored = h.explored;
    all_known = h.all_known;
    room = room;
    as_many = u.as_many;
    targets = λ i within.
        let early : i < length nodes = omega (arith, within, u.as_many, inside) in
        subst (λ n. AreTargets new (numbered_row rows i) (leads n)) (sym (h.node i early)) (targets_still nodes new (numbered_row rows i) (leads
        (node_at nodes i)) h.longer h.node (u.targets i within));
  }

  -- and with its row
  pub row_on : (row : List ℕ) (es : List (EdgeView L)) (to : ℕ) (e : EdgeView L) → AreTargets nodes row es →
      PassedOn known leads wrong flawed first nodes new after at (part + 1) to e → AreTargets new (row ++ to ∷ []) (es ++ e ∷ [])
  row_on row es to e all h = targets_push new row es to e (targets_still nodes new row es h.longer h.node all) h.target

module _ {L F : Type 0} (known : List ℕ → Type 0) (leads : EdgesOf L) (wrong : EdgeFaults L F) (flawed : NodeFaults F) (first : List ℕ) (most : ℕ)
    (nodes : List (List ℕ)) (entered : List (Entered L)) (rows : List (List ℕ)) (at part : ℕ) where
  -- after all edges of a node, the next node comes
  pub row_done : (row : List ℕ) → at < length nodes → part ≡ length (leads (node_at nodes at)) → AreTargets nodes row (leads (node_at nodes at)) →
      IsUnderWay known leads wrong flawed first most nodes entered rows at part →
      IsUnderWay known leads wrong flawed first most nodes entered (rows ++ row ∷ []) (at + 1) 0
  row_done row inside all targets u = record {
    explored = next_node leads wrong flawed first nodes entered at part inside all u.explored;
    all_known = u.all_known;
    room = u.room;
    as_many = omega (arith, u.as_many, length-append rows (row ∷ []));
    targets = λ i within. by i (eq-or-lt_of_le (omega (arith, within, u.as_many, length-append rows (row ∷ []))));
  }
    where
      by : (i : ℕ) → (i ≡ at) ⊎ (i < at) → AreTargets nodes (numbered_row (rows ++ row ∷ []) i) (leads (node_at nodes i))
      by i (inl last) = subst (λ r. AreTargets nodes r (leads (node_at nodes i))) (sym (get_or_push rows row [] i (u.as_many ∙ sym last)))
          (subst (λ n. AreTargets nodes row (leads (node_at nodes n))) (sym last) targets)
      by i (inr old) = let inside_rows : i < length rows = omega (arith, old, u.as_many) in
          subst (λ r. AreTargets nodes r (leads (node_at nodes i))) (sym (get_or_append_left rows (row ∷ []) [] i inside_rows)) (u.targets i inside_rows)

  -- after all nodes
  pub all_counted : (moves dead : ℕ) → length nodes ≤ at → Progress known leads wrong flawed first most nodes entered rows at moves dead →
      IsCounted leads wrong flawed first most nodes moves dead
  all_counted moves dead ended p =
      let x = p.under_way.explored in record {
        once = x.once;
        in_order = in_order leads wrong flawed first nodes entered at 0 x ended (omega (arith, x.as_many));
        reached = is_reached leads wrong flawed first nodes entered at 0 x;
        all = has_reached leads wrong flawed first nodes entered at 0 x ended (omega (arith, x.as_many));
        few = p.under_way.room;
        edges = p.edges ∙ ap (sum_by (λ n. length (leads n))) (take_all at nodes ended);
        ends = p.ends ∙ ap (sum_by (λ n. cond (is_none (leads n)) 1 0)) (take_all at nodes ended);
        sound = none_at_end leads wrong flawed first nodes entered at 0 x ended (omega (arith, x.as_many));
      }

one_or_none : (b : Bool) → cond b 1 0 ≤ 1
one_or_none true = omega arith
one_or_none false = omega arith

module _ {L F : Type 0} (known : List ℕ → Type 0) (leads : EdgesOf L) (wrong : EdgeFaults L F) (flawed : NodeFaults F) (first : List ℕ) (most : ℕ)
    (old nodes : List (List ℕ)) (before entered : List (Entered L)) (rows after : List (List ℕ)) (at : ℕ) where
  more_by : (f : List ℕ → ℕ) (total : ℕ) → at < length old → take (at + 1) nodes ≡ take (at + 1) old →
      total ≡ sum_by f (take at old) → total + f (node_at old at) ≡ sum_by f (take (at + 1) nodes)
  more_by f total inside same sum =
      ap (λ n. n + f (node_at old at)) sum ∙ sym (sum_by_more f old at [] inside) ∙ ap (sum_by f) (sym same)

  -- the totals after all edges of a node
  pub progress : (moves dead edges ends : ℕ) → at < length old → Progress known leads wrong flawed first most old before rows at moves dead →
      edges ≡ moves + length (leads (node_at old at)) → length (leads (node_at old at)) < 2 ^ 32 →
      ends ≡ dead + cond (is_none (leads (node_at old at))) 1 0 → take (at + 1) nodes ≡ take (at + 1) old →
      IsUnderWay known leads wrong flawed first most nodes entered after (at + 1) 0 → Progress known leads wrong flawed first most nodes entered after
      (at + 1) edges ends
  progress moves dead edges ends inside p more_edges few more_ends same u = record {
    under_way = u;
    within = omega (arith, inside, ap length same, length-take (at + 1) nodes, length-take (at + 1) old);
    edges = more_edges ∙ more_by (λ n. length (leads n)) moves inside same p.edges;
    ends = more_ends ∙ more_by (λ n. cond (is_none (leads n)) 1 0) dead inside same p.ends;
    few = omega (arith, more_ends, p.few, one_or_none (is_none (leads (node_at old at))));
    bounded = omega (arith, more_edges, few, p.bounded);
  }

-- a mapped list is empty if and only if the list is
pub none_alike : {A B : Type 0} (see : A → B) (items : List A) → is_none (map see items) ≡ is_none items
none_alike see [] = refl
none_alike see (item ∷ items) = refl

module _ {L F A E : Type 0} (known : List ℕ → Type 0) (leads : EdgesOf L) (wrong : EdgeFaults L F) (flawed : NodeFaults F) (most : ℕ)
    (old nodes : List (List ℕ)) (before entered : List (Entered L)) (rows after : List (List ℕ)) (at : ℕ) where
  -- the result of visiting all edges of a node, with the totals
  pub visits : (see : A → EdgeView L) (items : List A) (node : List ℕ) (result : Result (Option (SearchAnswer L F)) E) (moves dead edges ends : ℕ) →
      at < length old → Progress known leads wrong flawed (node_at old 0) most old before rows at moves dead → slice_get old at ≡ Some node →
      map see items ≡ leads node → length items < 2 ^ 32 → edges ≡ moves + length items → ends ≡ dead + cond (is_none items) 1 0 →
      IfOk result (PassesEdges known leads wrong flawed most old nodes entered after at) → IfOk result
      (Visits known leads wrong flawed most old nodes entered after at edges ends)
  visits see items node (Err error) moves dead edges ends inside p is list few more_edges more_ends goes = tt
  visits see items node (Ok (Some answer)) moves dead edges ends inside p is list few more_edges more_ends goes = goes
  visits see items node (Ok None) moves dead edges ends inside p is list few more_edges more_ends (u, same) =
      let all : map see items ≡ leads (node_at old at) = list ∙ ap leads (sym (get_or_from_slice_get old at node [] is)) in
      let many : length items ≡ length (leads (node_at old at)) = sym (length-map items see) ∙ ap length all in
      progress known leads wrong flawed (node_at old 0) most old nodes before entered rows after at moves dead edges ends inside p
      (more_edges ∙ ap (λ n. moves + n) many) (omega (arith, few, many))
      (more_ends ∙ ap (λ b. dead + cond b 1 0) (sym (none_alike see items) ∙ ap is_none all)) same u
