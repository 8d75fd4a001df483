-- Paths that come before the place of the search lead to nodes that it has reached, and have no fault.
use Rattle.std.proofs.Common.{◌≡◌, ℕ, ◌<◌, ◌≤◌, List, [], ◌∷◌, ◌++◌, length, slice_get, Some, sym, subst, ◌∙◌, arith, Contains, ◌⊎◌, inl, inr}
use Rattle.std.proofs.lemmas.Bool.{cases_order, cases_lt}
use Rattle.std.proofs.lemmas.List.{append_assoc, append-nil, get_or_default}
use Rattle.order_search.specs.declared.trail.Entered.{Entered}
use Rattle.order_search.specs.Numbers.{node_at}
use Rattle.order_search.specs.Paths.{EdgeView, EdgesOf, EdgeFaults, NodeFaults, IsEdgePath, path_end, IsReachable, HasEdgeFault, IsFaultless, HasLastFault, EndsInFault}
use Rattle.order_search.specs.SearchOrder.{Precedes, IsNotAfter}
use Rattle.order_search.specs.Exploring.{IsGoneThrough, Explored}
use Rattle.order_search.proofs.Precedence.{goes_on, by_earlier_edge, begins_before, not_itself, not_after_with, not_after_or, not_after_precedes, not_after_trans, precedes_trans}

-- a path from a node of the list ends at a node of the list, which it or an earlier path reached first
pub record ComesTo (nodes : List (List ℕ)) (paths : ℕ → List ℕ) (places : List ℕ) (end : List ℕ) : Type 0 where
  pub to : ℕ
  pub within : to < length nodes
  pub node : node_at nodes to ≡ end
  pub early : IsNotAfter (paths to) places

-- an edge without a fault has none
not_wrong : {L F : Type 0} {wrong : EdgeFaults L F} {flawed : NodeFaults F} (node : List ℕ) (e : EdgeView L) (fault : F) →
    IsFaultless wrong flawed node e → wrong node e fault ⊎ (((other : F) → wrong node e other → ⊥) × flawed e.node fault) → ⊥
not_wrong node e fault sound (inl own) = sound.edge fault own
not_wrong node e fault sound (inr (none, there)) = sound.node fault there

module _ {L F : Type 0} (leads : EdgesOf L) (wrong : EdgeFaults L F) (flawed : NodeFaults F) (first : List ℕ) (nodes : List (List ℕ)) (entered : List
    (Entered L))
    (at part : ℕ) (x : Explored leads wrong flawed first nodes entered at part) where
  -- the edges that have been visited, by their paths: those for which `Bound` holds
  module _ (Bound : List ℕ → Type 0) (gone : (i k : ℕ) (e : EdgeView L) → i < length nodes → slice_get (leads (node_at nodes i)) k ≡ Some e →
      Bound (x.paths i ++ k ∷ []) → IsGoneThrough wrong flawed nodes x.paths i k e)
      (lower : (a b : List ℕ) → IsNotAfter a b → Bound b → Bound a) (front : (a : List ℕ) (k : ℕ) (more : List ℕ) → Bound (a ++ k ∷ more) → Bound (a ++ k ∷ []))
    where
      -- the path from node i on, when its first edge is visited
      rest_bound : (i k : ℕ) (ps : List ℕ) (to : ℕ) → IsNotAfter (x.paths to) (x.paths i ++ k ∷ []) → Bound (x.paths i ++ k ∷ ps) → Bound (x.paths to ++ ps)
      rest_bound i k ps to early bound = lower (x.paths to ++ ps) (x.paths i ++ k ∷ ps)
          (subst (IsNotAfter (x.paths to ++ ps)) (append_assoc (x.paths i) (k ∷ []) ps) (not_after_with (x.paths to) (x.paths i ++ k ∷ []) ps early)) bound

      pub comes : (node : List ℕ) (ps : List ℕ) (es : List (EdgeView L)) (i : ℕ) → i < length nodes → node_at nodes i ≡ node →
          IsEdgePath leads node ps es → Bound (x.paths i ++ ps) → ComesTo nodes x.paths (x.paths i ++ ps) (path_end node es)
      unfolding IsEdgePath path_end
      comes node [] [] i within is path bound = record { to = i; within = within; node = is; early = inl (sym (append-nil (x.paths i))) }
      comes node [] (e ∷ es) i within is path bound = absurd path
      comes node (k ∷ ps) [] i within is path bound = absurd path
      comes node (k ∷ ps) (e ∷ es) i within is path bound =
          let g = gone i k e within (subst (λ n. slice_get (leads n) k ≡ Some e) (sym is) path.0) (front (x.paths i) k ps bound) in
          let h = comes e.node ps es g.to g.within g.node path.1 (rest_bound i k ps g.to g.early bound) in record {
            to = h.to;
            within = h.within;
            node = h.node;
            early = not_after_trans (x.paths h.to) (x.paths g.to ++ ps) (x.paths i ++ k ∷ ps) h.early
                (subst (IsNotAfter (x.paths g.to ++ ps)) (append_assoc (x.paths i) (k ∷ []) ps) (not_after_with (x.paths g.to)
                (x.paths i ++ k ∷ []) ps g.early));
          }

      faultless : (node : List ℕ) (p : ℕ) (ps : List ℕ) (e : EdgeView L) (es : List (EdgeView L)) (i : ℕ) (fault : F) → i < length nodes →
          node_at nodes i ≡ node → IsEdgePath leads node (p ∷ ps) (e ∷ es) → Bound (x.paths i ++ p ∷ ps) → HasLastFault wrong flawed node (e ∷ es) fault → ⊥
      unfolding IsEdgePath HasLastFault HasEdgeFault
      faultless node p [] e [] i fault within is path bound h =
          let sound = subst (λ n. IsFaultless wrong flawed n e) is (gone i p e within (subst (λ n. slice_get (leads n) p ≡ Some e)
          (sym is) path.0) bound).sound in
          not_wrong node e fault sound h
      faultless node p [] e (d ∷ ds) i fault within is path bound h = absurd path.1
      faultless node p (q ∷ qs) e [] i fault within is path bound h = absurd path.1
      faultless node p (q ∷ qs) e (d ∷ ds) i fault within is path bound h =
          let g = gone i p e within (subst (λ n. slice_get (leads n) p ≡ Some e) (sym is) path.0) (front (x.paths i) p (q ∷ qs) bound) in
          faultless e.node q qs d ds g.to fault g.within g.node path.1 (rest_bound i p (q ∷ qs) g.to g.early bound) h

      -- from the first node: a path for which `Bound` holds leads to a node of the list, and has no fault at its end
      pub listed : (ps : List ℕ) (es : List (EdgeView L)) → 0 < length nodes → IsEdgePath leads first ps es → Bound ps → Contains nodes (path_end first es)
      listed ps es some path bound =
          let h = comes first ps es 0 some x.begins path (subst (λ l. Bound (l ++ ps)) (sym x.nowhere) bound) in
          (h.to, h.within, get_or_default nodes h.to (path_end first es) [] h.within ∙ h.node)

      pub no_fault : (ps : List ℕ) (es : List (EdgeView L)) (fault : F) → 0 < length nodes → EndsInFault leads wrong flawed first ps es fault → Bound ps → ⊥
      unfolding HasLastFault IsEdgePath
      no_fault ps [] fault some h bound = h.last
      no_fault [] (e ∷ es) fault some h bound = h.path
      no_fault (p ∷ ps) (e ∷ es) fault some h bound =
          faultless first p ps e es 0 fault some x.begins h.path (subst (λ l. Bound (l ++ p ∷ ps)) (sym x.nowhere) bound) h.last

  -- during the search: the paths before its place
  module _ (inside : at < length nodes) where
    place : List ℕ
    place = x.paths at ++ part ∷ []

    -- an edge whose path is before the place has been visited
    gone_before : (i k : ℕ) (e : EdgeView L) → i < length nodes → slice_get (leads (node_at nodes i)) k ≡ Some e →
        Precedes (x.paths i ++ k ∷ []) place → IsGoneThrough wrong flawed nodes x.paths i k e
    unfolding place
    gone_before i k e within leaves early = by (cases_order i at)
      where
        here : i ≡ at → (k < part) ⊎ (part ≤ k) → IsGoneThrough wrong flawed nodes x.paths i k e
        here same (inl below) = subst (λ n. IsGoneThrough wrong flawed nodes x.paths n k e) (sym same)
            (x.begun k e below (subst (λ n. slice_get (leads (node_at nodes n)) k ≡ Some e) same leaves))
        here same (inr past) = absurd (too_late (cases_order part k))
          where
            at_place : Precedes (x.paths at ++ k ∷ []) (x.paths at ++ part ∷ [])
            at_place = subst (λ n. Precedes (x.paths n ++ k ∷ []) (x.paths at ++ part ∷ [])) same early

            too_late : (part ≡ k) ⊎ ((part < k) ⊎ (k < part)) → ⊥
            too_late (inl e) = not_itself (x.paths at ++ part ∷ []) (subst (λ n. Precedes (x.paths at ++ n ∷ []) (x.paths at ++ part ∷ [])) (sym e) at_place)
            too_late (inr (inl below)) = not_itself (x.paths at ++ k ∷ []) (precedes_trans (x.paths at ++ k ∷ []) (x.paths at ++ part ∷ [])
                (x.paths at ++ k ∷ []) at_place
                (by_earlier_edge (x.paths at) part k below))
            too_late (inr (inr below)) = omega (arith, past, below)

        by : (i ≡ at) ⊎ ((i < at) ⊎ (at < i)) → IsGoneThrough wrong flawed nodes x.paths i k e
        by (inl same) = here same (cases_lt k part)
        by (inr (inl before)) = x.closed i k e before leaves
        by (inr (inr later)) = absurd (not_itself (x.paths i ++ k ∷ []) (precedes_trans (x.paths i ++ k ∷ []) (x.paths at ++ part ∷ [])
            (x.paths i ++ k ∷ []) early
            (goes_on (x.paths at) (x.paths i) part k (x.rising at i later within))))

    lower_before : (a b : List ℕ) → IsNotAfter a b → Precedes b place → Precedes a place
    lower_before a b h k = not_after_precedes a b place h k

    front_before : (a : List ℕ) (k : ℕ) (more : List ℕ) → Precedes (a ++ k ∷ more) place → Precedes (a ++ k ∷ []) place
    front_before a k more h = begins_before a k more place h

    pub listed_before : (ps : List ℕ) (es : List (EdgeView L)) → IsEdgePath leads first ps es → Precedes ps (x.paths at ++ part ∷ []) →
        Contains nodes (path_end first es)
    unfolding place
    listed_before ps es path early = listed (λ l. Precedes l place) gone_before lower_before front_before ps es (omega (arith, inside)) path early

    -- so a path that ends in a fault does not come before the place
    pub least : (ps : List ℕ) (es : List (EdgeView L)) (fault : F) → EndsInFault leads wrong flawed first ps es fault → IsNotAfter (x.paths at ++ part ∷ []) ps
    unfolding place
    least ps es fault h = by (not_after_or (x.paths at ++ part ∷ []) ps)
      where
        by : IsNotAfter (x.paths at ++ part ∷ []) ps ⊎ Precedes ps (x.paths at ++ part ∷ []) → IsNotAfter (x.paths at ++ part ∷ []) ps
        by (inl late) = late
        by (inr early) = absurd (no_fault (λ l. Precedes l place) gone_before lower_before front_before ps es fault (omega (arith, inside)) h early)

  -- at the end all edges have been visited
  module _ (ended : length nodes ≤ at) (some : 0 < length nodes) where
    gone_at_end : (i k : ℕ) (e : EdgeView L) → i < length nodes → slice_get (leads (node_at nodes i)) k ≡ Some e → Unit {0} →
        IsGoneThrough wrong flawed nodes x.paths i k e
    gone_at_end i k e within leaves all = x.closed i k e (omega (arith, within, ended)) leaves

    pub has_reached : (node : List ℕ) → IsReachable leads first node → Contains nodes node
    has_reached node h = subst (Contains nodes) h.end
        (listed (λ l. Unit {0}) gone_at_end (λ a b h k. tt) (λ a k more h. tt) h.places h.edges some h.path tt)

    -- and a path leads to a node that it or an earlier one reached first
    pub first_come : (ps : List ℕ) (es : List (EdgeView L)) → IsEdgePath leads first ps es → ComesTo nodes x.paths ps (path_end first es)
    first_come ps es path = subst (λ l. ComesTo nodes x.paths (l ++ ps) (path_end first es)) x.nowhere
        (comes (λ l. Unit {0}) gone_at_end (λ a b h k. tt) (λ a k more h. tt) first ps es 0 some x.begins path tt)

    pub none_at_end : (ps : List ℕ) (es : List (EdgeView L)) (fault : F) → EndsInFault leads wrong flawed first ps es fault → ⊥
    none_at_end ps es fault h = no_fault (λ l. Unit {0}) gone_at_end (λ a b h k. tt) (λ a k more h. tt) ps es fault some h tt
