-- The invariants of a breadth-first search: each node that it has reached has a path, and the paths are in the order of
-- the search.
use Rattle.std.proofs.Common.{◌≡◌, ◌≢◌, ℕ, ◌+◌, ◌<◌, ◌≤◌, List, [], ◌∷◌, ◌++◌, length, get_or, slice_get, cond, Some, None, refl, sym, ap, subst, ◌∙◌, arith, Contains, ◌⊎◌, inl, inr}
use Rattle.std.specs.Prelude.{nat_eq}
use Rattle.std.proofs.lemmas.Bool.Decides.{nat_tests}
use Rattle.std.proofs.Math.Nat.{eq-or-lt_of_le}
use Rattle.std.proofs.lemmas.List.{get_or_push, get_or_append_left, length-append, get_or_default}
use Rattle.std.proofs.lemmas.List.Quantifiers.{all_pairs_push}
use Rattle.std.proofs.lemmas.Option.{slice_get_cases, slice_get_within, slice_get-get_or, get_or_from_slice_get}
use Rattle.order_search.specs.declared.trail.Entered.{Entered}
use Rattle.order_search.specs.Numbers.{node_at}
use Rattle.order_search.specs.Paths.{EdgeView, EdgesOf, EdgeFaults, NodeFaults, IsFaultless}
use Rattle.order_search.specs.Exploring.{HasPredecessor, IsGoneThrough, Explored}
use Rattle.order_search.specs.SearchOrder.{Precedes, IsNotAfter}
use Rattle.order_search.proofs.Precedence.{goes_on, by_earlier_edge, is_begun, precedes_trans}

-- the elements of a list that has one more element
pushed : {X : Type 0} (xs : List X) (y d : X) (i : ℕ) → slice_get (xs ++ y ∷ []) i ≡ Some d → (slice_get xs i ≡ Some d) ⊎ ((i ≡ length xs) × (y ≡ d))
pushed xs y d i there = by (slice_get_cases xs i).1
  where
    within : i < length (xs ++ y ∷ [])
    within = slice_get_within (xs ++ y ∷ []) i d there

    by : ((x : _) × (i < length xs) × (slice_get xs i ≡ Some x) × (get_or xs i x ≡ x)) ⊎ ((length xs ≤ i) × (slice_get xs i ≡ None)) →
        (slice_get xs i ≡ Some d) ⊎ ((i ≡ length xs) × (y ≡ d))
    by (inl (x, below, is, same)) = inl (slice_get-get_or xs i d below ∙ ap Some (sym (get_or_append_left xs (y ∷ []) d i below) ∙ get_or_from_slice_get
        (xs ++ y ∷ []) i d d there))
    by (inr (past, none)) =
        let last : i ≡ length xs = omega (arith, within, length-append xs (y ∷ [])) in
        inr (last, sym (get_or_push xs y d i (sym last)) ∙ get_or_from_slice_get (xs ++ y ∷ []) i d d there)

-- the next number, or a smaller one
next_or_less : (k part : ℕ) → k < part + 1 → (k ≡ part) ⊎ (k < part)
next_or_less k part below = eq-or-lt_of_le (omega (arith, below))

module _ {L F : Type 0} (leads : EdgesOf L) (wrong : EdgeFaults L F) (flawed : NodeFaults F) (first : List ℕ) where
  -- an edge with no fault that leads to a node of the list
  pub known_edge : (nodes : List (List ℕ)) (entered : List (Entered L)) (at part : ℕ) (e : EdgeView L) (to : ℕ) →
      at < length nodes → slice_get (leads (node_at nodes at)) part ≡ Some e → to < length nodes → node_at nodes to ≡ e.node →
      IsFaultless wrong flawed (node_at nodes at) e → Explored leads wrong flawed first nodes entered at part →
      Explored leads wrong flawed first nodes entered at (part + 1)
  known_edge nodes entered at part e to inside leaves within is sound x = record {
    paths = x.paths;
    begins = x.begins;
    nowhere = x.nowhere;
    as_many = x.as_many;
    once = x.once;
    sound = x.sound;
    came = x.came;
    rising = x.rising;
    near = λ i below here. precedes_trans (x.paths i) (x.paths at ++ part ∷ []) (x.paths at ++ (part + 1) ∷ []) (x.near i below here)
        (by_earlier_edge (x.paths at) part (part + 1) (omega arith));
    closed = x.closed;
    begun = λ k d below there. by k d (next_or_less k part below) there;
  }
    where
      this : IsGoneThrough wrong flawed nodes x.paths at part e
      this = record { sound = sound; to = to; within = within; node = is; early = inr (x.near to within inside) }

      by : (k : ℕ) (d : EdgeView L) → (k ≡ part) ⊎ (k < part) → slice_get (leads (node_at nodes at)) k ≡ Some d →
          IsGoneThrough wrong flawed nodes x.paths at k d
      by k d (inr before) there = x.begun k d before there
      by k d (inl same) there =
          let alike : e ≡ d = cc (leaves, there, ap (slice_get (leads (node_at nodes at))) same) in
          subst (λ n. IsGoneThrough wrong flawed nodes x.paths at n d) (sym same) (subst (IsGoneThrough wrong flawed nodes x.paths at part) alike this)

  -- the path of each node after one more is reached
  paths_with : (ℕ → List ℕ) → ℕ → List ℕ → ℕ → List ℕ
  paths_with paths number new i = cond (nat_eq i number) new (paths i)

  path_last : (paths : ℕ → List ℕ) (number : ℕ) (new : List ℕ) → paths_with paths number new number ≡ new
  unfolding paths_with
  path_last paths number new = grind (arith, nat_tests)

  path_before : (paths : ℕ → List ℕ) (number : ℕ) (new : List ℕ) (i : ℕ) → i < number → paths_with paths number new i ≡ paths i
  unfolding paths_with
  path_before paths number new i below = grind (arith, nat_tests)

  -- an edge with no fault that leads to a new node
  module _ (nodes : List (List ℕ)) (entered : List (Entered L)) (at part : ℕ) (e : EdgeView L) (by : Entered L)
      (inside : at < length nodes) (leaves : slice_get (leads (node_at nodes at)) part ≡ Some e)
      (x : Explored leads wrong flawed first nodes entered at part) where
    more : List (List ℕ)
    more = nodes ++ e.node ∷ []

    newest : List ℕ
    newest = x.paths at ++ part ∷ []

    paths : ℕ → List ℕ
    paths = paths_with x.paths (length nodes) newest

    old_node : (i : ℕ) → i < length nodes → node_at more i ≡ node_at nodes i
    unfolding more
    old_node i below = get_or_append_left nodes (e.node ∷ []) [] i below

    new_node : node_at more (length nodes) ≡ e.node
    unfolding more
    new_node = get_or_push nodes e.node [] (length nodes) refl

    as_long : length more ≡ length nodes + 1
    unfolding more
    as_long = length-append nodes (e.node ∷ [])

    old_path : (i : ℕ) → i < length nodes → paths i ≡ x.paths i
    unfolding paths
    old_path i below = path_before x.paths (length nodes) newest i below

    new_path : paths (length nodes) ≡ newest
    unfolding paths
    new_path = path_last x.paths (length nodes) newest

    -- what has been visited stays visited
    still : (i k : ℕ) (d : EdgeView L) → i < length nodes → IsGoneThrough wrong flawed nodes x.paths i k d → IsGoneThrough wrong flawed more paths i k d
    still i k d below h = record {
      sound = subst (λ node. IsFaultless wrong flawed node d) (sym (old_node i below)) h.sound;
      to = h.to;
      within = omega (arith, as_long, h.within);
      node = old_node h.to h.within ∙ h.node;
      early = subst (λ l. IsNotAfter (paths h.to) (l ++ k ∷ [])) (sym (old_path i below))
          (subst (λ l. IsNotAfter l (x.paths i ++ k ∷ [])) (sym (old_path h.to h.within)) h.early);
    }

    -- an old node has its predecessor
    came : (i : ℕ) (d : Entered L) → i + 1 < length nodes → HasPredecessor leads nodes x.paths (i + 1) d → HasPredecessor leads more paths (i + 1) d
    came i d below h =
        let before : d.from < length nodes = omega (arith, h.earlier) in record {
          edge = h.edge;
          place = h.place;
          earlier = h.earlier;
          leaves = subst (λ node. slice_get (leads node) h.place ≡ Some h.edge) (sym (old_node d.from before)) h.leaves;
          name = h.name;
          node = old_node (i + 1) below ∙ h.node;
          path = old_path (i + 1) below ∙ h.path ∙ ap (λ l. l ++ h.place ∷ []) (sym (old_path d.from before));
        }

    -- the new node has a predecessor
    last_came : e.label ≡ by.label → by.from ≡ at → (i : ℕ) → i ≡ length nodes → HasPredecessor leads more paths i by
    unfolding newest
    last_came name from i last = record {
      edge = e;
      place = part;
      earlier = omega (arith, from, last);
      leaves = subst (λ node. slice_get (leads node) part ≡ Some e) (sym (old_node at inside) ∙ ap (node_at more) (sym from)) leaves;
      name = name;
      node = ap (node_at more) last ∙ new_node;
      path = ap paths last ∙ new_path ∙ ap (λ l. l ++ part ∷ []) (sym (old_path at inside) ∙ ap paths (sym from));
    }

    -- an old path is before the new one
    before_newest : (i : ℕ) → i < length nodes → Precedes (paths i) newest
    unfolding newest
    before_newest i below = subst (λ l. Precedes l (x.paths at ++ part ∷ [])) (sym (old_path i below)) (x.near i below inside)

    -- paths are in ascending order
    rising : (i j : ℕ) → i < j → j < length nodes + 1 → Precedes (paths i) (paths j)
    rising i j order within = by_number (next_or_less j (length nodes) within)
      where
        by_number : (j ≡ length nodes) ⊎ (j < length nodes) → Precedes (paths i) (paths j)
        by_number (inl last) = subst (Precedes (paths i)) (sym (ap paths last ∙ new_path)) (before_newest i (omega (arith, order, last)))
        by_number (inr old) = subst (λ l. Precedes l (paths j)) (sym (old_path i (omega (arith, order, old))))
            (subst (Precedes (x.paths i)) (sym (old_path j old)) (x.rising i j order old))

    near : (i : ℕ) → i < length nodes + 1 → Precedes (paths i) (paths at ++ (part + 1) ∷ [])
    unfolding newest
    near i within = subst (λ l. Precedes (paths i) (l ++ (part + 1) ∷ [])) (sym (old_path at inside)) (by_number (next_or_less i (length nodes) within))
      where
        later : Precedes newest (x.paths at ++ (part + 1) ∷ [])
        later = by_earlier_edge (x.paths at) part (part + 1) (omega arith)

        by_number : (i ≡ length nodes) ⊎ (i < length nodes) → Precedes (paths i) (x.paths at ++ (part + 1) ∷ [])
        by_number (inl last) = subst (λ l. Precedes l (x.paths at ++ (part + 1) ∷ [])) (sym (ap paths last ∙ new_path)) later
        by_number (inr old) = precedes_trans (paths i) newest (x.paths at ++ (part + 1) ∷ []) (before_newest i old) later

    pub new_edge : e.label ≡ by.label → by.from ≡ at → (Contains nodes e.node → ⊥) → IsFaultless wrong flawed (node_at nodes at) e → ((fault : F) →
        flawed e.node fault → ⊥) →
        Explored leads wrong flawed first (nodes ++ e.node ∷ []) (entered ++ by ∷ []) at (part + 1)
    unfolding more newest
    new_edge name from fresh sound good = record {
      paths = paths;
      begins = old_node 0 (omega arith) ∙ x.begins;
      nowhere = old_path 0 (omega arith) ∙ x.nowhere;
      as_many = omega (arith, as_long, x.as_many, length-append entered (by ∷ []));
      once = all_pairs_push (λ a b. a ≢ b) nodes e.node x.once (λ k d within same. fresh (k, within, get_or_default nodes k e.node d within ∙ same));
      sound = λ i fault above within. by_node i fault above (next_or_less i (length nodes) (omega (arith, within, as_long)));
      came = λ i d there. entered_by i d (pushed entered by d i there);
      rising = λ i j order within. rising i j order (omega (arith, within, as_long));
      near = λ i within here. near i (omega (arith, within, as_long));
      closed = λ i k d below there. still i k d (omega (arith, below)) (x.closed i k d below (subst (λ node. slice_get (leads node) k ≡ Some d)
          (old_node i (omega (arith, below))) there));
      begun = λ k d below there. part_edge k d (next_or_less k part below) (subst (λ node. slice_get (leads node) k ≡ Some d) (old_node at inside) there);
    }
      where
        by_node : (i : ℕ) (fault : F) → 0 < i → (i ≡ length nodes) ⊎ (i < length nodes) → flawed (node_at more i) fault → ⊥
        by_node i fault above (inl last) h = good fault (subst (λ node. flawed node fault) (ap (node_at more) last ∙ new_node) h)
        by_node i fault above (inr old) h = x.sound i fault above old (subst (λ node. flawed node fault) (old_node i old) h)

        entered_by : (i : ℕ) (d : Entered L) → (slice_get entered i ≡ Some d) ⊎ ((i ≡ length entered) × (by ≡ d)) → HasPredecessor leads more paths (i + 1) d
        entered_by i d (inl old) = came i d (omega (arith, slice_get_within entered i d old, x.as_many)) (x.came i d old)
        entered_by i d (inr (last, same)) = subst (HasPredecessor leads more paths (i + 1)) same (last_came name from (i + 1) (omega (arith, last, x.as_many)))

        this : IsGoneThrough wrong flawed more paths at part e
        this = record {
          sound = subst (λ node. IsFaultless wrong flawed node e) (sym (old_node at inside)) sound;
          to = length nodes;
          within = omega (arith, as_long);
          node = new_node;
          early = inl (new_path ∙ ap (λ l. l ++ part ∷ []) (sym (old_path at inside)));
        }

        part_edge : (k : ℕ) (d : EdgeView L) → (k ≡ part) ⊎ (k < part) → slice_get (leads (node_at nodes at)) k ≡ Some d →
            IsGoneThrough wrong flawed more paths at k d
        part_edge k d (inr before) there = still at k d inside (x.begun k d before there)
        part_edge k d (inl same) there =
            let alike : e ≡ d = cc (leaves, there, ap (slice_get (leads (node_at nodes at))) same) in
            subst (λ n. IsGoneThrough wrong flawed more paths at n d) (sym same) (subst (IsGoneThrough wrong flawed more paths at part) alike this)

  -- when all edges of a node have been visited, the next node follows
  pub next_node : (nodes : List (List ℕ)) (entered : List (Entered L)) (at part : ℕ) → at < length nodes → part ≡ length (leads (node_at nodes at)) →
      Explored leads wrong flawed first nodes entered at part → Explored leads wrong flawed first nodes entered (at + 1) 0
  next_node nodes entered at part inside all x = record {
    paths = x.paths;
    begins = x.begins;
    nowhere = x.nowhere;
    as_many = x.as_many;
    once = x.once;
    sound = x.sound;
    came = x.came;
    rising = x.rising;
    near = λ i within here. precedes_trans (x.paths i) (x.paths at ++ part ∷ []) (x.paths (at + 1) ++ 0 ∷ []) (x.near i within inside)
        (goes_on (x.paths at) (x.paths (at + 1)) part 0 (x.rising at (at + 1) (omega arith) here));
    closed = λ i k e below leaves. closed i k e (next_or_less i at below) leaves;
    begun = λ k e below leaves. absurd (omega (arith, below));
  }
    where
      closed : (i k : ℕ) (e : EdgeView L) → (i ≡ at) ⊎ (i < at) → slice_get (leads (node_at nodes i)) k ≡ Some e →
          IsGoneThrough wrong flawed nodes x.paths i k e
      closed i k e (inr old) leaves = x.closed i k e old leaves
      closed i k e (inl same) leaves =
          let here : slice_get (leads (node_at nodes at)) k ≡ Some e = subst (λ n. slice_get (leads (node_at nodes n)) k ≡ Some e) same leaves in
          subst (λ n. IsGoneThrough wrong flawed nodes x.paths n k e) (sym same)
          (x.begun k e (omega (arith, all, slice_get_within (leads (node_at nodes at)) k e here)) here)

  -- before the first edge
  pub first_node : Explored leads wrong flawed first (first ∷ []) [] 0 0
  first_node = record {
    paths = λ i. [];
    begins = refl;
    nowhere = refl;
    as_many = refl;
    once = λ i j d order within. absurd (omega (arith, order, within));
    sound = λ i fault above within. absurd (omega (arith, above, within));
    came = λ i by there. absurd (omega (arith, slice_get_within {A = Entered L} [] i by there));
    rising = λ i j order within. absurd (omega (arith, order, within));
    near = λ i within here. is_begun [] 0;
    closed = λ i k e below leaves. absurd (omega (arith, below));
    begun = λ k e below leaves. absurd (omega (arith, below));
  }
