-- The counts of routes from which no more follow are those of the graph.
use Rattle.std.proofs.Common.{◌≡◌, ◌≢◌, cond, ℕ, zero, suc, ◌+◌, ◌<◌, ◌^◌, List, [], ◌∷◌, length, get_or, slice_get, replicate, Bool, true, false, refl, sym, ap, subst, ◌∙◌, arith, ◌⊎◌, inl, inr, Some}
use Rattle.std.specs.List.{fold}
use Rattle.std.specs.Prelude.{nat_lt}
use Rattle.std.proofs.lemmas.Bool.{cases_order}
use Rattle.std.proofs.lemmas.List.{get_or-set_same, get_or-set_other, length-set, length-replicate}
use Rattle.order_search.specs.declared.orders.Count.{Count}
use Rattle.order_search.specs.declared.orders.Count.TheVariants.{Open, Exactly, More}
use Rattle.order_search.specs.declared.orders.Orders.{Orders}
use Rattle.order_search.specs.Counting.{is_open_count, plus_count, count_at, count_of, counted_orders, CountFollows, Sweeps, unchanged, one_more, IsStuckFrom, IsSettled}
use Rattle.order_search.specs.Numbers.{node_at}
use Rattle.order_search.specs.Paths.{EdgeView, EdgesOf, IsEdgePath}
use Rattle.order_search.specs.Routes.{HasPath, AreOrders}
use Rattle.order_search.specs.Rows.{AreTargets, IsTarget, AreRows, numbered_row}
use Rattle.order_search.proofs.Counts.{many, IsCount, AreCounts, deepened, followed}

open_still : (a b : Count) → is_open_count (plus_count a b) ≡ true → (is_open_count a ≡ true) ⊎ (is_open_count b ≡ true)
open_still a Open h = inr refl
open_still Open (Exactly n) h = inl refl
open_still (Exactly m) (Exactly n) h = absurd (known (nat_lt (m + n) (2 ^ 64)) h)
  where
    known : (less : Bool) → is_open_count (cond less (Exactly (m + n)) More) ≡ true → ⊥
    known true h = cc
    known false h = cc
open_still More (Exactly n) h = absurd (cc)
open_still Open More h = inl refl
open_still (Exactly m) More h = absurd (cc)
open_still More More h = absurd (cc)

all_open : (n i : ℕ) → count_at (replicate n Open) i ≡ Open
all_open zero i = refl
all_open (suc n) zero = refl
all_open (suc n) (suc i) = all_open n i

module _ {L : Type 0} (leads : EdgesOf L) (nodes : List (List ℕ)) (rows : List (List ℕ)) (targets : AreRows leads nodes rows) where
  -- the counts at some depth
  pub record AreKnown (counts : List Count) : Type 0 where
    pub depth : ℕ
    pub counted : AreCounts leads nodes depth counts
    pub as_many : length counts ≡ length rows

  one_follows : (old new : List Count) (number : ℕ) → AreKnown old → CountFollows rows old new number → AreKnown new
  one_follows old new number h f = record {
    depth = suc h.depth;
    counted = λ i. by i (cases_order i number);
    as_many = ap length f.new_is ∙ length-set old number (count_of old (numbered_row rows number)) ∙ h.as_many;
  }
    where
      this : IsCount leads (suc h.depth) (node_at nodes number) (count_of old (numbered_row rows number))
      this = followed leads nodes h.depth old (node_at nodes number) (numbered_row rows number) h.counted (targets number (omega (arith, f.within, h.as_many)))

      other : (i : ℕ) → i ≢ number → IsCount leads (suc h.depth) (node_at nodes i) (count_at new i)
      other i apart = subst (IsCount leads (suc h.depth) (node_at nodes i))
          (sym (ap (λ l. get_or l i Open) f.new_is ∙ get_or-set_other old number i (count_of old (numbered_row rows number)) Open apart))
          (deepened leads h.depth (node_at nodes i) (count_at old i) (h.counted i))

      by : (i : ℕ) → (i ≡ number) ⊎ ((i < number) ⊎ (number < i)) → IsCount leads (suc h.depth) (node_at nodes i) (count_at new i)
      by i (inl same) = subst (λ n. IsCount leads (suc h.depth) (node_at nodes n) (count_at new n)) (sym same)
          (subst (IsCount leads (suc h.depth) (node_at nodes number))
          (sym (ap (λ l. get_or l number Open) f.new_is ∙ get_or-set_same old number (count_of old (numbered_row rows number)) Open f.within)) this)
      by i (inr (inl below)) = other i (λ same. omega (arith, below, same))
      by i (inr (inr above)) = other i (λ same. omega (arith, above, same))

  -- all counts that have followed are right
  pub swept : (counts : List Count) → Sweeps rows (replicate (length rows) Open) counts → AreKnown counts
  swept counts (unchanged _ same) = record {
    depth = 0;
    counted = λ i. subst (λ l. IsCount leads 0 (node_at nodes i) (count_at l i)) (sym same)
        (subst (IsCount leads 0 (node_at nodes i)) (sym (all_open (length rows) i)) tt);
    as_many = ap length same ∙ length-replicate (length rows) Open;
  }
  swept counts (one_more before _ number rest follows) = one_follows before counts number (swept before rest) follows

  -- an edge to a node whose count is open
  record LeadsToOpen (counts : List Count) (es : List (EdgeView L)) : Type 0 where
    place : ℕ
    edge : EdgeView L
    at_place : slice_get es place ≡ Some edge
    to : ℕ
    target : IsTarget nodes to edge
    is_open_there : is_open_count (count_at counts to) ≡ true

  behind : (counts : List Count) (e : EdgeView L) (es : List (EdgeView L)) → LeadsToOpen counts es → LeadsToOpen counts (e ∷ es)
  behind counts e es h = record {
    place = suc h.place;
    edge = h.edge;
    at_place = h.at_place;
    to = h.to;
    target = h.target;
    is_open_there = h.is_open_there;
  }

  -- if a sum is open, one of the counts is
  open_part : (counts : List Count) (sum : Count) (row : List ℕ) (es : List (EdgeView L)) → AreTargets nodes row es →
      is_open_count (fold (λ s n. plus_count s (count_at counts n)) sum row) ≡ true → (is_open_count sum ≡ true) ⊎ LeadsToOpen counts es
  open_part counts sum [] es all h = inl h
  open_part counts sum (to ∷ row) [] all h = absurd all
  open_part counts sum (to ∷ row) (e ∷ es) all h = by (open_part counts (plus_count sum (count_at counts to)) row es all.1 h)
    where
      first : (is_open_count sum ≡ true) ⊎ (is_open_count (count_at counts to) ≡ true) → (is_open_count sum ≡ true) ⊎ LeadsToOpen counts (e ∷ es)
      first (inl early) = inl early
      first (inr here) = inr record { place = zero; edge = e; at_place = refl; to = to; target = all.0; is_open_there = here }

      by : (is_open_count (plus_count sum (count_at counts to)) ≡ true) ⊎ LeadsToOpen counts es → (is_open_count sum ≡ true) ⊎ LeadsToOpen counts (e ∷ es)
      by (inl early) = first (open_still sum (count_at counts to) early)
      by (inr rest) = inr (behind counts e es rest)

  open_edge : (counts : List Count) (row : List ℕ) (es : List (EdgeView L)) → AreTargets nodes row es → is_open_count (count_of counts row) ≡ true →
      LeadsToOpen counts es
  open_edge counts [] es all h = absurd (cc)
  open_edge counts (to ∷ row) es all h = by (open_part counts (Exactly 0) (to ∷ row) es all h)
    where
      by : (is_open_count (Exactly 0) ≡ true) ⊎ LeadsToOpen counts es → LeadsToOpen counts es
      by (inl never) = absurd (cc)
      by (inr found) = found

  -- so if no count follows, there are paths of any number of edges from an open node
  endless : (counts : List Count) → length rows ≡ length nodes → IsStuckFrom rows counts 0 → (count i : ℕ) → i < length rows →
      is_open_count (count_at counts i) ≡ true → HasPath leads (node_at nodes i) count
  unfolding IsEdgePath
  endless counts whole stuck zero i within open_here = record { places = []; edges = []; path = tt; long = refl }
  endless counts whole stuck (suc count) i within open_here =
      let next = open_edge counts (numbered_row rows i) (leads (node_at nodes i)) (targets i within) (stuck i (omega arith) within open_here) in
      let rest = endless counts whole stuck count next.to (omega (arith, next.target.within, whole)) next.is_open_there in record {
        places = next.place ∷ rest.places;
        edges = next.edge ∷ rest.edges;
        path = (next.at_place, subst (λ n. IsEdgePath leads n rest.places rest.edges) next.target.node rest.path);
        long = ap suc rest.long;
      }

  -- the answer of the counts is true
  pub answered : (answer : Orders) → length rows ≡ length nodes → 0 < length rows → IsSettled rows answer → AreOrders leads (node_at nodes 0) answer
  answered answer whole some h = subst (AreOrders leads (node_at nodes 0)) (sym h.is) (by (count_at h.counts 0) refl)
    where
      all : AreKnown h.counts
      all = swept h.counts h.swept

      by : (count : Count) → count_at h.counts 0 ≡ count → AreOrders leads (node_at nodes 0) (counted_orders count)
      by Open is = λ count. endless h.counts whole h.stuck count 0 some (ap is_open_count is)
      by (Exactly n) is = let k = subst (IsCount leads all.depth (node_at nodes 0)) is (all.counted 0) in
          record { depth = all.depth; bounded = k.0; whole = k.1 }
      by More is = let k = subst (IsCount leads all.depth (node_at nodes 0)) is (all.counted 0) in
          record { count = many leads all.depth (node_at nodes 0); routes = record { depth = all.depth; bounded = k.0; whole = refl }; many = k.1 }
