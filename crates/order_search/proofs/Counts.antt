-- What counts of routes say about a graph: each known count is right, and so are those that follow.
use Rattle.std.proofs.Common.{◌≡◌, ℕ, zero, suc, ◌+◌, ◌≤◌, ◌^◌, List, [], ◌∷◌, ◌++◌, length, slice_get, Bool, true, false, cond, refl, sym, ap, subst, ◌∙◌, arith, Some}
use Rattle.std.specs.List.{flat_map, fold, sum_by}
use Rattle.std.specs.Prelude.{nat_lt}
use Rattle.std.proofs.lemmas.Bool.Decides.{nat_tests}
use Rattle.std.proofs.lemmas.List.{length-map, append_assoc, append-nil}
use Rattle.std.proofs.lemmas.List.Concat.{length-flat_map}
use Rattle.std.proofs.lemmas.List.Sums.{sum_by_push, sum_by-cons}
use Rattle.order_search.specs.declared.orders.Count.{Count}
use Rattle.order_search.specs.declared.orders.Count.TheVariants.{Open, Exactly, More}
use Rattle.order_search.specs.Counting.{plus_count, count_at, count_of}
use Rattle.order_search.specs.Numbers.{node_at}
use Rattle.order_search.specs.Paths.{EdgeView, EdgesOf, IsEdgePath}
use Rattle.order_search.specs.Routes.{is_none, each_behind, routes, HasPathsUpTo}
use Rattle.order_search.specs.Rows.{AreTargets}

pub slice_get_seam : {X : Type 0} (xs : List X) (y : X) (ys : List X) → slice_get (xs ++ y ∷ ys) (length xs) ≡ Some y
slice_get_seam [] y ys = refl
slice_get_seam (x ∷ xs) y ys = slice_get_seam xs y ys

module _ {L : Type 0} (leads : EdgesOf L) where
  -- the number of routes of at most `depth` edges from a node
  abbrev pub many : ℕ → List ℕ → ℕ
  many depth node = length (routes leads depth node)

  many_alike : (depth : ℕ) (es : List (EdgeView L)) → sum_by (λ e. length (each_behind e.label (routes leads depth e.node))) es ≡ sum_by
      (λ e. many depth e.node) es
  many_alike depth [] = refl
  many_alike depth (e ∷ es) =
      let first = length-map (routes leads depth e.node) (λ route. e.label ∷ route) in
      let rest = many_alike depth es in
      sum_by-cons (λ d. length (each_behind d.label (routes leads depth d.node))) e es
      ∙ omega (arith, first, rest)
      ∙ sym (sum_by-cons (λ d. many depth d.node) e es)

  -- at a node with outgoing edges
  many_on : (depth : ℕ) (node : List ℕ) (e : EdgeView L) (es : List (EdgeView L)) → leads node ≡ e ∷ es →
      many (suc depth) node ≡ sum_by (λ d. many depth d.node) (e ∷ es)
  unfolding routes
  many_on depth node e es is =
      ap (λ l. length (cond (is_none l) ([] ∷ []) (flat_map (λ d. each_behind d.label (routes leads depth d.node)) l))) is
      ∙ length-flat_map (λ d. each_behind d.label (routes leads depth d.node)) (e ∷ es)
      ∙ many_alike depth (e ∷ es)

  -- at a node without outgoing edges
  one_at_end : (depth : ℕ) (node : List ℕ) → leads node ≡ [] → routes leads depth node ≡ [] ∷ []
  unfolding routes
  one_at_end zero node is = ap (λ l. cond (is_none l) ([] ∷ []) []) is
  one_at_end (suc depth) node is =
      ap (λ l. cond (is_none l) ([] ∷ []) (flat_map (λ d. each_behind d.label (routes leads depth d.node)) l)) is

  -- the paths from the targets of these edges have at most this many edges
  abbrev pub AreBounded : ℕ → List (EdgeView L) → Type 0
  AreBounded depth [] = Unit {0}
  AreBounded depth (e ∷ es) = HasPathsUpTo leads depth e.node × AreBounded depth es

  bounded_at : (depth : ℕ) (es : List (EdgeView L)) (k : ℕ) (e : EdgeView L) → AreBounded depth es → slice_get es k ≡ Some e →
      HasPathsUpTo leads depth e.node
  bounded_at depth [] k e all there = absurd (cc)
  bounded_at depth (d ∷ ds) zero e all there = let same : d ≡ e = cc in subst (λ c. HasPathsUpTo leads depth c.node) same all.0
  bounded_at depth (d ∷ ds) (suc k) e all there = bounded_at depth ds k e all.1 there

  bounded_push : (depth : ℕ) (es : List (EdgeView L)) (e : EdgeView L) → AreBounded depth es → HasPathsUpTo leads depth e.node → AreBounded depth
      (es ++ e ∷ [])
  bounded_push depth [] e all last = (last, tt)
  bounded_push depth (d ∷ ds) e all last = (all.0, bounded_push depth ds e all.1 last)

  -- so the paths from their source have at most one more
  bounded_on : (depth : ℕ) (node : List ℕ) → AreBounded depth (leads node) → HasPathsUpTo leads (suc depth) node
  unfolding IsEdgePath
  bounded_on depth node all [] [] path = omega arith
  bounded_on depth node all [] (e ∷ es) path = absurd path
  bounded_on depth node all (p ∷ ps) [] path = absurd path
  bounded_on depth node all (p ∷ ps) (e ∷ es) path = omega (arith, bounded_at depth (leads node) p e all path.0 ps es path.1)

  -- and conversely
  bounded_behind : (depth : ℕ) (node : List ℕ) (before es : List (EdgeView L)) → leads node ≡ before ++ es → HasPathsUpTo leads (suc depth) node →
      AreBounded depth es
  unfolding IsEdgePath
  bounded_behind depth node before [] is all = tt
  bounded_behind depth node before (e ∷ es) is all = (
    λ ps ds path. omega (arith, all (length before ∷ ps) (e ∷ ds) (ap (λ l. slice_get l (length before)) is ∙ slice_get_seam before e es, path)),
    bounded_behind depth node (before ++ e ∷ []) es (is ∙ sym (append_assoc before (e ∷ []) es)) all,
  )

  routes_alike : (depth : ℕ) (es : List (EdgeView L)) → AreBounded depth es → ((e : EdgeView L) → HasPathsUpTo leads depth e.node →
      routes leads (suc depth) e.node ≡ routes leads depth e.node) →
      flat_map (λ e. each_behind e.label (routes leads (suc depth) e.node)) es ≡ flat_map (λ e. each_behind e.label (routes leads depth e.node)) es
  routes_alike depth [] all same = refl
  routes_alike depth (e ∷ es) all same =
      let first = ap (each_behind e.label) (same e all.0) in let rest = routes_alike depth es all.1 same in cc

  -- no route is longer than the longest path
  deeper : (depth : ℕ) (node : List ℕ) → HasPathsUpTo leads depth node → routes leads (suc depth) node ≡ routes leads depth node
  unfolding routes IsEdgePath
  deeper zero node all = by (leads node) refl
    where
      by : (es : List (EdgeView L)) → leads node ≡ es → routes leads (suc zero) node ≡ routes leads zero node
      by [] is = one_at_end (suc zero) node is ∙ sym (one_at_end zero node is)
      by (e ∷ es) is = absurd (omega (arith, all (0 ∷ []) (e ∷ []) (ap (λ l. slice_get l 0) is, tt)))
  deeper (suc depth) node all = by (λ e h. deeper depth e.node h) (leads node) refl
    where
      by : ((e : EdgeView L) → HasPathsUpTo leads depth e.node → routes leads (suc depth) e.node ≡ routes leads depth e.node) →
          (es : List (EdgeView L)) → leads node ≡ es → routes leads (suc (suc depth)) node ≡ routes leads (suc depth) node
      by same [] is = one_at_end (suc (suc depth)) node is ∙ sym (one_at_end (suc depth) node is)
      by same (e ∷ es) is =
          ap (λ l. cond (is_none l) ([] ∷ []) (flat_map (λ d. each_behind d.label (routes leads (suc depth) d.node)) l)) is
          ∙ routes_alike depth (e ∷ es) (bounded_behind depth node [] (e ∷ es) is all) same
          ∙ ap (λ l. cond (is_none l) ([] ∷ []) (flat_map (λ d. each_behind d.label (routes leads depth d.node)) l)) (sym is)

  -- a count says how many routes lead from a node, all of which have at most `depth` edges
  abbrev pub IsCount : ℕ → List ℕ → Count → Type 0
  IsCount depth node Open = Unit {0}
  IsCount depth node (Exactly n) = HasPathsUpTo leads depth node × (n ≡ many depth node)
  IsCount depth node More = HasPathsUpTo leads depth node × (2 ^ 64 ≤ many depth node)

  -- and for all nodes to which edges lead
  abbrev pub IsSum : ℕ → List (EdgeView L) → Count → Type 0
  IsSum depth es Open = Unit {0}
  IsSum depth es (Exactly n) = AreBounded depth es × (n ≡ sum_by (λ e. many depth e.node) es)
  IsSum depth es More = AreBounded depth es × (2 ^ 64 ≤ sum_by (λ e. many depth e.node) es)

  weaker : (depth : ℕ) (node : List ℕ) → HasPathsUpTo leads depth node → HasPathsUpTo leads (suc depth) node
  weaker depth node all ps es path = omega (arith, all ps es path)

  -- what a count says holds at a greater depth
  pub deepened : (depth : ℕ) (node : List ℕ) (count : Count) → IsCount depth node count → IsCount (suc depth) node count
  deepened depth node Open h = tt
  deepened depth node (Exactly n) h = (weaker depth node h.0, h.1 ∙ ap length (sym (deeper depth node h.0)))
  deepened depth node More h = (weaker depth node h.0, omega (arith, h.1, ap length (deeper depth node h.0)))

  added : (depth : ℕ) (es : List (EdgeView L)) (e : EdgeView L) (sum count : Count) → IsSum depth es sum → IsCount depth e.node count →
      IsSum depth (es ++ e ∷ []) (plus_count sum count)
  added depth es e sum Open h k = tt
  added depth es e Open (Exactly n) h k = tt
  added depth es e (Exactly m) (Exactly n) h k = by (nat_lt (m + n) (2 ^ 64)) refl
    where
      whole : m + n ≡ sum_by (λ d. many depth d.node) (es ++ e ∷ [])
      whole = omega (arith, h.1, k.1, sum_by_push (λ d. many depth d.node) es e)

      all : AreBounded depth (es ++ e ∷ [])
      all = bounded_push depth es e h.0 k.0

      by : (less : Bool) → nat_lt (m + n) (2 ^ 64) ≡ less → IsSum depth (es ++ e ∷ []) (cond less (Exactly (m + n)) More)
      by true is = (all, whole)
      by false is = let past : 2 ^ 64 ≤ m + n = grind (arith, nat_tests) in (all, omega (arith, past, whole))
  added depth es e More (Exactly n) h k =
      (bounded_push depth es e h.0 k.0, omega (arith, h.1, sum_by_push (λ d. many depth d.node) es e))
  added depth es e Open More h k = tt
  added depth es e (Exactly m) More h k =
      (bounded_push depth es e h.0 k.0, omega (arith, k.1, sum_by_push (λ d. many depth d.node) es e))
  added depth es e More More h k =
      (bounded_push depth es e h.0 k.0, omega (arith, k.1, sum_by_push (λ d. many depth d.node) es e))

  module _ (nodes : List (List ℕ)) where
    -- all counts are right
    abbrev pub AreCounts : ℕ → List Count → Type 0
    AreCounts depth counts = (i : ℕ) → IsCount depth (node_at nodes i) (count_at counts i)

    summed : (depth : ℕ) (counts : List Count) → AreCounts depth counts → (before : List (EdgeView L)) (sum : Count) (row : List ℕ) (es : List
        (EdgeView L)) →
        IsSum depth before sum → AreTargets nodes row es → IsSum depth (before ++ es) (fold (λ s to. plus_count s (count_at counts to)) sum row)
    summed depth counts all before sum [] [] h targets = subst (λ l. IsSum depth l sum) (sym (append-nil before)) h
    summed depth counts all before sum [] (e ∷ es) h targets = absurd targets
    summed depth counts all before sum (to ∷ row) [] h targets = absurd targets
    summed depth counts all before sum (to ∷ row) (e ∷ es) h targets =
        subst (λ l. IsSum depth l (fold (λ s n. plus_count s (count_at counts n)) (plus_count sum (count_at counts to)) row)) (append_assoc before (e ∷ []) es)
        (summed depth counts all (before ++ e ∷ []) (plus_count sum (count_at counts to)) row es
        (added depth before e sum (count_at counts to) h (subst (λ n. IsCount depth n (count_at counts to)) targets.0.node (all to))) targets.1)

    -- the count of a node follows
    pub followed : (depth : ℕ) (counts : List Count) (node : List ℕ) (row : List ℕ) → AreCounts depth counts → AreTargets nodes row (leads node) →
        IsCount (suc depth) node (count_of counts row)
    followed depth counts node row all targets = by row (leads node) refl targets
      where
        on : (e : EdgeView L) (es : List (EdgeView L)) → leads node ≡ e ∷ es → (count : Count) → IsSum depth (e ∷ es) count → IsCount (suc depth) node count
        on e es is Open h = tt
        on e es is (Exactly n) h = (bounded_on depth node (subst (AreBounded depth) (sym is) h.0), h.1 ∙ sym (many_on depth node e es is))
        on e es is More h = (bounded_on depth node (subst (AreBounded depth) (sym is) h.0), omega (arith, h.1, many_on depth node e es is))

        by : (row : List ℕ) (es : List (EdgeView L)) → leads node ≡ es → AreTargets nodes row es → IsCount (suc depth) node (count_of counts row)
        by [] [] is targets = (bounded_on depth node (subst (AreBounded depth) (sym is) tt), sym (ap length (one_at_end (suc depth) node is)))
        by [] (e ∷ es) is targets = absurd targets
        by (to ∷ row) [] is targets = absurd targets
        by (to ∷ row) (e ∷ es) is targets = on e es is (count_of counts (to ∷ row))
            (summed depth counts all [] (Exactly 0) (to ∷ row) (e ∷ es) (tt, refl) targets)
