-- Chains of the numbers of each bucket: adding one number, and searching them for a node.
use Rattle.std.proofs.Common.{◌≡◌, ℕ, zero, suc, ◌+◌, ◌-◌, ◌<◌, ◌≤◌, ◌==◌, leb, Bool, true, false, List, [], ◌∷◌, ◌++◌, length, map, take, take_all, get_or, set, refl, sym, ap, subst, ◌∙◌, arith, Contains}
use Rattle.std.proofs.lemmas.Bool.Decides.{nat_tests}
use Rattle.std.proofs.lemmas.List.{get_or-set_same, get_or-set_other, length-set, length-append, length-map, get_or-map, map-append}
use Rattle.std.proofs.Math.ListN.{get_or-append}
use Rattle.std.proofs.Math.Seq.{get_or-append_seam}
use Rattle.order_search.specs.Chains.{AreChained, AreChains, IsHighestBelow, bucket_of, bucket_with, hash_of}
use Rattle.order_search.specs.Numbers.{node_at}

-- what is below a place stays the same when one more number follows
still : (buckets : List ℕ) (more bucket from top : ℕ) → from ≤ length buckets →
    IsHighestBelow buckets bucket from top → IsHighestBelow (buckets ++ more ∷ []) bucket from top
still buckets more bucket from top within t = record {
  below = t.below;
  there = λ some. get_or-append buckets (more ∷ []) 0 (top - 1) (omega (arith, some, t.below, within)) ∙ t.there some;
  highest = λ i above under is. t.highest i above under (sym (get_or-append buckets (more ∷ []) 0 i (omega (arith, under, within))) ∙ is);
}

-- the new number is the highest of its bucket
newest : (buckets : List ℕ) (bucket from top : ℕ) → from ≡ length buckets + 1 → top ≡ length buckets + 1 →
    IsHighestBelow (buckets ++ bucket ∷ []) bucket from top
newest buckets bucket from top e f = record {
  below = omega (arith, e, f);
  there = λ some. ap (λ i. get_or (buckets ++ bucket ∷ []) i 0) (omega (arith, f)) ∙ get_or-append_seam buckets bucket [] 0;
  highest = λ i above under is. absurd (omega (arith, above, under, e, f));
}

-- and is in no other bucket
passed_over : (buckets : List ℕ) (more bucket from top : ℕ) → from ≡ length buckets + 1 → (more ≡ bucket → ⊥) →
    IsHighestBelow buckets bucket (length buckets) top →
    IsHighestBelow (buckets ++ more ∷ []) bucket from top
passed_over buckets more bucket from top e other t =
    let old = still buckets more bucket (length buckets) top (omega arith) t in record {
      below = omega (arith, e, t.below);
      there = old.there;
      highest = λ i above under is. by i above under is (i == length buckets) refl old;
    }
  where
    by : (i : ℕ) → top ≤ i → i < from → get_or (buckets ++ more ∷ []) i 0 ≡ bucket → (last : Bool) → (i == length buckets) ≡ last →
        IsHighestBelow (buckets ++ more ∷ []) bucket (length buckets) top → ⊥
    by i above under is true q old =
        let at : i ≡ length buckets = grind (arith, nat_tests) in
        other (sym (get_or-append_seam buckets more [] 0) ∙ ap (λ k. get_or (buckets ++ more ∷ []) k 0) (sym at) ∙ is)
    by i above under is false q old = old.highest i above (grind (arith, nat_tests)) is

-- one more number
pub number_added : (buckets heads links : List ℕ) (bucket top : ℕ) → bucket < length heads → top ≡ length links + 1 → AreChains buckets heads links →
    AreChains (buckets ++ bucket ∷ []) (set heads bucket top) (links ++ get_or heads bucket 0 ∷ [])
number_added buckets heads links bucket top inside e c = record {
  some = omega (arith, c.some, length-set heads bucket top);
  as_many = omega (arith, length-append links (get_or heads bucket 0 ∷ []), length-append buckets (bucket ∷ []), c.as_many);
  first = λ b within. head b (omega (arith, within, length-set heads bucket top)) (b == bucket) refl;
  next = λ number within. link number (omega (arith, within, length-append links (get_or heads bucket 0 ∷ []))) (number == length links) refl;
}
  where
    longer : length (buckets ++ bucket ∷ []) ≡ length buckets + 1
    longer = length-append buckets (bucket ∷ [])

    head : (b : ℕ) → b < length heads → (same : Bool) → (b == bucket) ≡ same →
        IsHighestBelow (buckets ++ bucket ∷ []) b (length (buckets ++ bucket ∷ [])) (get_or (set heads bucket top) b 0)
    head b within true q =
        let is : b ≡ bucket = grind (arith, nat_tests) in
        rw is (newest buckets bucket _ _ longer (get_or-set_same heads bucket top 0 inside ∙ e ∙ omega (arith, c.as_many)))
    head b within false q =
        let other : bucket ≡ b → ⊥ = λ is. (let no : ⊥ = grind (arith, nat_tests) in no) in
        let apart : b ≡ bucket → ⊥ = λ is. other (sym is) in
        subst (IsHighestBelow (buckets ++ bucket ∷ []) b (length (buckets ++ bucket ∷ []))) (sym (get_or-set_other heads bucket b top 0 apart))
        (passed_over buckets bucket b _ _ longer other (c.first b within))

    link : (number : ℕ) → number < length links + 1 → (last : Bool) → (number == length links) ≡ last →
        IsHighestBelow (buckets ++ bucket ∷ []) (get_or (buckets ++ bucket ∷ []) number 0) number (get_or (links ++ get_or heads bucket 0 ∷ []) number 0)
    link number within true q =
        let is : number ≡ length links = grind (arith, nat_tests) in
        let at : number ≡ length buckets = is ∙ c.as_many in
        let mine : get_or (buckets ++ bucket ∷ []) number 0 ≡ bucket =
        ap (λ k. get_or (buckets ++ bucket ∷ []) k 0) at ∙ get_or-append_seam buckets bucket [] 0 in
        let next : get_or (links ++ get_or heads bucket 0 ∷ []) number 0 ≡ get_or heads bucket 0 =
        ap (λ k. get_or (links ++ get_or heads bucket 0 ∷ []) k 0) is ∙ get_or-append_seam links (get_or heads bucket 0) [] 0 in
        subst (λ b. IsHighestBelow (buckets ++ bucket ∷ []) b number (get_or (links ++ get_or heads bucket 0 ∷ []) number 0)) (sym mine)
        (subst (IsHighestBelow (buckets ++ bucket ∷ []) bucket number) (sym next)
        (still buckets bucket bucket number (get_or heads bucket 0) (omega (arith, at))
        (subst (λ from. IsHighestBelow buckets bucket from (get_or heads bucket 0)) (sym at) (c.first bucket inside))))
    link number within false q =
        let under : number < length links = grind (arith, nat_tests) in
        let mine : get_or (buckets ++ bucket ∷ []) number 0 ≡ get_or buckets number 0 =
        get_or-append buckets (bucket ∷ []) 0 number (omega (arith, under, c.as_many)) in
        let next : get_or (links ++ get_or heads bucket 0 ∷ []) number 0 ≡ get_or links number 0 =
        get_or-append links (get_or heads bucket 0 ∷ []) 0 number under in
        subst (λ b. IsHighestBelow (buckets ++ bucket ∷ []) b number (get_or (links ++ get_or heads bucket 0 ∷ []) number 0)) (sym mine)
        (subst (IsHighestBelow (buckets ++ bucket ∷ []) (get_or buckets number 0) number) (sym next)
        (still buckets bucket _ number _ (omega (arith, under, c.as_many)) (c.next number under)))

-- the node is none of those from this number on, and the number below is in its bucket
pub record IsSought (buckets : List ℕ) (nodes : List (List ℕ)) (node : List ℕ) (bucket top : ℕ) : Type 0 where
  pub below : top ≤ length nodes
  pub there : 0 < top → get_or buckets (top - 1) 0 ≡ bucket
  pub none : (i : ℕ) → top ≤ i → i < length nodes → node_at nodes i ≡ node → ⊥

-- the bucket of a node of the list
bucket_at : (count : ℕ) (nodes : List (List ℕ)) (i : ℕ) → i < length nodes → get_or (map (bucket_of count) nodes) i 0 ≡ bucket_of count (node_at nodes i)
bucket_at count nodes i within = get_or-map (bucket_of count) nodes i [] 0 within

module _ (nodes : List (List ℕ)) (heads links : List ℕ) (node : List ℕ) (c : AreChains (map (bucket_of (length heads)) nodes) heads links) where
  -- before the search
  pub sought_first : (bucket : ℕ) → bucket ≡ bucket_of (length heads) node → bucket < length heads →
      IsSought (map (bucket_of (length heads)) nodes) nodes node bucket (get_or heads bucket 0)
  sought_first bucket e inside =
      let t = c.first bucket inside in record {
        below = omega (arith, t.below, length-map nodes (bucket_of (length heads)));
        there = t.there;
        none = λ i above within is. t.highest i above (omega (arith, within, length-map nodes (bucket_of (length heads))))
            (bucket_at (length heads) nodes i within ∙ ap (bucket_of (length heads)) is ∙ sym e);
      }

  -- one number further
  pub sought_next : (bucket top number : ℕ) → bucket ≡ bucket_of (length heads) node → number + 1 ≡ top → (node_at nodes number ≡ node → ⊥) →
      IsSought (map (bucket_of (length heads)) nodes) nodes node bucket top →
      IsSought (map (bucket_of (length heads)) nodes) nodes node bucket (get_or links number 0)
  sought_next bucket top number e at other s =
      let many : length (map (bucket_of (length heads)) nodes) ≡ length nodes = length-map nodes (bucket_of (length heads)) in
      let within : number < length links = omega (arith, at, s.below, c.as_many, many) in
      let mine : get_or (map (bucket_of (length heads)) nodes) number 0 ≡ bucket =
      ap (λ k. get_or (map (bucket_of (length heads)) nodes) k 0) (omega (arith, at)) ∙ s.there (omega (arith, at)) in
      let t = c.next number within in record {
        below = omega (arith, t.below, at, s.below);
        there = λ some. t.there some ∙ mine;
        none = λ i above under is. by i above under is t mine (leb number i) refl (i == number) refl;
      }
    where
      by : (i : ℕ) → get_or links number 0 ≤ i → i < length nodes → node_at nodes i ≡ node →
          IsHighestBelow (map (bucket_of (length heads)) nodes) (get_or (map (bucket_of (length heads)) nodes) number 0) number (get_or links number 0) →
          get_or (map (bucket_of (length heads)) nodes) number 0 ≡ bucket → (beyond : Bool) → leb number i ≡ beyond → (same : Bool) → (i == number) ≡ same → ⊥
      by i above under is t mine false p same q = t.highest i above (grind (arith, nat_tests))
          (bucket_at (length heads) nodes i under ∙ ap (bucket_of (length heads)) is ∙ sym e ∙ sym mine)
      by i above under is t mine true p true q = let at : i ≡ number = grind (arith, nat_tests) in other (ap (node_at nodes) (sym at) ∙ is)
      by i above under is t mine true p false q = s.none i (grind (arith, nat_tests)) under is

  -- at the end of its chain it is not among the nodes
  pub sought_last : (bucket top : ℕ) → top ≡ 0 → IsSought (map (bucket_of (length heads)) nodes) nodes node bucket top → ¬ Contains nodes node
  sought_last bucket top e s (i, within, is) = s.none i (omega (arith, e)) within
      (get_or_any nodes i node within ∙ is)
    where
      get_or_any : (list : List (List ℕ)) (k : ℕ) (d : List ℕ) → k < length list → get_or list k [] ≡ get_or list k d
      get_or_any [] k d h = absurd (omega (arith, h))
      get_or_any (x ∷ xs) zero d h = refl
      get_or_any (x ∷ xs) (suc k) d h = get_or_any xs k d (omega (arith, h))

pub ruleset seeking = (sought_first, sought_next, sought_last)

-- a node with another hash is a different node
hash_at : (nodes : List (List ℕ)) (hashes : List ℕ) (number : ℕ) → hashes ≡ map hash_of nodes → number < length nodes →
    get_or hashes number 0 ≡ hash_of (node_at nodes number)
hash_at nodes hashes number e within = ap (λ (l : List ℕ). get_or l number 0) e ∙ get_or-map hash_of nodes number [] 0 within

pub other_hash : (nodes : List (List ℕ)) (hashes node : List ℕ) (number hash : ℕ) → hashes ≡ map hash_of nodes → number < length nodes →
    hash ≡ hash_of node → (get_or hashes number 0 ≡ hash → ⊥) → node_at nodes number ≡ node → ⊥
other_hash nodes hashes node number hash e within is apart same = apart (hash_at nodes hashes number e within ∙ ap hash_of same ∙ sym is)

pub as_many_hashes : (nodes : List (List ℕ)) (hashes : List ℕ) → hashes ≡ map hash_of nodes → length hashes ≡ length nodes
as_many_hashes nodes hashes e = ap length e ∙ length-map nodes hash_of

pub ruleset telling = (other_hash, as_many_hashes)

-- the buckets of the hashes of nodes are those of the nodes
pub of_hashes : (count : ℕ) (nodes : List (List ℕ)) → map (bucket_with count) (map hash_of nodes) ≡ map (bucket_of count) nodes
unfolding bucket_of
of_hashes count [] = refl
of_hashes count (x ∷ xs) = ap (λ (l : List ℕ). bucket_with count (hash_of x) ∷ l) (of_hashes count xs)

-- the buckets, with one more hash
bucketed : (f : ℕ → ℕ) (hashes : List ℕ) (n : ℕ) → n < length hashes → map f (take (n + 1) hashes) ≡ map f (take n hashes) ++ f (get_or hashes n 0) ∷ []
bucketed f [] n within = absurd (omega (arith, within))
bucketed f (x ∷ xs) zero within = refl
bucketed f (x ∷ xs) (suc n) within =
    let one : suc n + 1 ≡ suc (n + 1) = omega arith in
    ap (λ k. map f (take k (x ∷ xs))) one ∙ ap (λ l. f x ∷ l) (bucketed f xs n (omega (arith, within)))

pub one_bucketed : (count n : ℕ) (hashes heads links : List ℕ) → n < length hashes →
    AreChains (map (bucket_with count) (take n hashes) ++ bucket_with count (get_or hashes n 0) ∷ []) heads links →
    AreChains (map (bucket_with count) (take (n + 1) hashes)) heads links
one_bucketed count n hashes heads links within c = subst (λ l. AreChains l heads links) (sym (bucketed (bucket_with count) hashes n within)) c

pub all_bucketed : (count n : ℕ) (hashes heads links : List ℕ) → length hashes ≤ n →
    AreChains (map (bucket_with count) (take n hashes)) heads links → AreChains (map (bucket_with count) hashes) heads links
all_bucketed count n hashes heads links past c = subst (λ l. AreChains (map (bucket_with count) l) heads links) (take_all n hashes past) c

pub ruleset chaining = (one_bucketed, all_bucketed)

-- as many buckets as chains
pub resized : (count : ℕ) (nodes : List (List ℕ)) (hashes heads links old_heads old_links : List ℕ) → length heads ≡ count →
    AreChained nodes hashes old_heads old_links → AreChains (map (bucket_with count) hashes) heads links → AreChained nodes hashes heads links
resized count nodes hashes heads links old_heads old_links e old c = record {
  hashed = old.hashed;
  chained = subst (λ n. AreChains (map (bucket_of n) nodes) heads links) (sym e)
      (subst (λ l. AreChains l heads links) (ap (map (bucket_with count)) old.hashed ∙ of_hashes count nodes) c);
}

-- one more node
pub node_chained : (nodes : List (List ℕ)) (hashes node heads links old_heads old_links : List ℕ) (hash bucket : ℕ) → length heads ≡ length old_heads →
    hash ≡ hash_of node → bucket ≡ bucket_with (length old_heads) hash → AreChained nodes hashes old_heads old_links →
    ((buckets : List ℕ) → AreChains buckets old_heads old_links → AreChains (buckets ++ bucket ∷ []) heads links) →
    AreChained (nodes ++ node ∷ []) (hashes ++ hash ∷ []) heads links
unfolding bucket_of
node_chained nodes hashes node heads links old_heads old_links hash bucket e is in_bucket old added = record {
  hashed = ap (λ (l : List ℕ). l ++ hash ∷ []) old.hashed ∙ ap (λ (h : ℕ). map hash_of nodes ++ h ∷ []) is ∙ sym (map-append hash_of nodes (node ∷ []));
  chained =
      let same : bucket ≡ bucket_of (length old_heads) node = in_bucket ∙ ap (bucket_with (length old_heads)) is in
      subst (λ n. AreChains (map (bucket_of n) (nodes ++ node ∷ [])) heads links) (sym e)
      (subst (λ l. AreChains l heads links) (ap (λ (b : ℕ). map (bucket_of (length old_heads)) nodes ++ b ∷ []) same
      ∙ sym (map-append (bucket_of (length old_heads)) nodes (node ∷ []))) (added (map (bucket_of (length old_heads)) nodes) old.chained));
}
