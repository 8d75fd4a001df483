-- The first move that leads on, and what is judged by means of it.
use Rattle.std.proofs.Common.{◌≡◌, ℕ, zero, suc, ◌+◌, ◌<◌, ◌≤◌, List, [], ◌∷◌, Option, Some, None, Bool, true, false, length, get_or, take, refl, sym, ap, subst, ◌∙◌, arith, filter}
use Rattle.std.specs.Prelude.{◌==◌, MatchOption}
use Rattle.std.proofs.lemmas.Bool.Decides.{nat_tests}
use Rattle.std.proofs.lemmas.List.{get_or_default}
use Rattle.std.specs.Option.{option_to_list}
use Rattle.rv_machine.specs.Machine.{Machine}
use Rattle.cf_bind.specs.declared.moves.Move.{Move}
use Rattle.cf_semantics.specs.moves.Candidates.{all_moves}
use Rattle.cf_semantics.specs.state.State.{State}
use Rattle.theory_orders.specs.Wrong.{IsStuckWrongly, leading}
use Rattle.order_keys.specs.declared.node.Node.{Node}
use Rattle.order_judging.specs.declared.judging.FailedTest.{FailedTest}
use Rattle.order_judging.specs.declared.judging.FailedTest.TheVariants as test
use Rattle.order_judging.specs.FirstTests.{IsStateJudged}
use Rattle.order_graph.specs.OrderTrial.{OrderTrial}
use Rattle.order_graph.specs.KeyGraph.{leads_from, moves_from}

-- if none passes the test, none is left
filtered : {A : Type 0} (passes : A → Bool) (xs : List A) (count : ℕ) → length xs ≤ count → ((k : ℕ) (d : A) → k < count → k < length xs →
    passes (get_or xs k d) ≡ false) → filter passes xs ≡ []
filtered passes [] count past none = refl
filtered passes (x ∷ xs) zero past none = absurd (omega (arith, past))
filtered passes (x ∷ xs) (suc count) past none =
    rw (none 0 x (omega arith) (omega arith)) (filtered passes xs count (omega (arith, past))
    (λ k d early within. none (suc k) d (omega (arith, early)) (omega (arith, within))))

-- if one is the first to pass the test, it is the first that is left
found_first : {A : Type 0} (passes : A → Bool) (xs : List A) (at : ℕ) (d : A) → at < length xs → ((k : ℕ) (d : A) → k < at → k < length xs →
    passes (get_or xs k d) ≡ false) → passes (get_or xs at d) ≡ true → get_or xs at d ∷ [] ≡ take 1 (filter passes xs)
found_first passes [] at d within none found = absurd (omega (arith, within))
found_first passes (x ∷ xs) zero d within none found = rw found refl
found_first passes (x ∷ xs) (suc at) d within none found =
    rw (none 0 x (omega arith) (omega arith)) (found_first passes xs at d (omega (arith, within))
    (λ k e early inside. none (suc k) e (omega (arith, early)) (omega (arith, inside))) found)

-- the search for the first that leads on
pub record IsPassedOver (t : OrderTrial) (n : Node) (moves : List Move) (count : ℕ) : Type 0 where
  pub all : moves ≡ all_moves t.plan
  pub none : (k : ℕ) (d : Move) → k < count → k < length moves → leads_from t n (get_or moves k d) ≡ false

pub passed_over : (t : OrderTrial) (n : Node) (moves : List Move) (count : ℕ) (d : Move) → leads_from t n (get_or moves count d) ≡ false →
    IsPassedOver t n moves count → IsPassedOver t n moves (count + 1)
passed_over t n moves count d here p = record { all = p.all; none = λ k e early within. by k e early within (k == count) refl }
  where
    by : (k : ℕ) (e : Move) → k < count + 1 → k < length moves → (last : Bool) → (k == count) ≡ last → leads_from t n (get_or moves k e) ≡ false
    by k e early within true q =
        let at : k ≡ count = grind (arith, nat_tests) in
        ap (leads_from t n) (get_or_default moves k e d within ∙ ap (λ i. get_or moves i d) at) ∙ here
    by k e early within false q = p.none k e (grind (arith, nat_tests)) within

pub first_found : (t : OrderTrial) (n : Node) (moves : List Move) (at : ℕ) (d : Move) → at < length moves → leads_from t n (get_or moves at d) ≡ true →
    IsPassedOver t n moves at → get_or moves at d ∷ [] ≡ take 1 (moves_from t n)
unfolding leading
first_found t n moves at d within found p =
    subst (λ (l : List Move). get_or moves at d ∷ [] ≡ take 1 (filter (leads_from t n) l)) p.all (found_first (leads_from t n) moves at d within p.none found)

pub none_found : (t : OrderTrial) (n : Node) (moves : List Move) (count : ℕ) → length moves ≤ count → IsPassedOver t n moves count →
    [] ≡ take 1 (moves_from t n)
unfolding leading
none_found t n moves count past p =
    subst (λ (l : List Move). [] ≡ take 1 (filter (leads_from t n) l)) p.all (ap (take 1) (sym (filtered (leads_from t n) moves count past p.none)))

pub ruleset firsts = (passed_over, first_found, none_found)

-- the first move as a list
pub listed : (found : Option Move) (list : List Move) → MatchOption found (list ≡ []) (λ m. list ≡ m ∷ []) → list ≡ option_to_list found
listed None list h = h
listed (Some m) list h = h

-- a state is stuck if no move leads on, and the first of them shows this
stuck : (l : List Move) (s : State) → IsStuckWrongly (take 1 l) s → IsStuckWrongly l s
stuck [] s h = h
stuck (m ∷ l) s h = absurd (let e = h.none in cc)

stuck_by_first : (l : List Move) (s : State) → IsStuckWrongly l s → IsStuckWrongly (take 1 l) s
stuck_by_first [] s h = h
stuck_by_first (m ∷ l) s h = absurd (let e = h.none in cc)

pub judged_by_first : (x : Machine) (l : List Move) (s : State) (found : Option FailedTest) → IsStateJudged x (take 1 l) s found → IsStateJudged x l s found
judged_by_first x l s None h = (λ k. h.0 (stuck_by_first l s k), h.1)
judged_by_first x l s (Some test.Stuck) h = stuck l s h
judged_by_first x l s (Some test.Memory) h = (λ k. h.0 (stuck_by_first l s k), h.1)
judged_by_first x l s (Some test.Retired) h = h
judged_by_first x l s (Some test.Ended) h = h
judged_by_first x l s (Some test.Output) h = h
