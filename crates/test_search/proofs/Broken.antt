-- The fault of an edge is that of the node that it leads to.
use Rattle.std.proofs.Common.{◌≡◌, ℕ, List, [], ◌∷◌, Option, Some, None, Bool, true, false, refl, sym, ap, ◌∙◌, arith, ◌⊎◌, inl, inr}
use Rattle.std.specs.Prelude.{◌==◌, slice_index, MatchOption, if◌then◌else◌}
use Rattle.std.specs.List.{All}
use Rattle.std.proofs.lemmas.Bool.Decides.{nat_tests}
use Rattle.std.proofs.lemmas.List.Elements.{All-cons, All-nil}
use Rattle.order_search.specs.declared.graph.Edge.{Edge}
use Rattle.order_search.specs.Paths.{EdgeView, HasEdgeFault}
use Rattle.order_search.specs.Views.{IsJudged}
use Rattle.test_search.specs.Ladders.{IsBroken, fault_at}

-- the fault of an edge to the node with a number: edges have none of their own
along : (broken : Option ℕ) (from node : List ℕ) (label number : ℕ) (fault : Option ℕ) → fault ≡ fault_at broken number → node ≡ number ∷ [] →
    MatchOption fault ((f : ℕ) → HasEdgeFault (λ (k : List ℕ) (d : EdgeView ℕ) (g : ℕ). ⊥) (IsBroken broken) from (record { label = label; node = node }) f → ⊥)
    (λ f. HasEdgeFault (λ (k : List ℕ) (d : EdgeView ℕ) (g : ℕ). ⊥) (IsBroken broken) from (record { label = label; node = node }) f)
unfolding HasEdgeFault
along broken from node label number fault e is = by broken fault e
  where
    first : slice_index node 0 ≡ number
    first = ap (λ l. slice_index l 0) is

    here : (b : ℕ) (some : Option ℕ) (same : Bool) → (b == number) ≡ same → some ≡ (if same then Some number else None) →
        MatchOption some ((f : ℕ) → ⊥ ⊎ (((other : ℕ) → ⊥ → ⊥) × IsBroken (Some b) node f) → ⊥) (λ f. ⊥ ⊎ (((other : ℕ) → ⊥ → ⊥) × IsBroken (Some b) node f))
    here b None true q e = absurd (cc)
    here b (Some f) true q e =
        let at : b ≡ number = grind (arith, nat_tests) in
        let told : f ≡ number = cc in
        inr (λ other w. w, (ap Some (at ∙ sym first), told ∙ sym first))
    here b None false q e = λ f w. no f w
      where
        no : (f : ℕ) → ⊥ ⊎ (((other : ℕ) → ⊥ → ⊥) × IsBroken (Some b) node f) → ⊥
        no f (inl w) = w
        no f (inr (none, (same, told))) = let at : b ≡ number = cc in (let wrong : ⊥ = grind (arith, nat_tests) in wrong)
    here b (Some f) false q e = absurd (cc)

    by : (broken : Option ℕ) (some : Option ℕ) → some ≡ fault_at broken number →
        MatchOption some ((f : ℕ) → ⊥ ⊎ (((other : ℕ) → ⊥ → ⊥) × IsBroken broken node f) → ⊥) (λ f. ⊥ ⊎ (((other : ℕ) → ⊥ → ⊥) × IsBroken broken node f))
    by None None e = λ f w. nothing f w
      where
        nothing : (f : ℕ) → ⊥ ⊎ (((other : ℕ) → ⊥ → ⊥) × IsBroken None node f) → ⊥
        nothing f (inl w) = w
        nothing f (inr (none, (same, told))) = absurd (cc)
    by None (Some f) e = absurd (cc)
    by (Some b) some e = here b some (b == number) refl e

pub judged : (broken : Option ℕ) (from : List ℕ) (e : Edge ℕ ℕ) (number : ℕ) → e.fault ≡ fault_at broken number → e.node.items ≡ number ∷ [] →
    IsJudged (HasEdgeFault (λ (k : List ℕ) (d : EdgeView ℕ) (g : ℕ). ⊥) (IsBroken broken) from) e
judged broken from e number fault node = along broken from e.node.items e.label number e.fault fault node

pub both_judged : (broken : Option ℕ) (from : List ℕ) (edges : List (Edge ℕ ℕ)) (left right : Edge ℕ ℕ) (number : ℕ) → edges ≡ left ∷ right ∷ [] →
    left.fault ≡ fault_at broken number → left.node.items ≡ number ∷ [] → right.fault ≡ fault_at broken number → right.node.items ≡ number ∷ [] →
    All (IsJudged (HasEdgeFault (λ (k : List ℕ) (d : EdgeView ℕ) (g : ℕ). ⊥) (IsBroken broken) from)) edges
both_judged broken from edges left right number e left_fault left_node right_fault right_node =
    let first = judged broken from left number left_fault left_node in
    let second = judged broken from right number right_fault right_node in
    let told = IsJudged (HasEdgeFault (λ (k : List ℕ) (d : EdgeView ℕ) (g : ℕ). ⊥) (IsBroken broken) from) in
    rw e (All-cons told left (right ∷ []) first (All-cons told right [] second (All-nil told)))

pub ruleset breaking = (judged, both_judged)
