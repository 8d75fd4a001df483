-- A round has at most 96 moves: each uses a stage or a cell of a siding of its own.
use Rattle.std.proofs.Common.{◌≡◌, ℕ, ◌+◌, ◌-◌, ◌*◌, ◌<◌, ◌≤◌, Bool, true, false, eqb, nat_eq, List, [], ◌∷◌, length, map, refl, ap, ◌∙◌, arith}
use Rattle.std.specs.Prelude.{◌||◌, ◌&&◌}
use Rattle.std.specs.List.{AllByRecursion, IsDistinct, list_any}
use Rattle.std.proofs.lemmas.Bool.Decides.{nat_tests}
use Rattle.std.proofs.lemmas.List.{length-map}
use Rattle.std.proofs.lemmas.Map.Steps.{length-le_from_distinct_below}
use Rattle.cf_layout.specs.Accepted.{IsAccepted}
use Rattle.cf_layout.specs.Layout.{Plan, cells_of}
use Rattle.cf_bind.specs.declared.moves.Move.{Move}
use Rattle.cf_bind.specs.declared.moves.Move.TheVariants.{Issue, Emit, Climb, Fall, Meet, Execute, Send, Launch, Slide, Access, Recover, Leave, Exit, Serve}
use Rattle.cf_semantics.specs.state.Layouts.{port}
use Rattle.cf_semantics.specs.moves.Sites.{Site, Stage, SidingCell}
use Rattle.cf_index.specs.Sites.{HasSites, LayoutHasSite, shares, uses_place}
use Rattle.cf_index.proofs.SharedSites.{shared_at, used_there}
use Rattle.cf_index.proofs.SiteWords.{siding_within}
use Rattle.cf_rounds.specs.Rounds.{AreApart}

-- a stage or a cell that the move uses, by the number of both
data Home : Type 0 where
  AtStage : ℕ → Home
  AtCell : ℕ → ℕ → Home

abbrev home : Plan → Move → Home
home plan (Issue g) = AtStage 1
home plan Emit = AtStage plan.stages
home plan (Climb i) = AtStage i
home plan (Fall i) = AtStage i
home plan (Meet i) = AtStage i
home plan (Execute i) = AtStage i
home plan (Send i) = AtStage i
home plan (Launch i) = AtStage i
home plan (Slide k c) = AtCell k c
home plan Access = AtCell (port plan) (cells_of plan (port plan) - 1)
home plan (Recover i) = AtStage i
home plan Leave = AtStage plan.stages
home plan Exit = AtStage 1
home plan Serve = AtStage plan.stages

abbrev site_of : Home → Site
site_of (AtStage i) = Stage i
site_of (AtCell k c) = SidingCell k c

-- the stages first, and then eight cells for each siding
abbrev number_of : Home → ℕ
number_of (AtStage i) = i - 1
number_of (AtCell k c) = 32 + (8 * k + c)

self : (n : ℕ) (b : Bool) → (nat_eq n n || b) ≡ true
self n b = grind (arith, nat_tests)

selves : (n k : ℕ) (b : Bool) → ((nat_eq n n && nat_eq k k) || b) ≡ true
selves n k b = grind (arith, nat_tests)

home_used : (plan : Plan) (mv : Move) → uses_place plan mv (site_of (home plan mv)) ≡ true
unfolding uses_place
home_used plan (Issue g) = refl
home_used plan Emit = self plan.stages _
home_used plan (Climb i) = self i _
home_used plan (Fall i) = self i _
home_used plan (Meet i) = self i _
home_used plan (Execute i) = self i _
home_used plan (Send i) = self i _
home_used plan (Launch i) = self i _
home_used plan (Slide k c) = selves k c _
home_used plan Access = selves (port plan) (cells_of plan (port plan) - 1) _
home_used plan (Recover i) = self i _
home_used plan Leave = self plan.stages _
home_used plan Exit = refl
home_used plan Serve = self plan.stages _

-- a home that the layout has
abbrev IsHome : Plan → Home → Type 0
IsHome plan (AtStage i) = (1 ≤ i) × (i ≤ plan.stages)
IsHome plan (AtCell k c) = (k < length plan.sidings) × (c < cells_of plan k)

home_there : (plan : Plan) (mv : Move) → HasSites plan mv → IsHome plan (home plan mv)
home_there plan mv are = go (home plan mv) (used_there plan mv (site_of (home plan mv)) are (home_used plan mv))
  where
    go : (h : Home) → LayoutHasSite plan (site_of h) → IsHome plan h
    go (AtStage i) there = there
    go (AtCell k c) there = there

-- its number is below 96
number_small : (plan : Plan) (h : Home) → IsAccepted plan → IsHome plan h → number_of h < 96
number_small plan (AtStage i) accepted there = omega (arith, accepted.stages.1, there.1)
number_small plan (AtCell k c) accepted there =
    let within = siding_within plan k accepted there.0 in
    omega (arith, within.1, within.2, there.1)

-- and different homes have different numbers
same_home : (plan : Plan) (g h : Home) → IsAccepted plan → IsHome plan g → IsHome plan h → number_of g ≡ number_of h → g ≡ h
same_home plan (AtStage i) (AtStage j) accepted a b e = ap AtStage (omega (arith, a.0, b.0, e))
same_home plan (AtStage i) (AtCell k c) accepted a b e = absurd (omega (arith, accepted.stages.1, a.0, a.1, e))
same_home plan (AtCell k c) (AtStage i) accepted a b e = absurd (omega (arith, accepted.stages.1, b.0, b.1, e))
same_home plan (AtCell k c) (AtCell j d) accepted a b e =
    let one = siding_within plan k accepted a.0 in
    let other = siding_within plan j accepted b.0 in
    let low : c < 8 = omega (arith, one.1, a.1) in
    let high : d < 8 = omega (arith, other.1, b.1) in
    let sidings : k ≡ j = omega (arith, e, low, high) in
    let cells : c ≡ d = omega (arith, e, sidings) in
    ap (λ (n : ℕ). AtCell n c) sidings ∙ ap (λ (n : ℕ). AtCell j n) cells

-- moves that share no site have different numbers
apart_numbers : (plan : Plan) (a b : Move) → IsAccepted plan → HasSites plan a → HasSites plan b → shares plan a b ≡ false →
    eqb (number_of (home plan a)) (number_of (home plan b)) ≡ false
apart_numbers plan a b accepted p q e = go (eqb (number_of (home plan a)) (number_of (home plan b))) refl
  where
    go : (t : Bool) → eqb (number_of (home plan a)) (number_of (home plan b)) ≡ t → eqb (number_of (home plan a)) (number_of (home plan b)) ≡ false
    go false f = f
    go true f =
        let numbers : number_of (home plan a) ≡ number_of (home plan b) = grind (arith, nat_tests) in
        let homes : home plan a ≡ home plan b = same_home plan (home plan a) (home plan b) accepted (home_there plan a p) (home_there plan b q) numbers in
        let there : uses_place plan b (site_of (home plan a)) ≡ true = ap (λ (h : Home). uses_place plan b (site_of h)) homes ∙ home_used plan b in
        absurd (let shared = shared_at plan a b (site_of (home plan a)) (home_used plan a) there in cc)

numbers : Plan → List Move → List ℕ
numbers plan moves = map (λ mv. number_of (home plan mv)) moves

all_apart : (plan : Plan) (a : Move) (round : List Move) → IsAccepted plan → HasSites plan a → AllByRecursion (HasSites plan) round →
    AllByRecursion (λ other. shares plan a other ≡ false) round → AllByRecursion (λ n. eqb (number_of (home plan a)) n ≡ false) (numbers plan round)
unfolding numbers
all_apart plan a [] accepted p there h = tt
all_apart plan a (b ∷ round) accepted p (q, there) (e, h) = (apart_numbers plan a b accepted p q e, all_apart plan a round accepted p there h)

distinct : (plan : Plan) (round : List Move) → IsAccepted plan → AllByRecursion (HasSites plan) round → AreApart plan round →
    IsDistinct eqb (numbers plan round)
unfolding numbers IsDistinct
distinct plan [] accepted there h = tt
distinct plan (a ∷ round) accepted (p, there) (e, h) = (all_apart plan a round accepted p there e, distinct plan round accepted there h)

small : (plan : Plan) (round : List Move) → IsAccepted plan → AllByRecursion (HasSites plan) round → (q : ℕ) → list_any (eqb q) (numbers plan round) ≡ true →
    q < 96
unfolding numbers
small plan [] accepted there q e = absurd (cc)
small plan (a ∷ round) accepted (p, there) q e = by (eqb q (number_of (home plan a))) refl (λ f. small plan round accepted there q f) e
  where
    by : (t : Bool) → eqb q (number_of (home plan a)) ≡ t → (list_any (eqb q) (map (λ mv. number_of (home plan mv)) round) ≡ true → q < 96) →
        (t || list_any (eqb q) (map (λ mv. number_of (home plan mv)) round)) ≡ true → q < 96
    by true f rest g = let same : q ≡ number_of (home plan a) = grind (arith, nat_tests) in
        omega (arith, same, number_small plan (home plan a) accepted (home_there plan a p))
    by false f rest g = rest g

pub few : (plan : Plan) (round : List Move) → IsAccepted plan → AllByRecursion (HasSites plan) round → AreApart plan round → length round ≤ 96
unfolding numbers
few plan round accepted there apart =
    let bound : length (numbers plan round) ≤ 96 = length-le_from_distinct_below (numbers plan round) 96 (distinct plan round accepted there apart)
    (small plan round accepted there) in
    let size : length (numbers plan round) ≡ length round = length-map round (λ mv. number_of (home plan mv)) in
    omega (arith, bound, size)
