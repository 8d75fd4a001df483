-- Two moves have a place in common if and only if a word or a flag of both says so.
use Rattle.std.proofs.Common.{◌≡◌, ◌∙◌, refl, sym, ap, subst, ℕ, zero, suc, ◌+◌, ◌-◌, ◌*◌, ◌/◌, ◌%◌, ◌<◌, ◌⊎◌, inl, inr, List, [], ◌∷◌, map, Bool, true, false, arith}
use Rattle.std.specs.Prelude.{◌&&◌, ◌||◌, ◌↔◌, ◌==◌, IsTrue}
use Rattle.std.specs.List.{AllByRecursion, list_any}
use Rattle.std.proofs.lemmas.Bool.Decides.{nat_tests}
use Rattle.cf_layout.specs.Layout.{Plan, cells_of, launch_stage, recover_stage}
use Rattle.cf_layout.specs.Accepted.{IsAccepted}
use Rattle.cf_layout.specs.Words.{has_bit}
use Rattle.cf_bind.specs.declared.moves.Move.{Move}
use Rattle.cf_bind.specs.declared.moves.Move.TheVariants.{Issue, Emit, Climb, Fall, Meet, Execute, Send, Launch, Slide, Access, Recover, Leave, Exit, Serve}
use Rattle.cf_semantics.specs.moves.Sites.{Site, Stage, SidingCell, Lane, Fetching, Cache, Registers, Memory, Code, Input, Output, Count, Ended, Failure, among, same_site}
use Rattle.cf_index.specs.Sites.{HasSites, LayoutHasSite, shares, sidings_where, used, uses_place, ways_in, ways_out}
use Rattle.cf_index.proofs.SiteWords.{siding_within}

either : (a b : Bool) → (a || b) ≡ true → (a ≡ true) ⊎ (b ≡ true)
either true b e = inl refl
either false b e = inr e

-- one place under two names
pub same_site_is : (x y : Site) → same_site x y ≡ true → x ≡ y
same_site_is (Stage i) (Stage j) e = let q : i ≡ j = grind (arith, nat_tests) in ap Stage q
same_site_is (SidingCell k c) (SidingCell j d) e = let q : k ≡ j = grind (arith, nat_tests) in let r : c ≡ d = grind (arith, nat_tests) in cc
same_site_is Lane Lane e = refl
same_site_is Fetching Fetching e = refl
same_site_is Cache Cache e = refl
same_site_is Registers Registers e = refl
same_site_is Memory Memory e = refl
same_site_is Code Code e = refl
same_site_is Input Input e = refl
same_site_is Output Output e = refl
same_site_is Count Count e = refl
same_site_is Ended Ended e = refl
same_site_is Failure Failure e = refl
same_site_is _ _ e = absurd (cc)

-- what holds of each of these places holds of any one among them
pub found : (P : Site → Type 0) (x : Site) (xs : List Site) → AllByRecursion P xs → among x xs ≡ true → P x
found P x [] all e = absurd (cc)
found P x (y ∷ ys) all e = by (either (same_site x y) (among x ys) e) (found P x ys all.1)
  where
    by : (same_site x y ≡ true) ⊎ (among x ys ≡ true) → (among x ys ≡ true → P x) → P x
    by (inl s) rest = subst P (sym (same_site_is x y s)) all.0
    by (inr r) rest = rest r

-- if a place among these passes a test, one of these passes it
any_at : (p : Site → Bool) (x : Site) (xs : List Site) → among x xs ≡ true → p x ≡ true → list_any p xs ≡ true
any_at p x [] e h = absurd (cc)
any_at p x (y ∷ ys) e h = by (either (same_site x y) (among x ys) e) (any_at p x ys)
  where
    last : (b : Bool) → (b || true) ≡ true
    last b = grind arith

    by : (same_site x y ≡ true) ⊎ (among x ys ≡ true) → (among x ys ≡ true → p x ≡ true → list_any p ys ≡ true) → (p y || list_any p ys) ≡ true
    by (inl s) rest = let q = same_site_is x y s in rw (← q, h) refl
    by (inr r) rest = let g = rest r h in rw g (last (p y))

-- one of these passes a test
itself : (x : Site) → same_site x x ≡ true
itself (Stage i) = grind (arith, nat_tests)
itself (SidingCell k c) = grind (arith, nat_tests)
itself Lane = refl
itself Fetching = refl
itself Cache = refl
itself Registers = refl
itself Memory = refl
itself Code = refl
itself Input = refl
itself Output = refl
itself Count = refl
itself Ended = refl
itself Failure = refl

one_of : (p : Site → Bool) (xs : List Site) → list_any p xs ≡ true → (x : Site) × (among x xs ≡ true) × (p x ≡ true)
one_of p [] e = absurd (cc)
one_of p (y ∷ ys) e = by (either (p y) (list_any p ys) e) (one_of p ys)
  where
    last : (b : Bool) → (b || true) ≡ true
    last b = grind arith

    by : (p y ≡ true) ⊎ (list_any p ys ≡ true) → (list_any p ys ≡ true → (x : Site) × (among x ys ≡ true) × (p x ≡ true)) →
        (x : Site) × (among x (y ∷ ys) ≡ true) × (p x ≡ true)
    by (inl h) rest = (y, (let s = itself y in rw s refl), h)
    by (inr r) rest = let g = rest r in (g.0, (let h = g.1 in rw h (last (same_site g.0 y))), g.2)

-- a place that both use
pub shared_at : (plan : Plan) (a b : Move) (x : Site) → uses_place plan a x ≡ true → uses_place plan b x ≡ true → shares plan a b ≡ true
unfolding shares uses_place
shared_at plan a b x e h = any_at (uses_place plan b) x (used plan a) e h

pub shared_place : (plan : Plan) (a b : Move) → shares plan a b ≡ true → (x : Site) × (uses_place plan a x ≡ true) × (uses_place plan b x ≡ true)
unfolding shares uses_place
shared_place plan a b e = one_of (uses_place plan b) (used plan a) e

-- places that no move uses
abbrev pub is_other : Site → Bool
is_other (Stage i) = false
is_other (SidingCell k c) = false
is_other Lane = false
is_other Fetching = false
is_other Memory = false
is_other Code = false
is_other _ = true

abbrev pub IsOne : Site → Type 0
IsOne x = is_other x ≡ false

cells_ones : (f : ℕ → ℕ) (ks : List ℕ) → AllByRecursion IsOne (map (λ k. SidingCell k (f k)) ks)
cells_ones f [] = tt
cells_ones f (k ∷ ks) = (refl, cells_ones f ks)

ones_in : (plan : Plan) (i : ℕ) → AllByRecursion IsOne (ways_in plan i)
unfolding ways_in
ones_in plan i = cells_ones (λ k. 0) (sidings_where plan (λ k. launch_stage plan k == i))

ones_out : (plan : Plan) (i : ℕ) → AllByRecursion IsOne (ways_out plan i)
unfolding ways_out
ones_out plan i = cells_ones (λ k. cells_of plan k - 1) (sidings_where plan (λ k. recover_stage plan k == i))

pub used_ones : (plan : Plan) (mv : Move) → AllByRecursion IsOne (used plan mv)
used_ones plan (Issue g) = (refl, (refl, (refl, (refl, tt))))
used_ones plan Emit = (refl, (refl, tt))
used_ones plan (Climb i) = (refl, (refl, tt))
used_ones plan (Fall i) = (refl, (refl, tt))
used_ones plan (Meet i) = (refl, tt)
used_ones plan (Execute i) = (refl, tt)
used_ones plan (Send i) = (refl, tt)
used_ones plan (Launch i) = (refl, ones_in plan i)
used_ones plan (Slide k c) = (refl, (refl, tt))
used_ones plan Access = (refl, (refl, tt))
used_ones plan (Recover i) = (refl, ones_out plan i)
used_ones plan Leave = (refl, tt)
used_ones plan Exit = (refl, (refl, tt))
used_ones plan Serve = (refl, (refl, (refl, tt)))

pub used_one : (plan : Plan) (mv : Move) (x : Site) → uses_place plan mv x ≡ true → is_other x ≡ false
unfolding uses_place
used_one plan mv x e = found IsOne x (used plan mv) (used_ones plan mv) e

pub used_there : (plan : Plan) (mv : Move) (x : Site) → HasSites plan mv → uses_place plan mv x ≡ true → LayoutHasSite plan x
unfolding uses_place
used_there plan mv x there e = found (LayoutHasSite plan) x (used plan mv) there e

-- what the words and the flags of the two moves say
pub record AreWords (plan : Plan) (mv : Move) (stages cells : ℕ) : Type 0 where
  pub stages_are : (k : ℕ) → has_bit stages k ≡ uses_place plan mv (Stage (k + 1))
  pub cells_are : (j : ℕ) → has_bit cells j ≡ uses_place plan mv (SidingCell (j / 8) (j % 8))

abbrev pub Overlap : ℕ → ℕ → Type 0
Overlap w v = (k : ℕ) × (has_bit w k ≡ true) × (has_bit v k ≡ true)

-- both use the place
abbrev pub both_use : Plan → Move → Move → Site → Bool
both_use plan a b x = uses_place plan a x && uses_place plan b x

-- the tests, one after another
abbrev pub tests : Bool → Bool → Bool → Bool → Bool → Bool → Bool
tests s c l f m d = ((((s || c) || l) || f) || m) || d

both_true : (a b : Bool) → (a && b) ≡ true → (a ≡ true) × (b ≡ true)
both_true true true e = (refl, refl)
both_true true false e = absurd (cc)
both_true false b e = absurd (cc)

two_true : (a b : Bool) → a ≡ true → b ≡ true → (a && b) ≡ true
two_true a b e h = grind arith

some_test : (s c l f m d : Bool) → (s ≡ true) ⊎ (c ≡ true) ⊎ (l ≡ true) ⊎ (f ≡ true) ⊎ (m ≡ true) ⊎ (d ≡ true) → tests s c l f m d ≡ true
some_test s c l f m d h = grind arith

-- a place that both use passes one of the tests
place_test : (plan : Plan) (a b : Move) (sa sb ca cb : ℕ) (s c : Bool) → IsAccepted plan → AreWords plan a sa ca → AreWords plan b sb cb →
    (Overlap sa sb → s ≡ true) → (Overlap ca cb → c ≡ true) → (x : Site) → is_other x ≡ false → LayoutHasSite plan x → uses_place plan a x ≡ true →
    uses_place plan b x ≡ true →
    tests s c (both_use plan a b Lane) (both_use plan a b Fetching) (both_use plan a b Memory) (both_use plan a b Code) ≡ true
place_test plan a b sa sb ca cb s c acc wa wb hs hc (Stage zero) o there ea eb = absurd (omega arith)
place_test plan a b sa sb ca cb s c acc wa wb hs hc (Stage (suc k)) o there ea eb =
    let z : k + 1 ≡ suc k = omega arith in
    let h : s ≡ true = hs (k, rw z at (wa.stages_are k) ∙ ea, rw z at (wb.stages_are k) ∙ eb) in
    rw h refl
place_test plan a b sa sb ca cb s c acc wa wb hs hc (SidingCell k i) o there ea eb =
    let w = siding_within plan k acc there.0 in
    let small : i < 8 = omega (arith, w.1, there.1) in
    let q : (8 * k + i) / 8 ≡ k = omega arith in
    let r : (8 * k + i) % 8 ≡ i = omega arith in
    let h : c ≡ true = hc (8 * k + i, rw (q, r) at (wa.cells_are (8 * k + i)) ∙ ea, rw (q, r) at (wb.cells_are (8 * k + i)) ∙ eb) in
    some_test s c (both_use plan a b Lane) (both_use plan a b Fetching) (both_use plan a b Memory) (both_use plan a b Code) (inr (inl h))
place_test plan a b sa sb ca cb s c acc wa wb hs hc Lane o there ea eb = some_test s c (both_use plan a b Lane) (both_use plan a b Fetching)
    (both_use plan a b Memory) (both_use plan a b Code) (inr (inr (inl (two_true _ _ ea eb))))
place_test plan a b sa sb ca cb s c acc wa wb hs hc Fetching o there ea eb = some_test s c (both_use plan a b Lane) (both_use plan a b Fetching)
    (both_use plan a b Memory) (both_use plan a b Code) (inr (inr (inr (inl (two_true _ _ ea eb)))))
place_test plan a b sa sb ca cb s c acc wa wb hs hc Memory o there ea eb = some_test s c (both_use plan a b Lane) (both_use plan a b Fetching)
    (both_use plan a b Memory) (both_use plan a b Code) (inr (inr (inr (inr (inl (two_true _ _ ea eb))))))
place_test plan a b sa sb ca cb s c acc wa wb hs hc Code o there ea eb = some_test s c (both_use plan a b Lane) (both_use plan a b Fetching)
    (both_use plan a b Memory) (both_use plan a b Code) (inr (inr (inr (inr (inr (two_true _ _ ea eb))))))
place_test plan a b sa sb ca cb s c acc wa wb hs hc _ o there ea eb = absurd (cc)

-- a test that holds gives a place that both use
test_place : (plan : Plan) (a b : Move) (sa sb ca cb : ℕ) (s c l f m d : Bool) → AreWords plan a sa ca → AreWords plan b sb cb →
    (s ≡ true → Overlap sa sb) → (c ≡ true → Overlap ca cb) → l ≡ both_use plan a b Lane → f ≡ both_use plan a b Fetching → m ≡ both_use plan a b Memory →
    d ≡ both_use plan a b Code →
    tests s c l f m d ≡ true → shares plan a b ≡ true
test_place plan a b sa sb ca cb true c l f m d wa wb hs hc el ef em ed e =
    let h = hs refl in shared_at plan a b (Stage (h.0 + 1)) (sym (wa.stages_are h.0) ∙ h.1) (sym (wb.stages_are h.0) ∙ h.2)
test_place plan a b sa sb ca cb false true l f m d wa wb hs hc el ef em ed e =
    let h = hc refl in shared_at plan a b (SidingCell (h.0 / 8) (h.0 % 8)) (sym (wa.cells_are h.0) ∙ h.1) (sym (wb.cells_are h.0) ∙ h.2)
test_place plan a b sa sb ca cb false false true f m d wa wb hs hc el ef em ed e =
    let h = both_true _ _ (sym el) in shared_at plan a b Lane h.0 h.1
test_place plan a b sa sb ca cb false false false true m d wa wb hs hc el ef em ed e =
    let h = both_true _ _ (sym ef) in shared_at plan a b Fetching h.0 h.1
test_place plan a b sa sb ca cb false false false false true d wa wb hs hc el ef em ed e =
    let h = both_true _ _ (sym em) in shared_at plan a b Memory h.0 h.1
test_place plan a b sa sb ca cb false false false false false true wa wb hs hc el ef em ed e =
    let h = both_true _ _ (sym ed) in shared_at plan a b Code h.0 h.1
test_place plan a b sa sb ca cb false false false false false false wa wb hs hc el ef em ed e = absurd (cc)

-- so the tests say whether the two have a place in common
pub shares_tested : (plan : Plan) (a b : Move) (sa sb ca cb : ℕ) (s c : Bool) → IsAccepted plan → HasSites plan a → AreWords plan a sa ca →
    AreWords plan b sb cb →
    (IsTrue s ↔ Overlap sa sb) → (IsTrue c ↔ Overlap ca cb) →
    tests s c (both_use plan a b Lane) (both_use plan a b Fetching) (both_use plan a b Memory) (both_use plan a b Code) ≡ shares plan a b
shares_tested plan a b sa sb ca cb s c acc there wa wb hs hc = by (tests s c (both_use plan a b Lane) (both_use plan a b Fetching) (both_use plan a b Memory)
    (both_use plan a b Code)) (shares plan a b) refl refl
  where
    by : (t h : Bool) → tests s c (both_use plan a b Lane) (both_use plan a b Fetching) (both_use plan a b Memory) (both_use plan a b Code) ≡ t →
        shares plan a b ≡ h → t ≡ h
    by true true e g = refl
    by false false e g = refl
    by true false e g = cc (test_place plan a b sa sb ca cb s c (both_use plan a b Lane) (both_use plan a b Fetching) (both_use plan a b Memory)
        (both_use plan a b Code) wa wb hs.0 hc.0 refl refl refl refl e)
    by false true e g =
        let x = shared_place plan a b g in
        cc (place_test plan a b sa sb ca cb s c acc wa wb hs.1 hc.1 x.0 (used_one plan a x.0 x.1) (used_there plan a x.0 there x.1) x.1 x.2)
