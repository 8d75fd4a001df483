-- What is read from the lists of an accepted layout.
use Rattle.std.proofs.Common.{◌≡◌, ℕ, suc, ◌<◌, ◌≤◌, List, [], ◌∷◌, Option, Some, None, Bool, true, false, cond, get_or, length, refl, sym, ap, subst, ◌∙◌, arith, ◌⊎◌, inl, inr}
use Rattle.std.specs.Prelude.{◌+◌, ◌||◌, All, filter, position, slice_get, unwrap_or, option_map, nat_eq, nat_lt}
use Rattle.std.specs.List.{list_any}
use Rattle.std.proofs.lemmas.Bool.Decides.{nat_tests}
use Rattle.std.proofs.lemmas.List.Elements.{All-get_or, All-nil}
use Rattle.std.proofs.lemmas.List.Quantifiers.{position-Some}
use Rattle.std.proofs.lemmas.Option.{slice_get_cases, slice_get_past, unwrap_or-slice_get}
use Rattle.mem_regions.proofs.Finding.{position-cons}
use Rattle.rv_inst.specs.declared.classes.Class.{Class}
use Rattle.rv_inst.specs.declared.classes.Class.TheVariants.{Memory}
use Rattle.cf_layout.specs.Layout.{Plan, SidingPlan, homes, last_of, no_siding, place_of, same_class, serves, siding_plan_at, siding_of, stages_of, unit_homes}
use Rattle.cf_layout.specs.Accepted.{IsAccepted, IsStage}
use Rattle.cf_semantics.specs.state.Options.{is_some}

-- some element passes the test if the filter keeps some
first_kept : {A : Type 0} (p : A → Bool) (xs : List A) → is_some (position p xs) ≡ nat_lt 0 (length (filter p xs))
first_kept p [] = refl
first_kept p (x ∷ xs) = rw (position-cons p x xs) (go (p x) (position p xs) (filter p xs) (first_kept p xs))
  where
    go : (b : Bool) (o : Option ℕ) (ys : List _) → is_some o ≡ nat_lt 0 (length ys) → is_some (cond b (Some 0) (option_map (λ i. suc i) o))
        ≡ nat_lt 0 (length (cond b (x ∷ ys) ys))
    go true o ys e = grind (arith, nat_tests)
    go false None ys e = e
    go false (Some k) ys e = e

-- how many sidings a class goes through
pub sidings_of : Plan → Class → ℕ
sidings_of plan c = length (filter (λ siding. serves siding c) plan.sidings)

pub homes_are : (plan : Plan) (c : Class) → homes plan c ≡ unit_homes (stages_of plan c) + sidings_of plan c
unfolding homes sidings_of
homes_are plan c = refl

pub sided_is : (plan : Plan) (c : Class) → is_some (siding_of plan c) ≡ nat_lt 0 (sidings_of plan c)
unfolding siding_of sidings_of
sided_is plan c = first_kept (λ siding. serves siding c) plan.sidings

-- the siding of a class is for the class
pub sided_for : (plan : Plan) (c : Class) (k : ℕ) → siding_of plan c ≡ Some k → serves (siding_plan_at plan k) c ≡ true
unfolding siding_of
sided_for plan c k e =
    let q = position-Some (λ siding. serves siding c) plan.sidings k no_siding e in
    ap (λ (s : SidingPlan). serves s c) (unwrap_or-slice_get plan.sidings k no_siding) ∙ q.1

-- and what holds of all sidings holds of it
pub of_sided : (P : SidingPlan → Type 0) (plan : Plan) (c : Class) (k : ℕ) → siding_of plan c ≡ Some k → All P plan.sidings → P (siding_plan_at plan k)
unfolding siding_of
of_sided P plan c k e h =
    let q = position-Some (λ siding. serves siding c) plan.sidings k no_siding e in
    subst P (sym (unwrap_or-slice_get plan.sidings k no_siding)) (All-get_or P plan.sidings k no_siding q.0 h)

-- the stages of a class's units are stages
pub unit_stages : (plan : Plan) → IsAccepted plan → (c : Class) → All (IsStage plan) (stages_of plan c)
unfolding stages_of
unit_stages plan acc c = go ((slice_get_cases plan.units (place_of c)).1)
  where
    go : ((x : List ℕ) × (place_of c < length plan.units) × (slice_get plan.units (place_of c) ≡ Some x) × (get_or plan.units (place_of c) x ≡ x))
        ⊎ ((length plan.units ≤ place_of c) × (slice_get plan.units (place_of c) ≡ None)) →
        All (IsStage plan) (unwrap_or (slice_get plan.units (place_of c)) [])
    go (inl q) = rw (q.2) (subst (All (IsStage plan)) q.3 (All-get_or (All (IsStage plan)) plan.units (place_of c) q.0 q.1 acc.unit_stages))
    go (inr q) = rw (q.1) (All-nil (IsStage plan))

-- a class without an index has no units
pub unplaced : (plan : Plan) → IsAccepted plan → (c : Class) → 9 ≤ place_of c → stages_of plan c ≡ []
unfolding stages_of
unplaced plan acc c n = rw (slice_get_past plan.units (place_of c) (rw acc.classes n)) refl

-- what holds of all elements holds of each of them
pub of_any : (P : ℕ → Type 0) (i : ℕ) (xs : List ℕ) → list_any (nat_eq i) xs ≡ true → All P xs → P i
of_any P i [] e h = absurd (cc)
of_any P i (x ∷ xs) e h = go (nat_eq i x) refl e (λ g. of_any P i xs g (λ k d n. h (suc k) d (omega arith)))
  where
    go : (b : Bool) → nat_eq i x ≡ b → (b || list_any (nat_eq i) xs) ≡ true → (list_any (nat_eq i) xs ≡ true → P i) → P i
    go true f g r = let s : x ≡ i = grind (arith, nat_tests) in subst P s (h 0 x (omega arith))
    go false f g r = r g

-- the last of some elements is one of them
pub last_among : (x : ℕ) (xs : List ℕ) → list_any (nat_eq (last_of xs x)) (x ∷ xs) ≡ true
last_among x [] = grind (arith, nat_tests)
last_among x (y ∷ ys) = rw (last_among y ys) (or_true (nat_eq (last_of ys y) x))
  where
    or_true : (b : Bool) → (b || true) ≡ true
    or_true true = refl
    or_true false = refl

-- a unit at a stage is a home
pub unit_home : (xs : List ℕ) (i : ℕ) → list_any (nat_eq i) xs ≡ true → unit_homes xs ≡ 1
unit_home [] i e = absurd (cc)
unit_home (x ∷ xs) i e = refl

-- there are no stages, or some
pub none_or_some : (xs : List ℕ) (other : ℕ) → ((xs ≡ []) × (unit_homes xs ≡ 0) × (last_of xs other ≡ other))
    ⊎ ((unit_homes xs ≡ 1) × (list_any (nat_eq (last_of xs other)) xs ≡ true))
none_or_some [] other = inl (refl, refl, refl)
none_or_some (x ∷ xs) other = inr (refl, last_among x xs)

-- if a class goes through a siding for Memory alone, it is Memory
pub memory_only : (c : Class) (siding : SidingPlan) → siding.classes ≡ Memory ∷ [] → serves siding c ≡ true → c ≡ Memory
unfolding serves
memory_only c siding e s = one c (rw e at s)
  where
    one : (c : Class) → (same_class c Memory || false) ≡ true → c ≡ Memory
    one c s = grind (arith, nat_tests)

-- what holds of the indices of all classes of a siding holds of the index of each class that it is for
pub computed : (classes : List Class) (c : Class) → All (λ d. place_of d < 9) classes → list_any (same_class c) classes ≡ true → place_of c < 9
computed [] c h e = absurd (cc)
computed (d ∷ classes) c h e = go (same_class c d) refl e (λ g. computed classes c (λ k b n. h (suc k) b (omega arith)) g)
  where
    go : (b : Bool) → same_class c d ≡ b → (b || list_any (same_class c) classes) ≡ true → (list_any (same_class c) classes ≡ true → place_of c < 9) →
        place_of c < 9
    go true f g r = let s : place_of c ≡ place_of d = grind (arith, nat_tests) in let n = h 0 d (omega arith) in omega arith
    go false f g r = r g
