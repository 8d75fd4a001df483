-- What the readers of a layout return.
use Rattle.std.proofs.Common.{◌≡◌, ◌∙◌, cond, get_or, zero, suc, ◌+◌, ℕ, ◌<◌, ◌≤◌, List, [], ◌∷◌, length, Bool, true, false, Some, None, refl, arith}
use Rattle.std.specs.Prelude.{filter, position, slice_get, nat_lt, nat_eq, not, is_some, ◌||◌, unwrap_or}
use Rattle.std.specs.List.{position_or_len}
use Rattle.std.proofs.lemmas.List.{get_or_default}
use Rattle.std.proofs.lemmas.Bool.Decides.{nat_tests}
use Rattle.rv_inst.specs.declared.classes.Class.{Class}
use Rattle.cf_layout.specs.Layout.{Plan, SidingPlan, place_of, stages_of, siding_of, serves, homes, unit_homes, is_homed}

-- the stages at an index of the list
at_place : (units : List (List ℕ)) (place : ℕ) → place < length units → unwrap_or (slice_get units place) [] ≡ get_or units place []
at_place [] place within = absurd (omega arith)
at_place (stages ∷ units) zero within = refl
at_place (stages ∷ units) (suc place) within = at_place units place (omega arith)

-- past its end there are no stages
after_end : (units : List (List ℕ)) (place : ℕ) → length units ≤ place → unwrap_or (slice_get units place) [] ≡ []
after_end [] place after = refl
after_end (stages ∷ units) zero after = absurd (omega arith)
after_end (stages ∷ units) (suc place) after = after_end units place (omega arith)

-- the stages of a class that has an index
pub stages_within : (plan : Plan) (c : Class) (d : List ℕ) → place_of c < length plan.units → stages_of plan c ≡ get_or plan.units (place_of c) d
unfolding stages_of
stages_within plan c d within = at_place plan.units (place_of c) within ∙ get_or_default plan.units (place_of c) [] d within

-- and of one that has no index
pub stages_without : (plan : Plan) (c : Class) → length plan.units ≤ place_of c → stages_of plan c ≡ []
unfolding stages_of
stages_without plan c after = after_end plan.units (place_of c) after

-- an element that passes is kept, and one is found
kept_here : {X : Type 0} (passes : Bool) (x : X) (kept : List X) (before n : ℕ) → nat_lt 0 (length kept) ≡ nat_lt before n →
    nat_lt 0 (length (cond passes (x ∷ kept) kept)) ≡ nat_lt (cond (not passes) (1 + before) 0) (suc n)
kept_here true x kept before n same = grind (arith, nat_tests)
kept_here false x kept before n same = grind (arith, nat_tests)

-- an element is kept if one is found
kept_found : {X : Type 0} (test : X → Bool) (xs : List X) → nat_lt 0 (length (filter test xs)) ≡ nat_lt (position_or_len test xs) (length xs)
kept_found test [] = refl
kept_found test (x ∷ xs) = kept_here (test x) x (filter test xs) (position_or_len test xs) (length xs) (kept_found test xs)

-- there is an element if the test says so
something : {X : Type 0} (b : Bool) (x : X) → is_some (cond b (Some x) None) ≡ b
something true x = refl
something false x = refl

-- a class has a home if it has a stage or a siding
homed_where : (stages : List ℕ) (c : Class) (sidings : List SidingPlan) → nat_lt 0 (unit_homes stages + length (filter (λ siding. serves siding c) sidings))
    ≡ (not (nat_eq (length stages) 0) || is_some (position (λ siding. serves siding c) sidings))
homed_where [] c sidings = let k = kept_found (λ siding. serves siding c) sidings in let s =
    something (nat_lt (position_or_len (λ siding. serves siding c) sidings) (length sidings)) (position_or_len (λ siding. serves siding c) sidings) in
    rw s (let z : 0 + length (filter (λ siding. serves siding c) sidings) ≡ length (filter (λ siding. serves siding c) sidings) = omega arith in rw z k)
homed_where (stage ∷ stages) c sidings = grind (arith, nat_tests)

-- the same of a layout
pub homed : (plan : Plan) (c : Class) → is_homed plan c ≡ (not (nat_eq (length (stages_of plan c)) 0) || is_some (siding_of plan c))
unfolding homes siding_of
homed plan c = homed_where (stages_of plan c) c plan.sidings
