-- What follows if a layout is accepted, in the form that the rules of the moves need.
use Rattle.std.proofs.Common.{◌≡◌, ◌⊎◌, inl, inr, ℕ, zero, suc, ◌<◌, ◌≤◌, List, [], ◌∷◌, All, Bool, true, false, Option, Some, None, length, get_or, refl, ap, subst, arith, ◌∙◌, sym}
use Rattle.std.specs.Prelude.{◌||◌, filter, position, slice_get, nat_eq, is_some, unwrap_or}
use Rattle.std.specs.List.{list_any}
use Rattle.std.proofs.lemmas.List.Quantifiers.{position-Some}
use Rattle.std.proofs.lemmas.List.Elements.{All-nil, All-tail}
use Rattle.std.proofs.lemmas.Bool.Decides.{nat_tests}
use Rattle.rv_inst.specs.declared.classes.Class.{Class}
use Rattle.rv_inst.specs.declared.classes.Class.TheVariants.{Add, Logic, Shift, Compare, Branch, Jump, Memory, Serial, Free, Mul, Div}
use Rattle.cf_layout.specs.Layout.{Plan, SidingPlan, place_of, same_class, no_siding, siding_plan_at, siding_of, launch_stage, recover_stage, cells_of, serves, stages_of, unit_at, unit_homes, homes, is_homed, last_of, recovers_by}
use Rattle.cf_layout.specs.Accepted.{memory_launch, IsStage, IsSiding, IsEquipped, IsAccepted}
use Rattle.std.proofs.lemmas.List.Folds.{list_any_at}
use Rattle.std.proofs.Math.Bool.{or-true, or-false}
use Rattle.cf_layout.proofs.Counts.{same_true, any_kept}
use Rattle.cf_layout.proofs.Passing.{lt_true}
use Rattle.cf_layout.proofs.Reading.{homed}

-- an element of a list by its index, read in two ways
read_at : (sidings : List SidingPlan) (k : ℕ) → k < length sidings → unwrap_or (slice_get sidings k) no_siding ≡ get_or sidings k no_siding
read_at [] k within = absurd (omega arith)
read_at (s ∷ ss) zero within = refl
read_at (s ∷ ss) (suc k) within = read_at ss k (omega arith)

-- the siding of a class exists, and serves it
pub siding_found : (plan : Plan) (c : Class) (k : ℕ) → siding_of plan c ≡ Some k → (k < length plan.sidings) × (serves (siding_plan_at plan k) c ≡ true)
unfolding siding_of
siding_found plan c k e =
    let p = position-Some (λ s. serves s c) plan.sidings k no_siding e in
    let within : k < length plan.sidings = p.0 in
    (within, ap (λ (s : SidingPlan). serves s c) (read_at plan.sidings k within) ∙ p.1)

-- what holds of each siding holds of a class's siding
pub siding_rules : (plan : Plan) → IsEquipped plan → (c : Class) (k : ℕ) → siding_of plan c ≡ Some k → IsSiding plan (siding_plan_at plan k)
siding_rules plan a c k e =
    let f = siding_found plan c k e in
    let within : k < length plan.sidings = f.0 in
    subst (IsSiding plan) (sym (read_at plan.sidings k within)) (a.sidings k no_siding within)

-- it launches below where it recovers, within the pipeline, and has cells
pub launches_low : (plan : Plan) → IsAccepted plan → (c : Class) (k : ℕ) → siding_of plan c ≡ Some k →
    (1 ≤ launch_stage plan k) × (launch_stage plan k < recover_stage plan k) × (recover_stage plan k ≤ plan.stages)
unfolding launch_stage recover_stage
launches_low plan a c k e = let s = siding_rules plan a.equipped c k e in (s.launches.0, s.order, s.recovers.1)

pub has_cells : (plan : Plan) → IsAccepted plan → (c : Class) (k : ℕ) → siding_of plan c ≡ Some k → (1 ≤ cells_of plan k) × (cells_of plan k ≤ 8)
unfolding cells_of
has_cells plan a c k e = (siding_rules plan a.equipped c k e).cells

-- a list with a stage in it is one home
some_stage : (i : ℕ) (stages : List ℕ) → list_any (nat_eq i) stages ≡ true → unit_homes stages ≡ 1
some_stage i [] e = cc
some_stage i (j ∷ js) e = refl

-- if an element is found, an element is kept
some_kept : (test : SidingPlan → Bool) (sidings : List SidingPlan) (k : ℕ) → position test sidings ≡ Some k → 0 < length (filter test sidings)
some_kept test sidings k e =
    let p = position-Some test sidings k no_siding e in
    let within : k < length sidings = p.0 in
    lt_true 0 _ (sym (any_kept test sidings) ∙ list_any_at test sidings k no_siding within p.1)

-- a class with at most one home and with a unit has no siding
no_siding_beside : (plan : Plan) (c : Class) (i : ℕ) (o : Option ℕ) → homes plan c ≤ 1 → unit_at plan c i ≡ true → siding_of plan c ≡ o → o ≡ None
unfolding homes unit_at siding_of
no_siding_beside plan c i None one at e = refl
no_siding_beside plan c i (Some k) one at e =
    let u = some_stage i (stages_of plan c) at in
    let s = some_kept (λ siding. serves siding c) plan.sidings k e in
    absurd (omega arith)

-- a list of computed classes names no other class
unnamed_step : (c d : Class) (same rest : Bool) → same_class c d ≡ same → 9 ≤ place_of c → place_of d < 9 → rest ≡ false → (same || rest) ≡ false
unnamed_step c d true rest e high low r = absurd (grind (arith, nat_tests))
unnamed_step c d false rest e high low r = r

unnamed : (classes : List Class) (c : Class) → 9 ≤ place_of c → All (λ d. place_of d < 9) classes → list_any (same_class c) classes ≡ false
unnamed [] c high all = refl
unnamed (d ∷ ds) c high all = unnamed_step c d (same_class c d) (list_any (same_class c) ds) refl high (all 0 d (omega arith))
    (unnamed ds c high (All-tail (λ (k : Class). place_of k < 9) d ds all))

-- no siding serves a class that is not computed
unserved : (plan : Plan) (sidings : List SidingPlan) (c : Class) → 9 ≤ place_of c → All (IsSiding plan) sidings →
    length (filter (λ siding. serves siding c) sidings) ≡ 0
unfolding serves
unserved plan [] c high all = refl
unserved plan (s ∷ ss) c high all = let off = unnamed s.classes c high (all 0 s (omega arith)).computed in
    rw off (unserved plan ss c high (All-tail (IsSiding plan) s ss all))

-- at an index after the lists there are no stages
after_end : (units : List (List ℕ)) (place : ℕ) → length units ≤ place → unwrap_or (slice_get units place) [] ≡ []
after_end [] place after = refl
after_end (stages ∷ units) zero after = absurd (omega arith)
after_end (stages ∷ units) (suc place) after = after_end units place (omega arith)

-- a class that is not computed has no home
no_home : (plan : Plan) → IsAccepted plan → (c : Class) → 9 ≤ place_of c → homes plan c ≤ 1
unfolding homes stages_of
no_home plan a c high =
    let s = after_end plan.units (place_of c) (omega (arith, a.classes)) in
    let n = unserved plan plan.sidings c high a.sidings in
    rw (s, n) (omega arith)

-- each class has at most one home
pub one_home : (plan : Plan) → IsAccepted plan → (c : Class) → homes plan c ≤ 1
one_home plan a Add = omega (arith, a.needed Add refl)
one_home plan a Logic = omega (arith, a.needed Logic refl)
one_home plan a Shift = omega (arith, a.needed Shift refl)
one_home plan a Compare = omega (arith, a.needed Compare refl)
one_home plan a Branch = omega (arith, a.needed Branch refl)
one_home plan a Jump = omega (arith, a.needed Jump refl)
one_home plan a Memory = omega (arith, a.needed Memory refl)
one_home plan a Mul = a.pair_once
one_home plan a Div = omega (arith, a.pair, a.pair_once)
one_home plan a Serial = no_home plan a Serial (omega arith)
one_home plan a Free = no_home plan a Free (omega arith)

-- a class with a unit goes through no siding
pub unsided : (plan : Plan) → IsAccepted plan → (c : Class) (i : ℕ) → unit_at plan c i ≡ true → siding_of plan c ≡ None
unsided plan a c i at = no_siding_beside plan c i (siding_of plan c) (one_home plan a c) at refl

-- Memory has a siding
some_found : (o : Option ℕ) → is_some o ≡ true → (k : ℕ) × (o ≡ Some k)
some_found None e = cc
some_found (Some k) e = (k, refl)

pub memory_siding : (plan : Plan) → IsAccepted plan → (k : ℕ) × (siding_of plan Memory ≡ Some k)
memory_siding plan a =
    let h : is_homed plan Memory ≡ true = rw (a.needed Memory refl) refl in
    let e = homed plan Memory in
    some_found (siding_of plan Memory) (rw (a.memory, h) at (sym e))

-- the launch stage of that siding is the one from which memory is reached
pub memory_launches : (plan : Plan) (k : ℕ) → siding_of plan Memory ≡ Some k → memory_launch plan ≡ launch_stage plan k
unfolding memory_launch
memory_launches plan k e = rw e refl

-- Memory's siding is for nothing else
pub memory_alone : (plan : Plan) → IsAccepted plan → (k : ℕ) (c : Class) → siding_of plan Memory ≡ Some k → siding_of plan c ≡ Some k → c ≡ Memory
unfolding serves
memory_alone plan a k c e f =
    let r = siding_rules plan a.equipped Memory k e in
    let m = siding_found plan Memory k e in
    let s = siding_found plan c k f in
    let only = rw (r.memory_alone m.1) at s.1 in
    same_true c Memory (sym (or-false (same_class c Memory)) ∙ only)

-- what holds of all numbers of a list holds of one in it
in_list_step : (P : ℕ → Type 0) (i j : ℕ) (here rest : Bool) → nat_eq i j ≡ here → (here || rest) ≡ true → P j → (rest ≡ true → P i) → P i
in_list_step P i j true rest at e p later = let same : j ≡ i = grind (arith, nat_tests) in subst P same p
in_list_step P i j false rest at e p later = later e

in_list : (P : ℕ → Type 0) (i : ℕ) (stages : List ℕ) → All P stages → list_any (nat_eq i) stages ≡ true → P i
in_list P i [] all e = cc
in_list P i (j ∷ js) all e = in_list_step P i j (nat_eq i j) (list_any (nat_eq i) js) refl e (all 0 0 (omega arith))
    (λ later. in_list P i js (All-tail P j js all) later)

-- each list of stages, and the empty list for a class without an index, has only stages of the pipeline
lists_within : (plan : Plan) (units : List (List ℕ)) (place : ℕ) → All (All (IsStage plan)) units → All (IsStage plan) (unwrap_or (slice_get units place) [])
lists_within plan [] place all = All-nil (IsStage plan)
lists_within plan (stages ∷ units) zero all = all 0 [] (omega arith)
lists_within plan (stages ∷ units) (suc place) all = lists_within plan units place (All-tail (All (IsStage plan)) stages units all)

-- a unit is at a stage of the pipeline
pub unit_within : (plan : Plan) → IsAccepted plan → (c : Class) (i : ℕ) → unit_at plan c i ≡ true → IsStage plan i
unfolding unit_at stages_of
unit_within plan a c i at = in_list (IsStage plan) i _ (lists_within plan plan.units (place_of c) a.unit_stages) at

-- the last stage of a list that is not empty is in it
last_in : (i : ℕ) (stages : List ℕ) (other : ℕ) → list_any (nat_eq (last_of (i ∷ stages) other)) (i ∷ stages) ≡ true
last_in i [] other = let e : nat_eq i i ≡ true = grind (arith, nat_tests) in rw e refl
last_in i (j ∷ js) other = let r = last_in j js i in rw r (or-true (nat_eq (last_of (j ∷ js) i) i))

-- the last stage of a class is in its list if the list is not empty, and otherwise it is the recovery stage of its
-- siding
last_by : (plan : Plan) (stages : List ℕ) (o : Option ℕ) → (list_any (nat_eq (last_of stages (recovers_by plan o))) stages ≡ true)
    ⊎ (last_of stages (recovers_by plan o) ≡ recovers_by plan o)
last_by plan [] o = inr refl
last_by plan (i ∷ is) o = inl (last_in i is (recovers_by plan o))
