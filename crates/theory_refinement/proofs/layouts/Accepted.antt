-- An accepted layout suits the moves.
use Rattle.std.proofs.Common.{◌≡◌, ℕ, zero, suc, ◌<◌, ◌≤◌, List, [], ◌∷◌, Option, Some, None, Bool, true, false, refl, sym, ap, subst, ◌∙◌, arith, ◌⊎◌, inl, inr}
use Rattle.std.specs.Prelude.{◌||◌, nat_eq, nat_lt, unwrap_or}
use Rattle.std.specs.List.{list_any}
use Rattle.std.proofs.lemmas.Bool.Decides.{nat_tests}
use Rattle.rv_inst.specs.declared.classes.Class.{Class}
use Rattle.rv_inst.specs.declared.classes.Class.TheVariants.{Add, Logic, Shift, Compare, Branch, Jump, Memory, Serial, Free, Mul, Div}
use Rattle.cf_layout.specs.Layout.{Plan, cells_of, homes, is_homed, last_of, last_stage, launch_stage, place_of, recover_stage, recovers_by, serves, siding_plan_at, siding_of, stages_of, unit_at, unit_homes}
use Rattle.cf_layout.specs.Accepted as accepted
use Rattle.cf_layout.specs.Accepted.{IsAccepted, IsSiding, IsStage, memory_launch}
use Rattle.cf_layout.specs.Accepted.{is_control}
use Rattle.cf_semantics.specs.moves.Instructions.{is_memory}
use Rattle.cf_semantics.specs.state.Layouts.{port}
use Rattle.cf_semantics.specs.state.Options.{is_some, on}
use Rattle.theory_refinement.proofs.invariant.Lone.{is_high}
use Rattle.theory_refinement.proofs.invariant.Suited.{Suits, is_extra, is_plain}
use Rattle.theory_refinement.proofs.layouts.Layouts.{computed, homes_are, memory_only, none_or_some, of_any, of_sided, sided_for, sided_is, sidings_of, unit_home, unit_stages, unplaced}

-- the stage from which loads and stores are launched
pub launch_is : (plan : Plan) → memory_launch plan ≡ launch_stage plan (port plan)
unfolding memory_launch port
launch_is plan = go (siding_of plan Memory)
  where
    go : (o : Option ℕ) → launch_stage plan (unwrap_or o 0) ≡ launch_stage plan (on o 0 (λ k. k))
    go None = refl
    go (Some k) = refl

-- the siding of a class is a siding
siding_is : (plan : Plan) → IsAccepted plan → (c : Class) (k : ℕ) → siding_of plan c ≡ Some k → IsSiding plan (siding_plan_at plan k)
siding_is plan acc c k e = of_sided (IsSiding plan) plan c k e acc.sidings

-- a class with units has no siding
one_home : (plan : Plan) → IsAccepted plan → (c : Class) → is_plain c ≡ true → homes plan c ≤ 1
one_home plan acc c e = go (is_extra c) refl
  where
    extra : (c : Class) → is_extra c ≡ true → homes plan c ≤ 1
    extra Mul e = acc.pair_once
    extra Div e = let a = acc.pair_once in let b = acc.pair in omega arith
    extra _ e = absurd (cc)

    go : (b : Bool) → is_extra c ≡ b → homes plan c ≤ 1
    go true f = extra c f
    go false f = let n = acc.needed c (grind arith) in omega arith

-- if there are no units, none is at a stage
no_unit : (xs : List ℕ) (i : ℕ) → xs ≡ [] → list_any (nat_eq i) xs ≡ true → ⊥
no_unit [] i e f = cc
no_unit (x ∷ xs) i e f = cc

-- a class that has a unit is plain
unit_plain : (plan : Plan) → IsAccepted plan → (c : Class) (i : ℕ) → unit_at plan c i ≡ true → is_plain c ≡ true
unfolding unit_at
unit_plain plan acc Memory i e = absurd (no_unit (stages_of plan Memory) i acc.memory e)
unit_plain plan acc Serial i e = absurd (no_unit (stages_of plan Serial) i (unplaced plan acc Serial (omega arith)) e)
unit_plain plan acc Free i e = absurd (no_unit (stages_of plan Free) i (unplaced plan acc Free (omega arith)) e)
unit_plain plan acc _ i e = refl

-- a unit's stage is one of the pipeline's
unit_stage : (plan : Plan) → IsAccepted plan → (c : Class) (i : ℕ) → unit_at plan c i ≡ true → IsStage plan i
unfolding unit_at
unit_stage plan acc c i e = of_any (IsStage plan) i (stages_of plan c) e (unit_stages plan acc c)

-- a class that goes through no siding has units or no home
counts : (plan : Plan) (c : Class) → siding_of plan c ≡ None → homes plan c ≡ unit_homes (stages_of plan c)
counts plan c e =
    let a : nat_lt 0 (sidings_of plan c) ≡ false = sym (sided_is plan c) ∙ ap is_some e in
    let z : sidings_of plan c ≡ 0 = grind (arith, nat_tests) in
    let h = homes_are plan c in
    omega arith

-- a class that has a unit and one home goes through no siding
unit_unsided : (plan : Plan) → IsAccepted plan → (c : Class) (i : ℕ) → unit_at plan c i ≡ true → siding_of plan c ≡ None
unfolding unit_at
unit_unsided plan acc c i e =
    let u = unit_home (stages_of plan c) i e in
    let n = one_home plan acc c (unit_plain plan acc c i (unfold unit_at in e)) in
    let h = homes_are plan c in
    let z : sidings_of plan c ≡ 0 = omega arith in
    none (siding_of plan c) (sided_is plan c ∙ ap (nat_lt 0) z)
  where
    none : (o : Option ℕ) → is_some o ≡ nat_lt 0 0 → o ≡ None
    none None e = refl
    none (Some k) e = absurd (grind (arith, nat_tests))

-- the last stage of a plain class
last_is : (plan : Plan) (c : Class) → is_plain c ≡ true → last_stage plan c ≡ last_of (stages_of plan c) (recovers_by plan (siding_of plan c))
unfolding last_stage
last_is plan Memory e = absurd (cc)
last_is plan Serial e = absurd (cc)
last_is plan Free e = absurd (cc)
last_is plan _ e = refl

-- the last unit's stage has a unit
unit_last : (plan : Plan) (c : Class) → siding_of plan c ≡ None → is_plain c ≡ true → is_homed plan c ≡ true → unit_at plan c (last_stage plan c) ≡ true
unfolding unit_at
unit_last plan c e p h = rw (last_is plan c p) (go (none_or_some (stages_of plan c) (recovers_by plan (siding_of plan c))))
  where
    other : ℕ
    other = recovers_by plan (siding_of plan c)

    go : ((stages_of plan c ≡ []) × (unit_homes (stages_of plan c) ≡ 0) × (last_of (stages_of plan c) other ≡ other))
        ⊎ ((unit_homes (stages_of plan c) ≡ 1) × (list_any (nat_eq (last_of (stages_of plan c) other)) (stages_of plan c) ≡ true)) →
        list_any (nat_eq (last_of (stages_of plan c) other)) (stages_of plan c) ≡ true
    go (inr q) = q.1
    go (inl q) = let n = counts plan c e in let z : homes plan c ≡ 0 = n ∙ q.1 in absurd (grind (arith, nat_tests))

-- and is one of the pipeline's
last_stage_is : (plan : Plan) → IsAccepted plan → (c : Class) → IsStage plan (last_stage plan c)
unfolding last_stage
last_stage_is plan acc c = by c
  where
    none : IsStage plan (recovers_by plan None)
    none = let a = acc.stages.0 in (omega arith, omega arith)

    recovers : (c : Class) (o : Option ℕ) → siding_of plan c ≡ o → IsStage plan (recovers_by plan o)
    recovers c None e = none
    recovers c (Some k) e = let q = (siding_is plan acc c k e).recovers in unfold recover_stage in q

    general : (c : Class) → IsStage plan (last_of (stages_of plan c) (recovers_by plan (siding_of plan c)))
    general c = go (none_or_some (stages_of plan c) (recovers_by plan (siding_of plan c)))
      where
        other : ℕ
        other = recovers_by plan (siding_of plan c)

        go : ((stages_of plan c ≡ []) × (unit_homes (stages_of plan c) ≡ 0) × (last_of (stages_of plan c) other ≡ other))
            ⊎ ((unit_homes (stages_of plan c) ≡ 1) × (list_any (nat_eq (last_of (stages_of plan c) other)) (stages_of plan c) ≡ true)) →
            IsStage plan (last_of (stages_of plan c) other)
        go (inl q) = subst (IsStage plan) (sym q.2) (recovers c (siding_of plan c) refl)
        go (inr q) = of_any (IsStage plan) (last_of (stages_of plan c) other) (stages_of plan c) q.1 (unit_stages plan acc c)

    by : (c : Class) → IsStage plan (last_stage plan c)
    by Serial = none
    by Free = let a = acc.stages.0 in (omega arith, omega arith)
    by Add = general Add
    by Logic = general Logic
    by Shift = general Shift
    by Compare = general Compare
    by Branch = general Branch
    by Jump = general Jump
    by Memory = general Memory
    by Mul = general Mul
    by Div = general Div

-- control turns at or below the stage from which loads and stores are launched
control_low : (plan : Plan) → IsAccepted plan → (c : Class) (i : ℕ) → is_control c ≡ true → unit_at plan c i ≡ true → i ≤ launch_stage plan (port plan)
control_low plan acc c i t e = subst (λ (m : ℕ). i ≤ m) (launch_is plan) (acc.control_units c i t e)

control_siding : (plan : Plan) → IsAccepted plan → (c : Class) (k : ℕ) → is_control c ≡ true → siding_of plan c ≡ Some k →
    recover_stage plan k ≤ launch_stage plan (port plan)
unfolding recover_stage
control_siding plan acc c k t e =
    subst (λ (m : ℕ). (siding_plan_at plan k).recover ≤ m) (launch_is plan)
    (of_sided (λ siding. serves siding c ≡ true → siding.recover ≤ memory_launch plan) plan c k e (acc.control_sidings c t) (sided_for plan c k e))

-- a class of the base set has a home
basic_homed : (plan : Plan) → IsAccepted plan → (c : Class) → is_plain c ≡ true → is_extra c ≡ false → is_homed plan c ≡ true
basic_homed plan acc c p x = let n = acc.needed c (grind arith) in grind (arith, nat_tests)

-- memory's siding is the port's
memory_sided : (plan : Plan) → IsAccepted plan → siding_of plan Memory ≡ Some (port plan)
unfolding port
memory_sided plan acc = go (siding_of plan Memory) refl
  where
    go : (o : Option ℕ) → siding_of plan Memory ≡ o → o ≡ Some (on o 0 (λ k. k))
    go (Some k) e = refl
    go None e =
        let n = counts plan Memory e in
        let u : unit_homes (stages_of plan Memory) ≡ 0 = ap unit_homes acc.memory in
        let h = acc.needed Memory refl in
        absurd (omega arith)

-- a siding is for what is computed
sided_plain : (plan : Plan) → IsAccepted plan → (c : Class) (k : ℕ) → siding_of plan c ≡ Some k → (is_plain c || is_memory c) ≡ true
unfolding serves
sided_plain plan acc c k e = by c (computed (siding_plan_at plan k).classes c (siding_is plan acc c k e).computed (sided_for plan c k e))
  where
    by : (c : Class) → place_of c < 9 → (is_plain c || is_memory c) ≡ true
    by Serial n = absurd (omega arith)
    by Free n = absurd (omega arith)
    by Add n = refl
    by Logic n = refl
    by Shift n = refl
    by Compare n = refl
    by Branch n = refl
    by Jump n = refl
    by Memory n = refl
    by Mul n = refl
    by Div n = refl

-- memory's siding is its own
memory_alone : (plan : Plan) → IsAccepted plan → (c : Class) → siding_of plan c ≡ Some (port plan) → c ≡ Memory
memory_alone plan acc c e =
    let m = memory_sided plan acc in
    let only = (siding_is plan acc Memory (port plan) m).memory_alone (sided_for plan Memory (port plan) m) in
    memory_only c (siding_plan_at plan (port plan)) only (sided_for plan c (port plan) e)

-- an accepted layout suits the moves
pub accepted_suits : (plan : Plan) → IsAccepted plan → Suits plan
accepted_suits plan acc = record {
  plain = unit_plain plan acc;
  control_low = λ c i t e. not_high plan i (control_low plan acc c i t e);
  control_last = λ c t e. control_low plan acc c (last_stage plan c) t (unit_last plan c e (control_plain c t)
      (basic_homed plan acc c (control_plain c t) (control_base c t)));
  control_siding = control_siding plan acc;
  order = λ c k e. let q = (siding_is plan acc c k e).order in unfold launch_stage recover_stage in q;
  memory = memory_sided plan acc;
  berth = λ c k e. let q = (siding_is plan acc c k e).cells.0 in unfold cells_of in some (siding_plan_at plan k).cells q;
  sided = sided_plain plan acc;
  unsided = unit_unsided plan acc;
  in_pipe = λ c k e. let q = (siding_is plan acc c k e).recovers.1 in unfold recover_stage in q;
  unit_last = unit_last plan;
  last_within = λ c. (last_stage_is plan acc c).1;
  serial_last = unfold last_stage in refl;
  lane = acc.lane.0;
  tall = let a = acc.stages.0 in omega arith;
  first_launch = λ c k e. let q = (siding_is plan acc c k e).launches.0 in unfold launch_stage in q;
  first_last = λ c e. (last_stage_is plan acc c).0;
  alone = memory_alone plan acc;
  basic = basic_homed plan acc;
}
  where
    not_high : (plan : Plan) (i : ℕ) → i ≤ launch_stage plan (port plan) → is_high plan i ≡ false
    not_high plan i n = grind (arith, nat_tests)

    control_plain : (c : Class) → is_control c ≡ true → is_plain c ≡ true
    control_plain c e = grind arith

    control_base : (c : Class) → is_control c ≡ true → is_extra c ≡ false
    control_base c e = grind arith

    some : (m : ℕ) → 1 ≤ m → (n : ℕ) × (m ≡ suc n)
    some zero e = absurd (omega arith)
    some (suc m) e = (m, refl)
