-- Where control turns in a layout that parts describe.
use Rattle.std.proofs.Common.{◌≡◌, ℕ, ℤ, pos, negsuc, zero, suc, ◌+◌, ◌<◌, ◌≤◌, List, [], ◌∷◌, All, Bool, true, false, cond, Option, Some, None, length, map, refl, ap, arith, ◌∙◌, sym}
use Rattle.std.specs.Prelude.{find, filter, position, slice_get, nat_lt, nat_eq, ◌||◌, unwrap_or, option_map}
use Rattle.std.specs.List.{list_any, position_or_len}
use Rattle.std.proofs.lemmas.List.Elements.{All-cons, All-nil, All-map, All-tail}
use Rattle.std.proofs.lemmas.List.Folds.{find_at, list_any_at}
use Rattle.std.proofs.lemmas.List.{length-map}
use Rattle.std.proofs.lemmas.Option.{same_Some}
use Rattle.std.proofs.lemmas.Bool.Decides.{nat_tests}
use Rattle.rv_inst.specs.declared.classes.Class.{Class}
use Rattle.rv_inst.specs.declared.classes.Class.TheVariants.{Memory, Mul, Div}
use Rattle.cf_layout.specs.declared.parts.Siding as asked
use Rattle.cf_layout.specs.declared.parts.Parts.{Parts}
use Rattle.cf_layout.specs.Layout.{Plan, SidingPlan, no_siding, siding_of, launch_stage, serves, unit_at}
use Rattle.cf_layout.specs.Accepted.{memory_launch}
use Rattle.cf_layout.specs.Accepted as accepted
use Rattle.cf_layout.specs.Asked.{natural, is_integer_within, is_asked, units_plan, lists_class, ascending, siding_plan, is_unit, is_sided, stages_listed, plan_of}
use Rattle.cf_layout.specs.Acceptable.{IsComputed, AreComputed, AreEquipped, IsAcceptable, IsSiding, asked_classes, sided_classes, times}
use Rattle.cf_layout.specs.Refusal.{siding_for, launch_in, memory_launch_in, turns_in}
use Rattle.cf_layout.proofs.Counts.{any_kept, times_append, is_unit_times, is_sided_times, is_asked_times}
use Rattle.cf_layout.proofs.Passing.{lt_true}
use Rattle.cf_layout.proofs.Described.{described_stages, serves_named, listed_none, ascending_none, served_times, siding_described, homes_times, one_where_asked, same_homes, needed_computed, control_needed, no_memory_unit, no_memory_stages, units_rise, units_within}

-- one step of the search in the sidings that the parts describe
found_step : (here there : Bool) (siding : asked.Siding) (rest : Option asked.Siding) (found : Option SidingPlan) → here ≡ there →
    found ≡ option_map siding_plan rest → cond here (Some (siding_plan siding)) found ≡ option_map siding_plan (cond there (Some siding) rest)
found_step here true siding rest found e later = rw e refl
found_step here false siding rest found e later = rw e later

-- the siding that serves a class is the one whose requested siding names the class
found_plan : (sidings : List asked.Siding) (c : Class) → IsComputed c → find (λ s. serves s c) (map siding_plan sidings)
    ≡ option_map siding_plan (find (λ s. lists_class s.classes c) sidings)
found_plan [] c small = refl
found_plan (siding ∷ sidings) c small = found_step (serves (siding_plan siding) c) (lists_class siding.classes c) siding
    (find (λ s. lists_class s.classes c) sidings)
    (find (λ s. serves s c) (map siding_plan sidings)) (serves_named siding c small) (found_plan sidings c small)

-- past its end a list has nothing
after_end : (sidings : List SidingPlan) (k : ℕ) → length sidings ≤ k → slice_get sidings k ≡ None
after_end [] k after = refl
after_end (siding ∷ sidings) zero after = absurd (omega arith)
after_end (siding ∷ sidings) (suc k) after = after_end sidings k (omega arith)

-- the element at the index that is found, by whether there is one
position_by : (sidings : List SidingPlan) (siding : SidingPlan) (k : ℕ) (within : Bool) → nat_lt k (length sidings) ≡ within →
    slice_get sidings k ≡ Some siding → unwrap_or (slice_get sidings (unwrap_or (cond within (Some k) None) 0)) no_siding ≡ siding
position_by sidings siding k true e at = rw at refl
position_by sidings siding k false e at = let none = after_end sidings k (grind (arith, nat_tests)) in cc

-- if an element is found, its index gives it
position_gives : (test : SidingPlan → Bool) (sidings : List SidingPlan) (siding : SidingPlan) → find test sidings ≡ Some siding →
    unwrap_or (slice_get sidings (unwrap_or (position test sidings) 0)) no_siding ≡ siding
position_gives test sidings siding e = position_by sidings siding (position_or_len test sidings) (nat_lt (position_or_len test sidings) (length sidings)) refl
    (sym (find_at test sidings) ∙ e)

-- an element is found, by whether it is the first
some_found_step : {X : Type 0} (here rest : Bool) (x : X) (found : Option X) → (here || rest) ≡ true → (rest ≡ true → (y : X) × (found ≡ Some y)) →
    (y : X) × (cond here (Some x) found ≡ Some y)
some_found_step true rest x found e later = (x, refl)
some_found_step false rest x found e later = later e

-- if some element passes, one is found
some_found : {X : Type 0} (test : X → Bool) (xs : List X) → list_any test xs ≡ true → (y : X) × (find test xs ≡ Some y)
some_found test [] e = cc
some_found test (x ∷ xs) e = some_found_step (test x) (list_any test xs) x (find test xs) e (λ later. some_found test xs later)

-- if no element passes, none is found
none_found_step : {X : Type 0} (here rest : Bool) (x : X) (found : Option X) → (here || rest) ≡ false → (rest ≡ false → found ≡ None) →
    cond here (Some x) found ≡ None
none_found_step true rest x found e later = cc
none_found_step false rest x found e later = later e

none_found : {X : Type 0} (test : X → Bool) (xs : List X) → list_any test xs ≡ false → find test xs ≡ None
none_found test [] e = refl
none_found test (x ∷ xs) e = none_found_step (test x) (list_any test xs) x (find test xs) e (λ later. none_found test xs later)

-- the siding that serves a class in the layout that the parts describe, if one is requested for it
serving : (sidings : List asked.Siding) (siding : asked.Siding) (c : Class) → IsComputed c → find (λ s. lists_class s.classes c) sidings ≡ Some siding →
    find (λ s. serves s c) (map siding_plan sidings) ≡ Some (siding_plan siding)
serving sidings siding c small e = found_plan sidings c small ∙ ap (λ (o : Option asked.Siding). option_map siding_plan o) e

-- the stage from which the requested siding launches
launch_of : (o : Option asked.Siding) (siding : asked.Siding) → o ≡ Some siding → launch_in o ≡ (siding_plan siding).launch
unfolding siding_plan
launch_of o siding e = rw e refl

-- the stage from which loads and stores are launched
pub launch_given : (sidings : List asked.Siding) (plan : Plan) → plan.sidings ≡ map siding_plan sidings → is_sided sidings Memory ≡ true →
    memory_launch plan ≡ memory_launch_in sidings
unfolding memory_launch launch_stage siding_of memory_launch_in siding_for
launch_given sidings plan same e =
    let f = some_found (λ s. lists_class s.classes Memory) sidings e in
    let g = serving sidings f.0 Memory (omega arith) f.1 in
    let p = position_gives (λ s. serves s Memory) (map siding_plan sidings) (siding_plan f.0) g in
    rw same (ap (λ (s : SidingPlan). s.launch) p ∙ sym (launch_of _ f.0 f.1))

-- the only element that passes is the one found, by whether it is the first
only_step : {X : Type 0} (test : X → Bool) (here : Bool) (x y : X) (xs : List X) → test x ≡ here →
    length (cond here (x ∷ filter test xs) (filter test xs)) ≤ 1 → list_any test xs ≡ true → (length (filter test xs) ≤ 1 → find test xs ≡ Some y) →
    cond here (Some x) (find test xs) ≡ Some y
only_step test true x y xs e one some later = let more : 0 < length (filter test xs) = lt_true 0 _ (sym (any_kept test xs) ∙ some) in absurd (omega arith)
only_step test false x y xs e one some later = later one

-- the only element that passes is the one found
only_found : {X : Type 0} (test : X → Bool) (xs : List X) → length (filter test xs) ≤ 1 → All (λ x. test x ≡ true → find test xs ≡ Some x) xs
only_found test [] one = All-nil (λ x. test x ≡ true → find test [] ≡ Some x)
only_found test (x ∷ xs) one = All-cons (λ y. test y ≡ true → find test (x ∷ xs) ≡ Some y) x xs (λ here. rw here refl)
    (λ k d within here. only_step test (test x) x _ xs refl one (list_any_at test xs k d within here) (λ less. only_found test xs less k d within here))

-- the recovery of the siding that is found
recover_low : (o : Option asked.Siding) (siding : SidingPlan) (stages : List ℕ) (launch : ℕ) → Some siding ≡ option_map siding_plan o →
    All (λ stage. stage ≤ launch) (turns_in stages o) → siding.recover ≤ launch
unfolding siding_plan
recover_low None siding stages launch e all = cc
recover_low (Some s) siding stages launch e all = let same = same_Some _ _ e in rw same (all 0 0 (omega arith))

-- control turns at or below the launch stage at each siding that serves the class
sidings_low : (sidings : List asked.Siding) (c : Class) (stages : List ℕ) (launch : ℕ) → IsComputed c → times (sided_classes sidings) c ≤ 1 →
    All (λ stage. stage ≤ launch) (turns_in stages (siding_for sidings c)) → All (λ siding. serves siding c ≡ true →
    siding.recover ≤ launch) (map siding_plan sidings)
unfolding siding_for
sidings_low sidings c stages launch small once all =
    let one : length (filter (λ s. serves s c) (map siding_plan sidings)) ≤ 1 = rw (served_times sidings c small once) once in
    λ k d within here. recover_low _ _ stages launch (sym (only_found (λ s. serves s c) (map siding_plan sidings) one k d within here)
    ∙ found_plan sidings c small) all

-- what holds of all numbers of a list holds of each one in it, by whether it is the first
any_all_step : (launch i j : ℕ) (here rest : Bool) → nat_eq i j ≡ here → (here || rest) ≡ true → j ≤ launch → (rest ≡ true → i ≤ launch) → i ≤ launch
any_all_step launch i j true rest at e low later = grind (arith, nat_tests)
any_all_step launch i j false rest at e low later = later e

any_all : (launch i : ℕ) (stages : List ℕ) → All (λ stage. stage ≤ launch) stages → list_any (nat_eq i) stages ≡ true → i ≤ launch
any_all launch i [] all e = cc
any_all launch i (j ∷ js) all e = any_all_step launch i j (nat_eq i j) (list_any (nat_eq i) js) refl e (all 0 0 (omega arith))
    (λ later. any_all launch i js (All-tail (λ stage. stage ≤ launch) j js all) later)

-- a class with units has no siding
no_siding_beside : (units sidings : ℕ) → nat_lt 0 units ≡ true → units + sidings ≤ 1 → nat_lt 0 sidings ≡ false
no_siding_beside units sidings e once = grind (arith, nat_tests)

-- control turns at or below the launch stage at each unit, by whether there are units
units_low : (parts : Parts) (c : Class) (launch i : ℕ) (some : Bool) → is_unit parts.units c ≡ some → times (asked_classes parts) c ≤ 1 →
    All (λ stage. stage ≤ launch) (turns_in (ascending (stages_listed parts.units c)) (siding_for parts.sidings c)) →
    list_any (nat_eq i) (ascending (stages_listed parts.units c)) ≡ true → i ≤ launch
unfolding siding_for
units_low parts c launch i true e once all at =
    let t = times_append (map (λ unit. unit.0) parts.units) (sided_classes parts.sidings) c in
    let apart : nat_lt 0 (times (sided_classes parts.sidings) c) ≡ false = no_siding_beside (times (map (λ unit. unit.0) parts.units) c)
    (times (sided_classes parts.sidings) c) (sym (is_unit_times parts.units c) ∙ e) (omega (arith, t)) in
    let none = none_found (λ s. lists_class s.classes c) parts.sidings (is_sided_times parts.sidings c ∙ apart) in
    let low = rw none at all in
    any_all launch i (ascending (stages_listed parts.units c)) low at
units_low parts c launch i false e once all at = let n = listed_none parts.units c e in let f = rw (n, ascending_none) at at in cc

-- a class that is requested, but in no unit, is in a siding
sided_where : (u t : ℕ) → nat_lt 0 u ≡ false → nat_lt 0 (u + t) ≡ true → nat_lt 0 t ≡ true
sided_where u t e f = grind (arith, nat_tests)

-- Memory goes through a siding
memory_sided : (parts : Parts) → is_unit parts.units Memory ≡ false → is_asked parts Memory ≡ true → is_sided parts.sidings Memory ≡ true
memory_sided parts none there =
    let t = times_append (map (λ unit. unit.0) parts.units) (sided_classes parts.sidings) Memory in
    is_sided_times parts.sidings Memory ∙ sided_where (times (map (λ unit. unit.0) parts.units) Memory) (times (sided_classes parts.sidings) Memory)
    (sym (is_unit_times parts.units Memory) ∙ none) (ap (λ (n : ℕ). nat_lt 0 n) (sym t) ∙ (sym (is_asked_times parts Memory) ∙ there))

-- the sidings of the layout that the parts describe
sidings_described : (plan : Plan) (sidings : List asked.Siding) → All (λ siding. All IsComputed siding.classes) sidings → All (IsSiding plan.stages) sidings →
    All (accepted.IsSiding plan) (map siding_plan sidings)
sidings_described plan sidings computed all = All-map (accepted.IsSiding plan) siding_plan sidings
    (λ k d within. siding_described plan _ (computed k d within) (all k d within))

-- the limits of numbers
natural_within : (least most : ℕ) (z : ℤ) → is_integer_within least most z ≡ true → (least ≤ natural z) × (natural z ≤ most)
natural_within least most (pos n) e = (grind (arith, nat_tests), grind (arith, nat_tests))
natural_within least most (negsuc n) e = cc

-- a list for each of nine classes
nine_classes : (units : List (Class × List ℤ)) → length (units_plan units) ≡ 9
unfolding units_plan
nine_classes units = refl

-- the sidings name a class at most once if all parts do
sided_once : (parts : Parts) (c : Class) → times (asked_classes parts) c ≤ 1 → times (sided_classes parts.sidings) c ≤ 1
sided_once parts c once = omega (arith, times_append (map (λ unit. unit.0) parts.units) (sided_classes parts.sidings) c)

-- the layout that equipped parts describe is equipped
pub described_equipped : (parts : Parts) → AreComputed parts → AreEquipped parts → accepted.IsEquipped (plan_of parts)
unfolding plan_of
described_equipped parts computed a =
    let high : natural parts.stages ≤ 32 = (natural_within 2 32 parts.stages a.stages).1 in
    record {
      stages = natural_within 2 32 parts.stages a.stages;
      lane = natural_within 2 64 parts.lane a.lane;
      few_sidings = rw length-map a.few_sidings;
      classes = nine_classes parts.units;
      ascending = units_rise parts.units;
      unit_stages = units_within (natural parts.stages) parts.units a.units;
      sidings = sidings_described (plan_of parts) parts.sidings computed.sidings a.sidings;
      needed = λ c e. one_where_asked parts c (needed_computed c e) high a.units (a.once c) (a.needed c e);
      pair = same_homes parts Mul Div (omega arith) (omega arith) high a.units a.once a.pair;
      pair_once = rw (homes_times parts Mul (omega arith) high a.units (a.once Mul)) (a.once Mul);
      memory = no_memory_stages parts a.units;
    }

-- and the one that acceptable parts describe is accepted
pub described : (parts : Parts) → AreComputed parts → IsAcceptable parts → accepted.IsAccepted (plan_of parts)
unfolding plan_of unit_at
described parts computed a =
    let beside = no_memory_unit (natural parts.stages) parts.units a.units in
    let launch = launch_given parts.sidings (plan_of parts) refl (memory_sided parts beside (a.needed Memory refl)) in
    record {
      equipped = described_equipped parts computed a.equipped;
      control_units = λ c i turns at. rw launch (units_low parts c (memory_launch_in parts.sidings) i (is_unit parts.units c) refl (a.once c)
          (a.control c turns) (rw (described_stages parts c (needed_computed c (control_needed c turns))) at at));
      control_sidings = λ c turns. rw launch (sidings_low parts.sidings c (ascending (stages_listed parts.units c)) (memory_launch_in parts.sidings)
          (needed_computed c (control_needed c turns)) (sided_once parts c (a.once c)) (a.control c turns));
    }
