-- The parts that request a layout: if the layout is accepted, they are acceptable and describe it again.
use Rattle.std.proofs.Common.{◌≡◌, ℕ, ℤ, pos, zero, suc, ◌+◌, ◌<◌, ◌≤◌, List, [], ◌∷◌, ◌++◌, All, Bool, true, false, cond, Option, Some, None, length, map, get_or, refl, ap, arith, ◌∙◌, sym, subst}
use Rattle.std.specs.Prelude.{find, filter, nat_eq, nat_lt, option_map, ◌||◌, slice_get, unwrap_or, ◌≢◌, ◌<ℤ◌}
use Rattle.std.specs.List.Sorted.{IsStrictlyIncreasing}
use Rattle.std.proofs.lemmas.List.Elements.{All-cons, All-nil, All-map, All-tail}
use Rattle.std.proofs.lemmas.List.{length-map}
use Rattle.std.proofs.lemmas.List.Folds.{list_any_at}
use Rattle.std.proofs.lemmas.Int.{ints}
use Rattle.std.proofs.lemmas.Option.{same_Some}
use Rattle.std.proofs.lemmas.Bool.Decides.{nat_tests}
use Rattle.rv_inst.specs.declared.classes.Class.{Class}
use Rattle.rv_inst.specs.declared.classes.Class.TheVariants.{Add, Logic, Shift, Compare, Branch, Jump, Memory, Serial, Free, Mul, Div}
use Rattle.cf_layout.specs.declared.parts.Siding as asked
use Rattle.cf_layout.specs.declared.parts.Parts.{Parts}
use Rattle.cf_layout.specs.Layout.{Plan, SidingPlan, place_of, same_class, computed_classes, stages_of, unit_at, unit_homes, homes, serves}
use Rattle.cf_layout.specs.Accepted.{IsStage, IsAccepted, is_needed, is_control, memory_launch}
use Rattle.cf_layout.specs.Accepted as accepted
use Rattle.cf_layout.specs.Asked.{is_integer_within, lists_class, is_sided, is_asked, stages_in, stages_listed, ascending, siding_plan, units_plan, plan_of}
use Rattle.cf_layout.specs.Acceptable.{IsComputed, AreEquipped, IsAcceptable, IsUnit, IsSiding, times, sided_classes, asked_classes}
use Rattle.cf_layout.specs.Refusal.{siding_for, turns_in, memory_launch_in, first_refusal}
use Rattle.cf_layout.proofs.Counts.{same_true, times_append, times_cons, times_nil, is_sided_times, is_asked_times}
use Rattle.cf_layout.proofs.Facts.{one_home}
use Rattle.cf_layout.proofs.Described.{needed_computed, control_needed}
use Rattle.cf_layout.proofs.Control.{launch_given}
use Rattle.cf_layout.proofs.Unrefused.{not_refused}
use Rattle.cf_layout.proofs.Ordered.{Rises, rises_from, not_among, few_stages, ascending_same, in_order_same, has_place, places_same}

-- the entry of a class: no entry if it has no stage
abbrev pub unit_for : Class → List ℕ → List (Class × List ℤ)
unit_for c [] = []
unit_for c (i ∷ is) = (c, map (λ n. pos n) (i ∷ is)) ∷ []

-- the entries of these classes
abbrev pub units_for : (Class → List ℕ) → List Class → List (Class × List ℤ)
units_for stages [] = []
units_for stages (c ∷ cs) = unit_for c (stages c) ++ units_for stages cs

-- the parts that request a siding
abbrev pub asking_siding : SidingPlan → asked.Siding
asking_siding siding = record { classes = siding.classes; launch = pos siding.launch; recover = pos siding.recover; cells = pos siding.cells }

-- the parts that request a layout
abbrev pub asking : Plan → Parts
asking plan = record {
  stages = pos plan.stages;
  lane = pos plan.lane;
  cache = plan.cache;
  units = units_for (stages_of plan) computed_classes;
  sidings = map asking_siding plan.sidings;
}

-- both choices are empty
nothing : (b : Bool) → cond b [] [] ≡ map (λ n. pos n) []
nothing true = refl
nothing false = refl

-- the stages that are listed, by whether the first class is the one searched
listed_by : (c d : Class) (same more : Bool) (mine stages : List ℕ) (rest : List (Class × List ℤ)) → same_class c d ≡ same → (same ≡ true → mine ≡ stages) →
    stages_in (find (λ unit. same_class c unit.0) rest) ≡ cond more (map (λ n. pos n) mine) []
    → stages_in (find (λ unit. same_class c unit.0) (unit_for d stages ++ rest)) ≡ cond (same || more) (map (λ n. pos n) mine) []
listed_by c d true more mine [] rest e equal after = let none = equal refl in rw none (rw none at after ∙ nothing more)
listed_by c d false more mine [] rest e equal after = after
listed_by c d true more mine (i ∷ is) rest e equal after = let all = equal refl in rw (e, all) refl
listed_by c d false more mine (i ∷ is) rest e equal after = rw e after

listed_among : (stages : Class → List ℕ) (c : Class) (cs : List Class) → stages_in (find (λ unit. same_class c unit.0) (units_for stages cs))
    ≡ cond (lists_class cs c) (map (λ n. pos n) (stages c)) []
listed_among stages c [] = refl
listed_among stages c (d ∷ ds) = listed_by c d (same_class c d) (lists_class ds c) (stages c) (stages d) (units_for stages ds) refl
    (λ same. ap stages (same_true c d same)) (listed_among stages c ds)

-- a computed class is one of the computed classes
one_of_them : (c : Class) → IsComputed c → lists_class computed_classes c ≡ true
one_of_them Add small = refl
one_of_them Logic small = refl
one_of_them Shift small = refl
one_of_them Compare small = refl
one_of_them Branch small = refl
one_of_them Jump small = refl
one_of_them Memory small = refl
one_of_them Mul small = refl
one_of_them Div small = refl
one_of_them Serial small = absurd (omega arith)
one_of_them Free small = absurd (omega arith)

-- the stages that are listed for a computed class are its stages
asked_stages : (plan : Plan) (c : Class) → IsComputed c → stages_listed (units_for (stages_of plan) computed_classes) c ≡ map (λ n. pos n) (stages_of plan c)
unfolding stages_listed
asked_stages plan c small = listed_among (stages_of plan) c computed_classes ∙ ap (λ (b : Bool). cond b (map (λ n. pos n) (stages_of plan c)) [])
    (one_of_them c small)

-- the stages at an index
place_within : (plan : Plan) (units : List (List ℕ)) (place : ℕ) → All IsStrictlyIncreasing units → All (All (IsStage plan)) units →
    IsStrictlyIncreasing (unwrap_or (slice_get units place) []) × All (IsStage plan) (unwrap_or (slice_get units place) [])
place_within plan [] place rise stages = ((λ k below. absurd (omega arith)), All-nil (IsStage plan))
place_within plan (u ∷ us) zero rise stages = (rise 0 [] (omega arith), stages 0 [] (omega arith))
place_within plan (u ∷ us) (suc place) rise stages = place_within plan us place (All-tail IsStrictlyIncreasing u us rise)
    (All-tail (All (IsStage plan)) u us stages)

pub class_within : (plan : Plan) → IsAccepted plan → (c : Class) → IsStrictlyIncreasing (stages_of plan c) × All (IsStage plan) (stages_of plan c)
unfolding stages_of
class_within plan a c = place_within plan plan.units (place_of c) a.ascending a.unit_stages

-- the stages of a computed class are requested unchanged
pub stages_back : (plan : Plan) → IsAccepted plan → (c : Class) → IsComputed c → ascending (stages_listed (asking plan).units c) ≡ stages_of plan c
stages_back plan a c small =
    let w = class_within plan a c in
    let few = a.stages.1 in
    ap ascending (asked_stages plan c small) ∙ ascending_same (stages_of plan c) w.0 (λ k d within. (w.1 k d within).0) (λ k d within. let i =
    (w.1 k d within).1 in omega arith)

-- and are at most 32
pub class_stages_few : (plan : Plan) → IsAccepted plan → (c : Class) → length (stages_of plan c) ≤ 32
class_stages_few plan a c =
    let w = class_within plan a c in
    let few = a.stages.1 in
    few_stages (stages_of plan c) w.0 (λ k d within. (w.1 k d within).0) (λ k d within. let i = (w.1 k d within).1 in omega arith)

-- nine lists, each taken at its index, are the list of the nine
nine_places : (units : List (List ℕ)) → length units ≡ 9 → map (λ c. unwrap_or (slice_get units (place_of c)) []) computed_classes ≡ units
nine_places (a ∷ b ∷ c ∷ d ∷ e ∷ f ∷ g ∷ h ∷ i ∷ []) nine = refl
nine_places [] nine = absurd (omega arith)
nine_places (a ∷ []) nine = absurd (omega arith)
nine_places (a ∷ b ∷ []) nine = absurd (omega arith)
nine_places (a ∷ b ∷ c ∷ []) nine = absurd (omega arith)
nine_places (a ∷ b ∷ c ∷ d ∷ []) nine = absurd (omega arith)
nine_places (a ∷ b ∷ c ∷ d ∷ e ∷ []) nine = absurd (omega arith)
nine_places (a ∷ b ∷ c ∷ d ∷ e ∷ f ∷ []) nine = absurd (omega arith)
nine_places (a ∷ b ∷ c ∷ d ∷ e ∷ f ∷ g ∷ []) nine = absurd (omega arith)
nine_places (a ∷ b ∷ c ∷ d ∷ e ∷ f ∷ g ∷ h ∷ []) nine = absurd (omega arith)
nine_places (a ∷ b ∷ c ∷ d ∷ e ∷ f ∷ g ∷ h ∷ i ∷ j ∷ rest) nine = absurd (omega arith)

-- two functions that agree on each computed class give the same list
same_at : (f g : Class → List ℕ) → ((c : Class) → IsComputed c → f c ≡ g c) → map f computed_classes ≡ map g computed_classes
same_at f g same = rw (
  same Add (omega arith),
  same Logic (omega arith),
  same Shift (omega arith),
  same Compare (omega arith),
  same Branch (omega arith),
  same Jump (omega arith),
  same Memory (omega arith),
  same Mul (omega arith),
  same Div (omega arith),
) refl

units_back : (plan : Plan) → IsAccepted plan → units_plan (asking plan).units ≡ plan.units
unfolding units_plan stages_of
units_back plan a = same_at (λ c. ascending (stages_listed (asking plan).units c)) (λ c. unwrap_or (slice_get plan.units (place_of c)) []) (stages_back plan a)
    ∙ nine_places plan.units a.classes

-- a requested siding is read as it was
siding_back : (plan : Plan) (siding : SidingPlan) → accepted.IsSiding plan siding → siding_plan (asking_siding siding) ≡ siding
unfolding siding_plan
siding_back plan siding s = rw (in_order_same siding.classes s.ordered s.computed) refl

sidings_back : (plan : Plan) (sidings : List SidingPlan) → All (accepted.IsSiding plan) sidings → map siding_plan (map asking_siding sidings) ≡ sidings
sidings_back plan [] all = refl
sidings_back plan (s ∷ ss) all = rw (siding_back plan s (all 0 s (omega arith)), sidings_back plan ss (All-tail (accepted.IsSiding plan) s ss all)) refl

-- so the layout is read as it was
pub plan_back : (plan : Plan) → IsAccepted plan → plan_of (asking plan) ≡ plan
unfolding plan_of
plan_back plan a = rw (units_back plan a, sidings_back plan plan.sidings a.sidings) refl

-- how often a class is in the entries, with one more entry
none_more : (b : Bool) (t : ℕ) → t ≡ cond b 0 0 + t
none_more true t = omega arith
none_more false t = omega arith

entry_times : (c d : Class) (stages : List ℕ) (rest : List (Class × List ℤ)) → times (map (λ unit. unit.0) (unit_for d stages ++ rest)) c
    ≡ cond (same_class c d) (unit_homes stages) 0 + times (map (λ unit. unit.0) rest) c
entry_times c d [] rest = none_more (same_class c d) (times (map (λ unit. unit.0) rest) c)
entry_times c d (i ∷ is) rest = times_cons d (map (λ unit. unit.0) rest) c

times_step : (same : Bool) (mine here t r n : ℕ) → (same ≡ true → mine ≡ here) → cond same 1 0 + t ≡ n → n ≤ 1 → r ≡ cond (nat_lt 0 t) mine 0 →
    cond same here 0 + r ≡ cond (nat_lt 0 n) mine 0
times_step true mine here t r n equal e one after =
    let none : t ≡ 0 = omega arith in
    let some : n ≡ 1 = omega arith in
    let all = equal refl in
    let gone = rw none at after in
    rw some (omega arith)
times_step false mine here t r n equal e one after = let same : t ≡ n = omega arith in let b = rw same at after in omega arith

units_times : (stages : Class → List ℕ) (c : Class) (cs : List Class) (n : ℕ) → times cs c ≡ n → n ≤ 1 →
    times (map (λ unit. unit.0) (units_for stages cs)) c ≡ cond (nat_lt 0 n) (unit_homes (stages c)) 0
units_times stages c [] n e one = let z : n ≡ 0 = sym e ∙ times_nil c in rw z (times_nil c)
units_times stages c (d ∷ ds) n e one =
    let t = sym (times_cons d ds c) ∙ e in
    entry_times c d (stages d) (units_for stages ds)
    ∙ times_step (same_class c d) (unit_homes (stages c)) (unit_homes (stages d)) (times ds c) (times (map (λ unit. unit.0) (units_for stages ds)) c) n
    (λ same. ap (λ k. unit_homes (stages k)) (same_true c d same)) t one (units_times stages c ds (times ds c) refl (omega arith))

-- a class is once among the computed ones, or not at all
computed_times : (c : Class) → times computed_classes c ≡ cond (nat_lt (place_of c) 9) 1 0
unfolding times
computed_times Add = refl
computed_times Logic = refl
computed_times Shift = refl
computed_times Compare = refl
computed_times Branch = refl
computed_times Jump = refl
computed_times Memory = refl
computed_times Mul = refl
computed_times Div = refl
computed_times Serial = refl
computed_times Free = refl

-- how often a class is in a list of classes that ascends
rise_step : (same rest : Bool) (t : ℕ) → (same ≡ true → rest ≡ false) → t ≡ cond rest 1 0 → cond same 1 0 + t ≡ cond (same || rest) 1 0
rise_step true rest t alone e = let none = alone refl in let z = rw none at e in omega arith
rise_step false rest t alone e = omega arith

rise_times : (k : ℕ) (classes : List Class) (c : Class) → Rises k (map place_of classes) → times classes c ≡ cond (lists_class classes c) 1 0
unfolding has_place
rise_times k [] c rise = times_nil c
rise_times k (d ∷ ds) c rise =
    times_cons d ds c
    ∙ rise_step (same_class c d) (lists_class ds c) (times ds c) (λ same. let at = ap place_of (same_true c d same) in
    places_same (place_of c) ds ∙ not_among (place_of c) (suc (place_of d)) (map place_of ds) (omega arith) rise.1)
    (rise_times (suc (place_of d)) ds c rise.1)

class_times : (plan : Plan) (siding : SidingPlan) (c : Class) → accepted.IsSiding plan siding → times siding.classes c ≡ cond (serves siding c) 1 0
unfolding serves
class_times plan siding c s = rise_times 0 siding.classes c (rises_from 0 (map place_of siding.classes) s.ordered (λ k d within. omega arith))

-- how often it is in the sidings
kept_more : (served : Bool) (siding : SidingPlan) (kept : List SidingPlan) (t r : ℕ) → t ≡ cond served 1 0 → r ≡ length kept →
    t + r ≡ length (cond served (siding ∷ kept) kept)
kept_more true siding kept t r e f = omega arith
kept_more false siding kept t r e f = omega arith

sided_times : (plan : Plan) (sidings : List SidingPlan) (c : Class) → All (accepted.IsSiding plan) sidings →
    times (sided_classes (map asking_siding sidings)) c ≡ length (filter (λ siding. serves siding c) sidings)
sided_times plan [] c all = times_nil c
sided_times plan (s ∷ ss) c all =
    times_append s.classes (sided_classes (map asking_siding ss)) c
    ∙ kept_more (serves s c) s (filter (λ siding. serves siding c) ss) (times s.classes c) (times (sided_classes (map asking_siding ss)) c)
    (class_times plan s c (all 0 s (omega arith))) (sided_times plan ss c (All-tail (accepted.IsSiding plan) s ss all))

-- so all parts together name a class, if it is computed, as often as it has homes
both_times : (plan : Plan) → IsAccepted plan → (c : Class) (n : ℕ) → times computed_classes c ≡ n → n ≤ 1 →
    times (asked_classes (asking plan)) c ≡ cond (nat_lt 0 n) (unit_homes (stages_of plan c)) 0 + length (filter (λ siding. serves siding c) plan.sidings)
both_times plan a c n e one =
    times_append (map (λ unit. unit.0) (asking plan).units) (sided_classes (asking plan).sidings) c
    ∙ rw (units_times (stages_of plan) c computed_classes n e one, sided_times plan plan.sidings c a.sidings) refl

asked_homes : (plan : Plan) → IsAccepted plan → (c : Class) → IsComputed c → times (asked_classes (asking plan)) c ≡ homes plan c
unfolding homes
asked_homes plan a c small =
    let there : nat_lt (place_of c) 9 ≡ true = grind (arith, nat_tests) in
    both_times plan a c 1 (computed_times c ∙ rw there refl) (omega arith)

few_homes : (b : Bool) (units sided : ℕ) → units + sided ≤ 1 → cond (nat_lt 0 (cond b 1 0)) units 0 + sided ≤ 1
few_homes true units sided one = one
few_homes false units sided one = omega arith

one_at_most : (b : Bool) → cond b 1 0 ≤ 1
one_at_most true = omega arith
one_at_most false = omega arith

-- and no class is listed twice
asked_once : (plan : Plan) → IsAccepted plan → (c : Class) → times (asked_classes (asking plan)) c ≤ 1
unfolding homes
asked_once plan a c =
    let one = one_home plan a c in
    rw (both_times plan a c (cond (nat_lt (place_of c) 9) 1 0) (computed_times c) (one_at_most (nat_lt (place_of c) 9)))
    (few_homes (nat_lt (place_of c) 9) (unit_homes (stages_of plan c)) (length (filter (λ siding. serves siding c) plan.sidings)) one)

-- a class is requested if and only if it has a home
is_asked_homed : (plan : Plan) → IsAccepted plan → (c : Class) → IsComputed c → is_asked (asking plan) c ≡ nat_lt 0 (homes plan c)
is_asked_homed plan a c small = is_asked_times (asking plan) c ∙ ap (λ (n : ℕ). nat_lt 0 n) (asked_homes plan a c small)

needed_asked : (plan : Plan) → IsAccepted plan → (c : Class) → is_needed c ≡ true → is_asked (asking plan) c ≡ true
needed_asked plan a c n = is_asked_homed plan a c (needed_computed c n) ∙ ap (λ (h : ℕ). nat_lt 0 h) (a.needed c n)

-- a number within bounds passes the test of them
within_test : (least most n : ℕ) → least ≤ n → n ≤ most → is_integer_within least most (pos n) ≡ true
within_test least most n low high = grind (arith, nat_tests)

-- the entries are acceptable
entry_right : (n : ℕ) (c : Class) (stages : List ℕ) (rest : List (Class × List ℤ)) → (0 < length stages → c ≢ Memory) → All (λ i. (1 ≤ i) × (i ≤ n)) stages →
    All (IsUnit n) rest → All (IsUnit n) (unit_for c stages ++ rest)
entry_right n c [] rest off all after = after
entry_right n c (i ∷ is) rest off all after =
    All-cons (IsUnit n) (c, map (λ m. pos m) (i ∷ is)) rest
    (record {
      beside_memory = off (omega arith);
      some = omega arith;
      stages = All-map (λ z. is_integer_within 1 n z ≡ true) (λ m. pos m) (i ∷ is) (λ k d within. within_test 1 n _ (all k d within).0 (all k d within).1);
    })
    after

no_memory : (plan : Plan) → IsAccepted plan → (c : Class) → 0 < length (stages_of plan c) → c ≢ Memory
no_memory plan a c some = λ e. let none : stages_of plan c ≡ [] = ap (stages_of plan) e ∙ a.memory in let gone = rw none at some in absurd (omega arith)

units_right : (plan : Plan) → IsAccepted plan → (cs : List Class) → All (IsUnit plan.stages) (units_for (stages_of plan) cs)
units_right plan a [] = All-nil (IsUnit plan.stages)
units_right plan a (c ∷ cs) = entry_right plan.stages c (stages_of plan c) (units_for (stages_of plan) cs) (no_memory plan a c) (class_within plan a c).1
    (units_right plan a cs)

-- the parts that request a siding are acceptable
one_class : (classes : List Class) → classes ≡ Memory ∷ [] → length classes ≡ 1
one_class classes e = rw e refl

order_test : (m n : ℕ) → m < n → pos m <ℤ pos n
order_test m n low = grind (arith, ints)

siding_right : (plan : Plan) (siding : SidingPlan) → accepted.IsSiding plan siding → IsSiding plan.stages (asking_siding siding)
unfolding serves
siding_right plan siding s = record {
  some = s.some;
  cells = within_test 1 8 siding.cells s.cells.0 s.cells.1;
  launch = within_test 1 plan.stages siding.launch s.launches.0 s.launches.1;
  recover = within_test 1 plan.stages siding.recover s.recovers.0 s.recovers.1;
  order = order_test siding.launch siding.recover s.order;
  memory_alone = λ named. one_class siding.classes (s.memory_alone named);
}

-- the requested siding of a class is the one that serves it
find_step : (served : Bool) (s : SidingPlan) (found : Option SidingPlan) (rest : Option asked.Siding) → rest ≡ option_map asking_siding found →
    cond served (Some (asking_siding s)) rest ≡ option_map asking_siding (cond served (Some s) found)
find_step true s found rest e = refl
find_step false s found rest e = e

asked_siding : (sidings : List SidingPlan) (c : Class) → siding_for (map asking_siding sidings) c ≡ option_map asking_siding (find (λ s. serves s c) sidings)
unfolding siding_for serves
asked_siding [] c = refl
asked_siding (s ∷ ss) c = find_step (lists_class s.classes c) s (find (λ t. lists_class t.classes c) ss)
    (find (λ t. lists_class t.classes c) (map asking_siding ss))
    (asked_siding ss c)

-- what holds of each element that passes holds of the first
found_step : (P : SidingPlan → Type 0) (here : Bool) (s t : SidingPlan) (rest : Option SidingPlan) → (here ≡ true → P s) → (rest ≡ Some t → P t) →
    cond here (Some s) rest ≡ Some t → P t
found_step P true s t rest first later e = subst P (same_Some s t e) (first refl)
found_step P false s t rest first later e = later e

found_holds : (P : SidingPlan → Type 0) (test : SidingPlan → Bool) (sidings : List SidingPlan) (t : SidingPlan) → All (λ s. test s ≡ true → P s) sidings →
    find test sidings ≡ Some t → P t
found_holds P test [] t all e = cc
found_holds P test (s ∷ ss) t all e = found_step P (test s) s t (find test ss) (all 0 s (omega arith))
    (λ later. found_holds P test ss t (All-tail (λ u. test u ≡ true → P u) s ss all) later) e

-- where a class turns control
turns_right : (stages : List ℕ) (o : Option SidingPlan) (launch : ℕ) → All (λ i. i ≤ launch) stages → ((s : SidingPlan) → o ≡ Some s → s.recover ≤ launch) →
    All (λ i. i ≤ launch) (turns_in stages (option_map asking_siding o))
turns_right stages None launch all low = all
turns_right stages (Some s) launch all low = All-cons (λ i. i ≤ launch) s.recover [] (low s refl) (All-nil (λ i. i ≤ launch))

-- a number is itself
same_number : (n : ℕ) → nat_eq n n ≡ true
same_number n = grind (arith, nat_tests)

units_low : (plan : Plan) → IsAccepted plan → (c : Class) → is_control c ≡ true → All (λ i. i ≤ memory_launch plan) (stages_of plan c)
unfolding unit_at
units_low plan a c turns = λ k d within. a.control_units c (get_or (stages_of plan c) k d) turns
    (list_any_at (nat_eq (get_or (stages_of plan c) k d)) (stages_of plan c) k d within (same_number (get_or (stages_of plan c) k d)))

-- the only home of a class without units is a siding
only_sided : (stages : List ℕ) (n : ℕ) → stages ≡ [] → unit_homes stages + n ≡ 1 → n ≡ 1
only_sided [] n e one = omega arith
only_sided (i ∷ is) n e one = cc

-- the siding of Memory
memory_stages : (plan : Plan) → IsAccepted plan → is_sided (asking plan).sidings Memory ≡ true
unfolding homes
memory_stages plan a =
    let one = a.needed Memory refl in
    let none = a.memory in
    is_sided_times (asking plan).sidings Memory ∙ ap (λ (n : ℕ). nat_lt 0 n) (sided_times plan plan.sidings Memory a.sidings
    ∙ only_sided (stages_of plan Memory) _ none one)

launch_back : (plan : Plan) → IsAccepted plan → memory_launch plan ≡ memory_launch_in (asking plan).sidings
launch_back plan a = launch_given (asking plan).sidings plan (sym (sidings_back plan plan.sidings a.sidings)) (memory_stages plan a)

control_right : (plan : Plan) → IsAccepted plan → (c : Class) → is_control c ≡ true → All (λ stage. stage ≤ memory_launch_in (asking plan).sidings)
    (turns_in (ascending (stages_listed (asking plan).units c)) (siding_for (asking plan).sidings c))
control_right plan a c turns =
    rw (← launch_back plan a, stages_back plan a c (needed_computed c (control_needed c turns)), asked_siding plan.sidings c)
    (turns_right (stages_of plan c) (find (λ s. serves s c) plan.sidings) (memory_launch plan) (units_low plan a c turns)
    (λ s e. found_holds (λ t. t.recover ≤ memory_launch plan) (λ t. serves t c) plan.sidings s (a.control_sidings c turns) e))

-- the parts that request an accepted layout are equipped
asking_equipped : (plan : Plan) → IsAccepted plan → AreEquipped (asking plan)
asking_equipped plan a = record {
  stages = within_test 2 32 plan.stages a.stages.0 a.stages.1;
  lane = within_test 2 64 plan.lane a.lane.0 a.lane.1;
  few_sidings = rw length-map a.few_sidings;
  units = units_right plan a computed_classes;
  sidings = All-map (IsSiding plan.stages) asking_siding plan.sidings (λ k d within. siding_right plan _ (a.sidings k d within));
  once = asked_once plan a;
  needed = needed_asked plan a;
  pair = is_asked_homed plan a Mul (omega arith) ∙ (ap (λ (n : ℕ). nat_lt 0 n) a.pair ∙ sym (is_asked_homed plan a Div (omega arith)));
}

-- and acceptable
pub asking_acceptable : (plan : Plan) → IsAccepted plan → IsAcceptable (asking plan)
asking_acceptable plan a = record { equipped = asking_equipped plan a; control = control_right plan a }

-- so they are not refused
pub asking_passes : (plan : Plan) → IsAccepted plan → first_refusal (asking plan) ≡ None
asking_passes plan a = not_refused (asking plan) (asking_acceptable plan a)
