-- The layout that acceptable parts describe is accepted.
use Rattle.std.proofs.Common.{◌≡◌, ◌≢◌, ℕ, ℤ, pos, negsuc, zero, suc, ◌<ℤ◌, ◌+◌, ◌-◌, ◌<◌, ◌≤◌, List, [], ◌∷◌, ◌++◌, All, Bool, true, false, cond, Option, Some, length, map, get_or, refl, ap, subst, arith, ◌∙◌, sym}
use Rattle.std.specs.Prelude.{find, filter, nat_lt, nat_eq, ◌||◌, ◌&&◌}
use Rattle.std.specs.List.{list_any, range_with_len}
use Rattle.std.specs.List.Sorted.{IsStrictlyIncreasing}
use Rattle.std.proofs.lemmas.List.Elements.{All-nil, All-from_recursion, All-map, All-filter, All-tail}
use Rattle.std.proofs.lemmas.List.Kept.{IsStrictlyIncreasing-filter}
use Rattle.std.proofs.lemmas.Bool.Decides.{nat_tests}
use Rattle.std.proofs.lemmas.List.FromFn.{get_or-range_with_len, length-range_with_len}
use Rattle.std.proofs.lemmas.List.Elements.{filter_passes}
use Rattle.std.proofs.lemmas.List.Folds.{list_any_at}
use Rattle.std.proofs.lemmas.Map.Views.{any-filter_same}
use Rattle.std.proofs.lemmas.Int.{ints}
use Rattle.std.proofs.Math.Bool.{and-true, or-false}
use Rattle.cf_layout.proofs.Counts.{same_true, same_self, any_kept, times_nil, times_append, names_times, is_unit_times, is_asked_times}
use Rattle.cf_layout.proofs.Passing.{lt_true}
use Rattle.rv_inst.specs.declared.classes.Class.{Class}
use Rattle.rv_inst.specs.declared.classes.Class.TheVariants.{Add, Logic, Shift, Compare, Branch, Jump, Memory, Serial, Free, Mul, Div}
use Rattle.cf_layout.specs.declared.parts.Siding as asked
use Rattle.cf_layout.specs.declared.parts.Parts.{Parts}
use Rattle.cf_layout.specs.Layout.{Plan, SidingPlan, place_of, computed_classes, same_class, stages_of, unit_homes, homes, serves}
use Rattle.cf_layout.specs.Accepted as accepted
use Rattle.cf_layout.specs.Asked.{natural, is_integer_within, is_integer, lists_class, stage_numbers, ascending, in_class_order, siding_plan, units_plan, is_unit, is_asked, stages_listed, stages_in, plan_of}
use Rattle.cf_layout.specs.Acceptable.{IsComputed, asked_classes, sided_classes, times, IsUnit, IsSiding}

-- consecutive numbers ascend
range_rises : (n a : ℕ) → IsStrictlyIncreasing (range_with_len a n)
range_rises n a = λ k below.
    let l : length (range_with_len a n) ≡ n = length-range_with_len a n in
    rw (get_or-range_with_len a n k 0 (omega arith), get_or-range_with_len a n (k + 1) 0 (omega arith)) (omega arith)

-- so the numbers of stages ascend
stage_numbers_rise : IsStrictlyIncreasing stage_numbers
unfolding stage_numbers
stage_numbers_rise = range_rises 32 1

-- stages ascend
pub ascending_rises : (stages : List ℤ) → IsStrictlyIncreasing (ascending stages)
unfolding ascending
ascending_rises stages = IsStrictlyIncreasing-filter (λ i. list_any (is_integer i) stages) stage_numbers stage_numbers_rise

-- the indices of the classes that are kept, by whether the first is kept
places_step : (kept : Bool) (c : Class) (cs : List Class) (rest : List ℕ) → map place_of cs ≡ rest →
    map place_of (cond kept (c ∷ cs) cs) ≡ cond kept (place_of c ∷ rest) rest
places_step true c cs rest e = rw e refl
places_step false c cs rest e = e

-- the indices of the classes that are kept are those of the indices that are kept
places_kept : (q : ℕ → Bool) (cs : List Class) → map place_of (filter (λ c. q (place_of c)) cs) ≡ filter q (map place_of cs)
places_kept q [] = refl
places_kept q (c ∷ cs) = places_step (q (place_of c)) c (filter (λ d. q (place_of d)) cs) (filter q (map place_of cs)) (places_kept q cs)

-- the indices that a list of classes names
placed : List Class → ℕ → Bool
placed classes n = list_any (λ d. nat_eq n (place_of d)) classes

-- what is kept of classes in ascending order is in ascending order
kept_rise : (classes cs : List Class) → IsStrictlyIncreasing (map place_of cs) → IsStrictlyIncreasing (map place_of (filter (lists_class classes) cs))
unfolding placed
kept_rise classes cs rise = rw (places_kept (placed classes) cs) (IsStrictlyIncreasing-filter (placed classes) (map place_of cs) rise)

-- a list of classes is ascending once it is in class order
classes_rise : (classes : List Class) → IsStrictlyIncreasing (map place_of (in_class_order classes))
unfolding in_class_order
classes_rise classes = kept_rise classes computed_classes (range_rises 9 0)

-- a number in the list is within the bounds of the list, by whether it is the first one
within_here : (n i : ℕ) (z : ℤ) → is_integer i z ≡ true → is_integer_within 1 n z ≡ true → (1 ≤ i) × (i ≤ n)
within_here n i (pos m) same in_bounds = (grind (arith, nat_tests), grind (arith, nat_tests))
within_here n i (negsuc m) same in_bounds = cc

within_step : (n i : ℕ) (z : ℤ) (here rest : Bool) → is_integer i z ≡ here → (here || rest) ≡ true → is_integer_within 1 n z ≡ true →
    (rest ≡ true → (1 ≤ i) × (i ≤ n)) →
    (1 ≤ i) × (i ≤ n)
within_step n i z true rest at e in_bounds later = within_here n i z at in_bounds
within_step n i z false rest at e in_bounds later = later e

-- a number in the list is within the bounds of the list
listed_within : (n i : ℕ) (stages : List ℤ) → All (λ z. is_integer_within 1 n z ≡ true) stages → list_any (is_integer i) stages ≡ true → (1 ≤ i) × (i ≤ n)
listed_within n i [] all e = cc
listed_within n i (z ∷ zs) all e = within_step n i z (is_integer i z) (list_any (is_integer i) zs) refl e (all 0 z (omega arith))
    (λ later. listed_within n i zs (All-tail (λ y. is_integer_within 1 n y ≡ true) z zs all) later)

-- the ascending list of stages is within the bounds of the requested ones
ascending_within : (n : ℕ) (stages : List ℤ) → All (λ z. is_integer_within 1 n z ≡ true) stages → All (λ i. (1 ≤ i) × (i ≤ n)) (ascending stages)
unfolding ascending
ascending_within n stages all = λ k d within. listed_within n _ stages all (filter_passes (λ i. list_any (is_integer i) stages) stage_numbers k d within)

-- the computed class at its index
at_its_place : (c : Class) → IsComputed c → get_or computed_classes (place_of c) Add ≡ c
at_its_place Add small = refl
at_its_place Logic small = refl
at_its_place Shift small = refl
at_its_place Compare small = refl
at_its_place Branch small = refl
at_its_place Jump small = refl
at_its_place Memory small = refl
at_its_place Mul small = refl
at_its_place Div small = refl
at_its_place Serial small = absurd (omega arith)
at_its_place Free small = absurd (omega arith)

-- a class that is computed is one of them
is_computed : (c : Class) → IsComputed c → lists_class computed_classes c ≡ true
is_computed c small = list_any_at (same_class c) computed_classes (place_of c) Add small (rw (at_its_place c small) (same_self c))

-- in class order the same computed classes are named
in_order_names : (classes : List Class) (c : Class) → IsComputed c → lists_class (in_class_order classes) c ≡ lists_class classes c
unfolding in_class_order
in_order_names classes c small =
    any-filter_same (same_class c) (lists_class classes) (lists_class classes c) (λ d e. ap (lists_class classes) (sym (same_true c d e))) computed_classes
    ∙ (ap (λ (b : Bool). lists_class classes c && b) (is_computed c small) ∙ and-true (lists_class classes c))

-- a list of classes that is not empty has some in class order
in_order_some : (classes : List Class) → 0 < length classes → All IsComputed classes → 0 < length (in_class_order classes)
unfolding in_class_order
in_order_some [] some all = absurd (omega arith)
in_order_some (c ∷ cs) some all =
    let small : IsComputed c = all 0 c (omega arith) in
    let named : lists_class (c ∷ cs) c ≡ true = rw (same_self c) refl in
    lt_true 0 _ (sym (any_kept (lists_class (c ∷ cs)) computed_classes) ∙ list_any_at (lists_class (c ∷ cs)) computed_classes (place_of c) Add small
    (subst (λ (k : Class). lists_class (c ∷ cs) k ≡ true) (sym (at_its_place c small)) named))

-- the computed classes are computed
all_computed : All IsComputed computed_classes
all_computed = All-from_recursion IsComputed computed_classes
    (omega arith, (omega arith, (omega arith, (omega arith, (omega arith, (omega arith, (omega arith, (omega arith, (omega arith, tt)))))))))

-- what is kept of computed classes is computed
order_computed : (classes : List Class) → All IsComputed (in_class_order classes)
unfolding in_class_order
order_computed classes = λ k d within. All-filter (lists_class classes) IsComputed computed_classes all_computed k d within

-- numbers within bounds, as natural numbers
is_stage : (n : ℕ) (z : ℤ) → is_integer_within 1 n z ≡ true → (1 ≤ natural z) × (natural z ≤ n)
is_stage n (pos m) e = (grind (arith, nat_tests), grind (arith, nat_tests))
is_stage n (negsuc m) e = cc

-- their order stays the same
natural_order : (n : ℕ) (y z : ℤ) → is_integer_within 1 n y ≡ true → is_integer_within 1 n z ≡ true → y <ℤ z → natural y < natural z
natural_order n (pos a) (pos b) e f o = omega (arith, ints)
natural_order n (pos a) (negsuc b) e f o = cc
natural_order n (negsuc a) z e f o = cc

-- a list with one element that names Memory consists of Memory alone
memory_only : (classes : List Class) → lists_class classes Memory ≡ true → length classes ≡ 1 → classes ≡ Memory ∷ []
memory_only [] named one = cc
memory_only (c ∷ []) named one = let e = same_true Memory c (sym (or-false (same_class Memory c)) ∙ named) in rw (← e) refl
memory_only (c ∷ d ∷ rest) named one = absurd (omega arith)

-- Memory alone in class order
memory_in_order : in_class_order (Memory ∷ []) ≡ Memory ∷ []
unfolding in_class_order
memory_in_order = refl

-- a siding
pub siding_described : (plan : Plan) (siding : asked.Siding) → All IsComputed siding.classes → IsSiding plan.stages siding →
    accepted.IsSiding plan (siding_plan siding)
unfolding siding_plan serves
siding_described plan siding computed s = record {
  some = in_order_some siding.classes s.some computed;
  ordered = classes_rise siding.classes;
  computed = order_computed siding.classes;
  launches = is_stage plan.stages siding.launch s.launch;
  recovers = is_stage plan.stages siding.recover s.recover;
  order = natural_order plan.stages siding.launch siding.recover s.launch s.recover s.order;
  cells = is_stage 8 siding.cells s.cells;
  memory_alone = λ e.
      let named : lists_class siding.classes Memory ≡ true = sym (in_order_names siding.classes Memory (omega arith)) ∙ e in
      ap in_class_order (memory_only siding.classes named (s.memory_alone named)) ∙ memory_in_order;
}

-- the stages of a computed class in the layout that the parts describe
pub described_stages : (parts : Parts) (c : Class) → IsComputed c → stages_of (plan_of parts) c ≡ ascending (stages_listed parts.units c)
unfolding stages_of plan_of units_plan
described_stages parts Add small = refl
described_stages parts Logic small = refl
described_stages parts Shift small = refl
described_stages parts Compare small = refl
described_stages parts Branch small = refl
described_stages parts Jump small = refl
described_stages parts Memory small = refl
described_stages parts Mul small = refl
described_stages parts Div small = refl
described_stages parts Serial small = absurd (omega arith)
described_stages parts Free small = absurd (omega arith)

-- nothing is kept if nothing passes
none_kept : (xs : List ℕ) → filter (λ i. false) xs ≡ []
none_kept [] = refl
none_kept (x ∷ xs) = none_kept xs

-- no stage is listed
pub ascending_none : ascending [] ≡ []
unfolding ascending
ascending_none = none_kept stage_numbers

-- a stage from 1 to 32 is at its index
stage_at : (i : ℕ) → 1 ≤ i → i ≤ 32 → get_or stage_numbers (i - 1) 0 ≡ i
unfolding stage_numbers
stage_at i low high = get_or-range_with_len 1 32 (i - 1) 0 (omega arith) ∙ omega arith

-- there are 32 numbers of stages
stage_count : length stage_numbers ≡ 32
unfolding stage_numbers
stage_count = length-range_with_len 1 32

-- a number within bounds is itself as a natural number
number_self : (n : ℕ) (z : ℤ) → is_integer_within 1 n z ≡ true → is_integer (natural z) z ≡ true
number_self n (pos m) e = grind (arith, nat_tests)
number_self n (negsuc m) e = cc

-- if a stage is listed, the ascending list has a stage
ascending_some : (n : ℕ) (stages : List ℤ) → n ≤ 32 → 0 < length stages → All (λ z. is_integer_within 1 n z ≡ true) stages → 0 < length (ascending stages)
unfolding ascending
ascending_some n [] few some all = absurd (omega arith)
ascending_some n (z ∷ zs) few some all =
    let within : is_integer_within 1 n z ≡ true = all 0 z (omega arith) in
    let b = is_stage n z within in
    let low : 1 ≤ natural z = b.0 in
    let high : natural z ≤ n = b.1 in
    let here : list_any (is_integer (natural z)) (z ∷ zs) ≡ true = rw (number_self n z within) refl in
    let at = stage_at (natural z) low (omega arith) in
    lt_true 0 _ (sym (any_kept (λ i. list_any (is_integer i) (z ∷ zs)) stage_numbers) ∙ list_any_at (λ i. list_any (is_integer i) (z ∷ zs)) stage_numbers
    (natural z - 1) 0 (omega (arith, stage_count)) (subst (λ (k : ℕ). list_any (is_integer k) (z ∷ zs) ≡ true) (sym at) here))

-- the entry of a class, by whether the first is for it
entry_step : (n : ℕ) (here rest : Bool) (unit : Class × List ℤ) (found : Option (Class × List ℤ)) → (here || rest) ≡ true → IsUnit n unit →
    (rest ≡ true → (0 < length (stages_in found)) × All (λ z. is_integer_within 1 n z ≡ true) (stages_in found)) →
    (0 < length (stages_in (cond here (Some unit) found))) × All (λ z. is_integer_within 1 n z ≡ true) (stages_in (cond here (Some unit) found))
entry_step n true rest unit found e u later = (u.some, u.stages)
entry_step n false rest unit found e u later = later e

-- a class that is in a unit has stages listed
entry_some : (n : ℕ) (units : List (Class × List ℤ)) (c : Class) → All (IsUnit n) units → is_unit units c ≡ true →
    (0 < length (stages_in (find (λ unit. same_class c unit.0) units))) × All (λ z. is_integer_within 1 n z ≡ true)
    (stages_in (find (λ unit. same_class c unit.0) units))
entry_some n [] c all e = cc
entry_some n (unit ∷ units) c all e = entry_step n (same_class c unit.0) (is_unit units c) unit (find (λ v. same_class c v.0) units) e
    (all 0 unit (omega arith)) (λ later. entry_some n units c (All-tail (IsUnit n) unit units all) later)

-- the same for the entry that is found
listed_some : (n : ℕ) (units : List (Class × List ℤ)) (c : Class) → All (IsUnit n) units → is_unit units c ≡ true →
    (0 < length (stages_listed units c)) × All (λ z. is_integer_within 1 n z ≡ true) (stages_listed units c)
unfolding stages_listed
listed_some n units c all e = entry_some n units c all e

-- no entry
entry_none_step : (here rest : Bool) (unit : Class × List ℤ) (found : Option (Class × List ℤ)) → (here || rest) ≡ false →
    (rest ≡ false → stages_in found ≡ []) → stages_in (cond here (Some unit) found) ≡ []
entry_none_step true rest unit found e later = cc
entry_none_step false rest unit found e later = later e

-- a class that is in no unit has no stages listed
entry_none : (units : List (Class × List ℤ)) (c : Class) → is_unit units c ≡ false → stages_in (find (λ unit. same_class c unit.0) units) ≡ []
entry_none [] c e = refl
entry_none (unit ∷ units) c e = entry_none_step (same_class c unit.0) (is_unit units c) unit (find (λ v. same_class c v.0) units) e (entry_none units c)

-- the same for the entry that is found
pub listed_none : (units : List (Class × List ℤ)) (c : Class) → is_unit units c ≡ false → stages_listed units c ≡ []
unfolding stages_listed
listed_none units c e = entry_none units c e

-- a list of stages is one home if it is not empty
one_home : (stages : List ℕ) → 0 < length stages → unit_homes stages ≡ 1
one_home [] some = absurd (omega arith)
one_home (i ∷ is) some = refl

-- the home that units give, by whether there are any
unit_home_by : (n : ℕ) (units : List (Class × List ℤ)) (c : Class) (some : Bool) → n ≤ 32 → All (IsUnit n) units → is_unit units c ≡ some →
    unit_homes (ascending (stages_listed units c)) ≡ cond some 1 0
unit_home_by n units c true few all e = let l = listed_some n units c all e in one_home _ (ascending_some n (stages_listed units c) few l.0 l.1)
unit_home_by n units c false few all e = rw (listed_none units c e, ascending_none) refl

-- how many of the described sidings serve a class, with one more siding
served_step : (t : ℕ) (named : Bool) (siding : SidingPlan) (kept : List SidingPlan) (rest : ℕ) → named ≡ nat_lt 0 t → t + rest ≤ 1 → length kept ≡ rest →
    length (cond named (siding ∷ kept) kept) ≡ t + rest
served_step t true siding kept rest e once same = let some : 0 < t = lt_true 0 t (sym e) in omega arith
served_step t false siding kept rest e once same = let none : t ≡ 0 = grind (arith, nat_tests) in omega arith

-- a described siding serves a class if the requested siding names it
pub serves_named : (siding : asked.Siding) (c : Class) → IsComputed c → serves (siding_plan siding) c ≡ lists_class siding.classes c
unfolding serves siding_plan
serves_named siding c small = in_order_names siding.classes c small

-- the sidings with one more siding
served_more : (c : Class) (siding : asked.Siding) (sidings : List asked.Siding) → serves (siding_plan siding) c ≡ nat_lt 0 (times siding.classes c) →
    times (siding.classes ++ sided_classes sidings) c ≡ times siding.classes c + times (sided_classes sidings) c →
    times siding.classes c + times (sided_classes sidings) c ≤ 1 → length (filter (λ s. serves s c) (map siding_plan sidings))
    ≡ times (sided_classes sidings) c → length (filter (λ s. serves s c) (map siding_plan (siding ∷ sidings)))
    ≡ times (siding.classes ++ sided_classes sidings) c
served_more c siding sidings named e once same = rw e (served_step (times siding.classes c) (serves (siding_plan siding) c) (siding_plan siding)
    (filter (λ s. serves s c) (map siding_plan sidings)) (times (sided_classes sidings) c) named once same)

-- a class is in the sidings as often as there are sidings that serve it
pub served_times : (sidings : List asked.Siding) (c : Class) → IsComputed c → times (sided_classes sidings) c ≤ 1 →
    length (filter (λ siding. serves siding c) (map siding_plan sidings)) ≡ times (sided_classes sidings) c
served_times [] c small once = sym (times_nil c)
served_times (siding ∷ sidings) c small once =
    let e = times_append siding.classes (sided_classes sidings) c in
    let r = served_times sidings c small (omega arith) in
    served_more c siding sidings (serves_named siding c small ∙ names_times siding.classes c) e (omega arith) r

-- the sidings that serve a class in the layout that the parts describe
described_served : (parts : Parts) (c : Class) → IsComputed c → times (sided_classes parts.sidings) c ≤ 1 →
    length (filter (λ siding. serves siding c) (plan_of parts).sidings) ≡ times (sided_classes parts.sidings) c
unfolding plan_of
described_served parts c small once = served_times parts.sidings c small once

-- a number that is at most 1 is 1 if it is above 0, and otherwise 0
at_most_one : (n : ℕ) → n ≤ 1 → cond (nat_lt 0 n) 1 0 ≡ n
at_most_one zero le = refl
at_most_one (suc n) le = let e : suc n ≡ 1 = omega arith in rw e refl

-- in a described layout a class has as many homes as the number of times that it is requested
pub homes_times : (parts : Parts) (c : Class) → IsComputed c → natural parts.stages ≤ 32 → All (IsUnit (natural parts.stages)) parts.units →
    times (asked_classes parts) c ≤ 1 → homes (plan_of parts) c ≡ times (asked_classes parts) c
unfolding homes
homes_times parts c small few units once =
    let e = times_append (map (λ unit. unit.0) parts.units) (sided_classes parts.sidings) c in
    let u = unit_home_by (natural parts.stages) parts.units c (nat_lt 0 (times (map (λ unit. unit.0) parts.units) c)) few units (is_unit_times parts.units c) in
    let w = at_most_one (times (map (λ unit. unit.0) parts.units) c) (omega (arith, e)) in
    let s = described_served parts c small (omega (arith, e)) in
    rw (described_stages parts c small, s, u, w, e) refl

-- a class that is requested has one home
pub one_where_asked : (parts : Parts) (c : Class) → IsComputed c → natural parts.stages ≤ 32 → All (IsUnit (natural parts.stages)) parts.units →
    times (asked_classes parts) c ≤ 1 → is_asked parts c ≡ true → homes (plan_of parts) c ≡ 1
one_where_asked parts c small few units once e =
    let some : 0 < times (asked_classes parts) c = lt_true 0 _ (sym (is_asked_times parts c) ∙ e) in
    homes_times parts c small few units once ∙ omega arith

-- two classes have the same number of homes if both are requested or neither is
pub same_homes : (parts : Parts) (c d : Class) → IsComputed c → IsComputed d → natural parts.stages ≤ 32 → All (IsUnit (natural parts.stages)) parts.units →
    ((k : Class) → times (asked_classes parts) k ≤ 1) → is_asked parts c ≡ is_asked parts d → homes (plan_of parts) c ≡ homes (plan_of parts) d
same_homes parts c d small small' few units once e =
    let t : nat_lt 0 (times (asked_classes parts) c) ≡ nat_lt 0 (times (asked_classes parts) d) = sym (is_asked_times parts c) ∙ (e ∙ is_asked_times parts d) in
    homes_times parts c small few units (once c) ∙ (sym (at_most_one _ (once c)) ∙ (ap (λ (b : Bool). cond b 1 0) t
    ∙ (at_most_one _ (once d) ∙ sym (homes_times parts d small' few units (once d)))))

-- a class that is needed is computed
pub needed_computed : (c : Class) → accepted.is_needed c ≡ true → IsComputed c
needed_computed Add e = omega arith
needed_computed Logic e = omega arith
needed_computed Shift e = omega arith
needed_computed Compare e = omega arith
needed_computed Branch e = omega arith
needed_computed Jump e = omega arith
needed_computed Memory e = omega arith
needed_computed Serial e = cc
needed_computed Free e = cc
needed_computed Mul e = cc
needed_computed Div e = cc

-- a class that turns control is needed
pub control_needed : (c : Class) → accepted.is_control c ≡ true → accepted.is_needed c ≡ true
control_needed Branch e = refl
control_needed Jump e = refl
control_needed Add e = cc
control_needed Logic e = cc
control_needed Shift e = cc
control_needed Compare e = cc
control_needed Memory e = cc
control_needed Serial e = cc
control_needed Free e = cc
control_needed Mul e = cc
control_needed Div e = cc

-- no unit is for Memory, by whether the first is
beside_step : (c : Class) (same : Bool) (rest : Bool) → same_class Memory c ≡ same → c ≢ Memory → rest ≡ false → (same || rest) ≡ false
beside_step c true rest e off r = absurd (off (sym (same_true Memory c e)))
beside_step c false rest e off r = r

-- no unit is for Memory
pub no_memory_unit : (n : ℕ) (units : List (Class × List ℤ)) → All (IsUnit n) units → is_unit units Memory ≡ false
no_memory_unit n [] all = refl
no_memory_unit n (unit ∷ units) all = beside_step unit.0 (same_class Memory unit.0) (is_unit units Memory) refl (all 0 unit (omega arith)).beside_memory
    (no_memory_unit n units (All-tail (IsUnit n) unit units all))

-- so Memory has no stages
pub no_memory_stages : (parts : Parts) → All (IsUnit (natural parts.stages)) parts.units → stages_of (plan_of parts) Memory ≡ []
no_memory_stages parts units = described_stages parts Memory (omega arith) ∙ (ap ascending (listed_none parts.units Memory (no_memory_unit _ parts.units units))
    ∙ ascending_none)

-- the stages of all units ascend
pub units_rise : (units : List (Class × List ℤ)) → All IsStrictlyIncreasing (units_plan units)
unfolding units_plan
units_rise units = All-map IsStrictlyIncreasing (λ c. ascending (stages_listed units c)) computed_classes
    (λ k d within. ascending_rises (stages_listed units (get_or computed_classes k d)))

-- what is listed for a class are stages of the pipeline
listed_by : (n : ℕ) (units : List (Class × List ℤ)) (c : Class) (some : Bool) → All (IsUnit n) units → is_unit units c ≡ some →
    All (λ i. (1 ≤ i) × (i ≤ n)) (ascending (stages_listed units c))
listed_by n units c true all e = ascending_within n (stages_listed units c) (listed_some n units c all e).1
listed_by n units c false all e = rw (listed_none units c e, ascending_none) (All-nil (λ i. (1 ≤ i) × (i ≤ n)))

-- the stages of all units are stages of the pipeline
pub units_within : (n : ℕ) (units : List (Class × List ℤ)) → All (IsUnit n) units → All (All (λ i. (1 ≤ i) × (i ≤ n))) (units_plan units)
unfolding units_plan
units_within n units all = All-map (All (λ i. (1 ≤ i) × (i ≤ n))) (λ c. ascending (stages_listed units c)) computed_classes
    (λ k d within. listed_by n units (get_or computed_classes k d) (is_unit units (get_or computed_classes k d)) all refl)
