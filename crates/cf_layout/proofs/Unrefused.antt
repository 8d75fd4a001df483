-- Acceptable parts are not refused.
use Rattle.std.proofs.Common.{◌≡◌, ◌≢◌, ℕ, ℤ, ◌<ℤ◌, ◌+◌, ◌<◌, ◌≤◌, List, [], ◌∷◌, ◌++◌, All, Bool, true, false, cond, Option, Some, None, length, map, refl, ap, arith, sym}
use Rattle.std.specs.Prelude.{find, not, nat_lt, nat_le, int_lt, ◌||◌, ◌&&◌}
use Rattle.std.proofs.lemmas.List.Elements.{All-tail, All-from_recursion}
use Rattle.std.proofs.lemmas.Int.{ints}
use Rattle.std.proofs.lemmas.Bool.Decides.{nat_tests}
use Rattle.std.proofs.Math.Bool.{or-false}
use Rattle.std.specs.Option.{option_or}
use Rattle.rv_inst.specs.declared.classes.Class.{Class}
use Rattle.rv_inst.specs.declared.classes.Class.TheVariants.{Add, Logic, Shift, Compare, Branch, Jump, Memory}
use Rattle.cf_layout.specs.declared.parts.Siding as asked
use Rattle.cf_layout.specs.declared.parts.Parts.{Parts}
use Rattle.cf_layout.specs.declared.refusal.LayoutErr.{LayoutErr}
use Rattle.cf_layout.specs.Layout.{same_class}
use Rattle.cf_layout.specs.Asked.{natural, is_integer_within, lists_class, is_unit, is_sided, is_asked, stages_listed, ascending}
use Rattle.cf_layout.specs.Acceptable.{IsUnit, IsSiding, AreEquipped, IsAcceptable, times, sided_classes}
use Rattle.cf_layout.specs.Refusal.{unless, outside, twice, missing_class, above, limits_refusal, unit_refusal, units_refusal, first_repeated, stages_refusal, classes_refusal, filled_refusal, siding_refusal, sidings_refusal, missing_refusal, needed_classes, turn_refusal, control_refusal, turns_in, siding_for, memory_launch_in, loose_refusal, first_refusal}
use Rattle.cf_layout.proofs.Counts.{same_true, same_self, times_cons, times_append, is_unit_times}
use Rattle.cf_layout.proofs.Passing.{unit_more, sided_more, seen_more}

-- a test that holds refuses nothing
passes : (b : Bool) (e : LayoutErr) → b ≡ true → unless b e ≡ None
passes b e t = rw t refl

-- two tests that refuse nothing refuse nothing together
both : (a b : Option LayoutErr) → a ≡ None → b ≡ None → option_or a b ≡ None
both a b e f = rw e f

-- no element is found if each fails the test
none_step : {X : Type 0} (here : Bool) (x : X) (rest : Option X) → here ≡ false → rest ≡ None → cond here (Some x) rest ≡ None
none_step here x rest e f = rw (e, f) refl

pub none_fails : {X : Type 0} (test : X → Bool) (xs : List X) → All (λ x. test x ≡ false) xs → find test xs ≡ None
none_fails test [] all = refl
none_fails test (x ∷ xs) all = none_step (test x) x (find test xs) (all 0 x (omega arith)) (none_fails test xs (All-tail (λ y. test y ≡ false) x xs all))

-- no element is found that fails if each passes
none_outside : {X : Type 0} (test : X → Bool) (xs : List X) → All (λ x. test x ≡ true) xs → find (λ x. not (test x)) xs ≡ None
none_outside test xs all = none_fails (λ x. not (test x)) xs (λ k d within. ap not (all k d within))

-- the tests of numbers
le_test : (a b : ℕ) → a ≤ b → nat_le a b ≡ true
le_test a b le = grind (arith, nat_tests)

lt_test : (a b : ℕ) → a < b → nat_lt a b ≡ true
lt_test a b lt = grind (arith, nat_tests)

low_test : (a b : ℕ) → b ≤ a → nat_lt a b ≡ false
low_test a b le = grind (arith, nat_tests)

lower_test : (y z : ℤ) → y <ℤ z → int_lt y z ≡ true
lower_test y z lt = grind (arith, ints)

-- a class other than Memory passes the test for that
other_by : (c : Class) (same : Bool) → same_class c Memory ≡ same → c ≢ Memory → not same ≡ true
other_by c true e off = absurd (off (same_true c Memory e))
other_by c false e off = refl

other_class : (c : Class) → c ≢ Memory → not (same_class c Memory) ≡ true
other_class c off = other_by c (same_class c Memory) refl off

-- both are requested, or neither is
pair_test : (m d : Bool) → m ≡ d → (m || not d) ≡ true
pair_test true d e = refl
pair_test false d e = rw (← e) refl

-- three tests, grouped differently
or_regroup : (a b c : Bool) → (a || (b || c)) ≡ ((a || b) || c)
or_regroup true b c = refl
or_regroup false b c = refl

-- a class is once in units, or once in sidings
in_units : (u t : ℕ) → u + t ≤ 1 → u + 0 ≤ 1
in_units u t le = omega arith

in_sidings : (u t : ℕ) (some : Bool) → nat_lt 0 u ≡ some → u + t ≤ 1 → t + cond some 1 0 ≤ 1
in_sidings u t true e le = let more : 0 < u = grind (arith, nat_tests) in omega arith
in_sidings u t false e le = omega arith

-- the limits
limits_pass : (parts : Parts) → AreEquipped parts → limits_refusal parts ≡ None
unfolding limits_refusal
limits_pass parts a = both _ _ (passes _ _ a.stages) (both _ _ (passes _ _ a.lane) (passes _ _ (le_test _ _ a.few_sidings)))

-- a unit
unit_pass : (n : ℕ) (before : List (Class × List ℤ)) (unit : Class × List ℤ) → IsUnit n unit → is_unit before unit.0 ≡ false → unit_refusal n before unit ≡ None
unfolding unit_refusal
unit_pass n before unit u alone =
    both _ _ (passes _ _ (other_class unit.0 u.beside_memory))
    (both _ _ (passes _ _ (lt_test _ _ u.some))
    (both _ _ (ap (outside unit.0) (none_outside (is_integer_within 1 n) unit.1 u.stages)) (passes _ _ (ap not alone))))

-- a class that occurs once does not occur before
alone_before : (seen : Bool) (rest : ℕ) → 1 + rest + cond seen 1 0 ≤ 1 → seen ≡ false
alone_before true rest le = absurd (omega arith)
alone_before false rest le = refl

-- and it is counted once for those after it
once_more : (seen same : Bool) (rest : ℕ) → cond same 1 0 + rest + cond seen 1 0 ≤ 1 → rest + cond (seen || same) 1 0 ≤ 1
once_more true same rest le = omega arith
once_more false true rest le = omega arith
once_more false false rest le = omega arith

-- all units
units_pass : (n : ℕ) (before units : List (Class × List ℤ)) → All (IsUnit n) units → ((c : Class) →
    times (map (λ unit. unit.0) units) c + cond (is_unit before c) 1 0 ≤ 1) → units_refusal n before units ≡ None
units_pass n before [] all once = refl
units_pass n before (unit ∷ units) all once =
    let here = rw (times_cons unit.0 (map (λ u. u.0) units) unit.0, same_self unit.0) at (once unit.0) in
    both _ _ (unit_pass n before unit (all 0 unit (omega arith)) (alone_before _ _ here))
    (units_pass n (before ++ unit ∷ []) units (All-tail (IsUnit n) unit units all) (λ c. rw (unit_more before unit c)
    (once_more (is_unit before c) (same_class c unit.0) _ (rw (times_cons unit.0 (map (λ u. u.0) units) c) at (once c)))))

-- classes none of which is repeated
repeated_pass : (elsewhere : Class → Bool) (seen classes : List Class) → ((c : Class) → times classes c + cond (elsewhere c || lists_class seen c) 1 0 ≤ 1) →
    first_repeated elsewhere seen classes ≡ None
repeated_pass elsewhere seen [] once = refl
repeated_pass elsewhere seen (x ∷ xs) once =
    let here = rw (times_cons x xs x, same_self x) at (once x) in
    none_step (elsewhere x || lists_class seen x) x _ (alone_before _ _ here)
    (repeated_pass elsewhere (seen ++ x ∷ []) xs (λ c. rw (seen_more seen x c, or_regroup (elsewhere c) (lists_class seen c) (same_class c x))
    (once_more (elsewhere c || lists_class seen c) (same_class c x) _ (rw (times_cons x xs c) at (once c)))))

-- the cells and the stages of a siding
stages_pass : (n : ℕ) (siding : asked.Siding) (first : Class) → IsSiding n siding → stages_refusal n siding first ≡ None
unfolding stages_refusal
stages_pass n siding first s = both _ _ (passes _ _ s.cells) (both _ _ (passes _ _ s.launch)
    (both _ _ (passes _ _ s.recover) (passes _ _ (lower_test _ _ s.order))))

-- Memory shares its siding with no other class
alone_pass : (named : Bool) (n : ℕ) → (named ≡ true → n ≡ 1) → not (named && nat_lt 1 n) ≡ true
alone_pass true n one = let e = one refl in rw e refl
alone_pass false n one = refl

-- the classes of a siding
classes_pass : (elsewhere : Class → Bool) (classes : List Class) → ((c : Class) → times classes c + cond (elsewhere c) 1 0 ≤ 1) →
    (lists_class classes Memory ≡ true → length classes ≡ 1) → classes_refusal elsewhere classes ≡ None
unfolding classes_refusal
classes_pass elsewhere classes once alone = both _ _ (ap twice (repeated_pass elsewhere [] classes (λ c. rw (or-false (elsewhere c)) (once c))))
    (passes _ _ (alone_pass (lists_class classes Memory) (length classes) alone))

-- a siding with these classes
filled_pass : (n : ℕ) (elsewhere : Class → Bool) (index : ℕ) (siding : asked.Siding) (classes : List Class) → classes ≡ siding.classes → IsSiding n siding →
    ((c : Class) → times classes c + cond (elsewhere c) 1 0 ≤ 1) → filled_refusal n elsewhere index siding classes ≡ None
filled_pass n elsewhere index siding [] same s once = let some = rw (← same) at s.some in absurd (omega arith)
filled_pass n elsewhere index siding (first ∷ rest) same s once = both _ _ (stages_pass n siding first s)
    (classes_pass elsewhere (first ∷ rest) once (rw (← same) at s.memory_alone))

-- a siding
siding_pass : (n : ℕ) (units : List (Class × List ℤ)) (before : List asked.Siding) (siding : asked.Siding) → IsSiding n siding →
    ((c : Class) → times siding.classes c + cond (is_unit units c || is_sided before c) 1 0 ≤ 1) → siding_refusal n units before siding ≡ None
unfolding siding_refusal
siding_pass n units before siding s once = filled_pass n (λ c. is_unit units c || is_sided before c) (length before) siding siding.classes refl s once

-- once in one siding and in those after it
once_here : (t r : ℕ) (w : Bool) → t + r + cond w 1 0 ≤ 1 → t + cond w 1 0 ≤ 1
once_here t r w le = omega arith

once_after : (t r : ℕ) (w some : Bool) → nat_lt 0 t ≡ some → t + r + cond w 1 0 ≤ 1 → r + cond (w || some) 1 0 ≤ 1
once_after t r true some e le = omega arith
once_after t r false true e le = let more : 0 < t = grind (arith, nat_tests) in omega arith
once_after t r false false e le = omega arith

-- all sidings
sidings_pass : (n : ℕ) (units : List (Class × List ℤ)) (before sidings : List asked.Siding) → All (IsSiding n) sidings →
    ((c : Class) → times (sided_classes sidings) c + cond (is_unit units c || is_sided before c) 1 0 ≤ 1) → sidings_refusal n units before sidings ≡ None
sidings_pass n units before [] all once = refl
sidings_pass n units before (siding ∷ sidings) all once =
    let split = λ (c : Class). rw (times_append siding.classes (sided_classes sidings) c) at (once c) in
    both _ _ (siding_pass n units before siding (all 0 siding (omega arith)) (λ c. once_here _ (times (sided_classes sidings) c) _ (split c)))
    (sidings_pass n units (before ++ siding ∷ []) sidings (All-tail (IsSiding n) siding sidings all)
    (λ c. rw (sided_more units before siding c) (once_after (times siding.classes c) _ _ _ refl (split c))))

-- what is missing
missing_pass : (parts : Parts) → AreEquipped parts → missing_refusal parts ≡ None
unfolding missing_refusal
missing_pass parts a =
    both _ _ (ap missing_class (none_outside (is_asked parts) needed_classes (All-from_recursion (λ c. is_asked parts c ≡ true) needed_classes (
      a.needed Add refl,
      (
        a.needed Logic refl,
        (
          a.needed Shift refl,
          (
            a.needed Compare refl,
            (a.needed Branch refl, (a.needed Jump refl, (a.needed Memory refl, tt))),
          ),
        ),
      ),
    ))))
    (both _ _ (passes _ _ (pair_test _ _ a.pair)) (passes _ _ (pair_test _ _ (sym a.pair))))

-- where control turns
turn_pass : (parts : Parts) (c : Class) → All (λ stage. stage ≤ memory_launch_in parts.sidings)
    (turns_in (ascending (stages_listed parts.units c)) (siding_for parts.sidings c)) → turn_refusal parts c ≡ None
unfolding turn_refusal
turn_pass parts c all = ap (above c (memory_launch_in parts.sidings)) (none_fails (nat_lt (memory_launch_in parts.sidings))
    (turns_in (ascending (stages_listed parts.units c)) (siding_for parts.sidings c)) (λ k d within. low_test _ _ (all k d within)))

control_pass : (parts : Parts) → IsAcceptable parts → control_refusal parts ≡ None
unfolding control_refusal
control_pass parts a = both _ _ (turn_pass parts Branch (a.control Branch refl)) (turn_pass parts Jump (a.control Jump refl))

-- equipped parts pass all tests, except perhaps the last
pub not_loosely_refused : (parts : Parts) → AreEquipped parts → loose_refusal parts ≡ None
unfolding loose_refusal
not_loosely_refused parts a =
    let split = λ (c : Class). rw (times_append (map (λ unit. unit.0) parts.units) (sided_classes parts.sidings) c) at (a.once c) in
    both _ _ (limits_pass parts a)
    (both _ _ (units_pass (natural parts.stages) [] parts.units a.units (λ c. in_units _ (times (sided_classes parts.sidings) c) (split c)))
    (both _ _ (sidings_pass (natural parts.stages) parts.units [] parts.sidings a.sidings (λ c. rw
    (or-false (is_unit parts.units c), is_unit_times parts.units c) (in_sidings (times (map (λ unit. unit.0) parts.units) c)
    (times (sided_classes parts.sidings) c) _ refl (split c))))
    (missing_pass parts a)))

-- and acceptable parts are not refused
pub not_refused : (parts : Parts) → IsAcceptable parts → first_refusal parts ≡ None
unfolding first_refusal
not_refused parts a = both _ _ (not_loosely_refused parts a.equipped) (control_pass parts a)
