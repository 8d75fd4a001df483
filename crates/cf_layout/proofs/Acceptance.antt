-- Parts that are not refused describe a layout that is accepted.
use Rattle.std.proofs.Common.{◌≡◌, ℕ, ◌≤◌, [], All, length, Bool, true, false, Option, Some, None, find, refl, arith}
use Rattle.std.specs.Prelude.{not, nat_lt, ◌||◌}
use Rattle.std.proofs.lemmas.Bool.Decides.{nat_tests}
use Rattle.rv_inst.specs.declared.classes.Class.{Class}
use Rattle.rv_inst.specs.declared.classes.Class.TheVariants.{Add, Logic, Shift, Compare, Branch, Jump, Memory, Serial, Free, Mul, Div}
use Rattle.cf_layout.specs.declared.parts.Parts.{Parts}
use Rattle.cf_layout.specs.Asked.{natural, is_integer_within, IsSmallSiding, is_asked, stages_listed, ascending, plan_of}
use Rattle.cf_layout.specs.Accepted.{is_needed, is_control, IsEquipped, IsAccepted}
use Rattle.cf_layout.specs.Acceptable.{AreComputed, AreEquipped, IsAcceptable}
use Rattle.cf_layout.specs.Refusal.{loose_refusal, first_refusal, missing_class, missing_refusal, needed_classes, above, turn_refusal, control_refusal, turns_in, siding_for, memory_launch_in}
use Rattle.cf_layout.proofs.Control.{described_equipped, described}
use Rattle.cf_layout.proofs.Passing.{first_passes, next_passes, holds, none_found, all_fail, within_most, limits_hold, units_hold, sidings_hold, small_sidings, all_once}

-- no class is missing
none_missing : (o : Option Class) → missing_class o ≡ None → o ≡ None
none_missing None e = refl
none_missing (Some c) e = cc

-- the classes that every processor computes, one by one
needed_by : (parts : Parts) → All (λ c. is_asked parts c ≡ true) needed_classes → (c : Class) → is_needed c ≡ true → is_asked parts c ≡ true
needed_by parts all Add n = all 0 Add (omega arith)
needed_by parts all Logic n = all 1 Add (omega arith)
needed_by parts all Shift n = all 2 Add (omega arith)
needed_by parts all Compare n = all 3 Add (omega arith)
needed_by parts all Branch n = all 4 Add (omega arith)
needed_by parts all Jump n = all 5 Add (omega arith)
needed_by parts all Memory n = all 6 Add (omega arith)
needed_by parts all Serial n = cc
needed_by parts all Free n = cc
needed_by parts all Mul n = cc
needed_by parts all Div n = cc

-- a number is not above another if the test does not find it above
not_above : (a b : ℕ) → nat_lt a b ≡ false → b ≤ a
not_above a b e = grind (arith, nat_tests)

-- a class that every processor computes is found among them
needed_asked : (parts : Parts) → find (λ c. not (is_asked parts c)) needed_classes ≡ None → (c : Class) → is_needed c ≡ true → is_asked parts c ≡ true
needed_asked parts e c n = needed_by parts (none_found (is_asked parts) needed_classes e) c n

-- of two classes both are requested, or neither is
pair_asked : (m d : Bool) → (m || not d) ≡ true → (d || not m) ≡ true → m ≡ d
pair_asked true true p q = refl
pair_asked true false p q = cc
pair_asked false true p q = cc
pair_asked false false p q = refl

-- no stage above the launch stage is found
none_above : (c : Class) (launch : ℕ) (o : Option ℕ) → above c launch o ≡ None → o ≡ None
none_above c launch None e = refl
none_above c launch (Some stage) e = cc

-- no stage where the class turns control is above the launch stage
turns_low : (parts : Parts) (c : Class) → turn_refusal parts c ≡ None → All (λ stage. stage ≤ memory_launch_in parts.sidings)
    (turns_in (ascending (stages_listed parts.units c)) (siding_for parts.sidings c))
unfolding turn_refusal
turns_low parts c e = λ k d within. not_above _ _ (all_fail (nat_lt (memory_launch_in parts.sidings)) _ (none_above c _ _ e) k d within)

-- the classes that turn control
control_low : (parts : Parts) → control_refusal parts ≡ None → (c : Class) → is_control c ≡ true →
    All (λ stage. stage ≤ memory_launch_in parts.sidings) (turns_in (ascending (stages_listed parts.units c)) (siding_for parts.sidings c))
unfolding control_refusal
control_low parts e Branch t = turns_low parts Branch (first_passes _ _ e)
control_low parts e Jump t = turns_low parts Jump (next_passes _ _ e)
control_low parts e Add t = cc
control_low parts e Logic t = cc
control_low parts e Shift t = cc
control_low parts e Compare t = cc
control_low parts e Memory t = cc
control_low parts e Serial t = cc
control_low parts e Free t = cc
control_low parts e Mul t = cc
control_low parts e Div t = cc

-- the tests for what is missing
missing_hold : (parts : Parts) → missing_refusal parts ≡ None → ((c : Class) → is_needed c ≡ true → is_asked parts c ≡ true)
    × (is_asked parts Mul ≡ is_asked parts Div)
unfolding missing_refusal
missing_hold parts e =
    let f = next_passes _ _ e in
    (needed_asked parts (none_missing _ (first_passes _ _ e)), pair_asked _ _ (holds _ _ (first_passes _ _ f)) (holds _ _ (next_passes _ _ f)))

-- parts that pass all tests but the last describe an equipped layout
pub equipped : (parts : Parts) → loose_refusal parts ≡ None → AreEquipped parts
unfolding loose_refusal
equipped parts e =
    let limits = limits_hold parts (first_passes _ _ e) in
    let f = next_passes _ _ e in
    let units = first_passes _ _ f in
    let g = next_passes _ _ f in
    let sidings = first_passes _ _ g in
    let h = next_passes _ _ g in
    let there = missing_hold parts h in
    record {
      stages = limits.0;
      lane = limits.1;
      few_sidings = limits.2;
      units = units_hold (natural parts.stages) [] parts.units units;
      sidings = sidings_hold (natural parts.stages) parts.units [] parts.sidings sidings;
      once = all_once (natural parts.stages) parts.units parts.sidings units sidings;
      needed = there.0;
      pair = there.1;
    }

-- parts that are not refused are acceptable
pub acceptable : (parts : Parts) → first_refusal parts ≡ None → IsAcceptable parts
unfolding first_refusal
acceptable parts e = record { equipped = equipped parts (first_passes _ _ e); control = control_low parts (next_passes _ _ e) }

-- and they pass all tests but the last
pub loosely_passed : (parts : Parts) → first_refusal parts ≡ None → loose_refusal parts ≡ None
unfolding first_refusal
loosely_passed parts e = first_passes _ _ e

-- so parts that pass all tests but the last describe an equipped layout
pub equips : (parts : Parts) → AreComputed parts → loose_refusal parts ≡ None → IsEquipped (plan_of parts)
equips parts computed e = described_equipped parts computed (equipped parts e)

-- and parts that are not refused describe an accepted one
pub accepted : (parts : Parts) → AreComputed parts → first_refusal parts ≡ None → IsAccepted (plan_of parts)
accepted parts computed e = described parts computed (acceptable parts e)

-- their numbers are within the limits of a layout
pub limits_kept : (parts : Parts) → loose_refusal parts ≡ None → (is_integer_within 2 32 parts.stages ≡ true) × (is_integer_within 2 64 parts.lane ≡ true)
    × (length parts.sidings ≤ 8)
unfolding loose_refusal
limits_kept parts e = limits_hold parts (first_passes _ _ e)

-- and so are the numbers of their sidings
pub small_kept : (parts : Parts) → loose_refusal parts ≡ None → All IsSmallSiding parts.sidings
unfolding loose_refusal
small_kept parts e =
    let limits = limits_hold parts (first_passes _ _ e) in
    let sidings = first_passes _ _ (next_passes _ _ (next_passes _ _ e)) in
    small_sidings (natural parts.stages) parts.units parts.sidings sidings (within_most parts.stages 2 32 limits.0)
