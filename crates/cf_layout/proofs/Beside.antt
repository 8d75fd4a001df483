-- The tests before the last refuse as all tests do, but never because of where control turns.
use Rattle.std.proofs.Common.{◌≡◌, ℕ, ℤ, List, [], ◌∷◌, ◌++◌, length, min, Bool, true, false, Option, Some, None, find, refl, sym}
use Rattle.std.specs.Prelude.{not, nat_le, nat_lt, int_lt, ◌||◌, ◌&&◌}
use Rattle.std.specs.Option.{option_or}
use Rattle.rv_inst.specs.declared.classes.Class.{Class}
use Rattle.rv_inst.specs.declared.classes.Class.TheVariants.{Branch, Jump, Memory, Mul, Div}
use Rattle.cf_layout.specs.declared.parts.Siding as asked
use Rattle.cf_layout.specs.declared.parts.Parts.{Parts}
use Rattle.cf_layout.specs.declared.refusal.LayoutErr.{LayoutErr}
use Rattle.cf_layout.specs.declared.refusal.LayoutErr.TheVariants.{StagesOutOfRange, LaneOutOfRange, StageOutOfRange, ClassTwice, MissingUnit, EmptyUnit, MemoryNotSiding, MemorySharesSiding, SidingOrder, CellsOutOfRange, TooManySidings, EmptySiding}
use Rattle.cf_layout.specs.Layout.{same_class}
use Rattle.cf_layout.specs.Asked.{natural, is_integer_within, lists_class, is_unit, is_sided, is_asked, stages_listed, ascending}
use Rattle.cf_layout.specs.Refusal.{unless, outside, twice, missing_class, above, limits_refusal, unit_refusal, units_refusal, first_repeated, stages_refusal, classes_refusal, filled_refusal, siding_refusal, sidings_refusal, missing_refusal, needed_classes, turn_refusal, control_refusal, turns_in, siding_for, memory_launch_in, loose_refusal, first_refusal, beside_control}

-- the refusal, if there is one, is not because of where control turns
unfoldable IsBeside : Option LayoutErr → Type 0
IsBeside o = beside_control o ≡ o

beside_none : IsBeside None
unfolding IsBeside
beside_none = refl

-- for two tests
beside_first : (a b : Option LayoutErr) → IsBeside a → IsBeside b → IsBeside (option_or a b)
beside_first None b p q = q
beside_first (Some x) b p q = p

-- for one test
beside_unless : (b : Bool) (e : LayoutErr) → beside_control (Some e) ≡ Some e → IsBeside (unless b e)
unfolding IsBeside
beside_unless true e p = refl
beside_unless false e p = p

beside_outside : (c : Class) (o : Option ℤ) → IsBeside (outside c o)
unfolding IsBeside
beside_outside c None = refl
beside_outside c (Some z) = refl

beside_twice : (o : Option Class) → IsBeside (twice o)
unfolding IsBeside
beside_twice None = refl
beside_twice (Some c) = refl

beside_missing : (o : Option Class) → IsBeside (missing_class o)
unfolding IsBeside
beside_missing None = refl
beside_missing (Some c) = refl

-- the limits
beside_limits : (parts : Parts) → IsBeside (limits_refusal parts)
unfolding limits_refusal
beside_limits parts =
    beside_first _ _ (beside_unless (is_integer_within 2 32 parts.stages) (StagesOutOfRange parts.stages) refl)
    (beside_first _ _ (beside_unless (is_integer_within 2 64 parts.lane) (LaneOutOfRange parts.lane) refl)
    (beside_unless (nat_le (length parts.sidings) 8) (TooManySidings (min (length parts.sidings) 4294967295)) refl))

-- units
beside_unit : (n : ℕ) (before : List (Class × List ℤ)) (unit : Class × List ℤ) → IsBeside (unit_refusal n before unit)
unfolding unit_refusal
beside_unit n before unit =
    beside_first _ _ (beside_unless (not (same_class unit.0 Memory)) MemoryNotSiding refl)
    (beside_first _ _ (beside_unless (nat_lt 0 (length unit.1)) (EmptyUnit unit.0) refl)
    (beside_first _ _ (beside_outside unit.0 (find (λ stage. not (is_integer_within 1 n stage)) unit.1))
    (beside_unless (not (is_unit before unit.0)) (ClassTwice unit.0) refl)))

beside_units : (n : ℕ) (before units : List (Class × List ℤ)) → IsBeside (units_refusal n before units)
beside_units n before [] = beside_none
beside_units n before (unit ∷ units) = beside_first _ _ (beside_unit n before unit) (beside_units n (before ++ unit ∷ []) units)

-- sidings
beside_stages : (n : ℕ) (siding : asked.Siding) (first : Class) → IsBeside (stages_refusal n siding first)
unfolding stages_refusal
beside_stages n siding first =
    beside_first _ _ (beside_unless (is_integer_within 1 8 siding.cells) (CellsOutOfRange siding.cells) refl)
    (beside_first _ _ (beside_unless (is_integer_within 1 n siding.launch) (StageOutOfRange first siding.launch) refl)
    (beside_first _ _ (beside_unless (is_integer_within 1 n siding.recover) (StageOutOfRange first siding.recover) refl)
    (beside_unless (int_lt siding.launch siding.recover) (SidingOrder siding.launch siding.recover) refl)))

beside_classes : (elsewhere : Class → Bool) (classes : List Class) → IsBeside (classes_refusal elsewhere classes)
unfolding classes_refusal
beside_classes elsewhere classes =
    beside_first _ _ (beside_twice (first_repeated elsewhere [] classes))
    (beside_unless (not (lists_class classes Memory && nat_lt 1 (length classes))) MemorySharesSiding refl)

beside_filled : (n : ℕ) (elsewhere : Class → Bool) (index : ℕ) (siding : asked.Siding) (classes : List Class) →
    IsBeside (filled_refusal n elsewhere index siding classes)
beside_filled n elsewhere index siding [] = beside_unless false (EmptySiding index) refl
beside_filled n elsewhere index siding (first ∷ rest) = beside_first _ _ (beside_stages n siding first) (beside_classes elsewhere (first ∷ rest))

beside_siding : (n : ℕ) (units : List (Class × List ℤ)) (before : List asked.Siding) (siding : asked.Siding) → IsBeside (siding_refusal n units before siding)
unfolding siding_refusal
beside_siding n units before siding = beside_filled n (λ c. is_unit units c || is_sided before c) (length before) siding siding.classes

beside_sidings : (n : ℕ) (units : List (Class × List ℤ)) (before sidings : List asked.Siding) → IsBeside (sidings_refusal n units before sidings)
beside_sidings n units before [] = beside_none
beside_sidings n units before (siding ∷ sidings) = beside_first _ _ (beside_siding n units before siding)
    (beside_sidings n units (before ++ siding ∷ []) sidings)

-- what is missing
beside_absent : (parts : Parts) → IsBeside (missing_refusal parts)
unfolding missing_refusal
beside_absent parts =
    beside_first _ _ (beside_missing (find (λ c. not (is_asked parts c)) needed_classes))
    (beside_first _ _ (beside_unless (is_asked parts Mul || not (is_asked parts Div)) (MissingUnit Mul) refl)
    (beside_unless (is_asked parts Div || not (is_asked parts Mul)) (MissingUnit Div) refl))

-- so this holds of all tests but the last
beside_loosely : (parts : Parts) → IsBeside (loose_refusal parts)
unfolding loose_refusal
beside_loosely parts =
    beside_first _ _ (beside_limits parts)
    (beside_first _ _ (beside_units (natural parts.stages) [] parts.units)
    (beside_first _ _ (beside_sidings (natural parts.stages) parts.units [] parts.sidings) (beside_absent parts)))

-- the last test refuses for no other reason
only_above : (c : Class) (launch : ℕ) (o : Option ℕ) → beside_control (above c launch o) ≡ None
only_above c launch None = refl
only_above c launch (Some stage) = refl

only_first : (a b : Option LayoutErr) → beside_control a ≡ None → beside_control b ≡ None → beside_control (option_or a b) ≡ None
only_first None b p q = q
only_first (Some x) b p q = p

only_turns : (parts : Parts) (c : Class) → beside_control (turn_refusal parts c) ≡ None
unfolding turn_refusal
only_turns parts c = only_above c (memory_launch_in parts.sidings) (find (nat_lt (memory_launch_in parts.sidings))
    (turns_in (ascending (stages_listed parts.units c)) (siding_for parts.sidings c)))

only_control : (parts : Parts) → beside_control (control_refusal parts) ≡ None
unfolding control_refusal
only_control parts = only_first _ _ (only_turns parts Branch) (only_turns parts Jump)

-- the tests, by the result of those before the last
beside_or : (parts : Parts) (o : Option LayoutErr) → IsBeside o → o ≡ beside_control (option_or o (control_refusal parts))
unfolding IsBeside
beside_or parts None p = sym (only_control parts)
beside_or parts (Some e) p = sym p

-- the tests before the last refuse as all tests do, unless that is because of where control turns
pub loosely : (parts : Parts) → loose_refusal parts ≡ beside_control (first_refusal parts)
unfolding first_refusal
loosely parts = beside_or parts (loose_refusal parts) (beside_loosely parts)
