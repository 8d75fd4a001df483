-- Why a layout is refused: the first test that fails, in the order of the tests below.
use Rattle.std.specs.Prelude.{ℕ, min, ℤ, List, [], ◌∷◌, ◌++◌, length, find, nat_le, nat_lt, int_lt, Bool, not, ◌||◌, ◌&&◌, if◌then◌else◌, Option, Some, None, Result, Ok, Err}
use Rattle.std.specs.Option.{option_or}
use Rattle.rv_inst.specs.declared.classes.Class.{Class}
use Rattle.rv_inst.specs.declared.classes.Class.TheVariants.{Add, Logic, Shift, Compare, Branch, Jump, Memory, Mul, Div}
use Rattle.cf_layout.specs.declared.parts.Siding.{Siding}
use Rattle.cf_layout.specs.declared.parts.Parts.{Parts}
use Rattle.cf_layout.specs.declared.refusal.LayoutErr.{LayoutErr}
use Rattle.cf_layout.specs.declared.refusal.LayoutErr.TheVariants.{StagesOutOfRange, LaneOutOfRange, StageOutOfRange, ClassTwice, MissingUnit, EmptyUnit, MemoryNotSiding, MemorySharesSiding, SidingOrder, CellsOutOfRange, ControlAboveMemory, TooManySidings, EmptySiding}
use Rattle.cf_layout.specs.Layout.{same_class}
use Rattle.cf_layout.specs.Asked.{natural, is_integer_within, lists_class, is_unit, is_sided, is_asked, stages_listed, ascending}

-- the refusal if the test fails
abbrev pub unless : Bool → LayoutErr → Option LayoutErr
unless holds e = if holds then None else Some e

-- 2 to 32 stages, 2 to 64 entries in the lane, at most 8 sidings
unfoldable pub limits_refusal : Parts → Option LayoutErr
limits_refusal parts =
    option_or (unless (is_integer_within 2 32 parts.stages) (StagesOutOfRange parts.stages))
    (option_or (unless (is_integer_within 2 64 parts.lane) (LaneOutOfRange parts.lane))
    (unless (nat_le (length parts.sidings) 8) (TooManySidings (min (length parts.sidings) 4294967295))))

-- the class's first stage that the pipeline does not have
abbrev pub outside : Class → Option ℤ → Option LayoutErr
outside c None = None
outside c (Some stage) = Some (StageOutOfRange c stage)

-- the class that is listed a second time
abbrev pub twice : Option Class → Option LayoutErr
twice None = None
twice (Some c) = Some (ClassTwice c)

-- a unit, in a pipeline of n stages and after the units `before`
unfoldable pub unit_refusal : ℕ → List (Class × List ℤ) → Class × List ℤ → Option LayoutErr
unit_refusal n before unit =
    option_or (unless (not (same_class unit.0 Memory)) MemoryNotSiding)
    (option_or (unless (nat_lt 0 (length unit.1)) (EmptyUnit unit.0))
    (option_or (outside unit.0 (find (λ stage. not (is_integer_within 1 n stage)) unit.1))
    (unless (not (is_unit before unit.0)) (ClassTwice unit.0))))

-- each unit in order
abbrev pub units_refusal : ℕ → List (Class × List ℤ) → List (Class × List ℤ) → Option LayoutErr
units_refusal n before [] = None
units_refusal n before (unit ∷ units) = option_or (unit_refusal n before unit) (units_refusal n (before ++ unit ∷ []) units)

-- the first of the classes that is listed earlier among them, or elsewhere
abbrev pub first_repeated : (Class → Bool) → List Class → List Class → Option Class
first_repeated elsewhere before [] = None
first_repeated elsewhere before (c ∷ cs) = if elsewhere c || lists_class before c then Some c else first_repeated elsewhere (before ++ c ∷ []) cs

-- the cells and the stages of a siding whose first class this is
unfoldable pub stages_refusal : ℕ → Siding → Class → Option LayoutErr
stages_refusal n siding first =
    option_or (unless (is_integer_within 1 8 siding.cells) (CellsOutOfRange siding.cells))
    (option_or (unless (is_integer_within 1 n siding.launch) (StageOutOfRange first siding.launch))
    (option_or (unless (is_integer_within 1 n siding.recover) (StageOutOfRange first siding.recover))
    (unless (int_lt siding.launch siding.recover) (SidingOrder siding.launch siding.recover))))

-- the classes of a siding, given those that are listed elsewhere; Memory shares its siding with no other class
unfoldable pub classes_refusal : (Class → Bool) → List Class → Option LayoutErr
classes_refusal elsewhere classes =
    option_or (twice (first_repeated elsewhere [] classes))
    (unless (not (lists_class classes Memory && nat_lt 1 (length classes))) MemorySharesSiding)

-- a siding, given which classes are listed elsewhere
abbrev pub filled_refusal : ℕ → (Class → Bool) → ℕ → Siding → List Class → Option LayoutErr
filled_refusal n elsewhere index siding [] = Some (EmptySiding index)
filled_refusal n elsewhere index siding (first ∷ rest) = option_or (stages_refusal n siding first) (classes_refusal elsewhere (first ∷ rest))

-- a siding, after the units and the sidings `before`
unfoldable pub siding_refusal : ℕ → List (Class × List ℤ) → List Siding → Siding → Option LayoutErr
siding_refusal n units before siding = filled_refusal n (λ c. is_unit units c || is_sided before c) (length before) siding siding.classes

-- each siding in order
abbrev pub sidings_refusal : ℕ → List (Class × List ℤ) → List Siding → List Siding → Option LayoutErr
sidings_refusal n units before [] = None
sidings_refusal n units before (siding ∷ sidings) = option_or (siding_refusal n units before siding) (sidings_refusal n units (before ++ siding ∷ []) sidings)

-- the classes that every processor computes, in class order
abbrev pub needed_classes : List Class
needed_classes = Add ∷ Logic ∷ Shift ∷ Compare ∷ Branch ∷ Jump ∷ Memory ∷ []

-- the class that is missing
abbrev pub missing_class : Option Class → Option LayoutErr
missing_class None = None
missing_class (Some c) = Some (MissingUnit c)

-- no class that every processor computes is missing; of multiplication and division both are present or neither
unfoldable pub missing_refusal : Parts → Option LayoutErr
missing_refusal parts =
    option_or (missing_class (find (λ c. not (is_asked parts c)) needed_classes))
    (option_or (unless (is_asked parts Mul || not (is_asked parts Div)) (MissingUnit Mul))
    (unless (is_asked parts Div || not (is_asked parts Mul)) (MissingUnit Div)))

-- the requested siding for the class: the first that names it
unfoldable pub siding_for : List Siding → Class → Option Siding
siding_for sidings c = find (λ siding. lists_class siding.classes c) sidings

-- the stage from which the siding launches, if there is one
abbrev pub launch_in : Option Siding → ℕ
launch_in None = 0
launch_in (Some siding) = natural siding.launch

-- the stage from which loads and stores are launched
unfoldable pub memory_launch_in : List Siding → ℕ
memory_launch_in sidings = launch_in (siding_for sidings Memory)

-- the stages, ascending, where a class can turn control: those of its units, or the one at which its siding recovers
abbrev pub turns_in : List ℕ → Option Siding → List ℕ
turns_in stages None = stages
turns_in stages (Some siding) = natural siding.recover ∷ []

-- the refusal of a stage, which is above the one from which loads and stores are launched
abbrev pub above : Class → ℕ → Option ℕ → Option LayoutErr
above c launch None = None
above c launch (Some stage) = Some (ControlAboveMemory c stage launch)

-- control turns nowhere above the stage from which loads and stores are launched, or otherwise the lowest stage where
-- it does
unfoldable pub turn_refusal : Parts → Class → Option LayoutErr
turn_refusal parts c = above c (memory_launch_in parts.sidings) (find (nat_lt (memory_launch_in parts.sidings))
    (turns_in (ascending (stages_listed parts.units c)) (siding_for parts.sidings c)))

-- for branches, then for jumps
unfoldable pub control_refusal : Parts → Option LayoutErr
control_refusal parts = option_or (turn_refusal parts Branch) (turn_refusal parts Jump)

-- the first test that the parts fail, of all but the last, on where control turns
unfoldable pub loose_refusal : Parts → Option LayoutErr
loose_refusal parts =
    option_or (limits_refusal parts)
    (option_or (units_refusal (natural parts.stages) [] parts.units)
    (option_or (sidings_refusal (natural parts.stages) parts.units [] parts.sidings)
    (missing_refusal parts)))

-- the first test that the parts fail
unfoldable pub first_refusal : Parts → Option LayoutErr
first_refusal parts = option_or (loose_refusal parts) (control_refusal parts)

-- the refusal, unless it is because of where control turns
abbrev pub beside_control : Option LayoutErr → Option LayoutErr
beside_control None = None
beside_control (Some (ControlAboveMemory c stage launch)) = None
beside_control (Some e) = Some e

-- the outcome of a test
abbrev pub test_outcome : Option LayoutErr → Result (Unit {0}) LayoutErr
test_outcome None = Ok tt
test_outcome (Some e) = Err e
