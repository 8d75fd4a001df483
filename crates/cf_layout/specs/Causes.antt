-- What each refusal of a layout says, taken by itself.
use Rattle.std.specs.Prelude.{◌≡◌, min, ◌⊎◌, ℤ, ◌<◌, ◌≤ℤ◌, List, length, slice_get, true, false, Some}
use Rattle.std.specs.List.{Any, Contains}
use Rattle.rv_inst.specs.declared.classes.Class.{Class}
use Rattle.rv_inst.specs.declared.classes.Class.TheVariants.{Memory, Mul, Div}
use Rattle.cf_layout.specs.declared.parts.Siding.{Siding}
use Rattle.cf_layout.specs.declared.parts.Parts.{Parts}
use Rattle.cf_layout.specs.declared.refusal.LayoutErr.{LayoutErr}
use Rattle.cf_layout.specs.declared.refusal.LayoutErr.TheVariants.{StagesOutOfRange, LaneOutOfRange, StageOutOfRange, ClassTwice, MissingUnit, EmptyUnit, MemoryNotSiding, MemorySharesSiding, SidingOrder, CellsOutOfRange, ControlAboveMemory, TooManySidings, EmptySiding}
use Rattle.cf_layout.specs.Accepted.{is_needed, is_control}
use Rattle.cf_layout.specs.Asked.{natural, is_integer_within, lists_class, is_unit, is_asked, stages_listed, ascending}
use Rattle.cf_layout.specs.Acceptable.{times, asked_classes}
use Rattle.cf_layout.specs.Refusal.{siding_for, turns_in, memory_launch_in}

-- a unit for the class lists the stage
abbrev pub ListsStage : Parts → Class → ℤ → Type 0
ListsStage parts c z = Any (λ (unit : Class × List ℤ). (unit.0 ≡ c) × Contains unit.1 z) parts.units

-- a siding for the class launches or recovers at the stage
abbrev pub SidesAt : Parts → Class → ℤ → Type 0
SidesAt parts c z = Any (λ (siding : Siding). Contains siding.classes c × ((siding.launch ≡ z) ⊎ (siding.recover ≡ z))) parts.sidings

-- every processor needs the class, or it is one of multiplication and division and the other is requested
abbrev pub IsWanted : Parts → Class → Type 0
IsWanted parts c = (is_needed c ≡ true) ⊎ (((c ≡ Mul) × (is_asked parts Div ≡ true)) ⊎ ((c ≡ Div) × (is_asked parts Mul ≡ true)))

-- what each refusal says of the parts
abbrev pub IsLayoutCause : Parts → LayoutErr → Type 0
IsLayoutCause parts (StagesOutOfRange z) = (z ≡ parts.stages) × (is_integer_within 2 32 z ≡ false)
IsLayoutCause parts (LaneOutOfRange z) = (z ≡ parts.lane) × (is_integer_within 2 64 z ≡ false)
IsLayoutCause parts (StageOutOfRange c z) = (is_integer_within 1 (natural parts.stages) z ≡ false) × (ListsStage parts c z ⊎ SidesAt parts c z)
IsLayoutCause parts (ClassTwice c) = 1 < times (asked_classes parts) c
IsLayoutCause parts (MissingUnit c) = (is_asked parts c ≡ false) × IsWanted parts c
IsLayoutCause parts (EmptyUnit c) = Any (λ (unit : Class × List ℤ). (unit.0 ≡ c) × (length unit.1 ≡ 0)) parts.units
IsLayoutCause parts MemoryNotSiding = is_unit parts.units Memory ≡ true
IsLayoutCause parts MemorySharesSiding = Any (λ (siding : Siding). (lists_class siding.classes Memory ≡ true) × (1 < length siding.classes)) parts.sidings
IsLayoutCause parts (SidingOrder launch recover) = (recover ≤ℤ launch) × Any (λ (siding : Siding). (siding.launch ≡ launch)
    × (siding.recover ≡ recover)) parts.sidings
IsLayoutCause parts (CellsOutOfRange z) = (is_integer_within 1 8 z ≡ false) × Any (λ (siding : Siding). siding.cells ≡ z) parts.sidings
IsLayoutCause parts (ControlAboveMemory c stage launch) = (is_control c ≡ true) × (launch ≡ memory_launch_in parts.sidings) × (launch < stage)
    × Contains (turns_in (ascending (stages_listed parts.units c)) (siding_for parts.sidings c)) stage
IsLayoutCause parts (TooManySidings count) = (count ≡ min (length parts.sidings) 4294967295) × (8 < length parts.sidings)
IsLayoutCause parts (EmptySiding k) = Any (λ (siding : Siding). (slice_get parts.sidings k ≡ Some siding) × (length siding.classes ≡ 0)) parts.sidings
