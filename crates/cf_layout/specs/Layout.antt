-- A layout of the processor: which stages have units for which classes of instructions, and where the sidings leave and
-- join the pipeline (Sproull, Sutherland and Molnar, "Counterflow Pipeline Processor Architecture", 1994).
use Rattle.std.specs.Prelude.{ℕ, ◌+◌, List, [], ◌∷◌, length, filter, position, slice_get, nat_eq, nat_lt, Bool, ◌&&◌, Option, Some, None, unwrap_or}
use Rattle.std.specs.List.{list_any}
use Rattle.rv_inst.specs.declared.classes.Class.{Class}
use Rattle.rv_inst.specs.declared.classes.Class.TheVariants.{Add, Logic, Shift, Compare, Branch, Jump, Memory, Serial, Free, Mul, Div}

-- a siding: the classes that go through it, in class order; the stage from which it launches; the stage at which it
-- recovers; and how many cells it has
pub record SidingPlan : Type 0 where
  pub classes : List Class
  pub launch : ℕ
  pub recover : ℕ
  pub cells : ℕ

-- a layout: how many stages the pipeline has, how many entries the request lane, and whether there is a register cache;
-- for each class in class order the stages of its units, ascending; and the sidings
pub record Plan : Type 0 where
  pub stages : ℕ
  pub lane : ℕ
  pub cache : Bool
  pub units : List (List ℕ)
  pub sidings : List SidingPlan

-- the index of a class in class order: after the nine that units or sidings compute come the two that need neither
abbrev pub place_of : Class → ℕ
place_of Add = 0
place_of Logic = 1
place_of Shift = 2
place_of Compare = 3
place_of Branch = 4
place_of Jump = 5
place_of Memory = 6
place_of Mul = 7
place_of Div = 8
place_of Serial = 9
place_of Free = 10

-- the classes that units or sidings compute, in class order
abbrev pub computed_classes : List Class
computed_classes = Add ∷ Logic ∷ Shift ∷ Compare ∷ Branch ∷ Jump ∷ Memory ∷ Mul ∷ Div ∷ []

-- the two are the same class
abbrev pub same_class : Class → Class → Bool
same_class c d = nat_eq (place_of c) (place_of d)

-- the stages with a unit for the class
unfoldable pub stages_of : Plan → Class → List ℕ
stages_of plan c = unwrap_or (slice_get plan.units (place_of c)) []

-- the stage has a unit for the class
unfoldable pub unit_at : Plan → Class → ℕ → Bool
unit_at plan c stage = list_any (nat_eq stage) (stages_of plan c)

-- the class goes through the siding
unfoldable pub serves : SidingPlan → Class → Bool
serves siding c = list_any (same_class c) siding.classes

-- the number of the siding that the class goes through
unfoldable pub siding_of : Plan → Class → Option ℕ
siding_of plan c = position (λ siding. serves siding c) plan.sidings

-- the plan that is used for a siding that does not exist
abbrev pub no_siding : SidingPlan
no_siding = record { classes = []; launch = 0; recover = 0; cells = 0 }

-- the siding with that number
abbrev pub siding_plan_at : Plan → ℕ → SidingPlan
siding_plan_at plan k = unwrap_or (slice_get plan.sidings k) no_siding

-- the stage from which a siding launches
unfoldable pub launch_stage : Plan → ℕ → ℕ
launch_stage plan k = (siding_plan_at plan k).launch

-- the stage at which a siding recovers
unfoldable pub recover_stage : Plan → ℕ → ℕ
recover_stage plan k = (siding_plan_at plan k).recover

-- how many cells a siding has
unfoldable pub cells_of : Plan → ℕ → ℕ
cells_of plan k = (siding_plan_at plan k).cells

-- the units of a class, at any number of stages, are one home
abbrev pub unit_homes : List ℕ → ℕ
unit_homes [] = 0
unit_homes (stage ∷ stages) = 1

-- how many homes a class has: one if it has units, and one for each siding that it goes through
unfoldable pub homes : Plan → Class → ℕ
homes plan c = unit_homes (stages_of plan c) + length (filter (λ siding. serves siding c) plan.sidings)

-- whether the class has any home
abbrev pub is_homed : Plan → Class → Bool
is_homed plan c = nat_lt 0 (homes plan c)

-- whether the processor multiplies and divides
unfoldable pub has_mul : Plan → Bool
has_mul plan = is_homed plan Mul && is_homed plan Div

-- the recovery stage of a siding, or the last stage of the pipeline if there is no siding
abbrev pub recovers_by : Plan → Option ℕ → ℕ
recovers_by plan None = plan.stages
recovers_by plan (Some k) = recover_stage plan k

-- the last of the stages, or the other number if there is none
abbrev pub last_of : List ℕ → ℕ → ℕ
last_of [] other = other
last_of (stage ∷ stages) other = last_of stages stage

-- the last stage at which an instruction of the class can still be computed: that of its last unit, or otherwise the
-- recovery stage of its siding, or otherwise the last of the pipeline; for the class that needs no computing it is the
-- first
unfoldable pub last_stage : Plan → Class → ℕ
last_stage plan Serial = plan.stages
last_stage plan Free = 1
last_stage plan c = last_of (stages_of plan c) (recovers_by plan (siding_of plan c))
