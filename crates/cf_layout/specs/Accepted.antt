-- Which layouts are accepted. The conditions ensure that each instruction finds its unit or its siding on its way up,
-- and that nothing turns control above the stage from which loads and stores are launched (Sproull, Sutherland and
-- Molnar, "Counterflow Pipeline Processor Architecture", 1994, on traps and sidings).
use Rattle.std.specs.Prelude.{◌≡◌, ℕ, ◌≤◌, ◌<◌, [], ◌∷◌, length, map, All, Bool, true, false, unwrap_or}
use Rattle.std.specs.List.Sorted.{IsStrictlyIncreasing}
use Rattle.rv_inst.specs.declared.classes.Class.{Class}
use Rattle.rv_inst.specs.declared.classes.Class.TheVariants.{Branch, Jump, Memory, Serial, Free, Mul, Div}
use Rattle.cf_layout.specs.Layout.{SidingPlan, Plan, place_of, stages_of, unit_at, serves, siding_of, launch_stage, homes}

-- the classes that every processor computes
abbrev pub is_needed : Class → Bool
is_needed Mul = false
is_needed Div = false
is_needed Serial = false
is_needed Free = false
is_needed _ = true

-- the classes that turn control
abbrev pub is_control : Class → Bool
is_control Branch = true
is_control Jump = true
is_control _ = false

-- the stage from which loads and stores are launched: that of Memory's siding
unfoldable pub memory_launch : Plan → ℕ
memory_launch plan = launch_stage plan (unwrap_or (siding_of plan Memory) 0)

-- a stage of the pipeline; stage 1 is at the bottom
abbrev pub IsStage : Plan → ℕ → Type 0
IsStage plan i = (1 ≤ i) × (i ≤ plan.stages)

-- what holds of each siding
pub record IsSiding (plan : Plan) (siding : SidingPlan) : Type 0 where
  -- it is for at least one class, each of which is listed once, in class order
  pub some : 0 < length siding.classes
  pub ordered : IsStrictlyIncreasing (map place_of siding.classes)
  -- it is for none of the classes that need no computing or the whole machine
  pub computed : All (λ c. place_of c < 9) siding.classes
  -- it launches from a stage, and recovers at a higher one
  pub launches : IsStage plan siding.launch
  pub recovers : IsStage plan siding.recover
  pub order : siding.launch < siding.recover
  -- it has 1 to 8 cells
  pub cells : (1 ≤ siding.cells) × (siding.cells ≤ 8)
  -- Memory shares its siding with no other class
  pub memory_alone : serves siding Memory ≡ true → siding.classes ≡ Memory ∷ []

-- each instruction finds its unit or its siding on its way up, wherever control turns
pub record IsEquipped (plan : Plan) : Type 0 where
  -- there are 2 to 32 stages, 2 to 64 entries in the lane, and at most 8 sidings
  pub stages : (2 ≤ plan.stages) × (plan.stages ≤ 32)
  pub lane : (2 ≤ plan.lane) × (plan.lane ≤ 64)
  pub few_sidings : length plan.sidings ≤ 8
  -- for each of the nine classes the stages of its units are listed, ascending
  pub classes : length plan.units ≡ 9
  pub ascending : All IsStrictlyIncreasing plan.units
  pub unit_stages : All (All (IsStage plan)) plan.units
  pub sidings : All (IsSiding plan) plan.sidings
  -- each class that every processor computes has either units or one siding
  pub needed : (c : Class) → is_needed c ≡ true → homes plan c ≡ 1
  -- multiplication and division each have a home (units or a siding), or neither has
  pub pair : homes plan Mul ≡ homes plan Div
  pub pair_once : homes plan Mul ≤ 1
  -- loads and stores go through a siding
  pub memory : stages_of plan Memory ≡ []

-- the layout is accepted
pub record IsAccepted (plan : Plan) : Type 0 where
  pub equipped : IsEquipped plan
  pub open equipped use *
  -- control turns, at a unit or a recovery, at or below the stage from which loads and stores are launched
  pub control_units : (c : Class) (i : ℕ) → is_control c ≡ true → unit_at plan c i ≡ true → i ≤ memory_launch plan
  pub control_sidings : (c : Class) → is_control c ≡ true → All (λ siding. serves siding c ≡ true → siding.recover ≤ memory_launch plan) plan.sidings
