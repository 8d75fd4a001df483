-- What the moves need of an accepted layout.
use Rattle.std.specs.Prelude.{◌≡◌, ℕ, suc, ◌≤◌, ◌<◌, Some, None, Bool, true, false, ◌||◌}
use Rattle.rv_inst.specs.declared.classes.Class.{Class}
use Rattle.rv_inst.specs.declared.classes.Class.TheVariants.{Memory, Serial, Free, Mul, Div}
use Rattle.cf_layout.specs.Layout.{Plan, siding_of, unit_at, launch_stage, recover_stage, last_stage, cells_of, is_homed}
use Rattle.cf_layout.specs.Accepted.{is_control}
use Rattle.cf_semantics.specs.moves.Instructions.{is_memory}
use Rattle.cf_semantics.specs.state.Layouts.{port}
use Rattle.theory_refinement.proofs.invariant.Lone.{is_high}

-- it finishes at a unit or in a siding other than Memory's
abbrev pub is_plain : Class → Bool
is_plain Memory = false
is_plain Serial = false
is_plain Free = false
is_plain _ = true

-- it is of the M extension
abbrev pub is_extra : Class → Bool
is_extra Mul = true
is_extra Div = true
is_extra _ = false

-- what the moves need of a layout
pub record Suits (plan : Plan) : Type 0 where
  pub plain : (c : Class) (i : ℕ) → unit_at plan c i ≡ true → is_plain c ≡ true
  pub control_low : (c : Class) (i : ℕ) → is_control c ≡ true → unit_at plan c i ≡ true → is_high plan i ≡ false
  pub control_last : (c : Class) → is_control c ≡ true → siding_of plan c ≡ None → last_stage plan c ≤ launch_stage plan (port plan)
  pub control_siding : (c : Class) (k : ℕ) → is_control c ≡ true → siding_of plan c ≡ Some k → recover_stage plan k ≤ launch_stage plan (port plan)
  pub order : (c : Class) (k : ℕ) → siding_of plan c ≡ Some k → launch_stage plan k < recover_stage plan k
  pub memory : siding_of plan Memory ≡ Some (port plan)
  pub berth : (c : Class) (k : ℕ) → siding_of plan c ≡ Some k → (n : ℕ) × (cells_of plan k ≡ suc n)
  pub sided : (c : Class) (k : ℕ) → siding_of plan c ≡ Some k → (is_plain c || is_memory c) ≡ true
  pub unsided : (c : Class) (i : ℕ) → unit_at plan c i ≡ true → siding_of plan c ≡ None
  pub in_pipe : (c : Class) (k : ℕ) → siding_of plan c ≡ Some k → recover_stage plan k ≤ plan.stages
  pub unit_last : (c : Class) → siding_of plan c ≡ None → is_plain c ≡ true → is_homed plan c ≡ true → unit_at plan c (last_stage plan c) ≡ true
  pub last_within : (c : Class) → last_stage plan c ≤ plan.stages
  pub serial_last : last_stage plan Serial ≡ plan.stages
  pub lane : 2 ≤ plan.lane
  pub tall : 1 ≤ plan.stages
  pub first_launch : (c : Class) (k : ℕ) → siding_of plan c ≡ Some k → 1 ≤ launch_stage plan k
  pub first_last : (c : Class) → siding_of plan c ≡ None → 1 ≤ last_stage plan c
  pub alone : (c : Class) → siding_of plan c ≡ Some (port plan) → c ≡ Memory
  pub basic : (c : Class) → is_plain c ≡ true → is_extra c ≡ false → is_homed plan c ≡ true
