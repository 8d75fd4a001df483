-- An instruction that climbs on, one stage after another, as far as it can ("Counterflow Pipeline Processor Architecture",
-- 1994: instructions advance when the stage above is free).
use Rattle.std.specs.Prelude.{◌≡◌, ◌==◌, IsNone, IsSome, ◌||◌, ℕ, zero, suc, ◌+◌, ◌-◌, ◌<◌, ◌≤◌, Bool, true, false, Option, None, Some, if◌then◌else◌}
use Rattle.rv_inst.specs.declared.classes.Class.{Class}
use Rattle.cf_bind.specs.declared.cell.Cell.{Cell}
use Rattle.cf_bind.specs.declared.moves.Move.TheVariants.{Climb}
use Rattle.cf_bind.specs.declared.passenger.Passenger.{Passenger}
use Rattle.cf_layout.specs.Layout.{Plan}
use Rattle.cf_semantics.specs.moves.Bars.{bar, stops_at}
use Rattle.cf_semantics.specs.state.Options.{is_some, on}
use Rattle.cf_semantics.specs.state.Passengers.{kind}
use Rattle.cf_semantics.specs.state.State.{State, cell_at}
use Rattle.cf_stages.specs.Changes.{passenger_at}
use Rattle.cf_core.specs.Marks.{marked, no_mark}
use Rattle.cf_core.specs.Masks.{owes_at}
use Rattle.cf_core.specs.Processors.{Processor, after_move}
use Rattle.cf_core.specs.Riders.{is_idle}
use Rattle.cf_core.specs.declared.marks.Marks.{Marks}

-- the processor after the instruction of stage i has climbed by this many stages
unfoldable pub climbed : Processor → ℕ → ℕ → Processor
climbed p i zero = p
climbed p i (suc n) = after_move (climbed p i n) (Climb (i + n))

-- nothing bars its next Climb after this many
abbrev pub climbs_on : Processor → ℕ → ℕ → Type 0
climbs_on p i n = bar p.plan (climbed p i n).state (Climb (i + n)) ≡ None

-- the class of the instruction, if a unit or a siding has still something to do with it
abbrev pub work_of : Passenger → Option Class
work_of p = if is_idle p then None else Some (kind p)

-- the stage has contents of which the test holds
abbrev pub holds_at : State → ℕ → (Cell → Bool) → Bool
holds_at s k test = on (cell_at s.cells k) false test

-- the instruction could not climb out of the stage: a result is there, which it would have to meet first; an instruction
-- is in the stage above; the stage is the highest; or the instruction stops there
abbrev pub is_blocked_at : Plan → State → Passenger → ℕ → Bool
is_blocked_at plan s p k =
    holds_at s k (λ c. is_some c.packet) || holds_at s (k + 1) (λ c. is_some c.passenger) || plan.stages == k || stops_at plan p k

-- stage j is the lowest above stage i at which the instruction is blocked
pub record IsFirstBlock (plan : Plan) (s : State) (p : Passenger) (i j : ℕ) : Type 0 where
  pub higher : i < j
  pub within : j ≤ plan.stages
  pub blocked : is_blocked_at plan s p j ≡ true
  pub free : (k : ℕ) → i < k → k < j → is_blocked_at plan s p k ≡ false

-- the instruction of stage i can climb up to stage j, and no further
pub record ClimbsTo (p : Processor) (i j : ℕ) : Type 0 where
  pub higher : i < j
  pub each : (n : ℕ) → n < j - i → climbs_on p i n
  pub ends : climbs_on p i (j - i) → ⊥

-- an instruction that owes nothing has come from stage i to stage j, and the words are still those from before: nothing was
-- in stage j, and in stage i the instruction could at most be executed, since it did not stop there
pub record HasClimbed (plan : Plan) (s : State) (marks : Marks) (i j : ℕ) : Type 0 where
  pub low : 0 < i
  pub higher : i < j
  pub within : j ≤ plan.stages
  pub gone : IsNone (passenger_at s.cells i)
  pub here : IsSome (passenger_at s.cells j)
  pub owes : owes_at s j ≡ false
  pub could : Bool
  pub left : marked marks i (record no_mark { execute = could }) ≡ marks
  pub free : marked marks j no_mark ≡ marks
