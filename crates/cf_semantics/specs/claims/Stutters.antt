-- The refinement move by move, as a stuttering simulation: seen from outside, a move either is not a step of the
-- sequential machine or is exactly its next one.
use Rattle.std.specs.Prelude.{◌≡◌, ◌⊎◌, ℕ, ◌+◌, ◌≤◌, Some}
use Rattle.rv_inst.specs.declared.isa.Isa.{Isa}
use Rattle.rv_machine.specs.Machine.{Machine}
use Rattle.rv_machine.specs.After.{after}
use Rattle.cf_layout.specs.Layout.{Plan}
use Rattle.cf_bind.specs.declared.passenger.End.{End}
use Rattle.cf_bind.specs.declared.moves.Move.{Move}
use Rattle.cf_bind.specs.declared.moves.Move.TheVariants.{Access, Leave, Serve}
use Rattle.cf_semantics.specs.moves.Instructions.{Goes, Stops, step_here}
use Rattle.cf_semantics.specs.state.State.{State, Moment}
use Rattle.cf_semantics.specs.state.Layouts.{isa_of}
use Rattle.cf_semantics.specs.moves.Moves.{next}
use Rattle.cf_semantics.specs.claims.Refines.{gained}

-- count, registers and ending are unchanged
pub record NothingRetires (s t : State) : Type 0 where
  pub retired : t.retired ≡ s.retired
  pub regs : t.regs ≡ s.regs
  pub ending : t.ending ≡ s.ending

-- the machine's step goes on: the count is one higher, and the registers become those after the step
pub record OneRetires (isa : Isa) (x : Machine) (s t : State) : Type 0 where
  pub later : Machine
  pub step : step_here isa x ≡ Goes later
  pub retired : t.retired ≡ s.retired + 1
  pub before : s.regs ≡ x.hart.regs
  pub regs : t.regs ≡ later.hart.regs
  pub ending : t.ending ≡ s.ending

-- the machine's step ends the program, and so does the move; count and registers are unchanged
pub record OneEnds (isa : Isa) (x : Machine) (s t : State) : Type 0 where
  pub end : End
  pub step : step_here isa x ≡ Stops end
  pub ending : t.ending ≡ Some end
  pub retired : t.retired ≡ s.retired
  pub regs : t.regs ≡ s.regs

-- seen through count, registers and ending: nothing, or, at Leave only, the step of the machine
abbrev pub StepsRetired : Isa → Machine → Moment → Move → Moment → Type 0
StepsRetired isa x m mv t =
    NothingRetires m.state t.state ⊎ ((mv ≡ Leave) × (OneRetires isa x m.state t.state ⊎ OneEnds isa x m.state t.state))

-- input and output are unchanged
pub record NothingSpoken (m t : Moment) : Type 0 where
  pub rest : t.rest ≡ m.rest
  pub output : t.output ≡ m.output

-- the machine's step goes on: input and output, which were the machine's, become those after the step
pub record OneSpoken (isa : Isa) (x : Machine) (m t : Moment) : Type 0 where
  pub later : Machine
  pub step : step_here isa x ≡ Goes later
  pub rest_before : m.rest ≡ x.rest
  pub output_before : m.output ≡ x.output
  pub rest : t.rest ≡ later.rest
  pub output : t.output ≡ later.output

-- seen through input and output: nothing, or, at Serve only, the step of the machine
abbrev pub StepsSpoken : Isa → Machine → Moment → Move → Moment → Type 0
StepsSpoken isa x m mv t = NothingSpoken m t ⊎ ((mv ≡ Serve) × OneSpoken isa x m t)

-- a step of the machine that has not retired yet goes on: the memory, which was that before the step, becomes that
-- after it
pub record OneStored (isa : Isa) (start : Machine) (s t : State) : Type 0 where
  pub number : ℕ
  pub ahead : gained start s ≤ number
  pub at : Machine
  pub count : after isa start number ≡ Some at
  pub later : Machine
  pub step : step_here isa at ≡ Goes later
  pub before : s.mem ≡ at.hart.mem
  pub mem : t.mem ≡ later.hart.mem

-- seen through the memory: nothing, or, at Access and Serve only, a step of the machine
abbrev pub StepsStored : Isa → Machine → Moment → Move → Moment → Type 0
StepsStored isa start m mv t =
    (t.state.mem ≡ m.state.mem) ⊎ (((mv ≡ Access) ⊎ (mv ≡ Serve)) × OneStored isa start m.state t.state)

-- of a move from a moment of a run: the machine after as many steps as have retired, and what each view sees of the
-- move
pub record Stutters (plan : Plan) (start : Machine) (m : Moment) (mv : Move) : Type 0 where
  pub at : Machine
  pub count : after (isa_of plan) start (gained start m.state) ≡ Some at
  pub retired : StepsRetired (isa_of plan) at m mv (next plan m mv)
  pub spoken : StepsSpoken (isa_of plan) at m mv (next plan m mv)
  pub stored : StepsStored (isa_of plan) start m mv (next plan m mv)
