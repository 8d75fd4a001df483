-- What a run shows from outside is what the sequential machine does.
use Rattle.std.specs.Prelude.{◌≡◌, ℕ, ◌+◌, ◌-◌, ◌≤◌, List, ◌++◌, Some, true}
use Rattle.rv_inst.specs.declared.isa.Isa.{Isa}
use Rattle.rv_machine.specs.Machine.{Machine}
use Rattle.rv_machine.specs.After.{after}
use Rattle.cf_layout.specs.Layout.{Plan}
use Rattle.cf_bind.specs.declared.passenger.End.{End}
use Rattle.cf_semantics.specs.moves.Instructions.{Stops, step_here}
use Rattle.cf_semantics.specs.state.State.{State, Moment}
use Rattle.cf_semantics.specs.state.Layouts.{isa_of}
use Rattle.cf_semantics.specs.state.Drained.{is_drained}
use Rattle.cf_semantics.specs.claims.Ahead.{served_count, ported_count}
use Rattle.cf_semantics.specs.runs.Lines.{Line, sequence}

-- how many instructions have retired since the start on this machine
abbrev pub gained : Machine → State → ℕ
gained start s = s.retired - start.hart.retired

-- the input and the output are those of the machine after n steps
pub record Spoke (isa : Isa) (start : Machine) (n : ℕ) (m : Moment) : Type 0 where
  pub at : Machine
  pub count : after isa start n ≡ Some at
  pub rest : m.rest ≡ at.rest
  pub output : m.output ≡ at.output

-- the memory is that of the machine after n steps
pub record Stored (isa : Isa) (start : Machine) (n : ℕ) (s : State) : Type 0 where
  pub at : Machine
  pub count : after isa start n ≡ Some at
  pub mem : s.mem ≡ at.hart.mem

-- the retired count is not below that of the start; let n be the difference. The machine makes n steps, and the lines
-- are those of these steps; the registers are the machine's; an ending is that of its next step. Input and output are
-- those after the served instructions, and memory is that after those that have passed the port. If the program has
-- ended, or the processor is empty, neither is ahead
pub record Refines (plan : Plan) (start : Machine) (written : List Line) (m : Moment) : Type 0 where
  pub at : Machine
  pub rises : start.hart.retired ≤ m.state.retired
  pub count : after (isa_of plan) start (gained start m.state) ≡ Some at
  pub lines : written ≡ sequence (isa_of plan) start (gained start m.state)
  pub regs : m.state.regs ≡ at.hart.regs
  pub ends : (e : End) → m.state.ending ≡ Some e → step_here (isa_of plan) at ≡ Stops e
  pub spoke : Spoke (isa_of plan) start (gained start m.state + served_count plan m.state) m
  pub stored : Stored (isa_of plan) start (gained start m.state + ported_count plan m.state) m.state
  pub level : (e : End) → m.state.ending ≡ Some e → (served_count plan m.state ≡ 0) × (ported_count plan m.state ≡ 0)
  pub level_drained : is_drained m.state ≡ true → (served_count plan m.state ≡ 0) × (ported_count plan m.state ≡ 0)

-- the second list is the first with more after it
abbrev pub IsPrefix : List Line → List Line → Type 0
IsPrefix a b = (more : List Line) × (b ≡ a ++ more)
