-- The tests of a wrong list of moves, where the sequential machine is given as a value.
use Rattle.std.specs.Prelude.{◌≡◌, ◌≢◌, ℕ, List, [], ◌∷◌, Option, Some, None, true}
use Rattle.mem_regions.specs.Memory.{Memory}
use Rattle.rv_inst.specs.declared.isa.Isa.{Isa}
use Rattle.cf_layout.specs.Layout.{Plan}
use Rattle.cf_bind.specs.declared.moves.Move.{Move}
use Rattle.cf_bind.specs.declared.moves.Move.TheVariants.{Serve}
use Rattle.cf_bind.specs.declared.passenger.End.{End}
use Rattle.cf_bind.specs.declared.passenger.Passenger.{Passenger}
use Rattle.cf_semantics.specs.moves.Instructions.{Got, fetched, serve_of}
use Rattle.cf_semantics.specs.runs.Lines.{Line, line_of}
use Rattle.cf_semantics.specs.state.Drained.{is_drained}
use Rattle.cf_semantics.specs.state.Options.{on}
use Rattle.cf_semantics.specs.state.Passengers.{instruction}
use Rattle.cf_semantics.specs.state.State.{State, cell_at}
use Rattle.mem_changes.specs.MemoryChanges.{MemoryChanges}
use Rattle.order_rules.specs.declared.rule.Rule.{Rule}
use Rattle.order_model.specs.RuleMoves.{retires_without}
use Rattle.order_machine.specs.declared.stepping.NextStep.{NextStep}
use Rattle.order_machine.specs.Judgements.{EndsWithState, RestsAs}
use Rattle.order_machine.specs.Waypoints.{MachinePlace}
use Rattle.order_judging.specs.Places.{machine_memory, next_lines}

-- the two lines have the same address, instruction and destination
abbrev pub HasPartsOf : Line → Line → Type 0
HasPartsOf line other = (line.pc ≡ other.pc) × (line.what ≡ other.what) × (line.wrote ≡ other.wrote)

-- the line of a move under the table without the rule, if the move retires an instruction
abbrev pub lines_without : Option Rule → Plan → State → Move → List Line
lines_without away plan s mv = on (retires_without away plan s mv) [] (λ l. l ∷ [])

-- an instruction retires that is not the one of the machine's next step
abbrev pub LeavesApart : Isa → NextStep → Option Passenger → Type 0
LeavesApart isa next None = ⊥
LeavesApart isa next (Some p) = next_lines isa next ≢ line_of p ∷ []

-- the lines are not those of the machine's next step
abbrev pub RetiresApart : List Line → List Line → Type 0
RetiresApart expected [] = ⊥
RetiresApart expected (line ∷ more) = expected ≢ line ∷ more

-- the program ended differently from the machine's next step, or with other registers or memory
abbrev pub EndsApart : MachinePlace → Option End → List ℕ → MemoryChanges → Type 0
EndsApart place None regs changes = ⊥
EndsApart place (Some e) regs changes = EndsWithState place e regs changes → ⊥

-- the instruction is the machine's next one, and with these registers and this memory it gets the same answer
pub record IsServedAs (isa : Isa) (loaded : Memory) (place : MachinePlace) (regs : List ℕ) (mem : Memory) (p : Passenger) : Type 0 where
  pub pc : p.pc ≡ place.pc
  pub what : fetched isa (machine_memory loaded place) place.pc ≡ Got (instruction p)
  pub answer : serve_of (instruction p) regs mem [] ≡ serve_of (instruction p) place.regs (machine_memory loaded place) []

-- the instruction of the highest stage
abbrev pub at_top : Plan → State → Option Passenger
at_top plan s = on (cell_at s.cells plan.stages) None (λ c. c.passenger)

-- there is an instruction, and it is not the machine's next one or gets a different answer
abbrev pub IsServedApart : Isa → Memory → MachinePlace → List ℕ → Memory → Option Passenger → Type 0
IsServedApart isa loaded place regs mem None = ⊥
IsServedApart isa loaded place regs mem (Some p) = IsServedAs isa loaded place regs mem p → ⊥

-- the move is Serve, and this holds
abbrev pub IsServeThat : Move → Type 0 → Type 0
IsServeThat Serve P = P
IsServeThat mv P = ⊥

-- the processor is drained without an end, and its state differs from the machine's
abbrev pub RestsApart : MachinePlace → State → MemoryChanges → Type 0
RestsApart place s changes = (is_drained s ≡ true) × (s.ending ≡ None) × (RestsAs place s.fetch s.regs changes → ⊥)
