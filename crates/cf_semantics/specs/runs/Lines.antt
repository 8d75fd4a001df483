-- The retirements of a run of moves, and of the sequential machine.
use Rattle.std.specs.Prelude.{ℕ, zero, suc, List, [], ◌∷◌, ◌++◌, Option, Some, None, if◌then◌else◌}
use Rattle.rv_inst.specs.declared.instruction.Instr.{Instr}
use Rattle.rv_inst.specs.declared.instruction.Instr.TheVariants.{Ebreak}
use Rattle.rv_inst.specs.declared.isa.Isa.{Isa}
use Rattle.rv_inst.specs.Decoding.{decoded_as}
use Rattle.rv_machine.specs.Machine.{Machine}
use Rattle.rv_machine.specs.After.{after}
use Rattle.rv_machine.specs.Outcome as outcome
use Rattle.rv_machine.specs.Step.{step}
use Rattle.rv_machine.specs.declared.outcome.Retired.{Retired}
use Rattle.cf_layout.specs.Layout.{Plan}
use Rattle.cf_bind.specs.declared.binding.Binding.{Binding}
use Rattle.cf_bind.specs.declared.passenger.Passenger.{Passenger}
use Rattle.cf_bind.specs.declared.moves.Move.{Move}
use Rattle.cf_bind.specs.declared.moves.Move.TheVariants.{Leave}
use Rattle.cf_semantics.specs.state.Options.{on}
use Rattle.cf_semantics.specs.moves.Instructions.{register}
use Rattle.cf_semantics.specs.state.State.{State, Moment, cell_at}
use Rattle.cf_semantics.specs.state.Passengers.{instruction}
use Rattle.cf_semantics.specs.moves.Moves.{next}

-- an instruction that retired: its address, what it is, and the register that it wrote, with the value
pub record Line : Type 0 where
  pub pc : ℕ
  pub what : Instr
  pub wrote : Option Binding

abbrev pub row : ℕ → Instr → Option Binding → Line
row pc what wrote = record { pc = pc; what = what; wrote = wrote }

-- the register that the machine's own line names, with the value there; x0 means no register
abbrev pub named : ℕ → ℕ → Option Binding
named r v = on (register r) None (λ q. Some (record { reg = q; value = Some v }))

-- the machine's own line, its word decoded in the instruction set
abbrev pub line_read : Isa → Retired → Line
line_read isa own = row own.pc (on (decoded_as isa own.word) Ebreak (λ i. i)) (named own.reg own.value)

-- the line that an outcome gives, if an instruction retires
abbrev pub lines_in : Isa → outcome.Outcome Machine → List Line
lines_in isa (outcome.Next m own) = line_read isa own ∷ []
lines_in isa (outcome.Trap cause pc detail) = []
lines_in isa (outcome.Exit status) = []

-- the line of the machine's next step
abbrev pub lines_at : Isa → Machine → List Line
lines_at isa x = lines_in isa (step isa x)

-- the lines of its first n steps
unfoldable pub sequence : Isa → Machine → ℕ → List Line
sequence isa m zero = []
sequence isa m (suc n) = sequence isa m n ++ on (after isa m n) [] (lines_at isa)

-- the line of an instruction that leaves
abbrev pub line_of : Passenger → Line
line_of p = row p.pc (instruction p) p.dst

-- it retires if it is live and does not end the program
abbrev pub retired_by : Passenger → List Line
retired_by p = if p.dead then [] else on p.ending (line_of p ∷ []) (λ e. [])

-- the line of a move, if it retires an instruction
abbrev pub retires : Plan → State → Move → List Line
retires plan s Leave = on (cell_at s.cells plan.stages) [] (λ c. on c.passenger [] retired_by)
retires plan s _ = []

-- the lines of a list of moves
unfoldable pub lines : Plan → Moment → List Move → List Line
lines plan m [] = []
lines plan m (mv ∷ moves) = retires plan m.state mv ++ lines plan (next plan m mv) moves
