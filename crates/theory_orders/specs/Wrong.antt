-- When a list of moves is wrong at its last move: what this move shows, or the state that it leads to, is not what the
-- sequential machine does. They are stated of any table of moves, so that one without a rule can be judged by them. x is
-- the sequential machine after as many steps as have retired instructions.
use Rattle.std.specs.Prelude.{◌≡◌, ◌≢◌, ℕ, List, [], ◌∷◌, filter, Option, Some, None, Bool, true, ◌&&◌, ◌||◌, not}
use Rattle.rv_inst.specs.declared.isa.Isa.{Isa}
use Rattle.rv_machine.specs.Machine.{Machine}
use Rattle.rv_machine.specs.After.{after}
use Rattle.cf_layout.specs.Layout.{Plan}
use Rattle.cf_bind.specs.declared.cell.Cell.{Cell}
use Rattle.cf_bind.specs.declared.moves.Bar.{Bar}
use Rattle.cf_bind.specs.declared.moves.Move.{Move}
use Rattle.cf_bind.specs.declared.moves.Move.TheVariants.{Serve}
use Rattle.cf_bind.specs.declared.packet.Fetch.TheVariants.{Running}
use Rattle.cf_bind.specs.declared.passenger.End.{End}
use Rattle.cf_bind.specs.declared.passenger.Passenger.{Passenger}
use Rattle.cf_semantics.specs.state.Options.{is_some}
use Rattle.cf_semantics.specs.moves.Instructions.{Got, fetched, serve_of, Stops, step_here}
use Rattle.cf_semantics.specs.state.State.{State, Moment, cell_at}
use Rattle.cf_semantics.specs.state.Passengers.{instruction}
use Rattle.cf_semantics.specs.state.Layouts.{isa_of}
use Rattle.cf_semantics.specs.state.Drained.{is_drained}
use Rattle.cf_semantics.specs.moves.Bars.{bar}
use Rattle.cf_semantics.specs.moves.Candidates.{all_moves}
use Rattle.cf_semantics.specs.moves.Moves.{next}
use Rattle.cf_semantics.specs.runs.Lines.{Line, lines_at, retires}
use Rattle.cf_semantics.specs.claims.Refines.{gained}
use Rattle.cf_semantics.specs.claims.Weight.{is_issue}

-- the move retires an instruction whose line is not that of the machine's next step, or that step does not go on
abbrev pub RetiresWrongly : Isa → Machine → List Line → Type 0
RetiresWrongly isa x [] = ⊥
RetiresWrongly isa x (line ∷ more) = lines_at isa x ≢ line ∷ more

-- the program ended as the machine's next step ends it, with the machine's registers and memory
pub record EndsRightly (isa : Isa) (x : Machine) (t : State) (e : End) : Type 0 where
  pub stops : step_here isa x ≡ Stops e
  pub regs : t.regs ≡ x.hart.regs
  pub mem : t.mem ≡ x.hart.mem

-- the move, which leads to the state t, ends the program in another way
abbrev pub EndsWrongly : Isa → Machine → State → Type 0
EndsWrongly isa x t = (e : End) × (t.ending ≡ Some e) × (EndsRightly isa x t e → ⊥)

-- the instruction is the one of the machine's next step, and the environment answers it as it answers the machine: the
-- same bytes of output, memory, value, rest of the input, or exit status
pub record IsServedRightly (isa : Isa) (x : Machine) (m : Moment) (p : Passenger) : Type 0 where
  pub pc : p.pc ≡ x.hart.pc
  pub what : fetched isa x.hart.mem x.hart.pc ≡ Got (instruction p)
  pub answer : serve_of (instruction p) m.state.regs m.state.mem m.rest ≡ serve_of (instruction p) x.hart.regs x.hart.mem x.rest

-- the instruction of the highest stage is another one, or is answered in another way
pub record IsServedWrongly (plan : Plan) (x : Machine) (m : Moment) : Type 0 where
  pub here : Cell
  pub at_here : cell_at m.state.cells plan.stages ≡ Some here
  pub who : Passenger
  pub sits : here.passenger ≡ Some who
  pub otherwise : IsServedRightly (isa_of plan) x m who → ⊥

-- the move is Serve, and does this
abbrev pub ServesWrongly : Plan → Machine → Moment → Move → Type 0
ServesWrongly plan x m mv = (mv ≡ Serve) × IsServedWrongly plan x m

-- the moves that lead on from a state, by what bars each move there: the candidates, without Issue once the maximum
-- number of Issue moves was made
unfoldable pub leading : (Move → Option Bar) → Bool → List Move → List Move
leading bars may_issue moves = filter (λ mv. not (is_some (bars mv)) && (may_issue || not (is_issue mv))) moves

-- the processor is drained, and fetch runs
abbrev pub RestsRunning : State → Type 0
RestsRunning s = (is_drained s ≡ true) × ((pc : ℕ) × (s.fetch ≡ Running pc))

-- no move leads on, though the program has not ended and the processor is not drained with fetch running
pub record IsStuckWrongly (moves : List Move) (s : State) : Type 0 where
  pub none : moves ≡ []
  pub unended : s.ending ≡ None
  pub restless : RestsRunning s → ⊥

-- registers, memory and the address of fetch are the machine's
pub record IsAtMachine (x : Machine) (s : State) : Type 0 where
  pub regs : s.regs ≡ x.hart.regs
  pub mem : s.mem ≡ x.hart.mem
  pub fetch : s.fetch ≡ Running x.hart.pc

-- the processor is drained, and the program has not ended, with other registers, memory or address of fetch
pub record RestsWrongly (x : Machine) (s : State) : Type 0 where
  pub drained : is_drained s ≡ true
  pub unended : s.ending ≡ None
  pub other : IsAtMachine x s → ⊥

-- the move is wrong by none of the tests of a move
pub record IsRightMove (plan : Plan) (start : Machine) (m : Moment) (mv : Move) : Type 0 where
  pub at : Machine
  pub count : after (isa_of plan) start (gained start m.state) ≡ Some at
  pub retires : RetiresWrongly (isa_of plan) at (retires plan m.state mv) → ⊥
  pub ends : EndsWrongly (isa_of plan) at (next plan m mv).state → ⊥
  pub serves : ServesWrongly plan at m mv → ⊥

-- the moment is wrong by none of the tests of a state, whether Issue may be made there or not
pub record IsRightMoment (plan : Plan) (start : Machine) (m : Moment) : Type 0 where
  pub at : Machine
  pub count : after (isa_of plan) start (gained start m.state) ≡ Some at
  pub stuck : (may_issue : Bool) → IsStuckWrongly (leading (bar plan m.state) may_issue (all_moves plan)) m.state → ⊥
  pub rests : RestsWrongly at m.state → ⊥
