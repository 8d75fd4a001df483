-- Which instruction a move acts for, and whether this instruction is on the sequential path.
use Rattle.std.specs.Prelude.{◌≡◌, ◌⊎◌, ℕ, List, ◌∷◌, ◌++◌, Option, Some, None, true}
use Rattle.rv_inst.specs.declared.isa.Isa.{Isa}
use Rattle.rv_machine.specs.Machine.{Machine}
use Rattle.rv_machine.specs.After.{after}
use Rattle.cf_layout.specs.Layout.{Plan}
use Rattle.cf_bind.specs.declared.cell.Op.{Op}
use Rattle.cf_bind.specs.declared.passenger.Passenger.{Passenger}
use Rattle.cf_bind.specs.declared.moves.Move.{Move}
use Rattle.cf_bind.specs.declared.moves.Move.TheVariants.{Access, Leave, Serve}
use Rattle.cf_semantics.specs.state.State.{State, Moment, siding_at}
use Rattle.cf_semantics.specs.state.Column.{Item, Up, column}
use Rattle.cf_semantics.specs.claims.Ahead.{flies}
use Rattle.cf_semantics.specs.state.Layouts.{isa_of, port}
use Rattle.cf_semantics.specs.moves.Bars.{last_op}
use Rattle.cf_semantics.specs.moves.Moves.{next, operation}
use Rattle.cf_semantics.specs.claims.Walks.{walk}
use Rattle.cf_semantics.specs.claims.Path as path
use Rattle.cf_semantics.specs.claims.Right as right
use Rattle.cf_semantics.specs.claims.Soundness.{NoneFlies}
use Rattle.cf_semantics.specs.claims.Refines.{gained}

-- every sure instruction above it is on the path and goes on, and its address is the machine's after them
pub record OnWay (isa : Isa) (s : State) (x : Machine) (above : List Item) (p : Passenger) : Type 0 where
  pub sure : path.is_sure p (walk (right.past isa) above (right.begin s x)).path ≡ true
  pub on : (walk (right.past isa) above (right.begin s x)).on ≡ true
  pub pc : p.pc ≡ (walk (right.past isa) above (right.begin s x)).path.machine.hart.pc

-- memory, registers, input, output and ending are unchanged
pub record Unmoved (m k : Moment) : Type 0 where
  pub regs : k.state.regs ≡ m.state.regs
  pub mem : k.state.mem ≡ m.state.mem
  pub rest : k.rest ≡ m.rest
  pub output : k.output ≡ m.output
  pub ending : k.state.ending ≡ m.state.ending

-- an operation as it was launched
abbrev pub as_launched : Option Op → Option Op
as_launched None = None
as_launched (Some op) = Some (record op { answer = None })

-- the move acts for this instruction, below these items. For Leave and Serve it is the instruction in the highest
-- stage. For Access it is the highest of those whose load or store is in Memory's siding, and its operation is the one
-- at the siding's end
abbrev pub ActsFor : Plan → State → Move → List Item → ℕ → Passenger → Type 0
ActsFor plan s Leave above i p = i ≡ plan.stages
ActsFor plan s Serve above i p = i ≡ plan.stages
ActsFor plan s Access above i p =
    (flies p ≡ true) × NoneFlies above × (as_launched (last_op (siding_at s (port plan))) ≡ Some (operation p))
ActsFor plan s mv above i p = ⊥

-- the move acts for an instruction of the column that is on the sequential path
pub record Acted (plan : Plan) (s : State) (x : Machine) (mv : Move) : Type 0 where
  pub above : List Item
  pub below : List Item
  pub stage : ℕ
  pub who : Passenger
  pub was : column s ≡ above ++ (Up stage who ∷ below)
  pub acts : ActsFor plan s mv above stage who
  pub way : OnWay (isa_of plan) s x above who

-- the move changes none of memory, registers, input, output and ending, or it acts for an instruction on the sequential
-- path
abbrev pub KeepsOrActsOnPath : Plan → Machine → Moment → Move → Type 0
KeepsOrActsOnPath plan start m mv =
    Unmoved m (next plan m mv)
    ⊎ ((x : Machine) × (after (isa_of plan) start (gained start m.state) ≡ Some x) × Acted plan m.state x mv)
