-- A processor: its layout, its state, and what holds of every processor ("Counterflow Pipeline Processor Architecture",
-- 1994).
use Rattle.std.specs.Prelude.{◌≡◌, ℕ, List, [], Option, Some, None, IfSome, All, length, map, true}
use Rattle.rv_inst.specs.declared.isa.Isa.{Isa}
use Rattle.mem_regions.specs.Access.{Bounds, bounds_of}
use Rattle.rv_machine.specs.Hart.{Hart}
use Rattle.cf_layout.specs.Layout.{Plan, siding_of}
use Rattle.cf_layout.specs.Accepted.{IsAccepted}
use Rattle.cf_bind.specs.declared.cell.Cell.{Cell}
use Rattle.cf_bind.specs.declared.cell.Op.{Op}
use Rattle.cf_bind.specs.declared.moves.Move.{Move}
use Rattle.cf_semantics.specs.moves.Instructions.{kind_of, is_memory, access_trap}
use Rattle.cf_semantics.specs.state.State.{State, siding_at}
use Rattle.cf_semantics.specs.state.Layouts.{isa_of}
use Rattle.cf_semantics.specs.claims.Determined.{IsSame}
use Rattle.cf_semantics.specs.moves.Moves.{moved}
use Rattle.cf_semantics.specs.runs.Runs.{opened as opened_on}
use Rattle.cf_stages.specs.Changes.{IsCell}
use Rattle.cf_passengers.specs.Facts.{IsWritable, IsPacket, IsOperation, IsPassenger}

-- a processor
pub record Processor : Type 0 where
  pub plan : Plan
  pub state : State

-- the processor in another state
abbrev pub in_state : Processor → State → Processor
in_state p s = record p { state = s }

-- the processor after an allowed move other than Serve
abbrev pub after_move : Processor → Move → Processor
after_move p mv = in_state p (moved p.plan p.state mv)

-- what holds of a stage: its instruction is one of the set, its result is of a register other than x0, and the two have
-- met only if both are there
pub record IsCellOfSet (isa : Isa) (c : Cell) : Type 0 where
  pub passenger : IfSome c.passenger (IsPassenger isa)
  pub packet : IfSome c.packet IsPacket
  pub met : IsCell c

-- what holds of an operation in siding k, over memory of these bounds: it is of a class of its siding, and memory permits it
pub record IsOp (plan : Plan) (bounds : List Bounds) (k : ℕ) (op : Op) : Type 0 where
  pub instr : IsOperation (isa_of plan) op
  pub siding : siding_of plan (kind_of op.instr) ≡ Some k
  pub permitted : is_memory (kind_of op.instr) ≡ true → access_trap op.instr op.pc op.a bounds ≡ None

-- this holds for each cell of each siding
abbrev pub AreOps : Plan → List Bounds → ℕ → List (Option Op) → Type 0
AreOps plan bounds k ops = All (λ o. IfSome o (IsOp plan bounds k)) ops

-- what holds of every processor
pub record IsProcessor (plan : Plan) (s : State) : Type 0 where
  -- its layout is accepted, and there are as many stages and cells of sidings as it says
  pub accepted : IsAccepted plan
  pub stages : length s.cells ≡ plan.stages
  pub sidings : map length s.sidings ≡ map (λ siding. siding.cells) plan.sidings
  -- and this holds of each stage, of each operation, and of each request
  pub cells : All (IsCellOfSet (isa_of plan)) s.cells
  pub ops : (k : ℕ) → AreOps plan (bounds_of s.mem) k (siding_at s k)
  pub lane : All IsWritable s.lane

-- a processor in which nothing is, with what a machine holds
unfoldable pub opened_processor : Plan → Hart → Processor
opened_processor plan hart = record { plan = plan; state = opened_on plan (record { hart = hart; rest = []; output = [] }) }

-- the processor was opened on some hart, and has made no move since
pub record IsOpened (core : Processor) : Type 0 where
  pub hart : Hart
  pub is : core ≡ opened_processor core.plan hart

-- the two have the same layout and are in the same state, except for the cached values
abbrev pub AreSame : Processor → Processor → Type 0
AreSame p q = (p.plan ≡ q.plan) × IsSame p.state q.state

-- the two have the same contents beside the pipes: the lane, fetch and the registers
abbrev pub AreSameEnds : State → State → Type 0
AreSameEnds s t = (s.lane ≡ t.lane) × (s.fetch ≡ t.fetch) × (s.regs ≡ t.regs)
