-- What a move overwrites, kept so that the move can be taken back. Serve cannot be taken back, since its output is
-- gone.
use Rattle.std.specs.Prelude.{ℕ, ◌+◌, ◌-◌, List, [], ◌∷◌, Option, Some, None, if◌then◌else◌, length, take, slice_get, slice_set, slice_index}
use Rattle.mem_regions.specs.Memory.{Memory}
use Rattle.mem_regions.specs.Ranges.{writable_of}
use Rattle.mem_regions.specs.Writing.{memory_with}
use Rattle.rv_inst.specs.declared.accesses.Access.{Access}
use Rattle.rv_inst.specs.Accesses.{access_made}
use Rattle.cf_layout.specs.Layout.{Plan, siding_of}
use Rattle.cf_bind.specs.declared.cell.Cell.{Cell}
use Rattle.cf_bind.specs.declared.cell.Op.{Op}
use Rattle.cf_bind.specs.declared.packet.Fetch.{Fetch}
use Rattle.cf_bind.specs.declared.passenger.End.{End}
use Rattle.cf_bind.specs.declared.moves.Move.{Move}
use Rattle.cf_bind.specs.declared.moves.Move.TheVariants.{Issue, Emit, Climb, Fall, Meet, Execute, Send, Launch, Slide, Access as AccessMove, Recover, Leave, Exit, Serve}
use Rattle.cf_semantics.specs.state.Options.{on}
use Rattle.cf_semantics.specs.moves.Instructions.{fetched}
use Rattle.cf_semantics.specs.state.State.{State, Moment, cell_at, put_cell, siding_at}
use Rattle.cf_semantics.specs.state.Passengers.{kind, reg_in, fresh, requests}
use Rattle.cf_semantics.specs.state.Layouts.{isa_of, port}
use Rattle.cf_semantics.specs.moves.Bars.{last_op, running}

-- a stage with what it held, a siding's cell with what it held, a register with its value, a range of memory with its
-- bytes
pub record KeptCell : Type 0 where
  pub stage : ℕ
  pub cell : Cell

pub record KeptOp : Type 0 where
  pub siding : ℕ
  pub place : ℕ
  pub op : Option Op

pub record KeptRegister : Type 0 where
  pub reg : ℕ
  pub value : ℕ

pub record KeptBytes : Type 0 where
  pub addr : ℕ
  pub bytes : List ℕ

-- for the lane: nothing, the request that was taken out, or how many were added
pub data KeptLane : Type 0 where
  Same : KeptLane
  Taken : ℕ → KeptLane
  Added : ℕ → KeptLane

-- a move, with the old contents of what it writes
pub record Kept : Type 0 where
  pub move : Move
  pub cells : List KeptCell
  pub ops : List KeptOp
  pub lane : KeptLane
  pub fetch : Fetch
  pub cache : List (Option ℕ)
  pub register : Option KeptRegister
  pub bytes : Option KeptBytes
  pub retired : ℕ
  pub ending : Option End

-- a stage as it is
abbrev pub kept_cell : State → ℕ → List KeptCell
kept_cell s i = on (cell_at s.cells i) [] (λ c. record { stage = i; cell = c } ∷ [])

-- the stages that a move writes
abbrev pub kept_cells : Plan → State → Move → List KeptCell
kept_cells plan s (Issue g) = kept_cell s 1
kept_cells plan s Emit = kept_cell s plan.stages
kept_cells plan s (Climb i) = on (cell_at s.cells i) [] (λ c. record { stage = i; cell = c } ∷ kept_cell s (i + 1))
kept_cells plan s (Fall i) = on (cell_at s.cells i) [] (λ c. record { stage = i; cell = c } ∷ kept_cell s (i - 1))
kept_cells plan s (Meet i) = kept_cell s i
kept_cells plan s (Execute i) = kept_cell s i
kept_cells plan s (Send i) = kept_cell s i
kept_cells plan s (Launch i) = kept_cell s i
kept_cells plan s (Slide k c) = []
kept_cells plan s AccessMove = []
kept_cells plan s (Recover i) = kept_cell s i
kept_cells plan s Leave = kept_cell s plan.stages
kept_cells plan s Exit = kept_cell s 1
kept_cells plan s Serve = []

-- a siding's cell as it is
abbrev pub kept_op : State → ℕ → ℕ → List KeptOp
kept_op s k c = on (slice_get (siding_at s k) c) [] (λ o. record { siding = k; place = c; op = o } ∷ [])

-- the siding of the instruction in a stage
abbrev pub siding_there : Plan → State → ℕ → Option ℕ
siding_there plan s i = on (cell_at s.cells i) None (λ c. on c.passenger None (λ p. siding_of plan (kind p)))

-- the last cell of a siding
abbrev pub last_place : State → ℕ → ℕ
last_place s k = length (siding_at s k) - 1

-- the siding cells that a move writes
abbrev pub kept_ops : Plan → State → Move → List KeptOp
kept_ops plan s (Launch i) = on (siding_there plan s i) [] (λ k. kept_op s k 0)
kept_ops plan s (Slide k c) = on (slice_get (siding_at s k) c) [] (λ o. record { siding = k; place = c; op = o } ∷ kept_op s k (c + 1))
kept_ops plan s AccessMove = kept_op s (port plan) (last_place s (port plan))
kept_ops plan s (Recover i) = on (siding_there plan s i) [] (λ k. kept_op s k (last_place s k))
kept_ops plan s mv = []

-- what a move does to the lane
abbrev pub kept_lane : Plan → State → Move → KeptLane
kept_lane plan s (Issue g) = on (running s.fetch) Same (λ pc. Added (length (requests (fresh s.cache (fetched (isa_of plan) s.mem pc) pc g))))
kept_lane plan s Emit = on (slice_get s.lane 0) Same Taken
kept_lane plan s mv = Same

-- the register that a move writes
abbrev pub kept_register : Plan → State → Move → Option KeptRegister
kept_register plan s Leave = on (cell_at s.cells plan.stages) None (λ c. on c.passenger None
    (λ p. on (reg_in p.dst) None (λ r. Some (record { reg = r; value = slice_index s.regs r }))))
kept_register plan s mv = None

-- the bytes that an access overwrites: those of a store, in the region that it writes
abbrev pub kept_range : Memory → Access → Option KeptBytes
kept_range mem access = if access.write then on (writable_of mem access.addr access.width) None
    (λ bytes. Some (record { addr = access.addr; bytes = bytes })) else None

abbrev pub kept_bytes : Plan → State → Move → Option KeptBytes
kept_bytes plan s AccessMove = on (last_op (siding_at s (port plan))) None (λ op. kept_range s.mem (access_made op.instr op.a op.b))
kept_bytes plan s mv = None

-- what is kept of a state before a move other than Serve
unfoldable pub kept : Plan → State → Move → Kept
kept plan s mv = record {
  move = mv;
  cells = kept_cells plan s mv;
  ops = kept_ops plan s mv;
  lane = kept_lane plan s mv;
  fetch = s.fetch;
  cache = s.cache;
  register = kept_register plan s mv;
  bytes = kept_bytes plan s mv;
  retired = s.retired;
  ending = s.ending;
}

-- the stages with these contents put back
abbrev pub cells_back : List KeptCell → List Cell → List Cell
cells_back [] cells = cells
cells_back (k ∷ ks) cells = cells_back ks (put_cell cells k.stage k.cell)

-- the sidings with these contents put back
abbrev pub ops_back : List KeptOp → List (List (Option Op)) → List (List (Option Op))
ops_back [] sidings = sidings
ops_back (k ∷ ks) sidings = ops_back ks (on (slice_get sidings k.siding) sidings (λ ops. slice_set sidings k.siding (slice_set ops k.place k.op)))

-- the lane with its request first again, or without those that were added
abbrev pub lane_back : KeptLane → List ℕ → List ℕ
lane_back Same lane = lane
lane_back (Taken r) lane = r ∷ lane
lane_back (Added n) lane = take (length lane - n) lane

abbrev pub register_back : Option KeptRegister → List ℕ → List ℕ
register_back None regs = regs
register_back (Some k) regs = slice_set regs k.reg k.value

abbrev pub bytes_back : Option KeptBytes → Memory → Memory
bytes_back None mem = mem
bytes_back (Some k) mem = memory_with mem k.addr (length k.bytes) k.bytes

-- a state with the kept contents put back
unfoldable pub restored : State → Kept → State
restored s k = record s {
  cells = cells_back k.cells s.cells;
  sidings = ops_back k.ops s.sidings;
  lane = lane_back k.lane s.lane;
  fetch = k.fetch;
  cache = k.cache;
  regs = register_back k.register s.regs;
  mem = bytes_back k.bytes s.mem;
  retired = k.retired;
  ending = k.ending;
}

-- a moment with the kept contents put back; input and output are unchanged
abbrev pub taken_back : Moment → Kept → Moment
taken_back m k = record m { state = restored m.state k }
