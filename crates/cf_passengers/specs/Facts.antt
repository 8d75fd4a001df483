-- Invariants of every instruction, result and operation in a processor: registers are x1 to x31, and instructions are
-- those of its set ("Counterflow Pipeline Processor Architecture", 1994; RISC-V Unprivileged ISA Manual, RV32I and
-- "M").
use Rattle.std.specs.Prelude.{◌≡◌, ℕ, ◌<◌, None, true, IfSome, IsSome, IsTrue}
use Rattle.rv_inst.specs.declared.instruction.Instr.{Instr}
use Rattle.rv_inst.specs.declared.isa.Isa.{Isa}
use Rattle.rv_inst.specs.declared.isa.Isa.TheVariants.{Rv32i}
use Rattle.rv_inst.specs.Ranges.{Fits}
use Rattle.rv_inst.specs.Encoding.{is_base}
use Rattle.cf_bind.specs.declared.binding.Binding.{Binding}
use Rattle.cf_bind.specs.declared.cell.Op.{Op}
use Rattle.cf_bind.specs.declared.packet.Packet.{Packet}
use Rattle.cf_bind.specs.declared.packet.Packet.TheVariants.{Value, Turn, Halt}
use Rattle.cf_bind.specs.declared.passenger.Passenger.{Passenger}
use Rattle.cf_semantics.specs.moves.Instructions.{Fetched, Got, Bad}

-- a register that holds a value: any but x0
abbrev pub IsWritable : ℕ → Type 0
IsWritable r = (0 < r) × (r < 32)

-- a source or a destination is such a register
abbrev pub IsBinding : Binding → Type 0
IsBinding b = IsWritable b.reg

-- so is the register of a value
abbrev pub IsPacket : Packet → Type 0
IsPacket (Value r v) = IsWritable r
IsPacket (Turn pc) = Unit {0}
IsPacket Halt = Unit {0}

-- an instruction of the set: its fields are in range, and it is of the M extension only if the set has that
pub record IsInstruction (isa : Isa) (i : Instr) : Type 0 where
  pub fits : Fits i
  pub base : isa ≡ Rv32i → IsTrue (is_base i)

-- what was fetched is an instruction of the set, or nothing
abbrev pub IsFetched : Isa → Fetched → Type 0
IsFetched isa (Got i) = IsInstruction isa i
IsFetched isa (Bad e) = Unit {0}

-- the operation is one of such an instruction
abbrev pub IsOperation : Isa → Op → Type 0
IsOperation isa op = IsInstruction isa op.instr

-- what holds of each Passenger
pub record IsPassenger (isa : Isa) (p : Passenger) : Type 0 where
  -- its instruction, if it has one, is one of the set
  pub instr : IfSome p.what (IsInstruction isa)
  -- if it has none, it is done and ends the program
  pub ended : p.what ≡ None → (p.done ≡ true) × IsSome p.ending
  -- its sources, its destination and what it owes are for registers other than x0
  pub src1 : IfSome p.src1 IsBinding
  pub src2 : IfSome p.src2 IsBinding
  pub dst : IfSome p.dst IsBinding
  pub owes : IfSome p.owes IsPacket
