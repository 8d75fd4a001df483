-- What holds of each instruction and result on the path of the program: their values, addresses and endings are those
-- of the sequential machine.
use Rattle.std.specs.Prelude.{◌≡◌, ℕ, List, Option, Some, None, Bool, true, false, not, slice_index}
use Rattle.rv_inst.specs.declared.isa.Isa.{Isa}
use Rattle.rv_inst.specs.declared.instruction.Instr.{Instr}
use Rattle.rv_machine.specs.Machine.{Machine}
use Rattle.cf_bind.specs.declared.binding.Binding.{Binding}
use Rattle.cf_bind.specs.declared.packet.Packet.{Packet}
use Rattle.cf_bind.specs.declared.packet.Packet.TheVariants.{Value, Turn, Halt}
use Rattle.cf_bind.specs.declared.packet.Fetch.{Fetch}
use Rattle.cf_bind.specs.declared.passenger.Passenger.{Passenger}
use Rattle.cf_bind.specs.declared.passenger.End.{End}
use Rattle.cf_semantics.specs.state.Options.{When}
use Rattle.cf_semantics.specs.moves.Instructions.{src1_of, src2_of, dst_of, fetched, StepResult, step_at}
use Rattle.cf_semantics.specs.state.Column.{Item, Up, Down}
use Rattle.cf_semantics.specs.state.Passengers.{reg_in, missing, cached}
use Rattle.cf_semantics.specs.moves.Moves.{fetch_from}
use Rattle.cf_semantics.specs.claims.Path.{Walk, is_trap, is_sure}
use Rattle.cf_semantics.specs.claims.Soundness.{HasValues, Holds, PacketHasValue}

-- a value that is not known is on its way
abbrev pub Comes : Option Binding → (ℕ → Bool) → Type 0
Comes source coming = (r : ℕ) → missing source ≡ Some r → coming r ≡ true

-- a value or a turn is owed where the program goes on, the turn to its next address; a halt is owed for a trap
abbrev pub Owed : Option Packet → Option ℕ → Option End → Type 0
Owed None next ending = Unit {0}
Owed (Some (Value r v)) next ending = ending ≡ None
Owed (Some (Turn pc)) next ending = (next ≡ Some pc) × (ending ≡ None)
Owed (Some Halt) next ending = is_trap ending ≡ true

-- its bindings are the registers of its instruction
pub record IsShaped (p : Passenger) (i : Instr) : Type 0 where
  pub one : reg_in p.src1 ≡ src1_of i
  pub two : reg_in p.src2 ≡ src2_of i
  pub three : reg_in p.dst ≡ dst_of i

-- a sure instruction: x is the machine before it, s the step there, and the program goes on at g
pub record IsSure (isa : Isa) (p : Passenger) (x : Machine) (s : StepResult) (g : Option ℕ) : Type 0 where
  pub path : g ≡ Some p.pc
  pub reads : Holds p (fetched isa x.hart.mem p.pc)
  pub shape : (i : Instr) → p.what ≡ Some i → IsShaped p i
  pub values : HasValues p x s
  pub unended : p.done ≡ false → p.ending ≡ None
  pub unowing : p.done ≡ false → p.owes ≡ None
  pub owed : Owed p.owes p.next p.ending

-- each of its values that is not known is on its way
pub record IsSourced (p : Passenger) (coming : ℕ → Bool) : Type 0 where
  pub source1 : Comes p.src1 coming
  pub source2 : Comes p.src2 coming

-- a value is the register's; the first barrier turns to where the program goes, or halts what traps
abbrev pub PacketFits : Packet → Walk → Type 0
PacketFits (Value r v) w = PacketHasValue (Value r v) w
PacketFits (Turn pc) w = (w.goto ≡ Some pc) × (w.settled ≡ true)
PacketFits Halt w = (w.goto ≡ None) × (w.trapped ≡ true)

unfoldable pub SureAt : Isa → Passenger → Walk → Type 0
SureAt isa p w = IsSure isa p w.machine (step_at isa w.machine p.pc) w.goto × IsSourced p w.coming

-- an item, with what is known above it
unfoldable pub Fits : Isa → Item → Walk → Type 0
Fits isa (Up i p) w = (p.dead ≡ true → p.owes ≡ None) × When (is_sure p w) (SureAt isa p w)
Fits isa (Down i k) w = When (not w.barred) (PacketFits k w)

-- below all, with no barrier: fetch runs where the program goes
abbrev pub Ends : Walk → Fetch → Type 0
Ends w f = When (not w.barred) (f ≡ fetch_from w.goto)

-- each cached value is the register's
abbrev pub AreRegisters : List (Option ℕ) → List ℕ → Type 0
AreRegisters cache regs = (r v : ℕ) → cached cache r ≡ Some v → v ≡ slice_index regs r

-- below all, with no barrier
abbrev pub Keeps : Walk → List (Option ℕ) → Type 0
Keeps w cache = When (not w.barred) (AreRegisters cache w.machine.hart.regs)
