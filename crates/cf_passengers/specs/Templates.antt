-- What is kept of an instruction once it was decoded, so that it can be issued again at its address (RISC-V Unprivileged
-- ISA Manual, "Zifencei" Extension for Instruction-Fetch Fence: stores need not be seen by fetches).
use Rattle.std.specs.Prelude.{◌≡◌, ℕ, ◌<◌, ◌≤◌, ◌^◌, ◌/◌, ◌%◌, ◌==◌, List, slice_index_or, Bool, Option, Some, None}
use Rattle.std.specs.List.{All}
use Rattle.mem_regions.specs.Memory.{Memory}
use Rattle.rv_inst.specs.declared.isa.Isa.{Isa}
use Rattle.rv_inst.specs.declared.instruction.Instr.{Instr}
use Rattle.rv_inst.specs.declared.instruction.Instr.TheVariants.{Ebreak}
use Rattle.rv_inst.specs.declared.classes.Class.{Class}
use Rattle.rv_inst.specs.declared.classes.Class.TheVariants.{Free}
use Rattle.rv_inst.specs.Operands.{class_of, sources_of, dest_of}
use Rattle.cf_semantics.specs.moves.Instructions.{Fetched, Got, Bad, fetched}
use Rattle.cf_passengers.specs.declared.templates.Template.{Template}

-- the instruction at an address, with its class and the registers that it reads and writes
abbrev pub template_of : ℕ → Instr → Template
template_of pc i = record {
  address = pc;
  instr = i;
  class = class_of i;
  first = (sources_of i).0;
  second = (sources_of i).1;
  destination = dest_of i;
}

-- nothing is kept of an instruction that is done as soon as it is issued
abbrev pub kept_as : Class → Template → Option Template
kept_as Free t = None
kept_as _ t = Some t

-- what is kept of what is fetched at an address: nothing of a trap
abbrev pub kept_for : ℕ → Fetched → Option Template
kept_for pc (Got i) = kept_as (class_of i) (template_of pc i)
kept_for pc (Bad e) = None

-- the address of an empty place is beyond all others
abbrev pub IsVacant : Template → Type 0
IsVacant t = 2 ^ 32 ≤ t.address

-- what a place has for an address is what is kept of what is fetched there
abbrev pub IsTemplate : Isa → Memory → Template → Type 0
IsTemplate isa mem t = t.address < 2 ^ 32 → kept_for t.address (fetched isa mem t.address) ≡ Some t

-- this holds of all places
unfoldable pub AreTemplates : Isa → Memory → List Template → Type 0
AreTemplates isa mem places = All (IsTemplate isa mem) places

-- the place of an address
abbrev pub place_at : ℕ → ℕ
place_at pc = pc / 4 % 4096

-- what a place out of range would have, which never occurs
abbrev pub no_template : Template
no_template = template_of 0 Ebreak

-- the place of the address has something for it
unfoldable pub has_template : List Template → ℕ → Bool
has_template places pc = (slice_index_or places (place_at pc) no_template).address == pc
