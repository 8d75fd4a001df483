-- When an instruction traps instead of launching its operation ("Counterflow Pipeline Processor Architecture", 1994:
-- sidings; RISC-V Unprivileged ISA Manual, Load and Store Instructions).
use Rattle.std.specs.Prelude.{List, Option, None, if◌then◌else◌}
use Rattle.mem_regions.specs.Access.{Bounds}
use Rattle.cf_bind.specs.declared.passenger.Passenger.{Passenger}
use Rattle.cf_bind.specs.declared.passenger.End.{End}
use Rattle.cf_semantics.specs.moves.Instructions.{is_memory, access_trap}
use Rattle.cf_semantics.specs.state.Passengers.{instruction, kind, value_in}

-- the trap of a load or a store that memory of these bounds does not permit
abbrev pub trap_at_launch : Passenger → List Bounds → Option End
trap_at_launch p bounds = if is_memory (kind p) then access_trap (instruction p) p.pc (value_in p.src1) bounds else None
