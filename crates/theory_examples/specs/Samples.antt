-- Small layouts and programs, whose runs can be followed by hand.
use Rattle.std.specs.Prelude.{ℕ, List, [], ◌∷◌, Option, Some, None, false, true}
use Rattle.mem_regions.specs.Memory.{Memory}
use Rattle.rv_machine.specs.Machine.{Machine, start_hart}
use Rattle.rv_inst.specs.declared.classes.Class.TheVariants.{Memory as MemoryClass, Shift}
use Rattle.rv_inst.specs.declared.instruction.Instr.{Instr}
use Rattle.cf_layout.specs.Layout.{SidingPlan, Plan}
use Rattle.cf_layout.specs.Plain.{plain, memory_siding}
use Rattle.cf_bind.specs.declared.binding.Binding.{Binding}
use Rattle.cf_bind.specs.declared.cell.Cell.{Cell}
use Rattle.cf_bind.specs.declared.packet.Packet.{Packet}
use Rattle.cf_bind.specs.declared.passenger.Passenger.{Passenger}
use Rattle.cf_bind.specs.declared.passenger.Guess.TheVariants.{Next}

-- loads and stores leave at stage 1 and come back at stage 2; one can be in flight
abbrev pub short_siding : SidingPlan
short_siding = record { classes = MemoryClass ∷ []; launch = 1; recover = 2; cells = 1 }

-- two stages: adders at both, a shifter at the upper one, all other units at the lower one
abbrev pub tiny : Plan
tiny = record {
  stages = 2;
  lane = 4;
  cache = false;
  units = (1 ∷ 2 ∷ []) ∷ (1 ∷ []) ∷ (2 ∷ []) ∷ (1 ∷ []) ∷ (1 ∷ []) ∷ (1 ∷ []) ∷ [] ∷ [] ∷ [] ∷ [];
  sidings = short_siding ∷ [];
}

-- the same with the register cache
abbrev pub tiny_with_cache : Plan
tiny_with_cache = record tiny { cache = true }

-- the built-in layout with units for jumps at stages 1 and 3
abbrev pub two_jump_units : Plan
two_jump_units = record plain {
  units = (2 ∷ 4 ∷ 6 ∷ []) ∷ (2 ∷ 4 ∷ []) ∷ (4 ∷ []) ∷ (2 ∷ 4 ∷ []) ∷ (3 ∷ []) ∷ (1 ∷ 3 ∷ []) ∷ [] ∷ [] ∷ [] ∷ [];
}

-- shifts leave at stage 1 and come back at stage 3
abbrev pub shift_siding : SidingPlan
shift_siding = record { classes = Shift ∷ []; launch = 1; recover = 3; cells = 2 }

-- the built-in layout with the shifter in a siding
abbrev pub shifts_aside : Plan
shifts_aside = record plain {
  units = (2 ∷ 4 ∷ 6 ∷ []) ∷ (2 ∷ 4 ∷ []) ∷ [] ∷ (2 ∷ 4 ∷ []) ∷ (3 ∷ []) ∷ (3 ∷ []) ∷ [] ∷ [] ∷ [] ∷ [];
  sidings = memory_siding ∷ shift_siding ∷ [];
}

-- a machine at the start of the program of these bytes, which are at 00010000
abbrev pub program : List ℕ → Memory
program bytes = record {
  areas = record { base = 0x10000; write = false; exec = true; bytes = bytes; code = bytes }
      ∷ record { base = 0x7f0ffff0; write = true; exec = false; bytes = 0 ∷ 0 ∷ 0 ∷ 0 ∷ []; code = [] } ∷ [];
  program_break = 0;
}

abbrev pub sample : List ℕ → Machine
sample bytes = record { hart = start_hart (program bytes) 0x10000; rest = []; output = [] }

-- a register whose value is not known, and one whose value is
abbrev pub unknown_register : ℕ → Option Binding
unknown_register r = Some (record { reg = r; value = None })

abbrev pub known_register : ℕ → ℕ → Option Binding
known_register r v = Some (record { reg = r; value = Some v })

-- an instruction as it is issued, on the guess that the next word follows
abbrev pub issued_instruction : ℕ → Instr → Option Binding → Option Binding → Option Binding → Passenger
issued_instruction pc i src1 src2 dst = record {
  pc = pc;
  what = Some i;
  guess = Next;
  src1 = src1;
  src2 = src2;
  dst = dst;
  done = false;
  launched = false;
  recovered = false;
  next = None;
  ending = None;
  owes = None;
  dead = false;
}

-- it is done, and what it owes was sent
abbrev pub done : Passenger → ℕ → Passenger
done p next = record p { done = true; next = Some next }

-- a stage with an instruction alone, with a result alone, and with both
abbrev pub stage_with : Passenger → Cell
stage_with p = record { passenger = Some p; packet = None; met = false }

abbrev pub carries : Packet → Cell
carries k = record { passenger = None; packet = Some k; met = false }

abbrev pub full : Passenger → Packet → Cell
full p k = record { passenger = Some p; packet = Some k; met = false }

abbrev pub complete : Passenger → Packet → Cell
complete p k = record { passenger = Some p; packet = Some k; met = true }
