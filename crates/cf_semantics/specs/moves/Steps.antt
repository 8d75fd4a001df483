-- The step of an instruction by its class, in the terms of the table of moves: what a unit, the memory port and the
-- environment do with it.
use Rattle.std.specs.Prelude.{ℕ, ◌+◌, List, ◌++◌, Option}
use Rattle.mem_regions.specs.Memory.{Memory}
use Rattle.mem_regions.specs.Access.{bounds_of}
use Rattle.rv_inst.specs.declared.classes.Class.{Class}
use Rattle.rv_inst.specs.declared.classes.Class.TheVariants as class
use Rattle.rv_inst.specs.declared.instruction.Instr.{Instr}
use Rattle.rv_inst.specs.Arithmetic.{next_pc}
use Rattle.rv_mul.specs.Values.{value_of}
use Rattle.rv_machine.specs.Machine.{Machine}
use Rattle.rv_machine.specs.Call.{Called}
use Rattle.rv_machine.specs.Call as called
use Rattle.cf_bind.specs.declared.passenger.End.TheVariants.{Exit}
use Rattle.cf_semantics.specs.state.Options.{on}
use Rattle.cf_semantics.specs.moves.Instructions.{dst_of, value_written, word_after, finish_trap, free_trap, access_trap, mem_after, answer_of, serve_of, StepResult, Goes, Stops}

-- the machine one instruction further, at another address, with these registers and this memory
abbrev pub onward : Machine → ℕ → List ℕ → Memory → Machine
onward m pc regs mem = record m { hart = record { pc = pc; regs = regs; mem = mem; retired = m.hart.retired + 1 } }

-- the environment's answer goes to the destination
abbrev pub served : Called → Option ℕ → Machine → StepResult
served (called.Value a) d m = Goes (record {
  hart = record {
    pc = word_after m.hart.pc;
    regs = value_written m.hart.regs d a.value;
    mem = a.mem;
    retired = m.hart.retired + 1;
  };
  rest = a.rest;
  output = m.output ++ a.output;
})
served (called.Exit status) d m = Stops (Exit status)

-- the step of the instruction i, whose sources have the values a and b
abbrev pub stepped_as : Class → Instr → ℕ → ℕ → Machine → StepResult
stepped_as class.Memory i a b m = on (access_trap i m.hart.pc a (bounds_of m.hart.mem))
    (Goes (onward m (word_after m.hart.pc) (value_written m.hart.regs (dst_of i) (answer_of i a b m.hart.mem)) (mem_after i a b m.hart.mem)))
    Stops
stepped_as class.Serial i a b m = served (serve_of i m.hart.regs m.hart.mem m.rest) (dst_of i) m
stepped_as class.Free i a b m = on (free_trap i m.hart.pc) (Goes (onward m (word_after m.hart.pc) m.hart.regs m.hart.mem)) Stops
stepped_as _ i a b m = on (finish_trap i m.hart.pc a b)
    (Goes (onward m (next_pc i m.hart.pc a b) (value_written m.hart.regs (dst_of i) (value_of i m.hart.pc a b)) m.hart.mem))
    Stops
