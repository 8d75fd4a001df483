-- The memory after a step of the sequential machine, when nothing is left of the input.
use Rattle.std.specs.Prelude.{ℕ, List, []}
use Rattle.mem_regions.specs.Memory.{Memory}
use Rattle.rv_inst.specs.declared.classes.Class.{Class}
use Rattle.rv_inst.specs.declared.classes.Class.TheVariants as class
use Rattle.rv_inst.specs.declared.instruction.Instr.{Instr}
use Rattle.cf_semantics.specs.moves.Instructions.{kind_of, mem_after, serve_of}
use Rattle.order_model.specs.ServeEffects.{memory_served}

-- memory after an instruction of this class, whose sources have the values a and b
abbrev pub memory_by_class : Class → Instr → ℕ → ℕ → List ℕ → Memory → Memory
memory_by_class class.Memory i a b regs mem = mem_after i a b mem
memory_by_class class.Serial i a b regs mem = memory_served (serve_of i regs mem []) mem
memory_by_class _ i a b regs mem = mem

-- the same for an instruction
unfoldable pub memory_stepped : Instr → ℕ → ℕ → List ℕ → Memory → Memory
memory_stepped i a b regs mem = memory_by_class (kind_of i) i a b regs mem
