-- The memory access of a load or a store, and the value that a load computes from what it read (RISC-V Unprivileged ISA
-- Manual, "RV32I Base Integer Instruction Set", Load and Store Instructions).
use Rattle.std.specs.Prelude.{ℕ, Bool, ◌%◌, ◌^◌, true, false}
use Rattle.rv_inst.specs.declared.instruction.LoadKind.{LoadKind}
use Rattle.rv_inst.specs.declared.instruction.LoadKind.TheVariants as load
use Rattle.rv_inst.specs.declared.instruction.StoreKind.{StoreKind}
use Rattle.rv_inst.specs.declared.instruction.StoreKind.TheVariants as store
use Rattle.rv_inst.specs.declared.instruction.Instr.{Instr}
use Rattle.rv_inst.specs.declared.instruction.Instr.TheVariants.{Load, Store}
use Rattle.rv_inst.specs.declared.accesses.Access.{Access}
use Rattle.rv_inst.specs.Words.{word_sum, signed_word}
use Rattle.rv_inst.specs.Fields.{signed_below}

-- the instruction is a load
abbrev pub is_load : Instr → Bool
is_load (Load k rd rs1 imm) = true
is_load _ = false

-- how many bytes a load reads
abbrev pub load_width : LoadKind → ℕ
load_width load.Byte = 1
load_width load.Half = 2
load_width load.Word = 4
load_width load.ByteU = 1
load_width load.HalfU = 2

-- how many bytes a store writes
abbrev pub store_width : StoreKind → ℕ
store_width store.Byte = 1
store_width store.Half = 2
store_width store.Word = 4

-- the access of a load or a store whose sources are a and b; other instructions make no access, and give all zeros here
unfoldable pub access_made : Instr → ℕ → ℕ → Access
access_made (Load k rd rs1 imm) a b = record { addr = word_sum a (signed_word imm); width = load_width k; write = false; value = 0 }
access_made (Store k rs1 rs2 imm) a b = record { addr = word_sum a (signed_word imm); width = store_width k; write = true; value = b }
access_made _ a b = record { addr = 0; width = 0; write = false; value = 0 }

-- the value that a load writes to its register when it has read `raw`: the low 8 or 16 bits, sign-extended or
-- zero-extended, or the whole word
unfoldable pub load_value : LoadKind → ℕ → ℕ
load_value load.Byte raw = signed_word (signed_below (2 ^ 7) (raw % 2 ^ 8))
load_value load.Half raw = signed_word (signed_below (2 ^ 15) (raw % 2 ^ 16))
load_value load.Word raw = raw
load_value load.ByteU raw = raw % 2 ^ 8
load_value load.HalfU raw = raw % 2 ^ 16

-- the value that a load writes; for any other instruction the number itself
unfoldable pub extended : Instr → ℕ → ℕ
extended (Load k rd rs1 imm) raw = load_value k raw
extended _ raw = raw
