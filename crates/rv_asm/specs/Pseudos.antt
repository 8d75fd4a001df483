-- The meaning of each pseudo-instruction (RISC-V Assembly Programmer's Manual, "Assembler Pseudoinstructions").
use Rattle.std.specs.Prelude.{ℕ, ◌+◌, ◌*◌, ◌/◌, ◌%◌, ◌^◌, ◌==◌, ◌&&◌, ℤ, pos, negsuc, int_le, Bool, Result, Ok, List, if◌then◌else◌}
use Rattle.std.specs.Int.{int_rem_euclid}
use Rattle.std.specs.Int.RustNames.{unsigned_abs}
use Rattle.rv_inst.specs.Words.{signed, word_difference}
use Rattle.rv_inst.specs.declared.instruction.Cond.{Cond}
use Rattle.rv_inst.specs.declared.instruction.ImmOp.TheVariants as immop
use Rattle.rv_inst.specs.declared.instruction.RegOp.TheVariants as regop
use Rattle.rv_inst.specs.declared.instruction.Instr.{Instr}
use Rattle.rv_inst.specs.declared.instruction.Instr.TheVariants as instr
use Rattle.rv_text.specs.declared.statement.Jump.{Jump}
use Rattle.rv_text.specs.declared.statement.Jump.TheVariants as jump
use Rattle.rv_text.specs.declared.text_err.TextErr.{TextErr}
use Rattle.rv_text.specs.declared.text_err.TextErr.TheVariants.{BadNumber}
use Rattle.rv_text.specs.Pieces.{operand_at}
use Rattle.rv_text.specs.Numbers.{number_of}
use Rattle.rv_text.specs.Fields.{register_in_text, number_operand}
use Rattle.rv_text.specs.Reading.{aimed_at}
use Rattle.rv_asm.specs.declared.item.Far.{Far}
use Rattle.rv_asm.specs.declared.item.Far.TheVariants as far
use Rattle.rv_asm.specs.declared.operations.Pseudo.{Pseudo}
use Rattle.rv_asm.specs.declared.operations.Pseudo.TheVariants as pseudo
use Rattle.texts.specs.Answers.{and_then, needed}
use Rattle.rv_asm.specs.Scanning.{begins_name}
use Rattle.rv_asm.specs.Operands.{count_is}
use Rattle.rv_asm.specs.Items.{SourceItem, Single, Double, Near, Distant}

-- a number modulo 2 ^ 32
unfoldable pub word_modulo : ℤ → ℕ
word_modulo z = unsigned_abs (int_rem_euclid z (pos (2 ^ 32)))

abbrev pub addi : ℕ → ℕ → ℤ → Instr
addi rd rs imm = instr.OpImm immop.Add rd rs imm

-- the upper twenty bits of a word, rounded so that the rest is from -2048 to 2047
abbrev pub upper_part : ℕ → ℕ
upper_part v = (v + 2048) / 4096 % 2 ^ 20

-- the rest
abbrev pub lower_part : ℕ → ℤ
lower_part v = signed (word_difference v (4096 * upper_part v))

-- a word from -2048 to 2047
abbrev pub is_short : ℕ → Bool
is_short v = int_le (negsuc 2047) (signed v) && int_le (signed v) (pos 2047)

-- the instructions that put a word into a register
unfoldable pub loading : ℕ → ℕ → SourceItem
loading rd v =
    if is_short v then Single (addi rd 0 (signed v))
    else if word_difference v (4096 * upper_part v) == 0 then Single (instr.Lui rd (upper_part v))
    else Double (instr.Lui rd (upper_part v)) (addi rd rd (lower_part v))

-- the two instructions that reach over a distance: they put the address into a register, or they call it
unfoldable pub reaching : Far → ℕ → SourceItem
reaching (far.Address rd) v = Double (instr.Auipc rd (upper_part v)) (addi rd rd (lower_part v))
reaching far.Call v = Double (instr.Auipc 1 (upper_part v)) (instr.Jalr 1 1 (lower_part v))

-- the same from an address to the target of an operand: a label, or a number, which is then the address
unfoldable pub reached : Far → ℕ → List ℕ → Result SourceItem TextErr
reached f pc operand =
    if begins_name operand then Ok (Distant f operand)
    else and_then (needed BadNumber (number_of operand)) (λ target. Ok (reaching f (word_difference (word_modulo target) pc)))

-- a jump or a branch to the target of an operand
unfoldable pub jumped : Jump → ℕ → List ℕ → Result SourceItem TextErr
jumped j pc operand =
    if begins_name operand then Ok (Near j operand) else and_then (aimed_at j operand pc) (λ i. Ok (Single i))

-- a register and a number of 32 bits, signed or unsigned: the instructions that load the number into the register
unfoldable pub load_immediate : List ℕ → Result SourceItem TextErr
load_immediate text =
    and_then (count_is 2 text) (λ u.
    and_then (register_in_text (operand_at text 0)) (λ rd.
    and_then (number_operand (negsuc 0x7fffffff) (pos 0xffffffff) (operand_at text 1)) (λ v. Ok (loading rd (word_modulo v)))))

-- a register, and the target whose address it gets
unfoldable pub address_read : ℕ → List ℕ → Result SourceItem TextErr
address_read pc text =
    and_then (count_is 2 text) (λ u.
    and_then (register_in_text (operand_at text 0)) (λ rd. reached (far.Address rd) pc (operand_at text 1)))

-- a register that is compared with 0, and where to branch
unfoldable pub branch_read : Cond → ℕ → List ℕ → Result SourceItem TextErr
branch_read c pc text =
    and_then (count_is 2 text) (λ u.
    and_then (register_in_text (operand_at text 0)) (λ rs. jumped (jump.Branch c rs 0) pc (operand_at text 1)))

-- two registers
unfoldable pub register_pair : List ℕ → Result (ℕ × ℕ) TextErr
register_pair text =
    and_then (count_is 2 text) (λ u.
    and_then (register_in_text (operand_at text 0)) (λ rd.
    and_then (register_in_text (operand_at text 1)) (λ rs. Ok (rd, rs))))

-- the meaning of a pseudo-instruction at an address
unfoldable pub pseudo_read : Pseudo → ℕ → List ℕ → Result SourceItem TextErr
pseudo_read pseudo.Nop pc text = and_then (count_is 0 text) (λ u. Ok (Single (addi 0 0 (pos 0))))
pseudo_read pseudo.Li pc text = load_immediate text
pseudo_read pseudo.La pc text = address_read pc text
pseudo_read pseudo.Mv pc text = and_then (register_pair text) (λ (rd, rs). Ok (Single (addi rd rs (pos 0))))
pseudo_read pseudo.Not pc text = and_then (register_pair text) (λ (rd, rs). Ok (Single (instr.OpImm immop.Xor rd rs (negsuc 0))))
pseudo_read pseudo.Neg pc text = and_then (register_pair text) (λ (rd, rs). Ok (Single (instr.Op regop.Sub rd 0 rs)))
pseudo_read pseudo.J pc text = and_then (count_is 1 text) (λ u. jumped (jump.Link 0) pc (operand_at text 0))
pseudo_read pseudo.Jr pc text =
    and_then (count_is 1 text) (λ u.
    and_then (register_in_text (operand_at text 0)) (λ rs. Ok (Single (instr.Jalr 0 rs (pos 0)))))
pseudo_read pseudo.Ret pc text = and_then (count_is 0 text) (λ u. Ok (Single (instr.Jalr 0 1 (pos 0))))
pseudo_read pseudo.Call pc text = and_then (count_is 1 text) (λ u. reached far.Call pc (operand_at text 0))
pseudo_read (pseudo.BranchZero c) pc text = branch_read c pc text
