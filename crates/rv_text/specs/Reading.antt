-- The instruction that a text spells, and why a text spells none (RISC-V Assembly Programmer's Manual; RISC-V
-- Unprivileged ISA Manual, "RV32/64G Instruction Set Listings").
use Rattle.std.specs.Prelude.{ℕ, ◌-◌, ◌%◌, ◌^◌, ◌==◌, ◌&&◌, ◌||◌, ℤ, pos, negsuc, int_le, int_lt, Bool, true, false, Result, Ok, Err, List, min, if◌then◌else◌}
use Rattle.std.specs.Int.{int_rem_euclid}
use Rattle.std.specs.Int.RustNames.{unsigned_abs}
use Rattle.rv_inst.specs.Words.{signed, word_difference}
use Rattle.rv_inst.specs.declared.instruction.Cond.{Cond}
use Rattle.rv_inst.specs.declared.instruction.ImmOp.{ImmOp}
use Rattle.rv_inst.specs.declared.instruction.Instr.{Instr}
use Rattle.rv_inst.specs.declared.instruction.Instr.TheVariants as instr
use Rattle.rv_text.specs.declared.mnemonic.Mnemonic.{Mnemonic}
use Rattle.rv_text.specs.declared.mnemonic.Mnemonic.TheVariants.{Lui, Auipc, Jal, Jalr, Branch, Load, Store, OpImm, Op, Fence, Ecall, Ebreak, FenceI, Mul}
use Rattle.rv_text.specs.declared.statement.Jump.{Jump}
use Rattle.rv_text.specs.declared.statement.Jump.TheVariants as jump
use Rattle.rv_text.specs.declared.text_err.TextErr.{TextErr}
use Rattle.rv_text.specs.declared.text_err.TextErr.TheVariants.{UnknownName, BadNumber, OutOfRange, WrongCount}
use Rattle.texts.specs.Answers.{and_then, needed}
use Rattle.rv_text.specs.Fields.{register_in_text, field_below, immediate_of, offset_in, base_in}
use Rattle.rv_text.specs.Pieces.{name_part, operand_part, operand_count, operand_at}
use Rattle.rv_text.specs.Numbers.{number_of}
use Rattle.rv_text.specs.Names.{mnemonic_named}

-- the distance from the instruction at `pc` to a target, modulo 2 ^ 32 and read as signed
unfoldable pub distance_of : ℤ → ℕ → ℤ
distance_of target pc =
    signed (word_difference (unsigned_abs (int_rem_euclid target (pos (2 ^ 32)))) pc)

-- an even number from minus `half` up to, but not including, `half`
unfoldable pub is_distance : ℕ → ℤ → Bool
is_distance half z = int_le (negsuc (half - 1)) z && int_lt z (pos half) && unsigned_abs z % 2 == 0

-- the instruction if its distance fits, otherwise the refusal of the distance
abbrev pub if_fits : Bool → Instr → ℤ → Result Instr TextErr
if_fits fits i z = if fits then Ok i else Err (OutOfRange z)

-- the jump or the branch over a distance
unfoldable pub aimed : Jump → ℤ → Result Instr TextErr
aimed (jump.Link rd) z = if_fits (is_distance (2 ^ 20) z) (instr.Jal rd z) z
aimed (jump.Branch c rs1 rs2) z = if_fits (is_distance (2 ^ 12) z) (instr.Branch c rs1 rs2 z) z

-- what a line says: an instruction, or a jump or a branch with its target's text
pub data LineReading : Type 0 where
  WholeOf : Instr → LineReading
  AimedAt : Jump → List ℕ → LineReading

-- the jump or the branch at `pc` to the address that a text spells
unfoldable pub aimed_at : Jump → List ℕ → ℕ → Result Instr TextErr
aimed_at jump text pc =
    and_then (needed BadNumber (number_of text)) (λ target. aimed jump (distance_of target pc))

-- the instruction at `pc`
abbrev pub placed : ℕ → LineReading → Result Instr TextErr
placed pc (WholeOf i) = Ok i
placed pc (AimedAt jump text) = aimed_at jump text pc

-- how many operands a mnemonic has
abbrev pub wanted : Mnemonic → ℕ
wanted Lui = 2
wanted Auipc = 2
wanted Jal = 2
wanted Jalr = 2
wanted (Branch c) = 3
wanted (Load k) = 2
wanted (Store k) = 2
wanted (OpImm op) = 3
wanted (Op op) = 3
wanted Fence = 3
wanted Ecall = 0
wanted Ebreak = 0
wanted FenceI = 3
wanted (Mul op) = 3

-- the fences, which may also have no operands
abbrev pub is_fence : Mnemonic → Bool
is_fence Fence = true
is_fence FenceI = true
is_fence _ = false

-- the mnemonic may have this many operands
unfoldable pub takes_operands : Mnemonic → ℕ → Bool
takes_operands mnemonic count = count == wanted mnemonic || is_fence mnemonic && count == 0

-- a destination and a field of twenty bits
unfoldable pub upper_form : List ℕ → Result (ℕ × ℕ) TextErr
upper_form text =
    and_then (register_in_text (operand_at text 0)) (λ rd.
    and_then (field_below (2 ^ 20) (operand_at text 1)) (λ imm. Ok (rd, imm)))

-- a register, and an address: a number and a register
unfoldable pub address_form : List ℕ → Result (ℕ × ℤ × ℕ) TextErr
address_form text =
    and_then (register_in_text (operand_at text 0)) (λ first.
    and_then (offset_in (operand_at text 1)) (λ imm.
    and_then (base_in (operand_at text 1)) (λ base. Ok (first, imm, base))))

-- a destination, a register and the immediate of an operation
unfoldable pub immediate_form : ImmOp → List ℕ → Result (ℕ × ℕ × ℤ) TextErr
immediate_form op text =
    and_then (register_in_text (operand_at text 0)) (λ rd.
    and_then (register_in_text (operand_at text 1)) (λ rs1.
    and_then (immediate_of op (operand_at text 2)) (λ imm. Ok (rd, rs1, imm))))

-- three registers
unfoldable pub register_form : List ℕ → Result (ℕ × ℕ × ℕ) TextErr
register_form text =
    and_then (register_in_text (operand_at text 0)) (λ rd.
    and_then (register_in_text (operand_at text 1)) (λ rs1.
    and_then (register_in_text (operand_at text 2)) (λ rs2. Ok (rd, rs1, rs2))))

-- two registers and a field of twelve bits
unfoldable pub set_form : List ℕ → Result (ℕ × ℕ × ℕ) TextErr
set_form text =
    and_then (register_in_text (operand_at text 0)) (λ rd.
    and_then (register_in_text (operand_at text 1)) (λ rs1.
    and_then (field_below (2 ^ 12) (operand_at text 2)) (λ set. Ok (rd, rs1, set))))

-- the operands of a fence; if there are none, its registers are 0 and its set is the default
unfoldable pub fence_form : ℕ → List ℕ → Result (ℕ × ℕ × ℕ) TextErr
fence_form plain text = if operand_count text == 0 then Ok (0, 0, plain) else set_form text

-- a whole instruction, built from what was read
abbrev pub whole : {A : Type 0} → (A → Instr) → Result A TextErr → Result LineReading TextErr
whole make found = and_then found (λ a. Ok (WholeOf (make a)))

-- a destination, and a target
unfoldable pub jump_form : List ℕ → Result LineReading TextErr
jump_form text =
    and_then (register_in_text (operand_at text 0)) (λ rd. Ok (AimedAt (jump.Link rd) (operand_at text 1)))

-- two registers, and a target
unfoldable pub branch_form : Cond → List ℕ → Result LineReading TextErr
branch_form c text =
    and_then (register_in_text (operand_at text 0)) (λ rs1.
    and_then (register_in_text (operand_at text 1)) (λ rs2.
    Ok (AimedAt (jump.Branch c rs1 rs2) (operand_at text 2))))

-- the meaning of the operands of a mnemonic, read from left to right; a store's first register is the one that is
-- stored
unfoldable pub operands_read : Mnemonic → List ℕ → Result LineReading TextErr
operands_read Lui text = whole (λ (rd, imm). instr.Lui rd imm) (upper_form text)
operands_read Auipc text = whole (λ (rd, imm). instr.Auipc rd imm) (upper_form text)
operands_read Jal text = jump_form text
operands_read Jalr text = whole (λ (rd, imm, rs1). instr.Jalr rd rs1 imm) (address_form text)
operands_read (Branch c) text = branch_form c text
operands_read (Load k) text = whole (λ (rd, imm, rs1). instr.Load k rd rs1 imm) (address_form text)
operands_read (Store k) text = whole (λ (rs2, imm, rs1). instr.Store k rs1 rs2 imm) (address_form text)
operands_read (OpImm op) text = whole (λ (rd, rs1, imm). instr.OpImm op rd rs1 imm) (immediate_form op text)
operands_read (Op op) text = whole (λ (rd, rs1, rs2). instr.Op op rd rs1 rs2) (register_form text)
operands_read Fence text = whole (λ (rd, rs1, set). instr.Fence rd rs1 set) (fence_form 255 text)
operands_read Ecall text = Ok (WholeOf instr.Ecall)
operands_read Ebreak text = Ok (WholeOf instr.Ebreak)
operands_read FenceI text = whole (λ (rd, rs1, set). instr.FenceI rd rs1 set) (fence_form 0 text)
operands_read (Mul op) text = whole (λ (rd, rs1, rs2). instr.Mul op rd rs1 rs2) (register_form text)

-- a count of operands, at most the maximum number of 32 bits
abbrev pub capped_count : ℕ → ℕ
capped_count count = min count (2 ^ 32 - 1)

-- the meaning of the text after a name: first the operands are counted
unfoldable pub statement_by : Mnemonic → List ℕ → Result LineReading TextErr
statement_by mnemonic text =
    if takes_operands mnemonic (operand_count text) then operands_read mnemonic text
    else Err (WrongCount (capped_count (operand_count text)) (wanted mnemonic))

-- the meaning of a text: first its name is looked up
unfoldable pub statement_of : List ℕ → Result LineReading TextErr
statement_of text =
    and_then (needed UnknownName (mnemonic_named (name_part text)))
    (λ mnemonic. statement_by mnemonic (operand_part text))

-- the instruction that a text spells at `pc`
unfoldable pub read_text : List ℕ → ℕ → Result Instr TextErr
read_text text pc = and_then (statement_of text) (placed pc)
