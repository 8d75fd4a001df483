-- The lines that every drawn program has.
use Rattle.std.proofs.Common.{ℕ, true, false, List, [], ◌∷◌, ◌++◌, refl, Some}
use Rattle.std.specs.Prelude.{codes, ℤ, pos, negsuc}
use Rattle.rv_inst.specs.declared.instruction.Cond.TheVariants as cond
use Rattle.rv_inst.specs.declared.instruction.StoreKind.TheVariants as store
use Rattle.rv_inst.specs.declared.instruction.ImmOp.TheVariants as immop
use Rattle.rv_inst.specs.declared.instruction.RegOp.TheVariants as regop
use Rattle.rv_inst.specs.declared.instruction.Instr.TheVariants as instr
use Rattle.rv_text.specs.declared.statement.Jump.TheVariants as jump
use Rattle.rv_text.specs.Fields.{register_in_text, number_operand}
use Rattle.rv_text.specs.Numbers.{is_numeral, numeral, magnitude, number_of}
use Rattle.rv_text.specs.Pieces.{without_front, without_end, trimmed, name_part, operand_part, operand_count, operand_at}
use Rattle.rv_text.specs.Registers.{register_numbered, register_padded, register_of}
use Rattle.rv_asm.specs.declared.item.Far.TheVariants as far
use Rattle.rv_asm.specs.Items.{SourceItem, Nothing, Section, Export, Single, Near, Distant, Chars, Zeros}
use Rattle.rv_asm.specs.Operands.{count_is}
use Rattle.rv_asm.specs.Operations.{directive_named, pseudo_named}
use Rattle.rv_asm.specs.Pseudos.{reached, address_read, pseudo_read}
use Rattle.rv_asm.specs.Reading.{export_read, one_number, string_read, directive_read, named_read, statement_read}
use Rattle.rv_asm.specs.Scanning.{is_name_start, is_name_byte, is_name, quote_after, said, has_label, label_in, statement_in}
use Rattle.rv_asm.specs.Strings.{string_of}
use Rattle.asm_drawn.proofs.Entries.{Entry, IsEntry}
use Rattle.asm_drawn.proofs.Statements.{indented}

abbrev addi : ℕ → ℕ → ℤ → SourceItem
addi rd rs z = Single (instr.OpImm immop.Add rd rs z)

abbrev xor : ℕ → SourceItem
xor r = Single (instr.Op regop.Xor 8 8 r)

-- the first lines
abbrev pub text_line : Entry
text_line = indented (codes ".text") (Section true)

abbrev pub export_line : Entry
export_line = indented (codes ".globl _start") (Export (codes "_start"))

abbrev pub start_line : Entry
start_line = record { text = codes "_start:"; label = Some (codes "_start"); item = Nothing }

abbrev pub buffer_line : Entry
buffer_line = indented (codes "la x7, buf") (Distant (far.Address 7) (codes "buf"))

-- the instructions up to the first label after the statements
abbrev pub gathering : List Entry
gathering =
    indented (codes "xor x8, x8, x9") (xor 9)
    ∷ indented (codes "xor x8, x8, x10") (xor 10)
    ∷ indented (codes "xor x8, x8, x11") (xor 11)
    ∷ indented (codes "xor x8, x8, x12") (xor 12)
    ∷ indented (codes "xor x8, x8, x13") (xor 13)
    ∷ indented (codes "xor x8, x8, x14") (xor 14)
    ∷ indented (codes "xor x8, x8, x15") (xor 15)
    ∷ indented (codes "la x16, text") (Distant (far.Address 16) (codes "text"))
    ∷ indented (codes "li x18, 8") (addi 18 0 (pos 8))
    ∷ []

abbrev pub hex_line : Entry
hex_line = record { text = codes "hex:"; label = Some (codes "hex"); item = Nothing }

abbrev pub converting : List Entry
converting =
    indented (codes "srli x19, x8, 28") (Single (instr.OpImm immop.Srl 19 8 (pos 28)))
    ∷ indented (codes "slli x8, x8, 4") (Single (instr.OpImm immop.Sll 8 8 (pos 4)))
    ∷ indented (codes "addi x19, x19, 48") (addi 19 19 (pos 48))
    ∷ indented (codes "li x20, 58") (addi 20 0 (pos 58))
    ∷ indented (codes "blt x19, x20, digit") (Near (jump.Branch cond.Lt 19 20) (codes "digit"))
    ∷ indented (codes "addi x19, x19, 39") (addi 19 19 (pos 39))
    ∷ []

abbrev pub digit_line : Entry
digit_line = record { text = codes "digit:"; label = Some (codes "digit"); item = Nothing }

abbrev pub writing : List Entry
writing =
    indented (codes "sb x19, 0(x16)") (Single (instr.Store store.Byte 16 19 (pos 0)))
    ∷ indented (codes "addi x16, x16, 1") (addi 16 16 (pos 1))
    ∷ indented (codes "addi x18, x18, -1") (addi 18 18 (negsuc 0))
    ∷ indented (codes "bnez x18, hex") (Near (jump.Branch cond.Ne 18 0) (codes "hex"))
    ∷ indented (codes "li x10, 1") (addi 10 0 (pos 1))
    ∷ indented (codes "la x11, text") (Distant (far.Address 11) (codes "text"))
    ∷ indented (codes "li x12, 9") (addi 12 0 (pos 9))
    ∷ indented (codes "li x17, 64") (addi 17 0 (pos 64))
    ∷ indented (codes "ecall") (Single instr.Ecall)
    ∷ indented (codes "li x10, 0") (addi 10 0 (pos 0))
    ∷ indented (codes "li x17, 93") (addi 17 0 (pos 93))
    ∷ indented (codes "ecall") (Single instr.Ecall)
    ∷ []

-- the data
abbrev pub data_line : Entry
data_line = indented (codes ".data") (Section false)

abbrev pub buf_line : Entry
buf_line = record { text = codes "buf:"; label = Some (codes "buf"); item = Nothing }

abbrev pub space_line : Entry
space_line = indented (codes ".space 256") (Zeros 256)

abbrev pub digits_line : Entry
digits_line = record { text = codes "text:"; label = Some (codes "text"); item = Nothing }

abbrev pub ascii_line : Entry
ascii_line = indented (codes ".ascii \"00000000\\n\"") (Chars (codes "00000000" ++ 10 ∷ []) false)

pub text_line_is : IsEntry text_line
unfolding said label_in statement_in has_label is_name_start is_name_byte quote_after trimmed without_front without_end name_part
    operand_part operand_count statement_read named_read directive_named directive_read count_is
text_line_is = record { plain = refl; label = refl; item = λ pc. refl }

pub export_line_is : IsEntry export_line
unfolding said label_in statement_in has_label is_name_start is_name_byte is_name quote_after trimmed without_front without_end name_part
    operand_part operand_count operand_at statement_read named_read directive_named directive_read export_read count_is
export_line_is = record { plain = refl; label = refl; item = λ pc. refl }

pub start_line_is : IsEntry start_line
unfolding said label_in statement_in has_label is_name_start is_name_byte quote_after trimmed without_front without_end statement_read
start_line_is = record { plain = refl; label = refl; item = λ pc. refl }

pub hex_line_is : IsEntry hex_line
unfolding said label_in statement_in has_label is_name_start is_name_byte quote_after trimmed without_front without_end statement_read
hex_line_is = record { plain = refl; label = refl; item = λ pc. refl }

pub digit_line_is : IsEntry digit_line
unfolding said label_in statement_in has_label is_name_start is_name_byte quote_after trimmed without_front without_end statement_read
digit_line_is = record { plain = refl; label = refl; item = λ pc. refl }

pub buf_line_is : IsEntry buf_line
unfolding said label_in statement_in has_label is_name_start is_name_byte quote_after trimmed without_front without_end statement_read
buf_line_is = record { plain = refl; label = refl; item = λ pc. refl }

pub digits_line_is : IsEntry digits_line
unfolding said label_in statement_in has_label is_name_start is_name_byte quote_after trimmed without_front without_end statement_read
digits_line_is = record { plain = refl; label = refl; item = λ pc. refl }

pub data_line_is : IsEntry data_line
unfolding said label_in statement_in has_label is_name_start is_name_byte quote_after trimmed without_front without_end name_part
    operand_part operand_count statement_read named_read directive_named directive_read count_is
data_line_is = record { plain = refl; label = refl; item = λ pc. refl }

pub space_line_is : IsEntry space_line
unfolding said label_in statement_in has_label is_name_start is_name_byte quote_after trimmed without_front without_end name_part
    operand_part operand_count operand_at statement_read named_read directive_named directive_read one_number count_is number_operand number_of
    magnitude numeral is_numeral
space_line_is = record { plain = refl; label = refl; item = λ pc. refl }

pub ascii_line_is : IsEntry ascii_line
unfolding said label_in statement_in has_label is_name_start is_name_byte quote_after trimmed without_front without_end name_part
    operand_part statement_read named_read directive_named directive_read string_read string_of
ascii_line_is = record { plain = refl; label = refl; item = λ pc. refl }

pub buffer_line_is : IsEntry buffer_line
unfolding said label_in statement_in has_label is_name_start is_name_byte quote_after trimmed without_front without_end name_part
    operand_part operand_count operand_at statement_read named_read directive_named pseudo_named pseudo_read address_read reached count_is
    register_in_text register_of register_padded register_numbered numeral is_numeral
buffer_line_is = record { plain = refl; label = refl; item = λ pc. refl }
