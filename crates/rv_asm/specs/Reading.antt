-- The meaning of a statement: a directive, a pseudo-instruction or an instruction (RISC-V Assembly Programmer's
-- Manual).
use Rattle.std.specs.Prelude.{ℕ, ◌-◌, ◌%◌, ◌^◌, ◌==◌, pos, Bool, true, false, Option, Some, None, Result, Ok, Err, List, length, codes, nat_eq, if◌then◌else◌}
use Rattle.std.specs.List.{starts_with}
use Rattle.std.specs.Int.RustNames.{unsigned_abs}
use Rattle.rv_text.specs.declared.mnemonic.Mnemonic.{Mnemonic}
use Rattle.rv_text.specs.declared.text_err.TextErr.{TextErr}
use Rattle.rv_text.specs.declared.text_err.TextErr.TheVariants.{UnknownName, WrongCount}
use Rattle.rv_text.specs.Pieces.{trimmed, name_part, operand_part, operand_count, operand_at}
use Rattle.rv_text.specs.Fields.{number_operand}
use Rattle.rv_text.specs.Names.{mnemonic_named}
use Rattle.rv_text.specs.Reading.{LineReading, WholeOf, AimedAt, statement_by}
use Rattle.rv_asm.specs.declared.refusal.AsmKind.{AsmKind}
use Rattle.rv_asm.specs.declared.refusal.AsmKind.TheVariants.{Text, UnknownDirective, BadString}
use Rattle.rv_asm.specs.declared.operations.Width.{Width}
use Rattle.rv_asm.specs.declared.operations.Directive.{Directive}
use Rattle.rv_asm.specs.declared.operations.Directive.TheVariants as directive
use Rattle.rv_asm.specs.declared.operations.Pseudo.{Pseudo}
use Rattle.texts.specs.Answers.{and_then, needed}
use Rattle.rv_asm.specs.Answers.{as_text}
use Rattle.rv_asm.specs.Scanning.{is_name}
use Rattle.rv_asm.specs.Strings.{string_of}
use Rattle.rv_asm.specs.Operands.{count_is, operand_texts, are_placeable}
use Rattle.rv_asm.specs.Operations.{directive_named, pseudo_named}
use Rattle.rv_asm.specs.Items.{SourceItem, Nothing, Section, Export, Single, Numbers, Chars, Zeros}
use Rattle.rv_asm.specs.Pseudos.{jumped, pseudo_read}

-- a name that is exported
unfoldable pub export_read : List ℕ → Result SourceItem TextErr
export_read text =
    and_then (count_is 1 text) (λ u.
    if is_name (operand_at text 0) then Ok (Export (operand_at text 0)) else Err UnknownName)

-- numbers, at least one
unfoldable pub numbers_read : Width → List ℕ → Result SourceItem TextErr
numbers_read width text =
    if operand_count text == 0 then Err (WrongCount 0 1)
    else and_then (are_placeable width (operand_texts text)) (λ u. Ok (Numbers width (operand_texts text)))

-- one number from 0 to the maximum
unfoldable pub one_number : ℕ → List ℕ → Result ℕ TextErr
one_number greatest text =
    and_then (count_is 1 text) (λ u.
    and_then (number_operand (pos 0) (pos greatest) (operand_at text 0)) (λ z. Ok (unsigned_abs z)))

-- the distance from an address up to the next multiple of a size
abbrev pub padding : ℕ → ℕ → ℕ
padding address size = (size - address % size) % size

-- a text that is a string, and whether a zero follows
unfoldable pub string_read : Bool → List ℕ → Result SourceItem AsmKind
string_read zero text = and_then (needed BadString (string_of (trimmed text))) (λ bytes. Ok (Chars bytes zero))

-- the meaning of a directive at an address
unfoldable pub directive_read : Directive → ℕ → List ℕ → Result SourceItem AsmKind
directive_read directive.Text pc text = as_text (and_then (count_is 0 text) (λ u. Ok (Section true)))
directive_read directive.Data pc text = as_text (and_then (count_is 0 text) (λ u. Ok (Section false)))
directive_read directive.Globl pc text = as_text (export_read text)
directive_read (directive.Numbers width) pc text = as_text (numbers_read width text)
directive_read directive.Ascii pc text = string_read false text
directive_read directive.Asciz pc text = string_read true text
directive_read directive.Space pc text = as_text (and_then (one_number 1048576 text) (λ n. Ok (Zeros n)))
directive_read directive.Align pc text = as_text (and_then (one_number 12 text) (λ n. Ok (Zeros (padding pc (2 ^ n)))))

-- an instruction, or a jump or a branch to the target of its operand
abbrev pub targeted : ℕ → LineReading → Result SourceItem TextErr
targeted pc (WholeOf i) = Ok (Single i)
targeted pc (AimedAt jump operand) = jumped jump pc operand

-- the meaning of an instruction at an address
unfoldable pub instruction_read : Mnemonic → ℕ → List ℕ → Result SourceItem TextErr
instruction_read mnemonic pc text = and_then (statement_by mnemonic text) (targeted pc)

-- the refusal of an unknown name
unfoldable pub unknown_name : List ℕ → AsmKind
unknown_name name = if starts_with nat_eq name (codes ".") then UnknownDirective else Text UnknownName

-- the meaning of operands after a name that may name a directive, a pseudo-instruction or an instruction: if it names
-- several, the first counts
abbrev pub meaning_after_name : Option Directive → Option Pseudo → Option Mnemonic → List ℕ → ℕ → List ℕ → Result SourceItem AsmKind
meaning_after_name (Some directive) p m name pc text = directive_read directive pc text
meaning_after_name None (Some pseudo) m name pc text = as_text (pseudo_read pseudo pc text)
meaning_after_name None None (Some mnemonic) name pc text = as_text (instruction_read mnemonic pc text)
meaning_after_name None None None name pc text = Err (unknown_name name)

-- the meaning of operands after a name
unfoldable pub named_read : List ℕ → ℕ → List ℕ → Result SourceItem AsmKind
named_read name pc text =
    meaning_after_name (directive_named name) (pseudo_named name) (mnemonic_named name) name pc text

-- the meaning of a statement at an address
unfoldable pub statement_read : ℕ → List ℕ → Result SourceItem AsmKind
statement_read pc text =
    if length (trimmed text) == 0 then Ok Nothing
    else named_read (name_part text) pc (operand_part text)
