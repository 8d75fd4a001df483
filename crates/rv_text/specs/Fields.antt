-- The operands that are read, each with its position and its range (RISC-V Assembly Programmer's Manual; RISC-V
-- Unprivileged ISA Manual, "Immediate Encoding Variants").
use Rattle.std.specs.Prelude.{ℕ, ◌-◌, ◌==◌, ◌&&◌, ℤ, pos, negsuc, int_le, Bool, true, false, Option, Some, None, Result, Ok, Err, List, length, take, drop, codes, nat_eq, if◌then◌else◌}
use Rattle.std.specs.Int.RustNames.{unsigned_abs}
use Rattle.std.specs.List.{starts_with, ends_with, before_first, position_or_len}
use Rattle.texts.specs.Answers.{and_then, needed}
use Rattle.rv_inst.specs.declared.instruction.ImmOp.{ImmOp}
use Rattle.rv_inst.specs.declared.instruction.ImmOp.TheVariants as immop
use Rattle.rv_text.specs.declared.text_err.TextErr.{TextErr}
use Rattle.rv_text.specs.declared.text_err.TextErr.TheVariants.{BadRegister, BadNumber, OutOfRange}
use Rattle.rv_text.specs.Pieces.{trimmed}
use Rattle.rv_text.specs.Numbers.{number_of}
use Rattle.rv_text.specs.Registers.{register_of}

-- an operand that must be a register
unfoldable pub register_in_text : List ℕ → Result ℕ TextErr
register_in_text text = needed BadRegister (register_of text)

-- the number, if it is from the minimum to the maximum
abbrev pub within : ℤ → ℤ → ℤ → Result ℤ TextErr
within least greatest z =
    if int_le least z && int_le z greatest then Ok z else Err (OutOfRange z)

-- an operand that must be a number from the minimum to the maximum
unfoldable pub number_operand : ℤ → ℤ → List ℕ → Result ℤ TextErr
number_operand least greatest text = and_then (needed BadNumber (number_of text)) (within least greatest)

-- a number of twelve bits, read as signed
abbrev pub immediate_in : List ℕ → Result ℤ TextErr
immediate_in text = number_operand (negsuc 2047) (pos 2047) text

-- an operand that must be a number from 0 up to, but not including, a limit
abbrev pub field_below : ℕ → List ℕ → Result ℕ TextErr
field_below limit text = and_then (number_operand (pos 0) (pos (limit - 1)) text) (λ z. Ok (unsigned_abs z))

-- the operations that shift
abbrev pub is_shift : ImmOp → Bool
is_shift immop.Sll = true
is_shift immop.Srl = true
is_shift immop.Sra = true
is_shift _ = false

-- the immediate of an operation: for a shift, its amount
unfoldable pub immediate_of : ImmOp → List ℕ → Result ℤ TextErr
immediate_of op text = if is_shift op then number_operand (pos 0) (pos 31) text else immediate_in text

-- `(`
abbrev pub is_open : ℕ → Bool
is_open byte = byte == 40

-- the text before a `)` at the end
abbrev pub before_close : List ℕ → Option (List ℕ)
before_close text = if ends_with nat_eq text (codes ")") then Some (take (length text - 1) text) else None

-- the text between a `(` at the beginning and a `)` at the end
abbrev pub enclosed : List ℕ → Option (List ℕ)
enclosed text = if starts_with nat_eq text (codes "(") then before_close (drop 1 text) else None

-- the number of an address: the text before the first `(`
unfoldable pub offset_in : List ℕ → Result ℤ TextErr
offset_in text = immediate_in (trimmed (before_first is_open text))

-- the register of an address: the text between the first `(` and a `)` at the end
unfoldable pub base_in : List ℕ → Result ℕ TextErr
base_in text =
    and_then (needed BadRegister (enclosed (drop (position_or_len is_open text) text)))
    (λ inner. register_in_text (trimmed inner))
