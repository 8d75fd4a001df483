-- The statements of a drawn program (a format of this project, with the instructions as in the RISC-V Assembly
-- Programmer's Manual).
use Rattle.std.specs.Prelude.{ℕ, ◌+◌, ◌*◌, ◌==◌, if◌then◌else◌, List, ◌++◌, codes, decimal}
use Rattle.cf_gen.specs.declared.choice.Operation.{Operation}
use Rattle.cf_gen.specs.declared.choice.Operation.TheVariants.{Add, Sub, Xor, Or, Sltu, Sll, Addi, Sw, Lw, Blt}
use Rattle.cf_gen.specs.declared.choice.Choice.{Choice}
use Rattle.cf_gen.specs.Draws.{state_after_draws, drawn_below}

-- the operation that a number below 10 means
abbrev pub operation_of : ℕ → Operation
operation_of k =
    if k == 0 then Add else
    if k == 1 then Sub else
    if k == 2 then Xor else
    if k == 3 then Or else
    if k == 4 then Sltu else
    if k == 5 then Sll else
    if k == 6 then Addi else
    if k == 7 then Sw else
    if k == 8 then Lw else Blt

-- the choice for a statement, from five draws
unfoldable pub choice_of : ℕ → Choice
choice_of x = record {
  operation = operation_of (drawn_below 10 x);
  first = 8 + drawn_below 8 (state_after_draws 1 x);
  second = 8 + drawn_below 8 (state_after_draws 2 x);
  third = 8 + drawn_below 8 (state_after_draws 3 x);
  offset = drawn_below 64 (state_after_draws 4 x);
}

-- a register: `x` and its number
abbrev pub register_operand : ℕ → List ℕ
register_operand r = codes "x" ++ decimal r

-- a label: `L` and its number
abbrev pub label_text : ℕ → List ℕ
label_text i = codes "L" ++ decimal i

-- the first two registers
abbrev pub two_registers : Choice → List ℕ
two_registers choice = register_operand choice.first ++ codes ", " ++ register_operand choice.second

-- all three registers
abbrev pub three_registers : Choice → List ℕ
three_registers choice = two_registers choice ++ codes ", " ++ register_operand choice.third

-- the first register and a word of the data, at the offset times 4 from x7
abbrev pub register_and_word : Choice → List ℕ
register_and_word choice =
    register_operand choice.first ++ codes ", " ++ decimal (4 * choice.offset) ++ codes "(x7)"

-- the text of a statement; a branch goes to this label
unfoldable pub instruction_text : Operation → Choice → ℕ → List ℕ
instruction_text Add choice label = codes "add " ++ three_registers choice
instruction_text Sub choice label = codes "sub " ++ three_registers choice
instruction_text Xor choice label = codes "xor " ++ three_registers choice
instruction_text Or choice label = codes "or " ++ three_registers choice
instruction_text Sltu choice label = codes "sltu " ++ three_registers choice
instruction_text Sll choice label = codes "sll " ++ three_registers choice
instruction_text Addi choice label = codes "addi " ++ two_registers choice ++ codes ", " ++ decimal choice.offset
instruction_text Sw choice label = codes "sw " ++ register_and_word choice
instruction_text Lw choice label = codes "lw " ++ register_and_word choice
instruction_text Blt choice label = codes "blt " ++ two_registers choice ++ codes ", " ++ label_text label
