-- The text of a drawn program (a format of this project, in GNU as's syntax): registers get random numbers, random
-- statements follow, and then code prints what the registers hold.
use Rattle.std.specs.Prelude.{ℕ, ◌+◌, ◌*◌, ◌-◌, min, List, ◌++◌, codes, decimal}
use Rattle.std.specs.List.{flat_map, range_with_len}
use Rattle.texts.specs.Lines.{line}
use Rattle.cf_gen.specs.Draws.{state_after_draws, drawn_below}
use Rattle.cf_gen.specs.Statements.{choice_of, register_operand, label_text, instruction_text}

-- the line of a statement
abbrev pub statement : List ℕ → List ℕ
statement text = codes "    " ++ line text

-- the line of a label
abbrev pub label_line : List ℕ → List ℕ
label_line name = name ++ line (codes ":")

-- a register from 8 on is given the number below 65536 that is drawn after those of the registers before it
unfoldable pub load_line : ℕ → ℕ → List ℕ
load_line x r =
    statement (codes "li " ++ register_operand r ++ codes ", " ++ decimal (drawn_below 65536 (state_after_draws (r - 8) x)))

-- the beginning of the program, with its first eight draws
unfoldable pub opening_text : ℕ → List ℕ
opening_text x =
    statement (codes ".text") ++ statement (codes ".globl _start") ++ label_line (codes "_start")
    ++ statement (codes "la x7, buf") ++ flat_map (load_line x) (range_with_len 8 8)

-- the label to which the i-th of `number` statements may branch: past the next statement, within the program
abbrev pub branch_label : ℕ → ℕ → ℕ
branch_label number i = min (i + 2) (number + 1)

-- the i-th of `number` statements, drawn from a state, after its label
unfoldable pub drawn_statement : ℕ → ℕ → ℕ → List ℕ
drawn_statement number i x =
    label_line (label_text i)
    ++ statement (instruction_text (choice_of x).operation (choice_of x) (branch_label number i))

-- the i-th statement of the program; the first eight draws and those of the statements before it precede its own
abbrev pub numbered_statement : ℕ → ℕ → List ℕ
numbered_statement number i = drawn_statement number i (state_after_draws (8 + 5 * (i - 1)) number)

-- all statements
abbrev pub statements_text : ℕ → List ℕ
statements_text number = flat_map (numbered_statement number) (range_with_len 1 number)

-- x8 is made to depend on each register
abbrev pub gathering_text : List ℕ
gathering_text = flat_map (λ r. statement (codes "xor x8, x8, " ++ register_operand r)) (range_with_len 9 7)

-- x8's eight hexadecimal digits are written into the data, the upper ones first
abbrev pub converting_text : List ℕ
converting_text =
    statement (codes "la x16, text") ++ statement (codes "li x18, 8") ++ label_line (codes "hex")
    ++ statement (codes "srli x19, x8, 28") ++ statement (codes "slli x8, x8, 4")
    ++ statement (codes "addi x19, x19, 48") ++ statement (codes "li x20, 58")
    ++ statement (codes "blt x19, x20, digit") ++ statement (codes "addi x19, x19, 39")
    ++ label_line (codes "digit") ++ statement (codes "sb x19, 0(x16)")
    ++ statement (codes "addi x16, x16, 1") ++ statement (codes "addi x18, x18, -1")
    ++ statement (codes "bnez x18, hex")

-- write (64) writes the digits and a line feed to standard output, and exit (93) ends the program
abbrev pub writing_text : List ℕ
writing_text =
    statement (codes "li x10, 1") ++ statement (codes "la x11, text") ++ statement (codes "li x12, 9")
    ++ statement (codes "li x17, 64") ++ statement (codes "ecall") ++ statement (codes "li x10, 0")
    ++ statement (codes "li x17, 93") ++ statement (codes "ecall")

-- the words that the statements load and store, and the text
abbrev pub data_text : List ℕ
data_text =
    statement (codes ".data") ++ label_line (codes "buf") ++ statement (codes ".space 256")
    ++ label_line (codes "text") ++ statement (codes ".ascii \"00000000\\n\"")

-- what follows the last label
unfoldable pub last_lines : List ℕ
last_lines = gathering_text ++ converting_text ++ writing_text ++ data_text

-- what follows the statements
unfoldable pub closing_text : ℕ → List ℕ
closing_text number = label_line (label_text (number + 1)) ++ last_lines

-- the program of this many statements
unfoldable pub program_text : ℕ → List ℕ
program_text number = opening_text number ++ statements_text number ++ closing_text number
