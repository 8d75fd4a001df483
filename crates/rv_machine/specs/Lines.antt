-- Lines of flat operations, and what they store of the code in memory.
use Rattle.std.specs.Prelude.{◌≡◌, ℕ, ◌*◌, ◌/◌, ◌%◌, ◌^◌, ◌<◌, List, [], Bool, nat_lt, slice_index_or, pos}
use Rattle.std.specs.List.{All}
use Rattle.mem_regions.specs.Memory.{Memory}
use Rattle.rv_machine.specs.declared.flat.Flat.{Flat}
use Rattle.rv_machine.specs.declared.flat.FlatOp.TheVariants.{Slow}
use Rattle.rv_machine.specs.declared.flat_lines.FlatLine.{FlatLine}
use Rattle.rv_inst.specs.Words.{word_sum, word_difference}
use Rattle.rv_machine.specs.Flat.{StandsFor}

-- the operation at an index out of range, which never occurs in a line
abbrev pub no_operation : Flat
no_operation = record { op = Slow; rd = 0; rs1 = 0; rs2 = 0; imm = pos 0 }

-- the operation of a line at an index
abbrev pub flat_at : FlatLine → ℕ → Flat
flat_at line j = slice_index_or line.ops j no_operation

-- the index in a line of the word at an address
abbrev pub index_in : FlatLine → ℕ → ℕ
index_in line pc = word_difference pc line.base / 4

-- the line has the word at the address
unfoldable pub covers : FlatLine → ℕ → Bool
covers line pc = nat_lt (word_difference pc line.base) 1024

-- the line begins at the address of a word, and each of its operations represents what memory has at its address
pub record IsLineOf (mem : Memory) (line : FlatLine) : Type 0 where
  pub aligned : line.base % 4 ≡ 0
  pub within : line.base < 2 ^ 32
  pub last : flat_at line 256 ≡ no_operation
  pub stand : (j : ℕ) → j < 256 → StandsFor mem (word_sum line.base (j * 4)) (flat_at line j)

-- the same for all lines
unfoldable pub AreLinesOf : Memory → List FlatLine → Type 0
AreLinesOf mem lines = All (IsLineOf mem) lines

-- a line about which nothing is known
abbrev pub IsBlank : FlatLine → Type 0
IsBlank line = (line.base % 4 ≡ 0) × (line.base < 2 ^ 32) × ((j : ℕ) → j < 257 → flat_at line j ≡ no_operation)

-- the index of the line of an address
abbrev pub line_at : ℕ → ℕ
line_at pc = pc / 1024 % 32

-- the line at an index out of range, which never occurs
abbrev pub no_line : FlatLine
no_line = record { base = 0; ops = [] }

-- the line at the index of the address has it
unfoldable pub cover : List FlatLine → ℕ → Bool
cover lines pc = covers (slice_index_or lines (line_at pc) no_line) pc
