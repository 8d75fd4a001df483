-- The fields of an instruction word (RISC-V Unprivileged ISA Manual, "RV32I Base Integer Instruction Set", Base
-- Instruction Formats and Immediate Encoding Variants).
use Rattle.std.specs.Prelude.{ℕ, ◌+◌, ◌-◌, ◌*◌, ◌/◌, ◌%◌, ◌^◌, ℤ, pos, nat_lt, if◌then◌else◌, ◌-ℤ◌}

-- bits `high` down to `low` of a word
abbrev pub bits : ℕ → ℕ → ℕ → ℕ
bits high low w = w / 2 ^ low % 2 ^ (high + 1 - low)

-- the major opcode
unfoldable pub opcode : ℕ → ℕ
opcode w = bits 6 0 w

-- the destination register
unfoldable pub rd_of : ℕ → ℕ
rd_of w = bits 11 7 w

-- the function field of three bits
unfoldable pub funct3 : ℕ → ℕ
funct3 w = bits 14 12 w

-- the first source register
unfoldable pub rs1_of : ℕ → ℕ
rs1_of w = bits 19 15 w

-- the second source register, or the amount of a shift by a constant
unfoldable pub rs2_of : ℕ → ℕ
rs2_of w = bits 24 20 w

-- the function field of seven bits
unfoldable pub funct7 : ℕ → ℕ
funct7 w = bits 31 25 w

-- the upper twelve bits, unchanged, as FENCE holds them
unfoldable pub high12 : ℕ → ℕ
high12 w = bits 31 20 w

-- the two's complement value of a number below twice `half`: from `half` on, twice `half` is subtracted
abbrev pub signed_below : ℕ → ℕ → ℤ
signed_below half n = if nat_lt n half then pos n else pos n -ℤ pos (half + half)

-- the I-immediate: bits 31 to 20
unfoldable pub imm_i : ℕ → ℤ
imm_i w = signed_below (2 ^ 11) (bits 31 20 w)

-- the bits of the S-immediate: bits 31 to 25, then bits 11 to 7
abbrev pub bits_s : ℕ → ℕ
bits_s w = bits 31 25 w * 2 ^ 5 + bits 11 7 w

-- the S-immediate
unfoldable pub imm_s : ℕ → ℤ
imm_s w = signed_below (2 ^ 11) (bits_s w)

-- the bits of the B-immediate: bit 31, bit 7, bits 30 to 25, bits 11 to 8, and a zero bit
abbrev pub bits_b : ℕ → ℕ
bits_b w = bits 31 31 w * 2 ^ 12 + bits 7 7 w * 2 ^ 11 + bits 30 25 w * 2 ^ 5 + bits 11 8 w * 2

-- the B-immediate
unfoldable pub imm_b : ℕ → ℤ
imm_b w = signed_below (2 ^ 12) (bits_b w)

-- the U-immediate: bits 31 to 12, in units of 2 ^ 12
unfoldable pub imm_u : ℕ → ℕ
imm_u w = bits 31 12 w

-- the bits of the J-immediate: bit 31, bits 19 to 12, bit 20, bits 30 to 21, and a zero bit
abbrev pub bits_j : ℕ → ℕ
bits_j w = bits 31 31 w * 2 ^ 20 + bits 19 12 w * 2 ^ 12 + bits 20 20 w * 2 ^ 11 + bits 30 21 w * 2

-- the J-immediate
unfoldable pub imm_j : ℕ → ℤ
imm_j w = signed_below (2 ^ 20) (bits_j w)
