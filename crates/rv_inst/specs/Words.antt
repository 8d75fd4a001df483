-- Words are numbers below 2 ^ 32 (RISC-V Unprivileged ISA Manual, "RV32I Base Integer Instruction Set").
use Rattle.std.specs.Prelude.{ℕ, ◌+◌, ◌-◌, ◌%◌, ◌^◌, ℤ}
use Rattle.std.specs.Int.{w32, cast_signed, cast_unsigned}

-- the sum of two words, modulo 2 ^ 32
abbrev pub word_sum : ℕ → ℕ → ℕ
word_sum a b = (a + b) % 2 ^ 32

-- the difference of two words, modulo 2 ^ 32
abbrev pub word_difference : ℕ → ℕ → ℕ
word_difference a b = (a + (2 ^ 32 - b)) % 2 ^ 32

-- a word as a signed number: from 2 ^ 31 on, the word minus 2 ^ 32
abbrev pub signed : ℕ → ℤ
signed w = cast_signed w32 w

-- the word of a signed number
abbrev pub signed_word : ℤ → ℕ
signed_word z = cast_unsigned w32 z
