-- Numbers as bytes, the low byte first: the little-endian order of RISC-V (RISC-V Unprivileged ISA Manual, "RV32I Base
-- Integer Instruction Set", load and store instructions).
use Rattle.std.specs.Prelude.{ℕ, ◌+◌, ◌*◌, ◌/◌, ◌%◌, zero, suc, List, [], ◌∷◌}

-- the number whose bytes these are
abbrev pub le_number : List ℕ → ℕ
le_number [] = 0
le_number (b ∷ bs) = b + 256 * le_number bs

-- this many low bytes of the number
abbrev pub le_bytes : ℕ → ℕ → List ℕ
le_bytes zero n = []
le_bytes (suc count) n = n % 256 ∷ le_bytes count (n / 256)
