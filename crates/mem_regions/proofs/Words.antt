-- The number of four bytes, read at once.
use Rattle.std.proofs.Common.{◌≡◌, ℕ, ◌+◌, ◌*◌, List, [], ◌∷◌, length, take, arith}
use Rattle.std.specs.Int.{w32, from_le_bytes}
use Rattle.mem_regions.specs.Bytes.{le_number}

-- the bytes, each times its weight, add up to their number
worths : (a b c d : ℕ) → a + b * 256 + c * 65536 + d * 16777216 ≡ a + 256 * (b + 256 * (c + 256 * (d + 256 * 0)))
worths a b c d = omega arith

-- the value read from four bytes is their number
pub word-number : (bytes : List ℕ) → length bytes ≡ 4 → from_le_bytes w32 (take 4 bytes) ≡ le_number bytes
word-number [] e = absurd (omega arith)
word-number (a ∷ []) e = absurd (omega arith)
word-number (a ∷ b ∷ []) e = absurd (omega arith)
word-number (a ∷ b ∷ c ∷ []) e = absurd (omega arith)
word-number (a ∷ b ∷ c ∷ d ∷ []) e = worths a b c d
word-number (a ∷ b ∷ c ∷ d ∷ f ∷ rest) e = absurd (omega arith)

pub ruleset words = (word-number)
