-- The bits of a byte.
use Rattle.std.specs.Prelude.{ℕ, ◌+◌, ◌/◌, ◌%◌, ◌==◌, Bool, true, false}

-- the bit of this weight, if the answer is yes
abbrev pub bit : ℕ → Bool → ℕ
bit weight true = weight
bit weight false = 0

-- whether the bit of this weight is set
abbrev pub is_set : ℕ → ℕ → Bool
is_set weight bits = bits / weight % 2 == 1

-- four answers as a number below 16
abbrev pub half : Bool → Bool → Bool → Bool → ℕ
half a b c d = bit 1 a + bit 2 b + bit 4 c + bit 8 d
