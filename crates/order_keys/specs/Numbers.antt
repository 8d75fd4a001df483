-- Numbers as bytes: a small one as a single byte, any other after a byte that says how many bytes follow, the lowest
-- first.
use Rattle.std.specs.Prelude.{ℕ, ◌+◌, ◌*◌, ◌/◌, ◌%◌, ◌^◌, ℤ, pos, negsuc, nat_lt, ◌==◌, if◌then◌else◌, List, [], ◌∷◌, ◌++◌}
use Rattle.order_keys.specs.Unpacked.{Unpacked, got}

-- the first byte, or 0 if there is none
unfoldable pub leading_byte : List ℕ → ℕ
leading_byte [] = 0
leading_byte (b ∷ bs) = b

-- the bytes after the first
unfoldable pub behind : List ℕ → List ℕ
behind [] = []
behind (b ∷ bs) = bs

-- a number below 256
unfoldable pub packed_byte : ℕ → List ℕ
packed_byte n = n ∷ []

unfoldable pub unpacked_byte : List ℕ → Unpacked ℕ
unpacked_byte bs = got (leading_byte bs) (behind bs)

-- a number below 2 ^ 16, its lower byte first
unfoldable pub packed_two : ℕ → List ℕ
packed_two n = n % 256 ∷ n / 256 ∷ []

unfoldable pub unpacked_two : List ℕ → Unpacked ℕ
unpacked_two bs = got (leading_byte bs + 256 * leading_byte (behind bs)) (behind (behind bs))

-- a number below 2 ^ 32, its lower half first
unfoldable pub packed_four : ℕ → List ℕ
packed_four n = packed_two (n % 65536) ++ packed_two (n / 65536)

unfoldable pub unpacked_four : List ℕ → Unpacked ℕ
unpacked_four bs =
    let low = unpacked_two bs in
    let high = unpacked_two low.left in
    got (low.value + 65536 * high.value) high.left

-- a number below 2 ^ 32, in the shortest of these forms
unfoldable pub packed_word : ℕ → List ℕ
packed_word n =
    if nat_lt n 253 then n ∷ [] else
    if nat_lt n 65536 then (253 ∷ []) ++ packed_two n else
    (254 ∷ []) ++ packed_four n

-- one of the forms longer than a byte, from what follows its first byte
abbrev pub unpacked_wide : ℕ → List ℕ → Unpacked ℕ
unpacked_wide first bs = if first == 253 then unpacked_two bs else unpacked_four bs

unfoldable pub unpacked_word : List ℕ → Unpacked ℕ
unpacked_word bs = if nat_lt (leading_byte bs) 253 then got (leading_byte bs) (behind bs) else unpacked_wide (leading_byte bs) (behind bs)

-- a number below 2 ^ 64, its lower half first
unfoldable pub packed_eight : ℕ → List ℕ
packed_eight n = packed_four (n % 2 ^ 32) ++ packed_four (n / 2 ^ 32)

unfoldable pub unpacked_eight : List ℕ → Unpacked ℕ
unpacked_eight bs =
    let low = unpacked_four bs in
    let high = unpacked_four low.left in
    got (low.value + 2 ^ 32 * high.value) high.left

-- a number below 2 ^ 64, in the shortest of these forms
unfoldable pub packed_long : ℕ → List ℕ
packed_long n = if nat_lt n (2 ^ 32) then packed_word n else (255 ∷ []) ++ packed_eight n

unfoldable pub unpacked_long : List ℕ → Unpacked ℕ
unpacked_long bs = if leading_byte bs == 255 then unpacked_eight (behind bs) else unpacked_word bs

-- the index of a signed number in the sequence 0, -1, 1, -2, 2 and so on
abbrev pub folded : ℤ → ℕ
folded (pos n) = 2 * n
folded (negsuc n) = 2 * n + 1

-- the signed number at this index
abbrev pub unfolded : ℕ → ℤ
unfolded n = if n % 2 == 0 then pos (n / 2) else negsuc (n / 2)

-- a signed number from -2 ^ 31 up to, but not including, 2 ^ 31
unfoldable pub packed_signed : ℤ → List ℕ
packed_signed z = packed_word (folded z)

unfoldable pub unpacked_signed : List ℕ → Unpacked ℤ
unpacked_signed bs = let n = unpacked_word bs in got (unfolded n.value) n.left
