-- Products, quotients and remainders in the machine's arithmetic on 32 and 64 bits.
use Rattle.std.proofs.Common.{◌≡◌, ℕ, zero, suc, ◌-◌, ◌/◌, ◌%◌, ◌^◌, ◌<◌, ◌≤◌, ℤ, pos, negsuc, neg_ℤ, ◌*ℤ◌, unsigned_abs, int_div, FitsSigned, refl, ◌∙◌, ap, arith, lit<}
use Rattle.std.specs.Int.{Width, w32, w64, cast_signed, cast_unsigned, int_wrapping_div}
use Rattle.std.proofs.lemmas.Int.{to_z-of_z, of_z-to_z, fits_signed_mul}
use Rattle.std.proofs.Math.Nat.{div-le_self}
use Rattle.rv_mul.specs.Products.{lower_word, upper_word}

-- a number as a signed type of width w holds it
abbrev pub held : Width → ℤ → ℤ
held w z = cast_signed w (cast_unsigned w z)

-- the low word of a natural number
pub lower_word_pos : (n : ℕ) → lower_word (pos n) ≡ n % 2 ^ 32
unfolding lower_word
lower_word_pos n = refl

-- the upper word of a natural number
pub upper_word_pos : (n : ℕ) → n < 2 ^ 64 → n / 2 ^ 32 ≡ upper_word (pos n)
unfolding lower_word upper_word
upper_word_pos n h = omega arith

-- the low word of a number of at most 2 ^ 31 in size is its bits
pub lower_word_of_bits : (z : ℤ) → unsigned_abs z ≤ 2 ^ 31 → cast_unsigned w32 z ≡ lower_word z
unfolding lower_word
lower_word_of_bits (pos n) h = omega arith
lower_word_of_bits (negsuc n) h = omega arith

-- the upper word of a number of 64 bits is the upper half of its bits
pub upper_word_of_bits : (z : ℤ) → FitsSigned w64 z → cast_unsigned w64 z / 2 ^ 32 ≡ upper_word z
unfolding lower_word upper_word
upper_word_of_bits (pos n) h = omega (arith, h.sfits)
upper_word_of_bits (negsuc n) h = omega (arith, h.sfits)

-- the size of a number of 32 bits
size_of_word : (z : ℤ) → FitsSigned w32 z → unsigned_abs z ≤ 2 ^ 31
size_of_word (pos n) h = omega (arith, h.sfits)
size_of_word (negsuc n) h = omega (arith, h.sfits)

bits_below : (z : ℤ) → unsigned_abs z ≤ 2 ^ 31 → cast_unsigned w32 z < 2 ^ 32
bits_below (pos n) h = omega arith
bits_below (negsuc n) h = omega arith

abs_neg : (n : ℕ) → unsigned_abs (neg_ℤ (pos n)) ≡ n
abs_neg zero = refl
abs_neg (suc n) = refl

-- the magnitude of a quotient is at most that of the dividend
quotient_size : (a b : ℤ) → unsigned_abs (int_div a b) ≤ unsigned_abs a
quotient_size (pos a) (pos b) = div-le_self a b
quotient_size (pos a) (negsuc b) = rw abs_neg (div-le_self a (suc b))
quotient_size (negsuc a) (pos b) = rw abs_neg (div-le_self (suc a) b)
quotient_size (negsuc a) (negsuc b) = div-le_self (suc a) (suc b)

-- the bits of a quotient of two signed words, as the machine computes it
pub quotient_bits : (a b q : ℤ)
    → q ≡ int_wrapping_div w32 (held w32 a) (held w32 b)
    → FitsSigned w32 a → FitsSigned w32 b
    → cast_unsigned w32 (held w32 q) ≡ lower_word (int_div a b)
quotient_bits a b q e f g =
    let small : unsigned_abs (int_div a b) ≤ 2 ^ 31 = omega (arith, quotient_size a b, size_of_word a f) in
    let n : ℕ = cast_unsigned w32 (int_div a b) in
    let same : cast_unsigned w32 (cast_signed w32 n) ≡ n = of_z-to_z w32 n (bits_below (int_div a b) small) in
    let is : q ≡ cast_signed w32 n = cc (to_z-of_z w32 a f, to_z-of_z w32 b g) in
    ap (λ z. cast_unsigned w32 (held w32 z)) is
    ∙ ap (λ k. cast_unsigned w32 (cast_signed w32 k)) same
    ∙ same
    ∙ lower_word_of_bits (int_div a b) small

-- a number of 32 bits fits 64 bits
fits_wider : (z : ℤ) → FitsSigned w32 z → FitsSigned w64 z
fits_wider z h = record { sfits = omega (arith, h.sfits) }

-- the product of a signed word and a word, signed or unsigned, fits 64 bits
product_fits : (a b : ℤ) → unsigned_abs a ≤ 2 ^ 31 → unsigned_abs b < 2 ^ 32 → FitsSigned w64 (a *ℤ b)
product_fits a b h k = fits_signed_mul w64 a b (2 ^ 31) (2 ^ 32 - 1) h (omega arith) (lit< tt)

-- the upper half of the bits of a product, as the machine computes it at 64 bits
high_bits : (a b x y : ℤ) → x ≡ a → y ≡ b
    → FitsSigned w64 a → FitsSigned w64 b → FitsSigned w64 (a *ℤ b)
    → cast_unsigned w64 (held w64 (held w64 x *ℤ held w64 y)) / 2 ^ 32 ≡ upper_word (a *ℤ b)
high_bits a b x y p q f g h =
    let e : held w64 x *ℤ held w64 y ≡ a *ℤ b = cc (to_z-of_z w64 a f, to_z-of_z w64 b g) in
    ap (λ z. cast_unsigned w64 (held w64 z) / 2 ^ 32) e
    ∙ ap (λ z. cast_unsigned w64 z / 2 ^ 32) (to_z-of_z w64 (a *ℤ b) h)
    ∙ upper_word_of_bits (a *ℤ b) h

-- the same if both factors are signed words
pub high_bits_signed : (a b x y : ℤ) → x ≡ held w32 a → y ≡ held w32 b
    → FitsSigned w32 a → FitsSigned w32 b
    → cast_unsigned w64 (held w64 (held w64 x *ℤ held w64 y)) / 2 ^ 32 ≡ upper_word (a *ℤ b)
high_bits_signed a b x y p q f g =
    high_bits a b x y (p ∙ to_z-of_z w32 a f) (q ∙ to_z-of_z w32 b g) (fits_wider a f) (fits_wider b g)
    (product_fits a b (size_of_word a f) (omega (arith, size_of_word b g)))

-- the same if the second factor is an unsigned word
pub high_bits_mixed : (a x : ℤ) (b : ℕ) (y : ℤ) → x ≡ held w32 a → y ≡ pos b
    → FitsSigned w32 a → b < 2 ^ 32
    → cast_unsigned w64 (held w64 (held w64 x *ℤ held w64 y)) / 2 ^ 32 ≡ upper_word (a *ℤ pos b)
high_bits_mixed a x b y p q f g =
    high_bits a (pos b) x y (p ∙ to_z-of_z w32 a f) q (fits_wider a f) (record { sfits = omega arith })
    (product_fits a (pos b) (size_of_word a f) g)

pub ruleset bits = (lower_word_pos, lower_word_of_bits, upper_word_of_bits, upper_word_pos)
