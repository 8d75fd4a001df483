-- Each number is read back from its bytes.
use Rattle.std.proofs.Common.{◌≡◌, ℕ, ◌+◌, ◌*◌, ◌/◌, ◌%◌, ◌^◌, ℤ, pos, negsuc, Bool, true, false, nat_lt, List, ◌++◌, refl, ap, append_assoc, arith, ◌==◌}
use Rattle.std.proofs.lemmas.Bool.Decides.{nat_tests}
use Rattle.order_keys.specs.Unpacked.{got, ReadsBack}
use Rattle.order_keys.specs.Numbers.{leading_byte, behind, packed_byte, unpacked_byte, packed_two, unpacked_two, packed_four, unpacked_four, packed_word, unpacked_word, packed_eight, unpacked_eight, packed_long, unpacked_long, folded, unfolded, packed_signed, unpacked_signed}

byte_reads : (x : ℕ) (rest : List ℕ) → unpacked_byte (packed_byte x ++ rest) ≡ got x rest
unfolding packed_byte unpacked_byte leading_byte behind
byte_reads x rest = refl

pub byte_back : ReadsBack packed_byte unpacked_byte
byte_back = record { back = byte_reads }

two_reads : (x : ℕ) (rest : List ℕ) → unpacked_two (packed_two x ++ rest) ≡ got x rest
unfolding packed_two unpacked_two leading_byte behind
two_reads x rest = let e : x % 256 + 256 * (x / 256) ≡ x = omega arith in ap (λ n. got n rest) e

pub two_back : ReadsBack packed_two unpacked_two
two_back = record { back = two_reads }

four_reads : (x : ℕ) (rest : List ℕ) → unpacked_four (packed_four x ++ rest) ≡ got x rest
unfolding packed_four unpacked_four
four_reads x rest =
    let e : x % 65536 + 65536 * (x / 65536) ≡ x = omega arith in
    simp (append_assoc, two_reads) (ap (λ n. got n rest) e)

pub four_back : ReadsBack packed_four unpacked_four
four_back = record { back = four_reads }

eight_reads : (x : ℕ) (rest : List ℕ) → unpacked_eight (packed_eight x ++ rest) ≡ got x rest
unfolding packed_eight unpacked_eight
eight_reads x rest =
    let e : x % 2 ^ 32 + 2 ^ 32 * (x / 2 ^ 32) ≡ x = omega arith in
    simp (append_assoc, four_reads) (ap (λ n. got n rest) e)

pub eight_back : ReadsBack packed_eight unpacked_eight
eight_back = record { back = eight_reads }

word_cases : (x : ℕ) (rest : List ℕ) (tiny small : Bool) → nat_lt x 253 ≡ tiny → nat_lt x 65536 ≡ small →
    unpacked_word (packed_word x ++ rest) ≡ got x rest
unfolding packed_word unpacked_word leading_byte behind
word_cases x rest true small p q = simp (p) refl
word_cases x rest false true p q = simp (p, q) (two_reads x rest)
word_cases x rest false false p q = simp (p, q) (four_reads x rest)

word_reads : (x : ℕ) (rest : List ℕ) → unpacked_word (packed_word x ++ rest) ≡ got x rest
word_reads x rest = word_cases x rest (nat_lt x 253) (nat_lt x 65536) refl refl

pub word_back : ReadsBack packed_word unpacked_word
word_back = record { back = word_reads }

-- no word begins with the first byte of a long number
word_front : (x : ℕ) (rest : List ℕ) (tiny small : Bool) → nat_lt x 253 ≡ tiny → nat_lt x 65536 ≡ small →
    (leading_byte (packed_word x ++ rest) == 255) ≡ false
unfolding packed_word leading_byte
word_front x rest true small p q = simp p (grind (arith, nat_tests))
word_front x rest false true p q = simp (p, q) refl
word_front x rest false false p q = simp (p, q) refl

long_cases : (x : ℕ) (rest : List ℕ) (small : Bool) → nat_lt x (2 ^ 32) ≡ small →
    unpacked_long (packed_long x ++ rest) ≡ got x rest
unfolding packed_long unpacked_long leading_byte behind
long_cases x rest true p =
    let e = word_front x rest (nat_lt x 253) (nat_lt x 65536) refl refl in
    simp (p, e) (word_reads x rest)
long_cases x rest false p = simp p (eight_reads x rest)

long_reads : (x : ℕ) (rest : List ℕ) → unpacked_long (packed_long x ++ rest) ≡ got x rest
long_reads x rest = long_cases x rest (nat_lt x (2 ^ 32)) refl

pub long_back : ReadsBack packed_long unpacked_long
long_back = record { back = long_reads }

unfolded_folded : (z : ℤ) → unfolded (folded z) ≡ z
unfolded_folded (pos n) =
    let even : (2 * n) % 2 ≡ 0 = omega arith in
    let half : (2 * n) / 2 ≡ n = omega arith in
    simp (even, half) refl
unfolded_folded (negsuc n) =
    let odd : (2 * n + 1) % 2 ≡ 1 = omega arith in
    let half : (2 * n + 1) / 2 ≡ n = omega arith in
    simp (odd, half) refl

signed_reads : (x : ℤ) (rest : List ℕ) → unpacked_signed (packed_signed x ++ rest) ≡ got x rest
unfolding packed_signed unpacked_signed
signed_reads z rest = simp (word_reads, unfolded_folded) refl

pub signed_back : ReadsBack packed_signed unpacked_signed
signed_back = record { back = signed_reads }
