-- The bits of a byte are read back.
use Rattle.std.proofs.Common.{◌≡◌, ℕ, ◌+◌, ◌*◌, ◌/◌, ◌%◌, ◌<◌, ◌==◌, Bool, true, false, List, ◌++◌, refl, ap, ◌∙◌, arith}
use Rattle.order_keys.specs.declared.stage_flags.StageFlags.{StageFlags}
use Rattle.order_keys.specs.Unpacked.{got, ReadsBack}
use Rattle.order_keys.specs.Numbers.{leading_byte, behind}
use Rattle.order_keys.specs.Bits.{half, is_set}
use Rattle.order_keys.specs.PassengerFlags.{packed_flags, unpacked_flags, packed_origin_flags, unpacked_origin_flags}
use Rattle.order_keys.specs.StageFlags.{packed_stage_flags, unpacked_stage_flags}

-- a number below 16 has these bits
record HasBits (a b c d : Bool) (n : ℕ) : Type 0 where
  small : n < 16
  first : is_set 1 n ≡ a
  second : is_set 2 n ≡ b
  third : is_set 4 n ≡ c
  fourth : is_set 8 n ≡ d

half_read : (a b c d : Bool) → HasBits a b c d (half a b c d)
half_read true true true true = record { small = omega arith; first = refl; second = refl; third = refl; fourth = refl }
half_read true true true false = record { small = omega arith; first = refl; second = refl; third = refl; fourth = refl }
half_read true true false true = record { small = omega arith; first = refl; second = refl; third = refl; fourth = refl }
half_read true true false false = record { small = omega arith; first = refl; second = refl; third = refl; fourth = refl }
half_read true false true true = record { small = omega arith; first = refl; second = refl; third = refl; fourth = refl }
half_read true false true false = record { small = omega arith; first = refl; second = refl; third = refl; fourth = refl }
half_read true false false true = record { small = omega arith; first = refl; second = refl; third = refl; fourth = refl }
half_read true false false false = record { small = omega arith; first = refl; second = refl; third = refl; fourth = refl }
half_read false true true true = record { small = omega arith; first = refl; second = refl; third = refl; fourth = refl }
half_read false true true false = record { small = omega arith; first = refl; second = refl; third = refl; fourth = refl }
half_read false true false true = record { small = omega arith; first = refl; second = refl; third = refl; fourth = refl }
half_read false true false false = record { small = omega arith; first = refl; second = refl; third = refl; fourth = refl }
half_read false false true true = record { small = omega arith; first = refl; second = refl; third = refl; fourth = refl }
half_read false false true false = record { small = omega arith; first = refl; second = refl; third = refl; fourth = refl }
half_read false false false true = record { small = omega arith; first = refl; second = refl; third = refl; fourth = refl }
half_read false false false false = record { small = omega arith; first = refl; second = refl; third = refl; fourth = refl }

-- a bit of a byte is one of its lower half or of its upper half
lower_1 : (low high : ℕ) → is_set 1 (low + 16 * high) ≡ is_set 1 low
lower_1 low high = let e : (low + 16 * high) / 1 % 2 ≡ low / 1 % 2 = omega arith in ap (λ n. n == 1) e

lower_2 : (low high : ℕ) → is_set 2 (low + 16 * high) ≡ is_set 2 low
lower_2 low high = let e : (low + 16 * high) / 2 % 2 ≡ low / 2 % 2 = omega arith in ap (λ n. n == 1) e

lower_4 : (low high : ℕ) → is_set 4 (low + 16 * high) ≡ is_set 4 low
lower_4 low high = let e : (low + 16 * high) / 4 % 2 ≡ low / 4 % 2 = omega arith in ap (λ n. n == 1) e

lower_8 : (low high : ℕ) → is_set 8 (low + 16 * high) ≡ is_set 8 low
lower_8 low high = let e : (low + 16 * high) / 8 % 2 ≡ low / 8 % 2 = omega arith in ap (λ n. n == 1) e

upper_1 : (low high : ℕ) → low < 16 → is_set 16 (low + 16 * high) ≡ is_set 1 high
upper_1 low high small = let e : (low + 16 * high) / 16 % 2 ≡ high / 1 % 2 = omega (arith, small) in ap (λ n. n == 1) e

upper_2 : (low high : ℕ) → low < 16 → is_set 32 (low + 16 * high) ≡ is_set 2 high
upper_2 low high small = let e : (low + 16 * high) / 32 % 2 ≡ high / 2 % 2 = omega (arith, small) in ap (λ n. n == 1) e

upper_4 : (low high : ℕ) → low < 16 → is_set 64 (low + 16 * high) ≡ is_set 4 high
upper_4 low high small = let e : (low + 16 * high) / 64 % 2 ≡ high / 4 % 2 = omega (arith, small) in ap (λ n. n == 1) e

upper_8 : (low high : ℕ) → low < 16 → is_set 128 (low + 16 * high) ≡ is_set 8 high
upper_8 low high small = let e : (low + 16 * high) / 128 % 2 ≡ high / 8 % 2 = omega (arith, small) in ap (λ n. n == 1) e

-- the bits of a byte
record HasAllBits (a b c d e f g h : Bool) (n : ℕ) : Type 0 where
  bit_1 : is_set 1 n ≡ a
  bit_2 : is_set 2 n ≡ b
  bit_4 : is_set 4 n ≡ c
  bit_8 : is_set 8 n ≡ d
  bit_16 : is_set 16 n ≡ e
  bit_32 : is_set 32 n ≡ f
  bit_64 : is_set 64 n ≡ g
  bit_128 : is_set 128 n ≡ h

byte_read : (a b c d e f g h : Bool) → HasAllBits a b c d e f g h (half a b c d + 16 * half e f g h)
byte_read a b c d e f g h =
    let below = half_read a b c d in
    let above = half_read e f g h in record {
      bit_1 = lower_1 (half a b c d) (half e f g h) ∙ below.first;
      bit_2 = lower_2 (half a b c d) (half e f g h) ∙ below.second;
      bit_4 = lower_4 (half a b c d) (half e f g h) ∙ below.third;
      bit_8 = lower_8 (half a b c d) (half e f g h) ∙ below.fourth;
      bit_16 = upper_1 (half a b c d) (half e f g h) below.small ∙ above.first;
      bit_32 = upper_2 (half a b c d) (half e f g h) below.small ∙ above.second;
      bit_64 = upper_4 (half a b c d) (half e f g h) below.small ∙ above.third;
      bit_128 = upper_8 (half a b c d) (half e f g h) below.small ∙ above.fourth;
    }

pub flags_back : ReadsBack packed_flags unpacked_flags
unfolding packed_flags unpacked_flags leading_byte behind
flags_back = record {
  back = λ p rest.
      let e = byte_read p.done p.launched p.recovered p.dead p.next p.follows p.ending p.owes in
      rw (e.bit_1, e.bit_2, e.bit_4, e.bit_8, e.bit_16, e.bit_32, e.bit_64, e.bit_128) refl;
}

pub origin_flags_back : ReadsBack packed_origin_flags unpacked_origin_flags
unfolding packed_origin_flags unpacked_origin_flags leading_byte behind
origin_flags_back = record {
  back = λ p rest.
      let e = byte_read p.what p.guess p.src1 p.src1_value p.src2 p.src2_value p.dst p.dst_value in
      rw (e.bit_1, e.bit_2, e.bit_4, e.bit_8, e.bit_16, e.bit_32, e.bit_64, e.bit_128) refl;
}

stage_flags_read : (instruction result met : Bool) (rest : List ℕ) →
    let f : StageFlags = record { instruction = instruction; result = result; met = met } in
    unpacked_stage_flags (packed_stage_flags f ++ rest) ≡ got f rest
unfolding packed_stage_flags unpacked_stage_flags leading_byte behind
stage_flags_read true true true rest = refl
stage_flags_read true true false rest = refl
stage_flags_read true false true rest = refl
stage_flags_read true false false rest = refl
stage_flags_read false true true rest = refl
stage_flags_read false true false rest = refl
stage_flags_read false false true rest = refl
stage_flags_read false false false rest = refl

pub stage_flags_back : ReadsBack packed_stage_flags unpacked_stage_flags
stage_flags_back = record { back = λ f rest. stage_flags_read f.instruction f.result f.met rest }
