-- The fields of a word are in range, and so is the instruction that is read from it.
use Rattle.std.proofs.Common.{◌≡◌, ◌^◌, ℕ, ◌+◌, ◌<◌, arith, refl}
use Rattle.std.specs.Prelude.{IfSome, pos, ◌%◌}
use Rattle.std.proofs.lemmas.Bool.Decides.{nat_tests}
use Rattle.std.proofs.lemmas.Int.{ints}
use Rattle.rv_inst.specs.Fields.{bits, bits_s, rd_of, rs1_of, rs2_of, high12, imm_i, imm_s, imm_b, imm_u, imm_j, bits_b, bits_j, signed_below}
use Rattle.rv_inst.specs.Ranges.{Fits, IsWithin, IsEven, IsAmount}
use Rattle.rv_inst.specs.Decoding.{decoded, decoded_jalr, decoded_branch, decoded_load, decoded_store, decoded_imm, decoded_op, decoded_fence, decoded_system, decoded_mul, decoded_m}

-- a field of five bits is a register's number
rd_of-register : (w : ℕ) → rd_of w < 32
unfolding rd_of
rd_of-register w = omega arith

rs1_of-register : (w : ℕ) → rs1_of w < 32
unfolding rs1_of
rs1_of-register w = omega arith

rs2_of-register : (w : ℕ) → rs2_of w < 32
unfolding rs2_of
rs2_of-register w = omega arith

-- a field of five bits is an amount
rs2_of-amount : (n : ℕ) → n < 32 → IsAmount (pos n)
rs2_of-amount n h = (omega (arith, ints), omega (arith, ints))

-- the unsigned immediates
imm_u-lt : (w : ℕ) → imm_u w < 2 ^ 20
unfolding imm_u
imm_u-lt w = omega arith

high12-lt : (w : ℕ) → high12 w < 2 ^ 12
unfolding high12
high12-lt w = omega arith

-- a signed reading is within its half, and even if the number is
signed_below-within : (half n : ℕ) → n < half + half → IsWithin half (signed_below half n)
signed_below-within half n h = grind (arith, ints, nat_tests)

signed_below-even : (half n : ℕ) → n < half + half → n % 2 ≡ 0 → half % 2 ≡ 0 → IsEven (signed_below half n)
signed_below-even half n h e f = grind (arith, ints, nat_tests)

-- the signed immediates
imm_i-within : (w : ℕ) → IsWithin (2 ^ 11) (imm_i w)
unfolding imm_i
imm_i-within w = signed_below-within (2 ^ 11) (bits 31 20 w) (omega arith)

imm_s-within : (w : ℕ) → IsWithin (2 ^ 11) (imm_s w)
unfolding imm_s
imm_s-within w = signed_below-within (2 ^ 11) (bits_s w) (omega arith)

imm_b-within : (w : ℕ) → IsWithin (2 ^ 12) (imm_b w)
unfolding imm_b
imm_b-within w = signed_below-within (2 ^ 12) (bits_b w) (omega arith)

imm_j-within : (w : ℕ) → IsWithin (2 ^ 20) (imm_j w)
unfolding imm_j
imm_j-within w = signed_below-within (2 ^ 20) (bits_j w) (omega arith)

imm_b-even : (w : ℕ) → IsEven (imm_b w)
unfolding imm_b
imm_b-even w = signed_below-even (2 ^ 12) (bits_b w) (omega arith) (omega arith) refl

imm_j-even : (w : ℕ) → IsEven (imm_j w)
unfolding imm_j
imm_j-even w = signed_below-even (2 ^ 20) (bits_j w) (omega arith) (omega arith) refl

ruleset bounds = (
  rd_of-register,
  rs1_of-register,
  rs2_of-register,
  rs2_of-amount,
  imm_u-lt,
  high12-lt,
  imm_i-within,
  imm_s-within,
  imm_b-within,
  imm_j-within,
  imm_b-even,
  imm_j-even,
)

-- what is read from a word fits
pub decoded_fits : (w : ℕ) → IfSome (decoded w) (λ i. Fits i)
unfolding decoded decoded_jalr decoded_branch decoded_load decoded_store decoded_imm decoded_op decoded_fence decoded_system
decoded_fits w = grind (arith, nat_tests, bounds)

pub decoded_m_fits : (w : ℕ) → IfSome (decoded_m w) (λ i. Fits i)
unfolding decoded_m decoded_mul
decoded_m_fits w = grind (arith, nat_tests, rd_of-register, rs1_of-register, rs2_of-register, decoded_fits)
