-- A word consists of its six fields, and the immediates are read from them.
use Rattle.std.proofs.Common.{◌≡◌, ℕ, ◌+◌, ◌*◌, ◌/◌, ◌%◌, ◌<◌, ◌≤◌, ◌^◌, arith, ap, ◌∙◌, bit_or}
use Rattle.std.proofs.lemmas.Nat.{or_shifted}
use Rattle.std.specs.Prelude.{ℤ, pos, negsuc, bit_and, FitsSigned}
use Rattle.std.specs.Int.{w32, cast_unsigned, cast_signed}
use Rattle.std.specs.Int.Bits.{or_comm}
use Rattle.std.proofs.lemmas.Int.{ints, to_z-of_z}
use Rattle.std.proofs.lemmas.Bool.Decides.{nat_tests}
use Rattle.rv_inst.proofs.Masks.{mask_1, mask_3, mask_4, mask_5, mask_6, mask_7}
use Rattle.rv_inst.specs.Fields.{opcode, rd_of, funct3, rs1_of, rs2_of, funct7, high12, imm_i, imm_s, imm_b, imm_u, imm_j, bits, bits_s, bits_b, bits_j, signed_below}
use Rattle.rv_inst.specs.Formats.{HasFields}
use Rattle.rv_inst.specs.Ranges.{IsWithin, IsEven}

-- a sum of fields, each at its position, has those fields
sum-fields : (opc rd f3 rs1 rs2 f7 w : ℕ) → opc < 2 ^ 7 → rd < 2 ^ 5 → f3 < 2 ^ 3 → rs1 < 2 ^ 5 → rs2 < 2 ^ 5 → f7 < 2 ^ 7 →
    w ≡ opc + rd * 2 ^ 7 + f3 * 2 ^ 12 + rs1 * 2 ^ 15 + rs2 * 2 ^ 20 + f7 * 2 ^ 25 → HasFields w opc rd f3 rs1 rs2 f7
unfolding opcode rd_of funct3 rs1_of rs2_of funct7
sum-fields opc rd f3 rs1 rs2 f7 w a b c d e f h = record {
  opcode_is = omega arith;
  rd_is = omega arith;
  funct3_is = omega arith;
  rs1_is = omega arith;
  rs2_is = omega arith;
  funct7_is = omega arith;
}

-- a low part and a shifted part, joined by `or`, are their sum
or_low : (low high k : ℕ) → low < 2 ^ k → bit_or low (high * 2 ^ k) ≡ low + high * 2 ^ k
or_low low high k h = or_comm low (high * 2 ^ k) ∙ or_shifted high k low h ∙ (omega arith)

-- fields joined by `or` are summed
or-fields : (opc rd f3 rs1 rs2 f7 : ℕ) → opc < 2 ^ 7 → rd < 2 ^ 5 → f3 < 2 ^ 3 → rs1 < 2 ^ 5 → rs2 < 2 ^ 5 →
    bit_or (bit_or (bit_or (bit_or (bit_or opc (rd * 2 ^ 7)) (f3 * 2 ^ 12)) (rs1 * 2 ^ 15)) (rs2 * 2 ^ 20)) (f7 * 2 ^ 25)
    ≡ opc + rd * 2 ^ 7 + f3 * 2 ^ 12 + rs1 * 2 ^ 15 + rs2 * 2 ^ 20 + f7 * 2 ^ 25
or-fields opc rd f3 rs1 rs2 f7 a b c d e =
    let p : bit_or opc (rd * 2 ^ 7) ≡ opc + rd * 2 ^ 7 = or_low opc rd 7 (omega arith) in
    let q : bit_or (opc + rd * 2 ^ 7) (f3 * 2 ^ 12) ≡ opc + rd * 2 ^ 7 + f3 * 2 ^ 12 = or_low (opc + rd * 2 ^ 7) f3 12 (omega arith) in
    let r : bit_or (opc + rd * 2 ^ 7 + f3 * 2 ^ 12) (rs1 * 2 ^ 15) ≡ opc + rd * 2 ^ 7 + f3 * 2 ^ 12 + rs1 * 2 ^ 15 =
    or_low (opc + rd * 2 ^ 7 + f3 * 2 ^ 12) rs1 15 (omega arith) in
    let s : bit_or (opc + rd * 2 ^ 7 + f3 * 2 ^ 12 + rs1 * 2 ^ 15) (rs2 * 2 ^ 20) ≡ opc + rd * 2 ^ 7 + f3 * 2 ^ 12 + rs1 * 2 ^ 15 + rs2 * 2 ^ 20 =
    or_low (opc + rd * 2 ^ 7 + f3 * 2 ^ 12 + rs1 * 2 ^ 15) rs2 20 (omega arith) in
    rw (p, q, r, s) (or_low (opc + rd * 2 ^ 7 + f3 * 2 ^ 12 + rs1 * 2 ^ 15 + rs2 * 2 ^ 20) f7 25 (omega arith))

-- fields shifted to their positions lose no bit, and joined by `or` they are the word's fields
pub shifted-fields : (opc rd f3 rs1 rs2 f7 : ℕ) → opc < 2 ^ 7 → rd < 2 ^ 5 → f3 < 2 ^ 3 → rs1 < 2 ^ 5 → rs2 < 2 ^ 5 → f7 < 2 ^ 7 →
    HasFields (bit_or (bit_or (bit_or (bit_or (bit_or opc (rd * 2 ^ 7 % 2 ^ 32)) (f3 * 2 ^ 12 % 2 ^ 32)) (rs1 * 2 ^ 15 % 2 ^ 32)) (rs2 * 2 ^ 20 % 2 ^ 32))
    (f7 * 2 ^ 25 % 2 ^ 32)) opc rd f3 rs1 rs2 f7
shifted-fields opc rd f3 rs1 rs2 f7 a b c d e f =
    let p : rd * 2 ^ 7 % 2 ^ 32 ≡ rd * 2 ^ 7 = omega arith in
    let q : f3 * 2 ^ 12 % 2 ^ 32 ≡ f3 * 2 ^ 12 = omega arith in
    let r : rs1 * 2 ^ 15 % 2 ^ 32 ≡ rs1 * 2 ^ 15 = omega arith in
    let s : rs2 * 2 ^ 20 % 2 ^ 32 ≡ rs2 * 2 ^ 20 = omega arith in
    let t : f7 * 2 ^ 25 % 2 ^ 32 ≡ f7 * 2 ^ 25 = omega arith in
    rw (p, q, r, s, t) (sum-fields opc rd f3 rs1 rs2 f7 _ a b c d e f (or-fields opc rd f3 rs1 rs2 f7 a b c d e))

-- the unsigned immediates by the six fields
pub high12-fields : (w : ℕ) → w < 2 ^ 32 → high12 w ≡ rs2_of w + funct7 w * 2 ^ 5
unfolding high12 rs2_of funct7
high12-fields w h = omega arith

pub imm_u-fields : (w : ℕ) → w < 2 ^ 32 → imm_u w ≡ funct3 w + rs1_of w * 2 ^ 3 + rs2_of w * 2 ^ 8 + funct7 w * 2 ^ 13
unfolding imm_u funct3 rs1_of rs2_of funct7
imm_u-fields w h = omega arith

-- equal numbers have equal readings
signed_below-ap : (half m n : ℕ) → m ≡ n → signed_below half m ≡ signed_below half n
signed_below-ap half m n e = ap (signed_below half) e

-- the signed immediates by the six fields
imm_i-fields : (w : ℕ) → imm_i w ≡ signed_below (2 ^ 11) (rs2_of w + funct7 w * 2 ^ 5)
unfolding imm_i rs2_of funct7
imm_i-fields w = signed_below-ap (2 ^ 11) (bits 31 20 w) (bits 24 20 w + bits 31 25 w * 2 ^ 5) (omega arith)

imm_s-fields : (w : ℕ) → imm_s w ≡ signed_below (2 ^ 11) (rd_of w + funct7 w * 2 ^ 5)
unfolding imm_s rd_of funct7
imm_s-fields w = signed_below-ap (2 ^ 11) (bits_s w) (bits 11 7 w + bits 31 25 w * 2 ^ 5) (omega arith)

imm_b-fields : (w : ℕ) → imm_b w ≡ signed_below (2 ^ 12) (funct7 w / 2 ^ 6 * 2 ^ 12 + rd_of w % 2 * 2 ^ 11 + funct7 w % 2 ^ 6 * 2 ^ 5 + rd_of w / 2 * 2)
unfolding imm_b rd_of funct7
imm_b-fields w = signed_below-ap (2 ^ 12) (bits_b w) (bits 31 25 w / 2 ^ 6 * 2 ^ 12 + bits 11 7 w % 2 * 2 ^ 11 + bits 31 25 w % 2 ^ 6 * 2 ^ 5 + bits 11 7 w / 2
    * 2) (omega arith)

imm_j-fields : (w : ℕ) → imm_j w ≡ signed_below (2 ^ 20) (funct7 w / 2 ^ 6 * 2 ^ 20 + (funct3 w + rs1_of w * 2 ^ 3) * 2 ^ 12 + rs2_of w % 2 * 2 ^ 11 + funct7 w
    % 2 ^ 6 * 2 ^ 5 + rs2_of w / 2 * 2)
unfolding imm_j funct7 funct3 rs1_of rs2_of
imm_j-fields w = signed_below-ap (2 ^ 20) (bits_j w) (bits 31 25 w / 2 ^ 6 * 2 ^ 20 + (bits 14 12 w + bits 19 15 w * 2 ^ 3) * 2 ^ 12 + bits 24 20 w % 2 * 2 ^ 11
    + bits 31 25 w % 2 ^ 6 * 2 ^ 5 + bits 24 20 w / 2 * 2) (omega arith)

-- the signed reading of the low bits of a number in range is the number
signed_12 : (z : ℤ) → IsWithin (2 ^ 11) z → signed_below (2 ^ 11) (cast_unsigned w32 z % 2 ^ 12) ≡ z
signed_12 (pos n) h = grind (arith, ints, nat_tests)
signed_12 (negsuc n) h = grind (arith, ints, nat_tests)

signed_13 : (z : ℤ) → IsWithin (2 ^ 12) z → signed_below (2 ^ 12) (cast_unsigned w32 z % 2 ^ 13) ≡ z
signed_13 (pos n) h = grind (arith, ints, nat_tests)
signed_13 (negsuc n) h = grind (arith, ints, nat_tests)

signed_21 : (z : ℤ) → IsWithin (2 ^ 20) z → signed_below (2 ^ 20) (cast_unsigned w32 z % 2 ^ 21) ≡ z
signed_21 (pos n) h = grind (arith, ints, nat_tests)
signed_21 (negsuc n) h = grind (arith, ints, nat_tests)

-- a number in range has the bits that its cast has
recast : (half bs : ℕ) (imm : ℤ) → IsWithin half imm → half ≤ 2 ^ 20 → bs ≡ cast_unsigned w32 (cast_signed w32 (cast_unsigned w32 imm)) →
    bs ≡ cast_unsigned w32 imm
recast half bs imm h k e = let f : FitsSigned w32 imm = omega (arith, ints) in e ∙ ap (cast_unsigned w32) (to_z-of_z w32 imm f)

-- an even number in range has a cast whose lowest bit is 0
even_cast : (imm : ℤ) → IsWithin (2 ^ 20) imm → IsEven imm → cast_unsigned w32 imm % 2 ≡ 0
even_cast (pos n) h e = omega arith
even_cast (negsuc n) h e = omega (arith, ints)

-- a signed immediate whose bits are put into their fields is read back
pub imm_i-packed : (w bs : ℕ) (imm : ℤ) → IsWithin (2 ^ 11) imm → bs ≡ cast_unsigned w32 (cast_signed w32 (cast_unsigned w32 imm)) →
    rs2_of w ≡ bit_and bs 31 → funct7 w ≡ bit_and (bs / 2 ^ 5) 127 → imm_i w ≡ imm
imm_i-packed w bs imm r b p q =
    let n : bs ≡ cast_unsigned w32 imm = recast (2 ^ 11) bs imm r (omega arith) b in
    let e : rs2_of w + funct7 w * 2 ^ 5 ≡ cast_unsigned w32 imm % 2 ^ 12 = omega (arith, mask_5 bs, mask_7 (bs / 2 ^ 5)) in
    imm_i-fields w ∙ signed_below-ap (2 ^ 11) _ _ e ∙ signed_12 imm r

pub imm_s-packed : (w bs : ℕ) (imm : ℤ) → IsWithin (2 ^ 11) imm → bs ≡ cast_unsigned w32 (cast_signed w32 (cast_unsigned w32 imm)) →
    rd_of w ≡ bit_and bs 31 → funct7 w ≡ bit_and (bs / 2 ^ 5) 127 → imm_s w ≡ imm
imm_s-packed w bs imm r b p q =
    let n : bs ≡ cast_unsigned w32 imm = recast (2 ^ 11) bs imm r (omega arith) b in
    let e : rd_of w + funct7 w * 2 ^ 5 ≡ cast_unsigned w32 imm % 2 ^ 12 = omega (arith, mask_5 bs, mask_7 (bs / 2 ^ 5)) in
    imm_s-fields w ∙ signed_below-ap (2 ^ 11) _ _ e ∙ signed_12 imm r

pub imm_b-packed : (w bs : ℕ) (imm : ℤ) → IsWithin (2 ^ 12) imm → IsEven imm → bs ≡ cast_unsigned w32 (cast_signed w32 (cast_unsigned w32 imm)) →
    rd_of w ≡ bit_and (bs / 2) 15 * 2 + bit_and (bs / 2 ^ 11) 1 → funct7 w ≡ bit_and (bs / 2 ^ 12) 1 * 2 ^ 6 + bit_and (bs / 2 ^ 5) 63 → imm_b w ≡ imm
imm_b-packed w bs imm r v b p q =
    let n : bs ≡ cast_unsigned w32 imm = recast (2 ^ 12) bs imm r (omega arith) b in
    let z : cast_unsigned w32 imm % 2 ≡ 0 = even_cast imm (omega (arith, ints), omega (arith, ints)) v in
    let e : funct7 w / 2 ^ 6 * 2 ^ 12 + rd_of w % 2 * 2 ^ 11 + funct7 w % 2 ^ 6 * 2 ^ 5 + rd_of w / 2 * 2 ≡ cast_unsigned w32 imm % 2 ^ 13 =
    omega (arith, mask_4 (bs / 2), mask_1 (bs / 2 ^ 11), mask_1 (bs / 2 ^ 12), mask_6 (bs / 2 ^ 5)) in
    imm_b-fields w ∙ signed_below-ap (2 ^ 12) _ _ e ∙ signed_13 imm r

pub imm_j-packed : (w bs : ℕ) (imm : ℤ) → IsWithin (2 ^ 20) imm → IsEven imm → bs ≡ cast_unsigned w32 (cast_signed w32 (cast_unsigned w32 imm)) →
    funct3 w ≡ bit_and (bs / 2 ^ 12) 7 → rs1_of w ≡ bit_and (bs / 2 ^ 15) 31 → rs2_of w ≡ bit_and (bs / 2) 15 * 2 + bit_and (bs / 2 ^ 11) 1 →
    funct7 w ≡ bit_and (bs / 2 ^ 20) 1 * 2 ^ 6 + bit_and (bs / 2 ^ 5) 63 → imm_j w ≡ imm
imm_j-packed w bs imm r v b p q x y =
    let n : bs ≡ cast_unsigned w32 imm = recast (2 ^ 20) bs imm r (omega arith) b in
    let z : cast_unsigned w32 imm % 2 ≡ 0 = even_cast imm r v in
    let e : funct7 w / 2 ^ 6 * 2 ^ 20 + (funct3 w + rs1_of w * 2 ^ 3) * 2 ^ 12 + rs2_of w % 2 * 2 ^ 11 + funct7 w % 2 ^ 6 * 2 ^ 5 + rs2_of w / 2 * 2
    ≡ cast_unsigned w32 imm % 2 ^ 21 =
    omega (arith, mask_3 (bs / 2 ^ 12), mask_5 (bs / 2 ^ 15), mask_4 (bs / 2), mask_1 (bs / 2 ^ 11), mask_1 (bs / 2 ^ 20), mask_6 (bs / 2 ^ 5)) in
    imm_j-fields w ∙ signed_below-ap (2 ^ 20) _ _ e ∙ signed_21 imm r

-- for the formats with unsigned immediates
pub ruleset packing = (high12-fields, imm_u-fields, mask_3, mask_5, mask_7)
