-- Operands that were written are read back, each in its range.
use Rattle.std.proofs.Common.{◌≡◌, ℕ, ◌-◌, ◌^◌, ◌<◌, ◌≤◌, true, List, [], ◌∷◌, ◌++◌, length, drop, refl, ◌∙◌, ap, arith, Some, Ok, ℤ, pos, negsuc, ◌≤ℤ◌, ◌<ℤ◌, append_assoc, length-append, lit≤}
use Rattle.std.specs.Prelude.{codes, int_le}
use Rattle.std.specs.Int.RustNames.{unsigned_abs}
use Rattle.std.specs.Fmt.{signed_decimal}
use Rattle.std.specs.List.{position_or_len, before_first}
use Rattle.std.proofs.Math.Seq.{drop-append_seam, take-append_seam}
use Rattle.std.proofs.lemmas.Int.{ints}
use Rattle.std.proofs.lemmas.Bool.Decides.{nat_tests}
use Rattle.std.proofs.lemmas.List.Folds.{list_all-append}
use Rattle.rv_inst.specs.Ranges.{IsWithin, IsAmount, IsImmediate}
use Rattle.rv_inst.specs.declared.instruction.ImmOp.{ImmOp}
use Rattle.rv_inst.specs.declared.instruction.ImmOp.TheVariants as immop
use Rattle.rv_text.specs.declared.text_err.TextErr.TheVariants.{BadRegister}
use Rattle.rv_text.specs.Pieces.{trimmed}
use Rattle.rv_text.specs.Numbers.{number_of}
use Rattle.texts.specs.Answers.{and_then, needed}
use Rattle.rv_text.specs.Fields.{register_in_text, number_operand, immediate_in, field_below, immediate_of, is_open, before_close, enclosed, offset_in, base_in}
use Rattle.rv_text.specs.Writing.{hexadecimal, register_text}
use Rattle.rv_text.proofs.Solid.{is_solid, IsSolid, trimmed-solid, position_at_seam}
use Rattle.rv_text.proofs.Written.{number_of-signed, number_of-upper, register_of-text, register_solid, signed_solid, signed_no_open}

-- a register
pub register_in-text : (r : ℕ) → r < 32 → register_in_text (register_text r) ≡ Ok r
unfolding register_in_text
register_in-text r h = ap (needed BadRegister) (register_of-text r h)

-- a number from the minimum to the maximum
record IsIn (least greatest z : ℤ) : Type 0 where
  low : int_le least z ≡ true
  high : int_le z greatest ≡ true
  small : unsigned_abs z < 2 ^ 32

number_in-found : (least greatest z : ℤ) (text : List ℕ) → number_of text ≡ Some z → IsIn least greatest z → number_operand least greatest text ≡ Ok z
unfolding number_operand
number_in-found least greatest z text found h = rw (found, h.low, h.high) refl

pos_lt : (n k : ℕ) → pos n <ℤ pos k → n < k
pos_lt n k h = omega (arith, ints)

neg_le : (n k : ℕ) → negsuc k ≤ℤ negsuc n → n ≤ k
neg_le n k h = omega (arith, ints)

not_below : (n : ℕ) → pos 0 ≤ℤ negsuc n → ⊥
not_below n h = omega (arith, ints)

-- twelve bits
in_twelve : (z : ℤ) → IsWithin (2 ^ 11) z → IsIn (negsuc 2047) (pos 2047) z
in_twelve (pos n) h =
    let below = pos_lt n 2048 h.1 in
    record { low = refl; high = grind (arith, nat_tests); small = omega arith }
in_twelve (negsuc n) h =
    let above = neg_le n 2047 h.0 in
    record { low = grind (arith, nat_tests); high = refl; small = omega arith }

in_amount : (z : ℤ) → IsAmount z → IsIn (pos 0) (pos 31) z
in_amount (pos n) h =
    let below = pos_lt n 32 h.1 in
    record { low = grind (arith, nat_tests); high = grind (arith, nat_tests); small = omega arith }
in_amount (negsuc n) h = absurd (not_below n h.0)

in_field : (limit n : ℕ) → n < limit → limit ≤ 2 ^ 32 → IsIn (pos 0) (pos (limit - 1)) (pos n)
in_field limit n below fits =
    record { low = grind (arith, nat_tests); high = grind (arith, nat_tests); small = omega arith }

pub immediate_in-signed : (z : ℤ) → IsWithin (2 ^ 11) z → immediate_in (signed_decimal z) ≡ Ok z
immediate_in-signed z h =
    let inside = in_twelve z h in
    number_in-found _ _ z (signed_decimal z) (number_of-signed z inside.small) inside

amount-signed : (z : ℤ) → IsAmount z → number_operand (pos 0) (pos 31) (signed_decimal z) ≡ Ok z
amount-signed z h =
    let inside = in_amount z h in
    number_in-found _ _ z (signed_decimal z) (number_of-signed z inside.small) inside

pub immediate_of-signed : (op : ImmOp) (z : ℤ) → IsImmediate op z → immediate_of op (signed_decimal z) ≡ Ok z
unfolding immediate_of
immediate_of-signed immop.Sll z h = amount-signed z h
immediate_of-signed immop.Srl z h = amount-signed z h
immediate_of-signed immop.Sra z h = amount-signed z h
immediate_of-signed immop.Add z h = immediate_in-signed z h
immediate_of-signed immop.Slt z h = immediate_in-signed z h
immediate_of-signed immop.Sltu z h = immediate_in-signed z h
immediate_of-signed immop.Xor z h = immediate_in-signed z h
immediate_of-signed immop.Or z h = immediate_in-signed z h
immediate_of-signed immop.And z h = immediate_in-signed z h

immediate_small : (op : ImmOp) (z : ℤ) → IsImmediate op z → unsigned_abs z < 2 ^ 32
immediate_small immop.Sll z h = (in_amount z h).small
immediate_small immop.Srl z h = (in_amount z h).small
immediate_small immop.Sra z h = (in_amount z h).small
immediate_small immop.Add z h = (in_twelve z h).small
immediate_small immop.Slt z h = (in_twelve z h).small
immediate_small immop.Sltu z h = (in_twelve z h).small
immediate_small immop.Xor z h = (in_twelve z h).small
immediate_small immop.Or z h = (in_twelve z h).small
immediate_small immop.And z h = (in_twelve z h).small

pub immediate_solid : (op : ImmOp) (z : ℤ) → IsImmediate op z → IsSolid (signed_decimal z)
immediate_solid op z h = signed_solid z (immediate_small op z h)

-- a field
pub field_below-upper : (n : ℕ) → n < 2 ^ 20 → field_below (2 ^ 20) (codes "0x" ++ hexadecimal n) ≡ Ok n
field_below-upper n h =
    ap (λ found. and_then found (λ z. Ok (unsigned_abs z)))
    (number_in-found (pos 0) (pos (2 ^ 20 - 1)) (pos n) _ (number_of-upper n (omega arith)) (in_field (2 ^ 20) n h (lit≤ tt)))

pub field_below-set : (n : ℕ) → n < 2 ^ 12 → field_below (2 ^ 12) (signed_decimal (pos n)) ≡ Ok n
field_below-set n h =
    ap (λ found. and_then found (λ z. Ok (unsigned_abs z)))
    (number_in-found (pos 0) (pos (2 ^ 12 - 1)) (pos n) _ (number_of-signed (pos n) (omega arith)) (in_field (2 ^ 12) n h (lit≤ tt)))

-- the text of an address
abbrev pub address_text : ℤ → ℕ → List ℕ
address_text z r = signed_decimal z ++ 40 ∷ (register_text r ++ 41 ∷ [])

pub address_is : (z : ℤ) (r : ℕ) → signed_decimal z ++ codes "(" ++ register_text r ++ codes ")" ≡ address_text z r
address_is z r = simp append_assoc

open_at : (z : ℤ) (r : ℕ) → unsigned_abs z < 2 ^ 32 → position_or_len is_open (address_text z r) ≡ length (signed_decimal z)
open_at z r h = position_at_seam is_open (signed_decimal z) 40 (register_text r ++ 41 ∷ []) (signed_no_open z h) refl

pub offset_in-address : (z : ℤ) (r : ℕ) → IsWithin (2 ^ 11) z → offset_in (address_text z r) ≡ Ok z
unfolding offset_in
offset_in-address z r h =
    let small = (in_twelve z h).small in
    let front : before_first is_open (address_text z r) ≡ signed_decimal z =
    rw (open_at z r small) (take-append_seam (signed_decimal z) (40 ∷ (register_text r ++ 41 ∷ []))) in
    ap (λ text. immediate_in (trimmed text)) front
    ∙ ap immediate_in (trimmed-solid (signed_decimal z) (signed_solid z small))
    ∙ immediate_in-signed z h

close : (inner : List ℕ) → before_close (inner ++ 41 ∷ []) ≡ Some inner
close inner =
    let at : length (inner ++ 41 ∷ []) - 1 ≡ length inner = omega (arith, length-append inner (41 ∷ [])) in
    rw (at, drop-append_seam inner (41 ∷ []), take-append_seam inner (41 ∷ [])) refl

pub base_in-address : (z : ℤ) (r : ℕ) → IsWithin (2 ^ 11) z → r < 32 → base_in (address_text z r) ≡ Ok r
unfolding base_in
base_in-address z r h low =
    let small = (in_twelve z h).small in
    let after : drop (position_or_len is_open (address_text z r)) (address_text z r) ≡ 40 ∷ (register_text r ++ 41 ∷ []) =
    rw (open_at z r small) (drop-append_seam (signed_decimal z) (40 ∷ (register_text r ++ 41 ∷ []))) in
    ap (λ text. and_then (needed BadRegister (enclosed text)) (λ inner. register_in_text (trimmed inner))) after
    ∙ ap (λ found. and_then (needed BadRegister found) (λ inner. register_in_text (trimmed inner))) (close (register_text r))
    ∙ ap register_in_text (trimmed-solid (register_text r) (register_solid r low))
    ∙ register_in-text r low

pub address_solid : (z : ℤ) (r : ℕ) → IsWithin (2 ^ 11) z → r < 32 → IsSolid (address_text z r)
address_solid z r h low =
    let number = signed_solid z (in_twelve z h).small in
    let register = register_solid r low in
    let some = number.some in
    record {
      some = omega (arith, length-append (signed_decimal z) (40 ∷ (register_text r ++ 41 ∷ [])));
      bytes = rw (
        list_all-append is_solid (signed_decimal z) (40 ∷ (register_text r ++ 41 ∷ [])),
        number.bytes,
        list_all-append is_solid (register_text r) (41 ∷ []),
        register.bytes,
      ) refl;
    }
