-- Reading back what was written returns the instruction.
use Rattle.std.proofs.Common.{◌≡◌, ℕ, ◌+◌, ◌-◌, ◌%◌, ◌^◌, ◌<◌, ◌≤◌, ◌≤ℤ◌, ◌<ℤ◌, Bool, true, false, List, [], ◌∷◌, ◌++◌, refl, ◌∙◌, ap, arith, Ok, ℤ, pos, negsuc, lit<, lit≤}
use Rattle.std.specs.Prelude.{codes, nat_eq, ◌==◌, ◌&&◌, if◌then◌else◌, Result}
use Rattle.std.specs.Int.{w32}
use Rattle.std.specs.Int.RustNames.{FitsSigned}
use Rattle.std.specs.Fmt.{signed_decimal}
use Rattle.std.proofs.Math.Facts.{to_z-of_z, Fits-of_z}
use Rattle.std.proofs.lemmas.Int.{ints}
use Rattle.std.proofs.lemmas.Bool.{false≢true}
use Rattle.std.proofs.lemmas.Bool.Decides.{nat_tests}
use Rattle.rv_inst.specs.Words.{word_sum, signed_word}
use Rattle.rv_inst.specs.Ranges.{Fits, IsWithin, IsEven, IsRegister, IsImmediate}
use Rattle.rv_inst.specs.declared.instruction.Cond.{Cond}
use Rattle.rv_inst.specs.declared.instruction.ImmOp.{ImmOp}
use Rattle.rv_inst.specs.declared.instruction.Instr.{Instr}
use Rattle.rv_inst.specs.declared.instruction.Instr.TheVariants as instr
use Rattle.rv_text.specs.declared.mnemonic.Mnemonic.{Mnemonic}
use Rattle.rv_text.specs.declared.mnemonic.Mnemonic.TheVariants.{Lui, Auipc, Jal, Jalr, Branch, Load, Store, OpImm, Op, Fence, Ecall, Ebreak, FenceI, Mul}
use Rattle.rv_text.specs.declared.operands.Operand.{Operand}
use Rattle.rv_text.specs.declared.operands.Operand.TheVariants.{Register, Number, Address}
use Rattle.rv_text.specs.declared.statement.Jump.{Jump}
use Rattle.rv_text.specs.declared.statement.Jump.TheVariants as jump
use Rattle.rv_text.specs.declared.text_err.TextErr.{TextErr}
use Rattle.rv_text.specs.Names.{mnemonic_name}
use Rattle.rv_text.specs.Pieces.{operand_count}
use Rattle.texts.specs.Answers.{and_then}
use Rattle.texts.specs.Hexadecimal.{hex8}
use Rattle.rv_text.specs.Writing.{hexadecimal, register_text, operand_text, operands_listed, text_of}
use Rattle.rv_text.specs.Reading.{distance_of, is_distance, aimed, LineReading, AimedAt, aimed_at, placed, takes_operands, upper_form, address_form, immediate_form, register_form, set_form, fence_form, whole, jump_form, branch_form, operands_read, statement_by, statement_of, read_text}
use Rattle.rv_text.proofs.Solid.{IsSolid, IsCut, cut_alone, cut_before, two_operands, three_operands, no_operands, two_end, three_end}
use Rattle.rv_text.proofs.Named.{all_named}
use Rattle.rv_text.proofs.Written.{number_of-target, register_solid, target_solid, upper_solid, signed_solid}
use Rattle.rv_text.proofs.Parsed.{register_in-text, immediate_of-signed, immediate_solid, field_below-upper, field_below-set, address_text, address_is, offset_in-address, base_in-address, address_solid}

-- a name, and the right number of operands after it
statement_cut : (mnemonic : Mnemonic) (text after : List ℕ) → IsCut text (mnemonic_name mnemonic) after
    → takes_operands mnemonic (operand_count after) ≡ true → statement_of text ≡ operands_read mnemonic after
unfolding statement_of statement_by
statement_cut mnemonic text after cut right =
    rw (cut.name_is, (all_named mnemonic).found, cut.after_is, right) refl

-- a name without operands
statement_alone : (mnemonic : Mnemonic) → takes_operands mnemonic 0 ≡ true → statement_of (mnemonic_name mnemonic ++ []) ≡ operands_read mnemonic []
statement_alone mnemonic right =
    statement_cut mnemonic (mnemonic_name mnemonic ++ []) [] (cut_alone (mnemonic_name mnemonic) (all_named mnemonic).word)
    (ap (takes_operands mnemonic) no_operands ∙ right)

-- the text after a name that has two operands
abbrev two_text : List ℕ → List ℕ → List ℕ
two_text x y = 32 ∷ (x ++ 44 ∷ 32 ∷ (y ++ []))

abbrev three_text : List ℕ → List ℕ → List ℕ → List ℕ
three_text x y z = 32 ∷ (x ++ 44 ∷ 32 ∷ (y ++ 44 ∷ 32 ∷ (z ++ [])))

statement_two : (mnemonic : Mnemonic) (x y : List ℕ) → IsSolid x → IsSolid y → takes_operands mnemonic 2 ≡ true
    → statement_of (mnemonic_name mnemonic ++ two_text x y) ≡ operands_read mnemonic (two_text x y)
statement_two mnemonic x y hx hy right =
    statement_cut mnemonic (mnemonic_name mnemonic ++ two_text x y) (two_text x y)
    (cut_before (mnemonic_name mnemonic) (x ++ 44 ∷ 32 ∷ (y ++ [])) (all_named mnemonic).word (two_end x y hx hy))
    (ap (takes_operands mnemonic) (two_operands x y hx hy).count ∙ right)

statement_three : (mnemonic : Mnemonic) (x y z : List ℕ) → IsSolid x → IsSolid y → IsSolid z → takes_operands mnemonic 3 ≡ true
    → statement_of (mnemonic_name mnemonic ++ three_text x y z) ≡ operands_read mnemonic (three_text x y z)
statement_three mnemonic x y z hx hy hz right =
    statement_cut mnemonic (mnemonic_name mnemonic ++ three_text x y z) (three_text x y z)
    (cut_before (mnemonic_name mnemonic) (x ++ 44 ∷ 32 ∷ (y ++ 44 ∷ 32 ∷ (z ++ []))) (all_named mnemonic).word (three_end x y z hx hy hz))
    (ap (takes_operands mnemonic) (three_operands x y z hx hy hz).count ∙ right)

-- the forms
upper_read : (rd imm : ℕ) → IsRegister rd → imm < 2 ^ 20
    → upper_form (two_text (register_text rd) (codes "0x" ++ hexadecimal imm)) ≡ Ok (rd, imm)
unfolding upper_form
upper_read rd imm r h =
    let two = two_operands (register_text rd) (codes "0x" ++ hexadecimal imm) (register_solid rd r) (upper_solid imm) in
    rw (two.first_is, register_in-text rd r, two.second_is, field_below-upper imm h) refl

address_read : (first base : ℕ) (imm : ℤ) → IsRegister first → IsRegister base → IsWithin (2 ^ 11) imm
    → address_form (two_text (register_text first) (address_text imm base)) ≡ Ok (first, imm, base)
unfolding address_form
address_read first base imm r b h =
    let two = two_operands (register_text first) (address_text imm base) (register_solid first r) (address_solid imm base h b) in
    rw (two.first_is, register_in-text first r, two.second_is, offset_in-address imm base h, base_in-address imm base h b) refl

immediate_read : (op : ImmOp) (rd rs1 : ℕ) (imm : ℤ) → IsRegister rd → IsRegister rs1 → IsImmediate op imm
    → immediate_form op (three_text (register_text rd) (register_text rs1) (signed_decimal imm)) ≡ Ok (rd, rs1, imm)
unfolding immediate_form
immediate_read op rd rs1 imm r s h =
    let three = three_operands (register_text rd) (register_text rs1) (signed_decimal imm) (register_solid rd r) (register_solid rs1 s)
    (immediate_solid op imm h) in
    rw (three.first_is, register_in-text rd r, three.second_is, register_in-text rs1 s, three.third_is, immediate_of-signed op imm h) refl

register_read : (rd rs1 rs2 : ℕ) → IsRegister rd → IsRegister rs1 → IsRegister rs2
    → register_form (three_text (register_text rd) (register_text rs1) (register_text rs2)) ≡ Ok (rd, rs1, rs2)
unfolding register_form
register_read rd rs1 rs2 r s t =
    let three = three_operands (register_text rd) (register_text rs1) (register_text rs2) (register_solid rd r) (register_solid rs1 s) (register_solid rs2 t) in
    rw (three.first_is, register_in-text rd r, three.second_is, register_in-text rs1 s, three.third_is, register_in-text rs2 t) refl

set_solid : (set : ℕ) → set < 2 ^ 12 → IsSolid (signed_decimal (pos set))
set_solid set h = signed_solid (pos set) (omega arith)

set_read : (plain rd rs1 set : ℕ) → IsRegister rd → IsRegister rs1 → set < 2 ^ 12
    → fence_form plain (three_text (register_text rd) (register_text rs1) (signed_decimal (pos set))) ≡ Ok (rd, rs1, set)
unfolding fence_form set_form
set_read plain rd rs1 set r s h =
    let three = three_operands (register_text rd) (register_text rs1) (signed_decimal (pos set)) (register_solid rd r) (register_solid rs1 s)
    (set_solid set h) in
    rw (three.count, three.first_is, register_in-text rd r, three.second_is, register_in-text rs1 s, three.third_is, field_below-set set h) refl

jump_read : (rd target : ℕ) → IsRegister rd
    → jump_form (two_text (register_text rd) (codes "0x" ++ hex8 target)) ≡ Ok (AimedAt (jump.Link rd) (codes "0x" ++ hex8 target))
unfolding jump_form
jump_read rd target r =
    let two = two_operands (register_text rd) (codes "0x" ++ hex8 target) (register_solid rd r) (target_solid target) in
    rw (two.first_is, register_in-text rd r, two.second_is) refl

branch_read : (c : Cond) (rs1 rs2 target : ℕ) → IsRegister rs1 → IsRegister rs2
    → branch_form c (three_text (register_text rs1) (register_text rs2) (codes "0x" ++ hex8 target))
    ≡ Ok (AimedAt (jump.Branch c rs1 rs2) (codes "0x" ++ hex8 target))
unfolding branch_form
branch_read c rs1 rs2 target r s =
    let three = three_operands (register_text rs1) (register_text rs2) (codes "0x" ++ hex8 target) (register_solid rs1 r) (register_solid rs2 s)
    (target_solid target) in
    rw (three.first_is, register_in-text rs1 r, three.second_is, register_in-text rs2 s, three.third_is) refl

-- the target minus the address is the distance
word_back : (pc w : ℕ) → pc < 2 ^ 32 → w < 2 ^ 32 → ((pc + w) % 2 ^ 32 % 2 ^ 32 + (2 ^ 32 - pc)) % 2 ^ 32 ≡ w
word_back pc w small below = omega arith

distance_back : (pc : ℕ) (imm : ℤ) → pc < 2 ^ 32 → FitsSigned w32 imm → distance_of (pos (word_sum pc (signed_word imm))) pc ≡ imm
unfolding distance_of
distance_back pc imm small fits =
    rw (word_back pc (signed_word imm) small (Fits-of_z fits).fits) (to_z-of_z fits)

-- a distance that fits its field
record IsFar (half : ℕ) (imm : ℤ) : Type 0 where
  test : is_distance half imm ≡ true
  fits : FitsSigned w32 imm

pos_lt : (n k : ℕ) → pos n <ℤ pos k → n < k
pos_lt n k h = omega (arith, ints)

neg_le : (n k : ℕ) → negsuc k ≤ℤ negsuc n → n ≤ k
neg_le n k h = omega (arith, ints)

far_test : (half : ℕ) (imm : ℤ) → negsuc (half - 1) ≤ℤ imm → imm <ℤ pos half → IsEven imm → 0 < half → is_distance half imm ≡ true
unfolding is_distance
far_test half (pos n) low high even some =
    let below = pos_lt n half high in
    rw even (grind (arith, nat_tests))
far_test half (negsuc n) low high even some =
    let above = neg_le n (half - 1) low in
    rw even (grind (arith, nat_tests))

far : (half : ℕ) (imm : ℤ) → IsWithin half imm → IsEven imm → 0 < half → half ≤ 2 ^ 20 → IsFar half imm
far half imm (low, high) even some small = record {
  test = far_test half imm low high even some;
  fits = omega (arith, ints);
}

target_back : (pc : ℕ) (imm : ℤ) (half : ℕ) → pc < 2 ^ 32 → IsFar half imm
    → (jump : Jump) → aimed_at jump (codes "0x" ++ hex8 (word_sum pc (signed_word imm))) pc ≡ aimed jump imm
unfolding aimed_at
target_back pc imm half small h jump =
    rw (number_of-target (word_sum pc (signed_word imm)) (omega arith), distance_back pc imm small h.fits) refl

link_back : (rd : ℕ) (imm : ℤ) → IsFar (2 ^ 20) imm → aimed (jump.Link rd) imm ≡ Ok (instr.Jal rd imm)
unfolding aimed
link_back rd imm h = rw h.test refl

branch_back : (c : Cond) (rs1 rs2 : ℕ) (imm : ℤ) → IsFar (2 ^ 12) imm → aimed (jump.Branch c rs1 rs2) imm ≡ Ok (instr.Branch c rs1 rs2 imm)
unfolding aimed
branch_back c rs1 rs2 imm h = rw h.test refl

-- what a text says, and its position
read_as : (text : List ℕ) (pc : ℕ) (found : Result LineReading TextErr) → statement_of text ≡ found → read_text text pc ≡ and_then found (placed pc)
unfolding read_text
read_as text pc found e = ap (λ f. and_then f (placed pc)) e

-- an instruction of the form with an address, as it is written
address_written : (mnemonic : Mnemonic) (first base : ℕ) (imm : ℤ)
    → mnemonic_name mnemonic ++ operands_listed (codes " ") (Register first ∷ Address imm base ∷ [])
    ≡ mnemonic_name mnemonic ++ two_text (register_text first) (address_text imm base)
unfolding operands_listed operand_text
address_written mnemonic first base imm =
    ap (λ address. mnemonic_name mnemonic ++ two_text (register_text first) address) (address_is imm base)

-- a fence, as it is written and read
record IsFenced (mnemonic : Mnemonic) (plain rd rs1 set : ℕ) (operands : List Operand) : Type 0 where
  after : List ℕ
  told : statement_of (mnemonic_name mnemonic ++ operands_listed (codes " ") operands) ≡ operands_read mnemonic after
  form : fence_form plain after ≡ Ok (rd, rs1, set)

abbrev found : ℕ → ℕ → ℕ → Result (ℕ × ℕ × ℕ) TextErr
found a b c = Ok (a, b, c)

same_fields : (a b c x y z : ℕ) → a ≡ x → b ≡ y → c ≡ z → found a b c ≡ found x y z
same_fields a b c x y z p q r = cc

plain_read : (plain : ℕ) → fence_form plain [] ≡ Ok (0, 0, plain)
unfolding fence_form
plain_read plain = rw no_operands refl

all_true : (a b c : Bool) → (a && b && c) ≡ true → (a ≡ true) × (b ≡ true) × (c ≡ true)
all_true true true c h = (refl, refl, h)
all_true true false c h = absurd (false≢true h)
all_true false b c h = absurd (false≢true h)

is_plain : (m n : ℕ) → nat_eq m n ≡ true → n ≡ m
is_plain m n h = grind (arith, nat_tests)

fenced : (mnemonic : Mnemonic) (plain rd rs1 set : ℕ) (b : Bool) → (rd == 0 && rs1 == 0 && set == plain) ≡ b
    → takes_operands mnemonic 0 ≡ true → takes_operands mnemonic 3 ≡ true → IsRegister rd → IsRegister rs1 → set < 2 ^ 12
    → IsFenced mnemonic plain rd rs1 set (if b then [] else Register rd ∷ Register rs1 ∷ Number (pos set) ∷ [])
unfolding operands_listed operand_text
fenced mnemonic plain rd rs1 set true e none three r s h =
    let tests = all_true (nat_eq rd 0) (nat_eq rs1 0) (nat_eq set plain) e in
    record {
      after = [];
      told = statement_alone mnemonic none;
      form = plain_read plain ∙ same_fields 0 0 plain rd rs1 set (is_plain rd 0 tests.0) (is_plain rs1 0 tests.1) (is_plain set plain tests.2);
    }
fenced mnemonic plain rd rs1 set false e none three r s h = record {
  after = three_text (register_text rd) (register_text rs1) (signed_decimal (pos set));
  told = statement_three mnemonic _ _ _ (register_solid rd r) (register_solid rs1 s) (set_solid set h) three;
  form = set_read plain rd rs1 set r s h;
}

pub round_trip : (i : Instr) (pc : ℕ) → Fits i → pc < 2 ^ 32 → read_text (text_of i pc) pc ≡ Ok i
unfolding text_of operands_listed operand_text operands_read takes_operands
round_trip (instr.Lui rd imm) pc (r, h) small =
    read_as _ pc _ (statement_two Lui _ _ (register_solid rd r) (upper_solid imm) refl
    ∙ ap (whole (λ (rd, imm). instr.Lui rd imm)) (upper_read rd imm r h))
round_trip (instr.Auipc rd imm) pc (r, h) small =
    read_as _ pc _ (statement_two Auipc _ _ (register_solid rd r) (upper_solid imm) refl
    ∙ ap (whole (λ (rd, imm). instr.Auipc rd imm)) (upper_read rd imm r h))
round_trip (instr.Jal rd imm) pc (r, h, even) small =
    let distance = far (2 ^ 20) imm h even (lit< tt) (lit≤ tt) in
    let target : ℕ = word_sum pc (signed_word imm) in
    read_as _ pc _ (statement_two Jal _ _ (register_solid rd r) (target_solid target) refl ∙ jump_read rd target r)
    ∙ target_back pc imm (2 ^ 20) small distance (jump.Link rd)
    ∙ link_back rd imm distance
round_trip (instr.Jalr rd rs1 imm) pc (r, s, h) small =
    read_as _ pc _ (ap statement_of (address_written Jalr rd rs1 imm)
    ∙ statement_two Jalr _ _ (register_solid rd r) (address_solid imm rs1 h s) refl
    ∙ ap (whole (λ (rd, imm, rs1). instr.Jalr rd rs1 imm)) (address_read rd rs1 imm r s h))
round_trip (instr.Branch c rs1 rs2 imm) pc (r, s, h, even) small =
    let distance = far (2 ^ 12) imm h even (lit< tt) (lit≤ tt) in
    let target : ℕ = word_sum pc (signed_word imm) in
    read_as _ pc _ (statement_three (Branch c) _ _ _ (register_solid rs1 r) (register_solid rs2 s) (target_solid target) refl
    ∙ branch_read c rs1 rs2 target r s)
    ∙ target_back pc imm (2 ^ 12) small distance (jump.Branch c rs1 rs2)
    ∙ branch_back c rs1 rs2 imm distance
round_trip (instr.Load k rd rs1 imm) pc (r, s, h) small =
    read_as _ pc _ (ap statement_of (address_written (Load k) rd rs1 imm)
    ∙ statement_two (Load k) _ _ (register_solid rd r) (address_solid imm rs1 h s) refl
    ∙ ap (whole (λ (rd, imm, rs1). instr.Load k rd rs1 imm)) (address_read rd rs1 imm r s h))
round_trip (instr.Store k rs1 rs2 imm) pc (s, t, h) small =
    read_as _ pc _ (ap statement_of (address_written (Store k) rs2 rs1 imm)
    ∙ statement_two (Store k) _ _ (register_solid rs2 t) (address_solid imm rs1 h s) refl
    ∙ ap (whole (λ (rs2, imm, rs1). instr.Store k rs1 rs2 imm)) (address_read rs2 rs1 imm t s h))
round_trip (instr.OpImm op rd rs1 imm) pc (r, s, h) small =
    read_as _ pc _ (statement_three (OpImm op) _ _ _ (register_solid rd r) (register_solid rs1 s) (immediate_solid op imm h) refl
    ∙ ap (whole (λ (rd, rs1, imm). instr.OpImm op rd rs1 imm)) (immediate_read op rd rs1 imm r s h))
round_trip (instr.Op op rd rs1 rs2) pc (r, s, t) small =
    read_as _ pc _ (statement_three (Op op) _ _ _ (register_solid rd r) (register_solid rs1 s) (register_solid rs2 t) refl
    ∙ ap (whole (λ (rd, rs1, rs2). instr.Op op rd rs1 rs2)) (register_read rd rs1 rs2 r s t))
round_trip (instr.Fence rd rs1 imm) pc (r, s, h) small =
    let fence = fenced Fence 255 rd rs1 imm (rd == 0 && rs1 == 0 && imm == 255) refl refl refl r s h in
    read_as _ pc _ (fence.told ∙ ap (whole (λ (rd, rs1, set). instr.Fence rd rs1 set)) fence.form)
round_trip instr.Ecall pc fits small = read_as _ pc _ (statement_alone Ecall refl)
round_trip instr.Ebreak pc fits small = read_as _ pc _ (statement_alone Ebreak refl)
round_trip (instr.FenceI rd rs1 imm) pc (r, s, h) small =
    let fence = fenced FenceI 0 rd rs1 imm (rd == 0 && rs1 == 0 && imm == 0) refl refl refl r s h in
    read_as _ pc _ (fence.told ∙ ap (whole (λ (rd, rs1, set). instr.FenceI rd rs1 set)) fence.form)
round_trip (instr.Mul op rd rs1 rs2) pc (r, s, t) small =
    read_as _ pc _ (statement_three (Mul op) _ _ _ (register_solid rd r) (register_solid rs1 s) (register_solid rs2 t) refl
    ∙ ap (whole (λ (rd, rs1, rs2). instr.Mul op rd rs1 rs2)) (register_read rd rs1 rs2 r s t))

pub ruleset reading_back = (round_trip)
