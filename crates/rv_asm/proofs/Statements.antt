-- The fields of an instruction that a text spells are in range.
use Rattle.std.proofs.Common.{◌≡◌, ℕ, ◌-◌, ◌<◌, ◌^◌, Bool, true, false, List, refl, subst, arith, lit<}
use Rattle.std.specs.Prelude.{ℤ, pos, negsuc, ◌≤ℤ◌, int_le, Option, Some, None, Result, Ok, Err, IfOk, length, drop, codes, nat_eq, nat_lt, ◌==◌, ◌&&◌, if◌then◌else◌}
use Rattle.std.specs.Int.RustNames.{unsigned_abs}
use Rattle.std.specs.List.{starts_with, before_first, position_or_len}
use Rattle.std.proofs.lemmas.Int.{ints}
use Rattle.std.proofs.lemmas.Bool.Decides.{nat_tests}
use Rattle.rv_inst.specs.Ranges.{Fits, IsRegister, IsWithin, IsImmediate, IsAmount}
use Rattle.rv_inst.specs.declared.instruction.Cond.{Cond}
use Rattle.rv_inst.specs.declared.instruction.ImmOp.{ImmOp}
use Rattle.rv_inst.specs.declared.instruction.ImmOp.TheVariants as immop
use Rattle.rv_inst.specs.declared.instruction.Instr.{Instr}
use Rattle.rv_inst.specs.declared.instruction.Instr.TheVariants as instr
use Rattle.rv_text.specs.declared.mnemonic.Mnemonic.{Mnemonic}
use Rattle.rv_text.specs.declared.mnemonic.Mnemonic.TheVariants.{Lui, Auipc, Jal, Jalr, Branch, Load, Store, OpImm, Op, Fence, Ecall, Ebreak, FenceI, Mul}
use Rattle.rv_text.specs.declared.statement.Jump.{Jump}
use Rattle.rv_text.specs.declared.text_err.TextErr.{TextErr}
use Rattle.rv_text.specs.declared.text_err.TextErr.TheVariants.{BadRegister, BadNumber, OutOfRange, WrongCount}
use Rattle.rv_text.specs.Pieces.{operand_at, operand_count, trimmed}
use Rattle.rv_text.specs.Numbers.{number_of, numeral}
use Rattle.rv_text.specs.Registers.{register_of, register_only, register_numbered, register_padded, usual_names}
use Rattle.rv_text.specs.Tables.{look_up}
use Rattle.texts.specs.Answers.{and_then, needed}
use Rattle.rv_text.specs.Fields.{within, register_in_text, number_operand, immediate_in, field_below, immediate_of, offset_in, base_in, enclosed, is_open}
use Rattle.rv_text.specs.Reading.{LineReading, WholeOf, AimedAt, whole, upper_form, address_form, immediate_form, register_form, set_form, fence_form, jump_form, branch_form, operands_read, takes_operands, wanted, capped_count, statement_by}
use Rattle.rv_text.proofs.Spellings.{FindsRegister, usual_names-find}
use Rattle.rv_asm.specs.Seen.{JumpFits}
use Rattle.rv_asm.proofs.Fitting.{ok_then}

-- nothing is claimed about an answer
any : {A : Type 0} (x : Result A TextErr) → IfOk x (λ a. Unit {0})
any (Ok a) = tt
any (Err e) = tt

either : (b : Bool) (x y : Option ℕ) → FindsRegister x → FindsRegister y → FindsRegister (if b then x else y)
either true x y h k = h
either false x y h k = k

small-finds : (b : Bool) (n : ℕ) → (b ≡ true → n < 32) → FindsRegister (if b then Some n else None)
small-finds true n h = h refl
small-finds false n h = tt

register_only-finds : (found : Option ℕ) → FindsRegister (register_only found)
register_only-finds None = tt
register_only-finds (Some n) = small-finds (nat_lt n 32) n (λ h. grind (arith, nat_tests))

numbered-finds : (digits : List ℕ) → FindsRegister (register_numbered digits)
unfolding register_numbered
numbered-finds digits =
    either (starts_with nat_eq digits (codes "0") && nat_lt 1 (length digits)) None (register_only (numeral 10 2 digits))
    tt (register_only-finds (numeral 10 2 digits))

padded-finds : (digits : List ℕ) → FindsRegister (register_padded digits)
unfolding register_padded
padded-finds digits =
    either (starts_with nat_eq digits (codes "0") && nat_lt 1 (length digits)) (register_numbered (drop 1 digits)) (register_numbered digits)
    (numbered-finds (drop 1 digits)) (numbered-finds digits)

register_of-finds : (word : List ℕ) → FindsRegister (register_of word)
unfolding register_of
register_of-finds word =
    either (starts_with nat_eq word (codes "x")) (register_padded (drop 1 word)) (look_up usual_names word)
    (padded-finds (drop 1 word)) (usual_names-find word)

needed-finds : (found : Option ℕ) → FindsRegister found → IfOk (needed BadRegister found) (λ r. IsRegister r)
needed-finds None h = tt
needed-finds (Some r) h = h

register_in-fits : (text : List ℕ) → IfOk (register_in_text text) (λ r. IsRegister r)
unfolding register_in_text
register_in-fits text = needed-finds (register_of text) (register_of-finds text)

abbrev Between : ℤ → ℤ → ℤ → Type 0
Between least greatest z = (least ≤ℤ z) × (z ≤ℤ greatest)

tested : (b : Bool) (least greatest z : ℤ) → (b ≡ true → Between least greatest z)
    → IfOk (if b then Ok z else Err (OutOfRange z)) (λ x. Between least greatest x)
tested true least greatest z h = h refl
tested false least greatest z h = tt

within-fits : (least greatest z : ℤ) → IfOk (within least greatest z) (λ x. Between least greatest x)
within-fits least greatest z =
    tested (int_le least z && int_le z greatest) least greatest z (λ h. (grind (arith, ints, nat_tests), grind (arith, ints, nat_tests)))

number_in-fits : (least greatest : ℤ) (text : List ℕ) → IfOk (number_operand least greatest text) (λ z. Between least greatest z)
unfolding number_operand
number_in-fits least greatest text =
    ok_then (λ z. Unit {0}) (λ z. Between least greatest z) (needed BadNumber (number_of text)) (within least greatest)
    (any (needed BadNumber (number_of text))) (λ z u. within-fits least greatest z)

weaker : {A : Type 0} (P Q : A → Type 0) (x : Result A TextErr) → IfOk x P → ((a : A) → P a → Q a) → IfOk x Q
weaker P Q (Ok a) h k = k a h
weaker P Q (Err e) h k = tt

immediate_in-fits : (text : List ℕ) → IfOk (immediate_in text) (λ z. IsWithin (2 ^ 11) z)
immediate_in-fits text = weaker (λ z. Between (negsuc 2047) (pos 2047) z) (λ z. IsWithin (2 ^ 11) z) (number_operand (negsuc 2047) (pos 2047) text)
    (number_in-fits (negsuc 2047) (pos 2047) text) (λ z h. (h.0, omega (arith, ints, h.1)))

field_below-fits : (limit : ℕ) (text : List ℕ) → 0 < limit → IfOk (field_below limit text) (λ n. n < limit)
field_below-fits limit text some =
    ok_then (λ z. Between (pos 0) (pos (limit - 1)) z) (λ n. n < limit) (number_operand (pos 0) (pos (limit - 1)) text) (λ z. Ok (unsigned_abs z))
    (number_in-fits (pos 0) (pos (limit - 1)) text) (λ z h. grind (arith, ints))

amount-fits : (text : List ℕ) → IfOk (number_operand (pos 0) (pos 31) text) (λ z. IsAmount z)
amount-fits text = weaker (λ z. Between (pos 0) (pos 31) z) (λ z. IsAmount z) (number_operand (pos 0) (pos 31) text) (number_in-fits (pos 0) (pos 31) text)
    (λ z h. (h.0, omega (arith, ints, h.1)))

immediate_of-fits : (op : ImmOp) (text : List ℕ) → IfOk (immediate_of op text) (λ z. IsImmediate op z)
unfolding immediate_of
immediate_of-fits immop.Add text = immediate_in-fits text
immediate_of-fits immop.Slt text = immediate_in-fits text
immediate_of-fits immop.Sltu text = immediate_in-fits text
immediate_of-fits immop.Xor text = immediate_in-fits text
immediate_of-fits immop.Or text = immediate_in-fits text
immediate_of-fits immop.And text = immediate_in-fits text
immediate_of-fits immop.Sll text = amount-fits text
immediate_of-fits immop.Srl text = amount-fits text
immediate_of-fits immop.Sra text = amount-fits text

offset_in-fits : (text : List ℕ) → IfOk (offset_in text) (λ z. IsWithin (2 ^ 11) z)
unfolding offset_in
offset_in-fits text = immediate_in-fits (trimmed (before_first is_open text))

base_in-fits : (text : List ℕ) → IfOk (base_in text) (λ r. IsRegister r)
unfolding base_in
base_in-fits text =
    ok_then (λ u. Unit {0}) (λ r. IsRegister r) (needed BadRegister (enclosed (drop (position_or_len is_open text) text)))
    (λ inner. register_in_text (trimmed inner))
    (any (needed BadRegister (enclosed (drop (position_or_len is_open text) text)))) (λ inner u. register_in-fits (trimmed inner))

-- the fields of what is read are in range
abbrev pub ReadingFits : LineReading → Type 0
ReadingFits (WholeOf i) = Fits i
ReadingFits (AimedAt jump target) = JumpFits jump

whole-fits : {A : Type 0} (P : A → Type 0) (make : A → Instr) (found : Result A TextErr)
    → IfOk found P → ((a : A) → P a → Fits (make a)) → IfOk (whole make found) (λ r. ReadingFits r)
whole-fits P make found h k = ok_then P (λ r. ReadingFits r) found (λ a. Ok (WholeOf (make a))) h k

abbrev UpperFits : (ℕ × ℕ) → Type 0
UpperFits (rd, imm) = IsRegister rd × (imm < 2 ^ 20)

upper-fits : (text : List ℕ) → IfOk (upper_form text) (λ p. UpperFits p)
unfolding upper_form
upper-fits text =
    ok_then (λ r. IsRegister r) (λ p. UpperFits p) (register_in_text (operand_at text 0)) (λ rd. and_then (field_below (2 ^ 20) (operand_at text 1))
    (λ imm. Ok (rd, imm))) (register_in-fits (operand_at text 0)) (λ rd h.
    ok_then (λ n. n < 2 ^ 20) (λ p. UpperFits p) (field_below (2 ^ 20) (operand_at text 1)) (λ imm. Ok (rd, imm))
    (field_below-fits (2 ^ 20) (operand_at text 1) (lit< tt)) (λ imm k. (h, k)))

abbrev AddressFits : (ℕ × ℤ × ℕ) → Type 0
AddressFits (first, imm, base) = IsRegister first × IsRegister base × IsWithin (2 ^ 11) imm

address-fits : (text : List ℕ) → IfOk (address_form text) (λ p. AddressFits p)
unfolding address_form
address-fits text =
    ok_then (λ r. IsRegister r) (λ p. AddressFits p) _ _ (register_in-fits (operand_at text 0)) (λ first h.
    ok_then (λ z. IsWithin (2 ^ 11) z) (λ p. AddressFits p) _ _ (offset_in-fits (operand_at text 1)) (λ imm k.
    ok_then (λ r. IsRegister r) (λ p. AddressFits p) _ _ (base_in-fits (operand_at text 1)) (λ base b. (h, b, k))))

abbrev ImmediateFits : ImmOp → (ℕ × ℕ × ℤ) → Type 0
ImmediateFits op (rd, rs1, imm) = IsRegister rd × IsRegister rs1 × IsImmediate op imm

immediate-fits : (op : ImmOp) (text : List ℕ) → IfOk (immediate_form op text) (λ p. ImmediateFits op p)
unfolding immediate_form
immediate-fits op text =
    ok_then (λ r. IsRegister r) (λ p. ImmediateFits op p) _ _ (register_in-fits (operand_at text 0)) (λ rd h.
    ok_then (λ r. IsRegister r) (λ p. ImmediateFits op p) _ _ (register_in-fits (operand_at text 1)) (λ rs1 k.
    ok_then (λ z. IsImmediate op z) (λ p. ImmediateFits op p) _ _ (immediate_of-fits op (operand_at text 2)) (λ imm b. (h, k, b))))

abbrev RegistersFit : (ℕ × ℕ × ℕ) → Type 0
RegistersFit (rd, rs1, rs2) = IsRegister rd × IsRegister rs1 × IsRegister rs2

registers-fit : (text : List ℕ) → IfOk (register_form text) (λ p. RegistersFit p)
unfolding register_form
registers-fit text =
    ok_then (λ r. IsRegister r) (λ p. RegistersFit p) _ _ (register_in-fits (operand_at text 0)) (λ rd h.
    ok_then (λ r. IsRegister r) (λ p. RegistersFit p) _ _ (register_in-fits (operand_at text 1)) (λ rs1 k.
    ok_then (λ r. IsRegister r) (λ p. RegistersFit p) _ _ (register_in-fits (operand_at text 2)) (λ rs2 b. (h, k, b))))

abbrev SetFits : (ℕ × ℕ × ℕ) → Type 0
SetFits (rd, rs1, set) = IsRegister rd × IsRegister rs1 × (set < 2 ^ 12)

set-fits : (text : List ℕ) → IfOk (set_form text) (λ p. SetFits p)
unfolding set_form
set-fits text =
    ok_then (λ r. IsRegister r) (λ p. SetFits p) _ _ (register_in-fits (operand_at text 0)) (λ rd h.
    ok_then (λ r. IsRegister r) (λ p. SetFits p) _ _ (register_in-fits (operand_at text 1)) (λ rs1 k.
    ok_then (λ n. n < 2 ^ 12) (λ p. SetFits p) _ _ (field_below-fits (2 ^ 12) (operand_at text 2) (lit< tt)) (λ set b. (h, k, b))))

either-set : (b : Bool) (plain : ℕ) (x : Result (ℕ × ℕ × ℕ) TextErr) → plain < 2 ^ 12
    → IfOk x (λ p. SetFits p) → IfOk (if b then Ok (0, 0, plain) else x) (λ p. SetFits p)
either-set true plain x small h = (lit< tt, lit< tt, small)
either-set false plain x small h = h

fence-fits : (plain : ℕ) (text : List ℕ) → plain < 2 ^ 12 → IfOk (fence_form plain text) (λ p. SetFits p)
unfolding fence_form
fence-fits plain text small = either-set (operand_count text == 0) plain (set_form text) small (set-fits text)

jump-fits : (text : List ℕ) → IfOk (jump_form text) (λ r. ReadingFits r)
unfolding jump_form
jump-fits text = ok_then (λ r. IsRegister r) (λ r. ReadingFits r) _ _ (register_in-fits (operand_at text 0)) (λ rd h. h)

branch-fits : (c : Cond) (text : List ℕ) → IfOk (branch_form c text) (λ r. ReadingFits r)
unfolding branch_form
branch-fits c text =
    ok_then (λ r. IsRegister r) (λ r. ReadingFits r) _ _ (register_in-fits (operand_at text 0)) (λ rs1 h.
    ok_then (λ r. IsRegister r) (λ r. ReadingFits r) _ _ (register_in-fits (operand_at text 1)) (λ rs2 k. (h, k)))

operands-fit : (m : Mnemonic) (text : List ℕ) → IfOk (operands_read m text) (λ r. ReadingFits r)
unfolding operands_read
operands-fit Lui text = whole-fits (λ p. UpperFits p) (λ (rd, imm). instr.Lui rd imm) (upper_form text) (upper-fits text) (λ p h. h)
operands-fit Auipc text = whole-fits (λ p. UpperFits p) (λ (rd, imm). instr.Auipc rd imm) (upper_form text) (upper-fits text) (λ p h. h)
operands-fit Jal text = jump-fits text
operands-fit Jalr text = whole-fits (λ p. AddressFits p) (λ (rd, imm, rs1). instr.Jalr rd rs1 imm) (address_form text) (address-fits text) (λ p h. h)
operands-fit (Branch c) text = branch-fits c text
operands-fit (Load k) text = whole-fits (λ p. AddressFits p) (λ (rd, imm, rs1). instr.Load k rd rs1 imm) (address_form text) (address-fits text) (λ p h. h)
operands-fit (Store k) text = whole-fits (λ p. AddressFits p) (λ (rs2, imm, rs1). instr.Store k rs1 rs2 imm) (address_form text) (address-fits text)
    (λ p h. (h.1, h.0, h.2))
operands-fit (OpImm op) text = whole-fits (λ p. ImmediateFits op p) (λ (rd, rs1, imm). instr.OpImm op rd rs1 imm) (immediate_form op text)
    (immediate-fits op text) (λ p h. h)
operands-fit (Op op) text = whole-fits (λ p. RegistersFit p) (λ (rd, rs1, rs2). instr.Op op rd rs1 rs2) (register_form text) (registers-fit text) (λ p h. h)
operands-fit Fence text = whole-fits (λ p. SetFits p) (λ (rd, rs1, set). instr.Fence rd rs1 set) (fence_form 255 text) (fence-fits 255 text (lit< tt))
    (λ p h. h)
operands-fit Ecall text = tt
operands-fit Ebreak text = tt
operands-fit FenceI text = whole-fits (λ p. SetFits p) (λ (rd, rs1, set). instr.FenceI rd rs1 set) (fence_form 0 text) (fence-fits 0 text (lit< tt)) (λ p h. h)
operands-fit (Mul op) text = whole-fits (λ p. RegistersFit p) (λ (rd, rs1, rs2). instr.Mul op rd rs1 rs2) (register_form text) (registers-fit text) (λ p h. h)

either-reading : (b : Bool) (x : Result LineReading TextErr) (e : TextErr) → IfOk x (λ r. ReadingFits r) → IfOk (if b then x else Err e) (λ r. ReadingFits r)
either-reading true x e h = h
either-reading false x e h = tt

pub statement-fits : (m : Mnemonic) (text : List ℕ) → IfOk (statement_by m text) (λ r. ReadingFits r)
unfolding statement_by
statement-fits m text = either-reading (takes_operands m (operand_count text)) (operands_read m text)
    (WrongCount (capped_count (operand_count text)) (wanted m))
    (operands-fit m text)

pub whole_statement-fits : (m : Mnemonic) (text : List ℕ) (i : Instr) → statement_by m text ≡ Ok (WholeOf i) → Fits i
whole_statement-fits m text i e = subst (λ r. IfOk r (λ x. ReadingFits x)) e (statement-fits m text)

pub aimed_statement-fits : (m : Mnemonic) (text : List ℕ) (j : Jump) (target : List ℕ) → statement_by m text ≡ Ok (AimedAt j target) → JumpFits j
aimed_statement-fits m text j target e = subst (λ r. IfOk r (λ x. ReadingFits x)) e (statement-fits m text)

pub ruleset statements = (whole_statement-fits, aimed_statement-fits)
