-- The meaning of the statements of a drawn program: each form of operands, whatever registers and numbers were drawn.
use Rattle.std.proofs.Common.{◌≡◌, ℕ, ◌^◌, true, List, [], ◌∷◌, ◌++◌, refl, ◌∙◌, ap, Some, Ok}
use Rattle.std.specs.Prelude.{None, ℤ, Result}
use Rattle.std.specs.Fmt.{signed_decimal}
use Rattle.rv_inst.specs.Ranges.{IsRegister, IsWithin, IsImmediate}
use Rattle.rv_inst.specs.declared.instruction.Cond.{Cond}
use Rattle.rv_inst.specs.declared.instruction.ImmOp.{ImmOp}
use Rattle.rv_text.specs.declared.mnemonic.Mnemonic.{Mnemonic}
use Rattle.rv_text.specs.declared.statement.Jump.TheVariants as jump
use Rattle.rv_text.specs.declared.text_err.TextErr.{TextErr}
use Rattle.texts.specs.Answers.{and_then}
use Rattle.rv_text.specs.Names.{mnemonic_name, mnemonic_named}
use Rattle.rv_text.specs.Pieces.{operand_count}
use Rattle.rv_text.specs.Reading.{LineReading, AimedAt, takes_operands, address_form, immediate_form, register_form, branch_form, operands_read, statement_by}
use Rattle.rv_text.specs.Writing.{register_text}
use Rattle.rv_text.proofs.Named.{all_named}
use Rattle.rv_text.proofs.Solid.{IsSolid, IsBare, Begins-append, Begins-solid, Ends-append, Ends-cons, IsBare-of, cut_before, two_operands, three_operands, two_end, three_end, Ends}
use Rattle.rv_text.proofs.Written.{register_solid}
use Rattle.rv_text.proofs.Parsed.{register_in-text, immediate_of-signed, immediate_solid, address_text, offset_in-address, base_in-address, address_solid}
use Rattle.rv_asm.specs.Answers.{as_text}
use Rattle.rv_asm.specs.Operations.{directive_named, pseudo_named}
use Rattle.rv_asm.specs.Reading.{statement_read, named_read, instruction_read, targeted}
use Rattle.asm_drawn.proofs.Entries.{read_cut}

-- the text after a name that has two operands, or three
abbrev pub two_text : List ℕ → List ℕ → List ℕ
two_text x y = 32 ∷ (x ++ 44 ∷ 32 ∷ (y ++ []))

abbrev pub three_text : List ℕ → List ℕ → List ℕ → List ℕ
three_text x y z = 32 ∷ (x ++ 44 ∷ 32 ∷ (y ++ 44 ∷ 32 ∷ (z ++ [])))

-- the mnemonic is the meaning of its name
pub record IsMnemonic (mnemonic : Mnemonic) : Type 0 where
  pub directive : directive_named (mnemonic_name mnemonic) ≡ None
  pub pseudo : pseudo_named (mnemonic_name mnemonic) ≡ None

named_so : (mnemonic : Mnemonic) (pc : ℕ) (after : List ℕ) → IsMnemonic mnemonic
    → named_read (mnemonic_name mnemonic) pc after ≡ as_text (instruction_read mnemonic pc after)
unfolding named_read
named_so mnemonic pc after h =
    let found : mnemonic_named (mnemonic_name mnemonic) ≡ Some mnemonic = (all_named mnemonic).found in
    rw (h.directive, h.pseudo, found) refl

bare_before : (name rest : List ℕ) → IsSolid name → Ends rest → IsBare (name ++ 32 ∷ rest)
bare_before name rest h e =
    IsBare-of (name ++ 32 ∷ rest) (Begins-append name (32 ∷ rest) (Begins-solid name h)) (Ends-append name (32 ∷ rest) (Ends-cons 32 rest e))

-- a mnemonic, and operands after it
pub record Reads (mnemonic : Mnemonic) (after : List ℕ) (answer : Result LineReading TextErr) : Type 0 where
  pub bare : IsBare (mnemonic_name mnemonic ++ after)
  pub meaning : (pc : ℕ) → statement_read pc (mnemonic_name mnemonic ++ after) ≡ as_text (and_then answer (targeted pc))

statement_after : (mnemonic : Mnemonic) (after : List ℕ) → takes_operands mnemonic (operand_count after) ≡ true
    → statement_by mnemonic after ≡ operands_read mnemonic after
unfolding statement_by
statement_after mnemonic after right = rw right refl

pub reads_two : (mnemonic : Mnemonic) (x y : List ℕ) → IsMnemonic mnemonic → IsSolid x → IsSolid y → takes_operands mnemonic 2 ≡ true
    → Reads mnemonic (two_text x y) (operands_read mnemonic (two_text x y))
unfolding instruction_read
reads_two mnemonic x y named hx hy right =
    let word = (all_named mnemonic).word in
    let end = two_end x y hx hy in
    let bare = bare_before (mnemonic_name mnemonic) (x ++ 44 ∷ 32 ∷ (y ++ [])) word end in
    let cut = cut_before (mnemonic_name mnemonic) (x ++ 44 ∷ 32 ∷ (y ++ [])) word end in
    let counted = ap (takes_operands mnemonic) (two_operands x y hx hy).count ∙ right in
    record {
      bare = bare;
      meaning = λ pc. read_cut pc (mnemonic_name mnemonic ++ two_text x y) (mnemonic_name mnemonic) (two_text x y) bare cut
          ∙ named_so mnemonic pc (two_text x y) named
          ∙ ap (λ (found : Result LineReading TextErr). as_text (and_then found (targeted pc))) (statement_after mnemonic (two_text x y) counted);
    }

pub reads_three : (mnemonic : Mnemonic) (x y z : List ℕ) → IsMnemonic mnemonic → IsSolid x → IsSolid y → IsSolid z → takes_operands mnemonic 3 ≡ true
    → Reads mnemonic (three_text x y z) (operands_read mnemonic (three_text x y z))
unfolding instruction_read
reads_three mnemonic x y z named hx hy hz right =
    let word = (all_named mnemonic).word in
    let end = three_end x y z hx hy hz in
    let bare = bare_before (mnemonic_name mnemonic) (x ++ 44 ∷ 32 ∷ (y ++ 44 ∷ 32 ∷ (z ++ []))) word end in
    let cut = cut_before (mnemonic_name mnemonic) (x ++ 44 ∷ 32 ∷ (y ++ 44 ∷ 32 ∷ (z ++ []))) word end in
    let counted = ap (takes_operands mnemonic) (three_operands x y z hx hy hz).count ∙ right in
    record {
      bare = bare;
      meaning = λ pc. read_cut pc (mnemonic_name mnemonic ++ three_text x y z) (mnemonic_name mnemonic) (three_text x y z) bare cut
          ∙ named_so mnemonic pc (three_text x y z) named
          ∙ ap (λ (found : Result LineReading TextErr). as_text (and_then found (targeted pc))) (statement_after mnemonic (three_text x y z) counted);
    }

-- the forms of the operands
pub address_read : (first base : ℕ) (imm : ℤ) → IsRegister first → IsRegister base → IsWithin (2 ^ 11) imm
    → address_form (two_text (register_text first) (address_text imm base)) ≡ Ok (first, imm, base)
unfolding address_form
address_read first base imm r b h =
    let two = two_operands (register_text first) (address_text imm base) (register_solid first r) (address_solid imm base h b) in
    rw (two.first_is, register_in-text first r, two.second_is, offset_in-address imm base h, base_in-address imm base h b) refl

pub immediate_read : (op : ImmOp) (rd rs1 : ℕ) (imm : ℤ) → IsRegister rd → IsRegister rs1 → IsImmediate op imm
    → immediate_form op (three_text (register_text rd) (register_text rs1) (signed_decimal imm)) ≡ Ok (rd, rs1, imm)
unfolding immediate_form
immediate_read op rd rs1 imm r s h =
    let three = three_operands (register_text rd) (register_text rs1) (signed_decimal imm) (register_solid rd r) (register_solid rs1 s)
    (immediate_solid op imm h) in
    rw (three.first_is, register_in-text rd r, three.second_is, register_in-text rs1 s, three.third_is, immediate_of-signed op imm h) refl

pub register_read : (rd rs1 rs2 : ℕ) → IsRegister rd → IsRegister rs1 → IsRegister rs2
    → register_form (three_text (register_text rd) (register_text rs1) (register_text rs2)) ≡ Ok (rd, rs1, rs2)
unfolding register_form
register_read rd rs1 rs2 r s t =
    let three = three_operands (register_text rd) (register_text rs1) (register_text rs2) (register_solid rd r) (register_solid rs1 s) (register_solid rs2 t) in
    rw (three.first_is, register_in-text rd r, three.second_is, register_in-text rs1 s, three.third_is, register_in-text rs2 t) refl

pub branch_read : (c : Cond) (rs1 rs2 : ℕ) (label : List ℕ) → IsRegister rs1 → IsRegister rs2 → IsSolid label
    → branch_form c (three_text (register_text rs1) (register_text rs2) label) ≡ Ok (AimedAt (jump.Branch c rs1 rs2) label)
unfolding branch_form
branch_read c rs1 rs2 label r s h =
    let three = three_operands (register_text rs1) (register_text rs2) label (register_solid rs1 r) (register_solid rs2 s) h in
    rw (three.first_is, register_in-text rs1 r, three.second_is, register_in-text rs2 s, three.third_is) refl
