-- The meaning of the statements that are drawn.
use Rattle.std.proofs.Common.{◌≡◌, ℕ, ◌*◌, ◌^◌, ◌<◌, true, List, [], ◌∷◌, ◌++◌, refl, sym, ◌∙◌, ap, subst, arith, Ok, append_assoc, append-nil, lit<}
use Rattle.std.specs.Prelude.{None, codes, decimal, pos}
use Rattle.std.specs.Char.{digit_value}
use Rattle.std.specs.Fmt.{digits}
use Rattle.std.specs.Str.Parse.{AllDigits}
use Rattle.std.proofs.lemmas.Fmt.{decimal_is_IsNumeral}
use Rattle.std.proofs.lemmas.Int.{ints}
use Rattle.std.proofs.lemmas.Bool.Decides.{nat_tests}
use Rattle.rv_inst.specs.Ranges.{IsWithin}
use Rattle.rv_inst.specs.declared.instruction.Cond.TheVariants as cond
use Rattle.rv_inst.specs.declared.instruction.LoadKind.TheVariants as load
use Rattle.rv_inst.specs.declared.instruction.StoreKind.TheVariants as store
use Rattle.rv_inst.specs.declared.instruction.ImmOp.TheVariants as immop
use Rattle.rv_inst.specs.declared.instruction.RegOp.{RegOp}
use Rattle.rv_inst.specs.declared.instruction.RegOp.TheVariants as regop
use Rattle.rv_inst.specs.declared.instruction.Instr.TheVariants as instr
use Rattle.rv_text.specs.declared.mnemonic.Mnemonic.TheVariants.{Branch, Load, Store, OpImm, Op}
use Rattle.rv_text.specs.declared.statement.Jump.TheVariants as jump
use Rattle.rv_text.specs.Names.{mnemonic_name}
use Rattle.rv_text.specs.Reading.{takes_operands, operands_read}
use Rattle.rv_text.specs.Writing.{register_text}
use Rattle.rv_text.proofs.Solid.{IsSolid, IsBare}
use Rattle.rv_text.proofs.Written.{register_solid, decimal_solid}
use Rattle.rv_text.proofs.Parsed.{address_text, address_solid}
use Rattle.rv_asm.specs.Items.{SourceItem, Single, Near}
use Rattle.rv_asm.specs.Operations.{directive_named, pseudo_named}
use Rattle.rv_asm.specs.Pseudos.{jumped}
use Rattle.rv_asm.specs.Reading.{statement_read}
use Rattle.rv_asm.specs.Scanning.{is_name_start, is_name_byte, has_label, label_in, statement_in, said}
use Rattle.cf_gen.specs.declared.choice.Operation.{Operation}
use Rattle.cf_gen.specs.declared.choice.Operation.TheVariants.{Add, Sub, Xor, Or, Sltu, Sll, Addi, Sw, Lw, Blt}
use Rattle.cf_gen.specs.declared.choice.Choice.{Choice}
use Rattle.cf_gen.specs.Statements.{choice_of, label_text, instruction_text}
use Rattle.asm_drawn.proofs.Lines.{is_plain, IsPlain, plain-append}
use Rattle.asm_drawn.proofs.Entries.{Entry, IsEntry, said-indented}
use Rattle.asm_drawn.proofs.Operands.{two_text, three_text, IsMnemonic, reads_two, reads_three, address_read, immediate_read, register_read, branch_read}

-- the registers and the offset are in their ranges
pub record IsChoice (choice : Choice) : Type 0 where
  pub first : choice.first < 32
  pub second : choice.second < 32
  pub third : choice.third < 32
  pub offset : choice.offset < 64

pub choice_fits : (x : ℕ) → IsChoice (choice_of x)
unfolding choice_of
choice_fits x = record { first = omega arith; second = omega arith; third = omega arith; offset = omega arith }

-- digits are plain
digit_plain : (byte : ℕ) → digit_value byte < 10 → is_plain byte ≡ true
digit_plain byte h = grind (arith, nat_tests)

digits_plain : (ds : List ℕ) → AllDigits 10 ds → IsPlain ds
digits_plain [] h = refl
digits_plain (d ∷ ds) h = rw (digit_plain d h.0) (digits_plain ds h.1)

pub decimal_plain : (n : ℕ) → n < 2 ^ 64 → IsPlain (decimal n)
decimal_plain n small = digits_plain (decimal n) ((decimal_is_IsNumeral n small).0.1)

pub register_plain : (r : ℕ) → r < 32 → IsPlain (register_text r)
register_plain r low = decimal_plain r (omega arith)

two_plain : (x y : List ℕ) → IsPlain x → IsPlain y → IsPlain (two_text x y)
two_plain x y h k = plain-append x (44 ∷ 32 ∷ (y ++ [])) h (plain-append y [] k refl)

three_plain : (x y z : List ℕ) → IsPlain x → IsPlain y → IsPlain z → IsPlain (three_text x y z)
three_plain x y z h k l = plain-append x (44 ∷ 32 ∷ (y ++ 44 ∷ 32 ∷ (z ++ []))) h (two_plain y z k l)

pub two_is : (x y : List ℕ) → x ++ 44 ∷ 32 ∷ y ≡ x ++ 44 ∷ 32 ∷ (y ++ [])
two_is x y = simp append-nil

pub three_is : (x y z : List ℕ) → (x ++ codes ", " ++ y) ++ codes ", " ++ z ≡ x ++ 44 ∷ 32 ∷ (y ++ 44 ∷ 32 ∷ (z ++ []))
three_is x y z = simp (append_assoc, append-nil)

-- a register, and a number with its base
pub word_is : (x number base : List ℕ) → x ++ codes ", " ++ number ++ base ≡ x ++ 44 ∷ 32 ∷ ((number ++ base) ++ [])
word_is x number base = simp (append_assoc, append-nil)

base_is : codes "(x7)" ≡ 40 ∷ (register_text 7 ++ 41 ∷ [])
unfolding digits
base_is = refl

abbrev pub indented : List ℕ → SourceItem → Entry
indented text item = record { text = 32 ∷ 32 ∷ 32 ∷ 32 ∷ text; label = None; item = item }

-- a statement has no label
pub record HasNoLabel (text : List ℕ) : Type 0 where
  pub label : label_in text ≡ None
  pub statement : statement_in text ≡ text

pub an_entry : (text : List ℕ) (item : SourceItem) → IsPlain text → IsBare text → HasNoLabel text
    → ((pc : ℕ) → statement_read pc text ≡ Ok item) → IsEntry (indented text item)
an_entry text item plain bare none meaning =
    let same : said (32 ∷ 32 ∷ 32 ∷ 32 ∷ text) ≡ text = said-indented text plain bare in
    record {
      plain = plain;
      label = ap label_in same ∙ none.label;
      item = λ pc. ap (λ (l : List ℕ). statement_read pc (statement_in l)) same ∙ ap (statement_read pc) none.statement ∙ meaning pc;
    }

-- three registers
three_registers_entry : (op : RegOp) (choice : Choice) → IsChoice choice → IsMnemonic (Op op) → IsPlain (mnemonic_name (Op op))
    → HasNoLabel (mnemonic_name (Op op) ++ three_text (register_text choice.first) (register_text choice.second) (register_text choice.third))
    → IsEntry (indented (mnemonic_name (Op op) ++ three_text (register_text choice.first) (register_text choice.second) (register_text choice.third))
    (Single (instr.Op op choice.first choice.second choice.third)))
unfolding takes_operands operands_read
three_registers_entry op choice c named plain none =
    let reads = reads_three (Op op) (register_text choice.first) (register_text choice.second) (register_text choice.third) named
    (register_solid choice.first c.first) (register_solid choice.second c.second) (register_solid choice.third c.third) refl in
    an_entry _ _ (plain-append (mnemonic_name (Op op)) (three_text (register_text choice.first) (register_text choice.second) (register_text choice.third))
    plain
    (three_plain (register_text choice.first) (register_text choice.second) (register_text choice.third) (register_plain choice.first c.first)
    (register_plain choice.second c.second) (register_plain choice.third c.third)))
    reads.bare none
    (λ pc. reads.meaning pc ∙ (rw (register_read choice.first choice.second choice.third c.first c.second c.third) refl))

small_immediate : (n : ℕ) → n < 2048 → IsWithin (2 ^ 11) (pos n)
small_immediate n low = (omega (arith, ints), omega (arith, ints))

-- two registers and a number
addi_entry : (choice : Choice) → IsChoice choice → IsMnemonic (OpImm immop.Add)
    → IsEntry (indented (mnemonic_name (OpImm immop.Add) ++ three_text (register_text choice.first) (register_text choice.second) (decimal choice.offset))
    (Single (instr.OpImm immop.Add choice.first choice.second (pos choice.offset))))
unfolding takes_operands operands_read label_in statement_in has_label is_name_start is_name_byte
addi_entry choice c named =
    let offset = c.offset in
    let solid : IsSolid (decimal choice.offset) = decimal_solid choice.offset (omega arith) in
    let reads = reads_three (OpImm immop.Add) (register_text choice.first) (register_text choice.second) (decimal choice.offset) named
    (register_solid choice.first c.first) (register_solid choice.second c.second) solid refl in
    an_entry _ _ (plain-append (mnemonic_name (OpImm immop.Add)) (three_text (register_text choice.first) (register_text choice.second) (decimal choice.offset))
    refl
    (three_plain (register_text choice.first) (register_text choice.second) (decimal choice.offset) (register_plain choice.first c.first)
    (register_plain choice.second c.second) (decimal_plain choice.offset (omega arith))))
    reads.bare (record { label = refl; statement = refl })
    (λ pc. reads.meaning pc
    ∙ (rw (immediate_read immop.Add choice.first choice.second (pos choice.offset) c.first c.second (small_immediate choice.offset (omega arith))) refl))

-- a register and the address of a word
address_plain : (n : ℕ) → n < 2048 → IsPlain (address_text (pos n) 7)
unfolding digits
address_plain n low = plain-append (decimal n) (40 ∷ (register_text 7 ++ 41 ∷ [])) (decimal_plain n (omega arith)) refl

sw_entry : (choice : Choice) → IsChoice choice → IsMnemonic (Store store.Word)
    → IsEntry (indented (mnemonic_name (Store store.Word) ++ two_text (register_text choice.first) (address_text (pos (4 * choice.offset)) 7))
    (Single (instr.Store store.Word 7 choice.first (pos (4 * choice.offset)))))
unfolding takes_operands operands_read label_in statement_in has_label is_name_start is_name_byte
sw_entry choice c named =
    let offset = c.offset in
    let low : 4 * choice.offset < 2048 = omega arith in
    let fits = small_immediate (4 * choice.offset) low in
    let reads = reads_two (Store store.Word) (register_text choice.first) (address_text (pos (4 * choice.offset)) 7) named
    (register_solid choice.first c.first) (address_solid (pos (4 * choice.offset)) 7 fits (lit< tt)) refl in
    an_entry _ _ (plain-append (mnemonic_name (Store store.Word)) (two_text (register_text choice.first) (address_text (pos (4 * choice.offset)) 7)) refl
    (two_plain (register_text choice.first) (address_text (pos (4 * choice.offset)) 7) (register_plain choice.first c.first)
    (address_plain (4 * choice.offset) low)))
    reads.bare (record { label = refl; statement = refl })
    (λ pc. reads.meaning pc ∙ (rw (address_read choice.first 7 (pos (4 * choice.offset)) c.first (lit< tt) fits) refl))

lw_entry : (choice : Choice) → IsChoice choice → IsMnemonic (Load load.Word)
    → IsEntry (indented (mnemonic_name (Load load.Word) ++ two_text (register_text choice.first) (address_text (pos (4 * choice.offset)) 7))
    (Single (instr.Load load.Word choice.first 7 (pos (4 * choice.offset)))))
unfolding takes_operands operands_read label_in statement_in has_label is_name_start is_name_byte
lw_entry choice c named =
    let offset = c.offset in
    let low : 4 * choice.offset < 2048 = omega arith in
    let fits = small_immediate (4 * choice.offset) low in
    let reads = reads_two (Load load.Word) (register_text choice.first) (address_text (pos (4 * choice.offset)) 7) named
    (register_solid choice.first c.first) (address_solid (pos (4 * choice.offset)) 7 fits (lit< tt)) refl in
    an_entry _ _ (plain-append (mnemonic_name (Load load.Word)) (two_text (register_text choice.first) (address_text (pos (4 * choice.offset)) 7)) refl
    (two_plain (register_text choice.first) (address_text (pos (4 * choice.offset)) 7) (register_plain choice.first c.first)
    (address_plain (4 * choice.offset) low)))
    reads.bare (record { label = refl; statement = refl })
    (λ pc. reads.meaning pc ∙ (rw (address_read choice.first 7 (pos (4 * choice.offset)) c.first (lit< tt) fits) refl))

pub label_solid : (i : ℕ) → i < 2 ^ 64 → IsSolid (label_text i)
label_solid i small = let digits = decimal_solid i small in record { some = omega arith; bytes = digits.bytes }

pub label_plain : (i : ℕ) → i < 2 ^ 64 → IsPlain (label_text i)
label_plain i small = decimal_plain i small

-- two registers and a label
blt_entry : (choice : Choice) (i : ℕ) → IsChoice choice → i < 2 ^ 64 → IsMnemonic (Branch cond.Lt)
    → IsEntry (indented (mnemonic_name (Branch cond.Lt) ++ three_text (register_text choice.first) (register_text choice.second) (label_text i))
    (Near (jump.Branch cond.Lt choice.first choice.second) (label_text i)))
unfolding takes_operands operands_read jumped label_in statement_in has_label is_name_start is_name_byte
blt_entry choice i c small named =
    let reads = reads_three (Branch cond.Lt) (register_text choice.first) (register_text choice.second) (label_text i) named
    (register_solid choice.first c.first) (register_solid choice.second c.second) (label_solid i small) refl in
    an_entry _ _ (plain-append (mnemonic_name (Branch cond.Lt)) (three_text (register_text choice.first) (register_text choice.second) (label_text i)) refl
    (three_plain (register_text choice.first) (register_text choice.second) (label_text i) (register_plain choice.first c.first)
    (register_plain choice.second c.second) (label_plain i small)))
    reads.bare (record { label = refl; statement = refl })
    (λ pc. reads.meaning pc ∙ (rw (branch_read cond.Lt choice.first choice.second (label_text i) c.first c.second (label_solid i small)) refl))

-- the meaning of each statement
abbrev pub stands_for : Operation → Choice → ℕ → SourceItem
stands_for Add choice i = Single (instr.Op regop.Add choice.first choice.second choice.third)
stands_for Sub choice i = Single (instr.Op regop.Sub choice.first choice.second choice.third)
stands_for Xor choice i = Single (instr.Op regop.Xor choice.first choice.second choice.third)
stands_for Or choice i = Single (instr.Op regop.Or choice.first choice.second choice.third)
stands_for Sltu choice i = Single (instr.Op regop.Sltu choice.first choice.second choice.third)
stands_for Sll choice i = Single (instr.Op regop.Sll choice.first choice.second choice.third)
stands_for Addi choice i = Single (instr.OpImm immop.Add choice.first choice.second (pos choice.offset))
stands_for Sw choice i = Single (instr.Store store.Word 7 choice.first (pos (4 * choice.offset)))
stands_for Lw choice i = Single (instr.Load load.Word choice.first 7 (pos (4 * choice.offset)))
stands_for Blt choice i = Near (jump.Branch cond.Lt choice.first choice.second) (label_text i)

-- the text of three registers, as it is drawn
as_drawn : (name x y z : List ℕ) (item : SourceItem) → IsEntry (indented (name ++ three_text x y z) item)
    → IsEntry (indented (name ++ 32 ∷ ((x ++ codes ", " ++ y) ++ codes ", " ++ z)) item)
as_drawn name x y z item h =
    subst (λ (l : List ℕ). IsEntry (indented (name ++ 32 ∷ l) item)) (sym (three_is x y z)) h

pub as_drawn_two : (name x y : List ℕ) (item : SourceItem) → IsEntry (indented (name ++ two_text x y) item)
    → IsEntry (indented (name ++ 32 ∷ (x ++ 44 ∷ 32 ∷ y)) item)
as_drawn_two name x y item h =
    subst (λ (l : List ℕ). IsEntry (indented (name ++ 32 ∷ l) item)) (sym (two_is x y)) h

-- the text of a register and a word of the data, as it is drawn
as_drawn_word : (name x : List ℕ) (n : ℕ) (item : SourceItem) → IsEntry (indented (name ++ two_text x (address_text (pos n) 7)) item)
    → IsEntry (indented (name ++ 32 ∷ (x ++ codes ", " ++ decimal n ++ codes "(x7)")) item)
as_drawn_word name x n item h =
    let same : x ++ codes ", " ++ decimal n ++ codes "(x7)" ≡ x ++ 44 ∷ 32 ∷ (address_text (pos n) 7 ++ []) =
    ap (λ (l : List ℕ). x ++ codes ", " ++ decimal n ++ l) base_is ∙ word_is x (decimal n) (40 ∷ (register_text 7 ++ 41 ∷ [])) in
    subst (λ (l : List ℕ). IsEntry (indented (name ++ 32 ∷ l) item)) (sym same) h

-- each statement is read as its meaning
pub statement_entry : (operation : Operation) (choice : Choice) (i : ℕ) → IsChoice choice → i < 2 ^ 64
    → IsEntry (indented (instruction_text operation choice i) (stands_for operation choice i))
unfolding instruction_text directive_named pseudo_named label_in statement_in has_label is_name_start is_name_byte
statement_entry Add choice i c small =
    as_drawn (codes "add") (register_text choice.first) (register_text choice.second) (register_text choice.third) _
    (three_registers_entry regop.Add choice c (record { directive = refl; pseudo = refl }) refl (record { label = refl; statement = refl }))
statement_entry Sub choice i c small =
    as_drawn (codes "sub") (register_text choice.first) (register_text choice.second) (register_text choice.third) _
    (three_registers_entry regop.Sub choice c (record { directive = refl; pseudo = refl }) refl (record { label = refl; statement = refl }))
statement_entry Xor choice i c small =
    as_drawn (codes "xor") (register_text choice.first) (register_text choice.second) (register_text choice.third) _
    (three_registers_entry regop.Xor choice c (record { directive = refl; pseudo = refl }) refl (record { label = refl; statement = refl }))
statement_entry Or choice i c small =
    as_drawn (codes "or") (register_text choice.first) (register_text choice.second) (register_text choice.third) _
    (three_registers_entry regop.Or choice c (record { directive = refl; pseudo = refl }) refl (record { label = refl; statement = refl }))
statement_entry Sltu choice i c small =
    as_drawn (codes "sltu") (register_text choice.first) (register_text choice.second) (register_text choice.third) _
    (three_registers_entry regop.Sltu choice c (record { directive = refl; pseudo = refl }) refl (record { label = refl; statement = refl }))
statement_entry Sll choice i c small =
    as_drawn (codes "sll") (register_text choice.first) (register_text choice.second) (register_text choice.third) _
    (three_registers_entry regop.Sll choice c (record { directive = refl; pseudo = refl }) refl (record { label = refl; statement = refl }))
statement_entry Addi choice i c small =
    as_drawn (codes "addi") (register_text choice.first) (register_text choice.second) (decimal choice.offset) _
    (addi_entry choice c (record { directive = refl; pseudo = refl }))
statement_entry Sw choice i c small =
    as_drawn_word (codes "sw") (register_text choice.first) (4 * choice.offset) _ (sw_entry choice c (record { directive = refl; pseudo = refl }))
statement_entry Lw choice i c small =
    as_drawn_word (codes "lw") (register_text choice.first) (4 * choice.offset) _ (lw_entry choice c (record { directive = refl; pseudo = refl }))
statement_entry Blt choice i c small =
    as_drawn (codes "blt") (register_text choice.first) (register_text choice.second) (label_text i) _
    (blt_entry choice i c small (record { directive = refl; pseudo = refl }))
