-- The lines that load a number into a register.
use Rattle.std.proofs.Common.{◌≡◌, ℕ, ◌*◌, ◌<◌, Bool, true, false, List, [], ◌∷◌, ◌++◌, refl, ◌∙◌, arith, Some, Ok}
use Rattle.std.specs.Prelude.{None, codes, decimal, pos, negsuc, int_le, ◌==◌, if◌then◌else◌}
use Rattle.std.proofs.lemmas.Bool.Decides.{nat_tests}
use Rattle.rv_inst.specs.Words.{word_difference}
use Rattle.rv_inst.specs.declared.instruction.Instr.{Instr}
use Rattle.rv_text.specs.Numbers.{number_of}
use Rattle.rv_text.specs.Fields.{number_operand}
use Rattle.rv_text.specs.Writing.{register_text}
use Rattle.rv_text.proofs.Solid.{IsSolid, IsBare, Begins-append, Begins-solid, Ends-append, Ends-cons, IsBare-of, cut_before, two_operands, two_end}
use Rattle.rv_text.proofs.Written.{register_solid, decimal_solid, number_of-signed}
use Rattle.rv_text.proofs.Parsed.{register_in-text}
use Rattle.rv_asm.specs.Items.{SourceItem, Single, Double, is_code}
use Rattle.rv_asm.specs.Operands.{count_is}
use Rattle.rv_asm.specs.Operations.{directive_named, pseudo_named}
use Rattle.rv_asm.specs.Pseudos.{word_modulo, is_short, upper_part, loading, load_immediate, pseudo_read}
use Rattle.rv_asm.specs.Reading.{statement_read, named_read}
use Rattle.rv_asm.specs.Scanning.{is_name_start, is_name_byte, has_label, label_in, statement_in}
use Rattle.asm_drawn.proofs.Lines.{IsPlain, plain-append}
use Rattle.asm_drawn.proofs.Entries.{Entry, IsEntry, read_cut}
use Rattle.asm_drawn.proofs.Operands.{two_text}
use Rattle.asm_drawn.proofs.Statements.{indented, an_entry, register_plain, decimal_plain, as_drawn_two}
use Rattle.asm_drawn.proofs.Walks.{Values, HasPieces}
use Rattle.asm_drawn.proofs.Blocks.{has_single, has_double}

load_word : IsSolid (codes "li")
load_word = record { some = omega arith; bytes = refl }

in_range : (v : ℕ) → v < 65536 → int_le (pos v) (pos 0xffffffff) ≡ true
in_range v small = grind (arith, nat_tests)

number_read : (v : ℕ) → v < 65536 → number_operand (negsuc 0x7fffffff) (pos 0xffffffff) (decimal v) ≡ Ok (pos v)
unfolding number_operand
number_read v small =
    let found : number_of (decimal v) ≡ Some (pos v) = number_of-signed (pos v) (omega arith) in
    rw (found, in_range v small) refl

load_read : (r v : ℕ) → r < 32 → v < 65536 → load_immediate (two_text (register_text r) (decimal v)) ≡ Ok (loading r (word_modulo (pos v)))
unfolding load_immediate count_is
load_read r v low small =
    let two = two_operands (register_text r) (decimal v) (register_solid r low) (decimal_solid v (omega arith)) in
    rw (two.count, two.first_is, register_in-text r low, two.second_is, number_read v small) refl

load_text : ℕ → ℕ → List ℕ
load_text r v = codes "li" ++ two_text (register_text r) (decimal v)

load_bare : (r v : ℕ) → r < 32 → v < 65536 → IsBare (codes "li" ++ two_text (register_text r) (decimal v))
load_bare r v low small =
    let end = two_end (register_text r) (decimal v) (register_solid r low) (decimal_solid v (omega arith)) in
    IsBare-of _ (Begins-append (codes "li") _ (Begins-solid (codes "li") load_word)) (Ends-append (codes "li") _ (Ends-cons 32 _ end))

load_meaning : (pc r v : ℕ) → r < 32 → v < 65536
    → statement_read pc (codes "li" ++ two_text (register_text r) (decimal v)) ≡ Ok (loading r (word_modulo (pos v)))
unfolding named_read directive_named pseudo_named pseudo_read
load_meaning pc r v low small =
    let end = two_end (register_text r) (decimal v) (register_solid r low) (decimal_solid v (omega arith)) in
    read_cut pc _ (codes "li") (two_text (register_text r) (decimal v)) (load_bare r v low small) (cut_before (codes "li") _ load_word end)
    ∙ (rw (load_read r v low small) refl)

-- the line, as it is drawn
abbrev pub load_entry : ℕ → ℕ → Entry
load_entry r v = indented (codes "li" ++ 32 ∷ (register_text r ++ 44 ∷ 32 ∷ decimal v)) (loading r (word_modulo (pos v)))

pub load_is_entry : (r v : ℕ) → r < 32 → v < 65536 → IsEntry (load_entry r v)
unfolding label_in statement_in has_label is_name_start is_name_byte
load_is_entry r v low small =
    let plain : IsPlain (codes "li" ++ two_text (register_text r) (decimal v)) =
    plain-append (register_text r) (44 ∷ 32 ∷ (decimal v ++ [])) (register_plain r low)
    (plain-append (decimal v) [] (decimal_plain v (omega arith)) refl) in
    as_drawn_two (codes "li") (register_text r) (decimal v) _
    (an_entry _ _ plain (load_bare r v low small) (record { label = refl; statement = refl }) (λ pc. load_meaning pc r v low small))

-- one instruction or two
record IsLoad (values : Values) (item : SourceItem) : Type 0 where
  code : is_code item ≡ true
  pieces : (pc : ℕ) → HasPieces values pc item

load_by : (values : Values) (short even : Bool) (i j k l : Instr) → IsLoad values (if short then Single i else if even then Single j else Double k l)
load_by values true even i j k l = record { code = refl; pieces = λ pc. has_single values pc i }
load_by values false true i j k l = record { code = refl; pieces = λ pc. has_single values pc j }
load_by values false false i j k l = record { code = refl; pieces = λ pc. has_double values pc k l }

is_load : (values : Values) (rd v : ℕ) → IsLoad values (loading rd v)
unfolding loading
is_load values rd v = load_by values (is_short v) (word_difference v (4096 * upper_part v) == 0) _ _ _ _

pub load_code : (rd v : ℕ) → is_code (loading rd v) ≡ true
load_code rd v = (is_load (λ name. None) rd v).code

pub load_pieces : (values : Values) (pc rd v : ℕ) → HasPieces values pc (loading rd v)
load_pieces values pc rd v = (is_load values rd v).pieces pc
