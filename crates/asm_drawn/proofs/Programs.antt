-- A drawn program is accepted.
use Rattle.std.proofs.Common.{◌≡◌, ℕ, ◌+◌, ◌*◌, ◌%◌, ◌<◌, ◌≤◌, false, List, [], ◌∷◌, ◌++◌, length, refl, ◌∙◌, subst, arith, suc, Some, Ok, add-one}
use Rattle.std.specs.Prelude.{codes, nat_lt}
use Rattle.std.proofs.lemmas.Bool.Decides.{nat_tests}
use Rattle.rv_asm.specs.declared.item.Far.TheVariants as far
use Rattle.rv_asm.specs.Items.{Export}
use Rattle.rv_asm.specs.Labels.{LabelView, value_of_label}
use Rattle.rv_asm.specs.Places.{start_of_text, section_address, place_after, fits_at}
use Rattle.rv_asm.specs.Pieces.{pieces_of}
use Rattle.rv_asm.specs.Assembling.{Sections, empty_sections, sections_of, assembled}
use Rattle.cf_gen.specs.Program.{program_text}
use Rattle.asm_drawn.specs.Unrefused.{IsUnrefused}
use Rattle.asm_drawn.proofs.Entries.{Entry, texts_of}
use Rattle.asm_drawn.proofs.Walks.{Values, HasPieces, Goes, goes_on, entries_ascii}
use Rattle.asm_drawn.proofs.Blocks.{text_at, code_size, has_nothing, has_distant, IsCode, AreCode, AllHavePieces, total, total_aligned, block_goes}
use Rattle.asm_drawn.proofs.Loads.{load_code, load_pieces}
use Rattle.asm_drawn.proofs.Fixed.{text_line, export_line, start_line, buffer_line, text_line_is, export_line_is, start_line_is}
use Rattle.asm_drawn.proofs.Codes.{buffer_code}
use Rattle.asm_drawn.proofs.Goings.{start_label, labels_before, fresh_label, label_goes, statements_go}
use Rattle.asm_drawn.proofs.Closing.{with_text, are_new, has_labels, has_numbers, ending_goes}
use Rattle.asm_drawn.proofs.Lengths.{text_fits}
use Rattle.asm_drawn.proofs.Texts.{load_of, load_of_is, loads, program_lines, all_statements, closing_lines, program_are, program_is}

-- the instructions before the statements
abbrev opening_code : ℕ → List Entry
opening_code x = buffer_line ∷ loads x

load_is_code : (x r : ℕ) → r < 32 → IsCode (load_of x r)
load_is_code x r low = record { entry = load_of_is x r low; label = refl; code = load_code r _ }

opening_is_code : (x : ℕ) → AreCode (opening_code x)
opening_is_code x = (
  buffer_code,
  (
    load_is_code x 8 (omega arith),
    (
      load_is_code x 9 (omega arith),
      (
        load_is_code x 10 (omega arith),
        (
          load_is_code x 11 (omega arith),
          (
            load_is_code x 12 (omega arith),
            (load_is_code x 13 (omega arith), (load_is_code x 14 (omega arith), (load_is_code x 15 (omega arith), tt))),
          ),
        ),
      ),
    ),
  ),
)

total_short : (es : List Entry) → AreCode es → total es ≤ 8 * length es
total_short [] h = omega arith
total_short (e ∷ es) h =
    let this = (code_size e.item h.0.code).1 in
    let rest = total_short es h.1 in
    omega arith

-- the number of their bytes
abbrev opening_size : ℕ → ℕ
opening_size x = total (opening_code x)

opening_short : (x : ℕ) → opening_size x ≤ 72
opening_short x = total_short (opening_code x) (opening_is_code x)

opening_pieces : (values : Values) (x : ℕ) → values (codes "buf") ≡ Some 0x200000 → AllHavePieces values 0 (opening_code x)
opening_pieces values x h = (
  has_distant values _ (far.Address 7) (codes "buf") 0x200000 h,
  (
    load_pieces values _ 8 _,
    (
      load_pieces values _ 9 _,
      (
        load_pieces values _ 10 _,
        (
          load_pieces values _ 11 _,
          (load_pieces values _ 12 _, (load_pieces values _ 13 _, (load_pieces values _ 14 _, (load_pieces values _ 15 _, tt)))),
        ),
      ),
    ),
  ),
)

-- all labels, when the instructions before the statements have b bytes
abbrev all_labels : ℕ → ℕ → List LabelView
all_labels b number = with_text (labels_before b (suc number)) (b + 4 * number)

abbrev values_of : ℕ → ℕ → Values
values_of b number = value_of_label (all_labels b number)

start_value : (b number : ℕ) → values_of b number (codes "_start") ≡ Some 0x10000
unfolding value_of_label
start_value b number = refl

-- the last label and what follows
closing_goes : (b number : ℕ) → number ≤ 30000 → b % 4 ≡ 0 → b ≤ 72
    → Goes (values_of b number) (all_labels b number) (closing_lines number) (text_at (b + 4 * number)) (labels_before b number)
closing_goes b number most even small =
    rw (add-one number) (label_goes (values_of b number) (all_labels b number) b number _ (omega arith) even (omega arith)
    (ending_goes (labels_before b (suc number)) (b + 4 * number) (are_new b (suc number)) (omega arith) (omega arith)))

all_go : (b number : ℕ) → number ≤ 30000 → b % 4 ≡ 0 → b ≤ 72
    → Goes (values_of b number) (all_labels b number) (all_statements number ++ closing_lines number) (text_at (b + 4 * 0)) (labels_before b 0)
all_go b number most even small =
    statements_go (values_of b number) (all_labels b number) number b number 1 0 (closing_lines number) (has_numbers b number (b + 4 * number) (omega arith))
    (omega arith) even refl (omega arith) (closing_goes b number most even small)

code_goes : (x number : ℕ) → number ≤ 30000
    → Goes (values_of (opening_size x) number) (all_labels (opening_size x) number) (opening_code x ++ (all_statements number ++ closing_lines number))
    (text_at 0) (start_label ∷ [])
code_goes x number most =
    let b = opening_size x in
    let short = opening_short x in
    let even = total_aligned (opening_code x) (opening_is_code x) in
    let place : opening_size x + 4 * 0 ≡ 0 + opening_size x = omega arith in
    let rest = all_go (opening_size x) number most even short in
    block_goes (values_of (opening_size x) number) (all_labels (opening_size x) number) (opening_code x)
    (all_statements number ++ closing_lines number) 0 (start_label ∷ [])
    (opening_is_code x) refl (omega arith)
    (opening_pieces (values_of (opening_size x) number) x
    (has_labels (labels_before (opening_size x) (suc number)) (opening_size x + 4 * number) (are_new (opening_size x) (suc number))).buf)
    (subst
    (λ (t : ℕ). Goes (values_of (opening_size x) number) (all_labels (opening_size x) number)
    (all_statements number ++ closing_lines number) (text_at t) (start_label ∷ [])) place rest)

has_export : (values : Values) (pc : ℕ) → values (codes "_start") ≡ Some 0x10000 → HasPieces values pc (Export (codes "_start"))
unfolding pieces_of
has_export values pc e = record {
  pieces = [];
  placed = λ labels same. let found : value_of_label labels (codes "_start") ≡ Some 0x10000 = same (codes "_start") ∙ e in rw found refl;
}

-- both passes through the whole program
abbrev size_before : ℕ → ℕ
size_before number = opening_size number

program_goes : (number : ℕ) → number ≤ 30000
    → Goes (values_of (size_before number) number) (all_labels (size_before number) number) (program_lines number) start_of_text []
unfolding place_after fits_at section_address pieces_of value_of_label
program_goes number most =
    goes_on _ _ text_line _ start_of_text [] [] text_line_is refl refl (record { pieces = []; placed = λ labels same. refl })
    (goes_on _ _ export_line _ (text_at 0) [] [] export_line_is refl refl (has_export _ _ (start_value (size_before number) number))
    (goes_on _ _ start_line _ (text_at 0) [] (start_label ∷ []) start_line_is (fresh_label [] (text_at 0) (codes "_start") refl) refl (has_nothing _ _)
    (code_goes number number most)))

-- no line is refused
record AreUnrefused (lines : List (List ℕ)) : Type 0 where
  sections : Sections
  stands : sections_of lines ≡ Ok sections

accepted_lines : (number : ℕ) → number ≤ 30000 → AreUnrefused (texts_of (program_lines number))
accepted_lines number most =
    let goes = program_goes number most in
    let fills = goes.second 0 (empty_sections (all_labels (size_before number) number)) refl (λ name. refl) in
    record {
      sections = fills.end;
      stands = rw (entries_ascii 0 (program_lines number) (program_are number most), goes.first.passes 0) fills.passes;
    }

accepted_text : (number : ℕ) → number ≤ 30000 → length (program_text number) ≤ 1048576 → IsUnrefused (program_text number)
unfolding assembled
accepted_text number most fits =
    let short : nat_lt 1048576 (length (program_text number)) ≡ false = grind (arith, nat_tests) in
    let lines = accepted_lines number most in
    record { sections = lines.sections; stands = rw (short, program_is number most) lines.stands }

pub drawn_accepted : (number : ℕ) → number ≤ 30000 → IsUnrefused (program_text number)
drawn_accepted number most = accepted_text number most (text_fits number most)

pub ruleset accepting = (drawn_accepted, text_fits)
