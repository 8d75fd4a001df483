-- The text of a drawn program is that of its lines.
use Rattle.std.proofs.Common.{◌≡◌, ℕ, ◌+◌, ◌*◌, ◌-◌, ◌<◌, ◌≤◌, List, [], ◌∷◌, ◌++◌, refl, sym, ◌∙◌, ap, subst, arith, suc, zero, append_assoc, append-nil}
use Rattle.std.specs.List.{flat_map, range_with_len}
use Rattle.std.specs.Fmt.{digits}
use Rattle.texts.specs.Lines.{line}
use Rattle.rv_text.specs.Lines.{text_lines}
use Rattle.cf_gen.specs.Draws.{state_after_draws, drawn_below}
use Rattle.cf_gen.specs.Statements.{choice_of, label_text}
use Rattle.cf_gen.specs.Program.{load_line, opening_text, drawn_statement, numbered_statement, statements_text, last_lines, closing_text, program_text}
use Rattle.asm_drawn.proofs.Lines.{AreLines, no_line, one_line, more_lines}
use Rattle.asm_drawn.proofs.Entries.{Entry, IsEntry, AreEntries, texts_of, texts-append, entries-append}
use Rattle.asm_drawn.proofs.Statements.{choice_fits, statement_entry}
use Rattle.asm_drawn.proofs.Labels.{label_entry, label_is_entry}
use Rattle.asm_drawn.proofs.Loads.{load_entry, load_is_entry}
use Rattle.asm_drawn.proofs.Blocks.{AreCode}
use Rattle.asm_drawn.proofs.Fixed.{text_line, export_line, start_line, buffer_line, gathering, hex_line, converting, digit_line, writing, data_line, buf_line, space_line, digits_line, ascii_line, text_line_is, export_line_is, start_line_is, buffer_line_is, hex_line_is, digit_line_is, data_line_is, buf_line_is, space_line_is, digits_line_is, ascii_line_is}
use Rattle.asm_drawn.proofs.Codes.{gathering_code, converting_code, writing_code}
use Rattle.asm_drawn.proofs.Goings.{statement_lines}

-- the lines, one after another
abbrev pub joined : List Entry → List ℕ
joined es = flat_map (λ e. line e.text) es

entries_lines : (es : List Entry) → AreEntries es → AreLines (joined es) (texts_of es)
entries_lines [] h = no_line
entries_lines (e ∷ es) h =
    more_lines (line e.text) (joined es) (e.text ∷ []) (texts_of es) (one_line e.text h.0.plain) (entries_lines es h.1)

-- the line that loads the register's number
abbrev pub load_of : ℕ → ℕ → Entry
load_of x r = load_entry r (drawn_below 65536 (state_after_draws (r - 8) x))

abbrev pub loads : ℕ → List Entry
loads x = load_of x 8 ∷ load_of x 9 ∷ load_of x 10 ∷ load_of x 11 ∷ load_of x 12 ∷ load_of x 13 ∷ load_of x 14 ∷ load_of x 15 ∷ []

abbrev pub opening_lines : ℕ → List Entry
opening_lines x = text_line ∷ export_line ∷ start_line ∷ buffer_line ∷ loads x

pub load_of_is : (x r : ℕ) → r < 32 → IsEntry (load_of x r)
load_of_is x r low = load_is_entry r (drawn_below 65536 (state_after_draws (r - 8) x)) low (omega arith)

loads_are : (x : ℕ) → AreEntries (loads x)
loads_are x = (
  load_of_is x 8 (omega arith),
  (
    load_of_is x 9 (omega arith),
    (
      load_of_is x 10 (omega arith),
      (
        load_of_is x 11 (omega arith),
        (load_of_is x 12 (omega arith), (load_of_is x 13 (omega arith), (load_of_is x 14 (omega arith), (load_of_is x 15 (omega arith), tt)))),
      ),
    ),
  ),
)

opening_are : (x : ℕ) → AreEntries (opening_lines x)
opening_are x = (text_line_is, (export_line_is, (start_line_is, (buffer_line_is, loads_are x))))

opening_is : (x : ℕ) → opening_text x ≡ joined (opening_lines x)
unfolding opening_text load_line digits
opening_is x = refl

abbrev data_lines : List Entry
data_lines = data_line ∷ buf_line ∷ space_line ∷ digits_line ∷ ascii_line ∷ []

abbrev lines_after_hex : List Entry
lines_after_hex = converting ++ digit_line ∷ writing ++ data_lines

abbrev pub ending_lines : List Entry
ending_lines = gathering ++ hex_line ∷ lines_after_hex

code_are : (es : List Entry) → AreCode es → AreEntries es
code_are [] h = tt
code_are (e ∷ es) h = (h.0.entry, code_are es h.1)

data_lines_are : AreEntries data_lines
data_lines_are = (data_line_is, (buf_line_is, (space_line_is, (digits_line_is, (ascii_line_is, tt)))))

writing_are : AreEntries (writing ++ data_lines)
writing_are = entries-append writing data_lines (code_are writing writing_code) data_lines_are

after_hex_are : AreEntries lines_after_hex
after_hex_are = entries-append converting (digit_line ∷ writing ++ data_lines) (code_are converting converting_code) (digit_line_is, writing_are)

ending_are : AreEntries ending_lines
ending_are = entries-append gathering (hex_line ∷ lines_after_hex) (code_are gathering gathering_code) (hex_line_is, after_hex_are)

ending_is : last_lines ≡ joined ending_lines
unfolding last_lines digits
ending_is = refl

statement_are : (number i : ℕ) → number ≤ 30000 → i ≤ 30000 → AreEntries (statement_lines number i)
statement_are number i most low = (
  label_is_entry i (omega arith),
  (
    statement_entry (choice_of (state_after_draws (8 + 5 * (i - 1)) number)).operation (choice_of (state_after_draws (8 + 5 * (i - 1)) number)) _
        (choice_fits (state_after_draws (8 + 5 * (i - 1)) number)) (omega arith),
    tt,
  ),
)

label_then : (name text : List ℕ) → (name ++ 58 ∷ 10 ∷ []) ++ text ≡ ((name ++ 58 ∷ []) ++ 10 ∷ []) ++ (text ++ [])
label_then name text = simp (append_assoc, append-nil)

statement_is : (number i : ℕ) → numbered_statement number i ≡ joined (statement_lines number i)
unfolding drawn_statement
statement_is number i = label_then (label_text i) _

statements_are_lines : (number m a : ℕ) → number ≤ 30000 → a + m ≤ 30001
    → AreLines (flat_map (numbered_statement number) (range_with_len a m)) (texts_of (flat_map (statement_lines number) (range_with_len a m)))
statements_are_lines number zero a most low = no_line
statements_are_lines number (suc m) a most low =
    let this : AreLines (numbered_statement number a) (texts_of (statement_lines number a)) =
    subst (λ (l : List ℕ). AreLines l (texts_of (statement_lines number a))) (sym (statement_is number a))
    (entries_lines (statement_lines number a) (statement_are number a most (omega arith))) in
    more_lines (numbered_statement number a) _ (texts_of (statement_lines number a)) _ this (statements_are_lines number m (a + 1) most (omega arith))

statements_are : (number m a : ℕ) → number ≤ 30000 → a + m ≤ 30001 → AreEntries (flat_map (statement_lines number) (range_with_len a m))
statements_are number zero a most low = tt
statements_are number (suc m) a most low =
    entries-append (statement_lines number a) _ (statement_are number a most (omega arith)) (statements_are number m (a + 1) most (omega arith))

-- the lines of the program
abbrev pub closing_lines : ℕ → List Entry
closing_lines number = label_entry (number + 1) ∷ ending_lines

abbrev pub all_statements : ℕ → List Entry
all_statements number = flat_map (statement_lines number) (range_with_len 1 number)

abbrev pub program_lines : ℕ → List Entry
program_lines number = opening_lines number ++ (all_statements number ++ closing_lines number)

closing_are : (number : ℕ) → number ≤ 30000 → AreEntries (closing_lines number)
closing_are number most = (label_is_entry (number + 1) (omega arith), ending_are)

pub program_are : (number : ℕ) → number ≤ 30000 → AreEntries (program_lines number)
program_are number most =
    entries-append (opening_lines number) _ (opening_are number)
    (entries-append (all_statements number) _ (statements_are number number 1 most (omega arith)) (closing_are number most))

name_then : (name text : List ℕ) → (name ++ 58 ∷ 10 ∷ []) ++ text ≡ ((name ++ 58 ∷ []) ++ 10 ∷ []) ++ text
name_then name text = simp append_assoc

closing_is : (number : ℕ) → closing_text number ≡ joined (closing_lines number)
unfolding closing_text
closing_is number = name_then (label_text (number + 1)) last_lines
    ∙ ap (λ (l : List ℕ). ((label_text (number + 1) ++ 58 ∷ []) ++ 10 ∷ []) ++ l) ending_is

as_lines : (text : List ℕ) (es : List Entry) → text ≡ joined es → AreEntries es → AreLines text (texts_of es)
as_lines text es e h = subst (λ (l : List ℕ). AreLines l (texts_of es)) (sym e) (entries_lines es h)

program_are_lines : (number : ℕ) → number ≤ 30000
    → AreLines (program_text number) ((texts_of (opening_lines number) ++ texts_of (all_statements number)) ++ texts_of (closing_lines number))
unfolding program_text
program_are_lines number most =
    more_lines (opening_text number ++ statements_text number) (closing_text number) (texts_of (opening_lines number) ++ texts_of (all_statements number))
    (texts_of (closing_lines number))
    (more_lines (opening_text number) (statements_text number) (texts_of (opening_lines number)) (texts_of (all_statements number))
    (as_lines (opening_text number) (opening_lines number) (opening_is number) (opening_are number)) (statements_are_lines number number 1 most (omega arith)))
    (as_lines (closing_text number) (closing_lines number) (closing_is number) (closing_are number most))

no_text : text_lines [] ≡ []
unfolding text_lines
no_text = refl

pub program_is : (number : ℕ) → number ≤ 30000 → text_lines (program_text number) ≡ texts_of (program_lines number)
program_is number most =
    ap text_lines (sym (append-nil (program_text number))) ∙ program_are_lines number most []
    ∙ ap (λ (l : List (List ℕ)). ((texts_of (opening_lines number) ++ texts_of (all_statements number)) ++ texts_of (closing_lines number)) ++ l) no_text
    ∙ append-nil ((texts_of (opening_lines number) ++ texts_of (all_statements number)) ++ texts_of (closing_lines number))
    ∙ append_assoc (texts_of (opening_lines number)) (texts_of (all_statements number)) (texts_of (closing_lines number))
    ∙ ap (λ (l : List (List ℕ)). texts_of (opening_lines number) ++ l) (sym (texts-append (all_statements number) (closing_lines number)))
    ∙ sym (texts-append (opening_lines number) (all_statements number ++ closing_lines number))
