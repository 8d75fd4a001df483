-- Both passes of the assembler over the lines of a drawn program.
use Rattle.std.proofs.Common.{◌≡◌, ℕ, ◌+◌, ◌*◌, ◌-◌, ◌%◌, ◌^◌, ◌<◌, ◌≤◌, Bool, true, false, List, [], ◌∷◌, ◌++◌, refl, sym, ◌∙◌, ap, subst, arith, suc, zero, Some, Ok, append_assoc, ◌⊎◌, inl, inr}
use Rattle.std.specs.Prelude.{None, codes, pos, nat_lt}
use Rattle.std.specs.List.{flat_map, range_with_len}
use Rattle.std.proofs.lemmas.Bool.Decides.{nat_tests}
use Rattle.rv_inst.specs.declared.instruction.Cond.TheVariants as cond
use Rattle.rv_inst.specs.declared.instruction.Instr.TheVariants as instr
use Rattle.rv_text.specs.declared.statement.Jump.TheVariants as jump
use Rattle.rv_text.specs.Reading.{aimed, distance_of, is_distance}
use Rattle.rv_asm.specs.declared.place.SectionPlace.{SectionPlace}
use Rattle.rv_asm.specs.Items.{SourceItem, Nothing, Near, size_of, is_code}
use Rattle.rv_asm.specs.Labels.{LabelView, value_of_label}
use Rattle.rv_asm.specs.Places.{section_address, place_after}
use Rattle.rv_asm.specs.Assembling.{with_label}
use Rattle.cf_gen.specs.Draws.{state_after_draws}
use Rattle.cf_gen.specs.declared.choice.Operation.{Operation}
use Rattle.cf_gen.specs.declared.choice.Operation.TheVariants.{Add, Sub, Xor, Or, Sltu, Sll, Addi, Sw, Lw, Blt}
use Rattle.cf_gen.specs.declared.choice.Choice.{Choice}
use Rattle.cf_gen.specs.Statements.{choice_of, label_text, instruction_text}
use Rattle.cf_gen.specs.Program.{branch_label}
use Rattle.asm_drawn.proofs.Entries.{Entry}
use Rattle.asm_drawn.proofs.Values.{numbered_labels, numbered_fresh}
use Rattle.asm_drawn.proofs.Walks.{Values, HasPieces, Goes, goes_on}
use Rattle.asm_drawn.proofs.Blocks.{text_at, fits_text, after_code, after_nothing, has_nothing, has_single, has_near, distance_ahead}
use Rattle.asm_drawn.proofs.Statements.{indented, IsChoice, choice_fits, stands_for, statement_entry}
use Rattle.asm_drawn.proofs.Labels.{label_entry, label_is_entry}

-- a label is new
pub fresh_label : (labels : List LabelView) (place : SectionPlace) (name : List ℕ) → value_of_label labels name ≡ None
    → with_label labels place (Some name)
    ≡ Ok (labels ++ record { name = name; value = section_address place; in_text = place.in_text; global = false } ∷ [])
fresh_label labels place name e = rw e refl

abbrev pub start_label : LabelView
start_label = record { name = codes "_start"; value = 0x10000; in_text = true; global = false }

-- the labels of the first k statements, after `_start`
abbrev pub labels_before : ℕ → ℕ → List LabelView
labels_before b k = start_label ∷ numbered_labels b k

pub next_fresh : (b k : ℕ) → k < 2 ^ 32 → value_of_label (labels_before b k) (label_text (suc k)) ≡ None
unfolding value_of_label
next_fresh b k small = numbered_fresh b k small

-- the lines of the i-th statement
abbrev pub statement_lines : ℕ → ℕ → List Entry
statement_lines number i =
    let choice = choice_of (state_after_draws (8 + 5 * (i - 1)) number) in
    label_entry i
    ∷ indented (instruction_text choice.operation choice (branch_label number i)) (stands_for choice.operation choice (branch_label number i))
    ∷ []

-- where a statement may branch to: two instructions further, or one if it is at the end
abbrev Lands : ℕ → ℕ → Type 0
Lands number a =
    ((branch_label number (suc a) ≡ suc (a + 2)) × (a + 2 ≤ number)) ⊎ ((branch_label number (suc a) ≡ suc (a + 1)) × (a + 1 ≤ number))

lands_by : (number a : ℕ) (less : Bool) → nat_lt (a + 1) number ≡ less → a < number → Lands number a
lands_by number a true e low = let more : a + 1 < number = grind (arith, nat_tests) in inl ((omega arith, omega arith))
lands_by number a false e low = let last : number ≤ a + 1 = grind (arith, nat_tests) in inr ((omega arith, omega arith))

lands : (number a : ℕ) → a < number → Lands number a
lands number a low = lands_by number a (nat_lt (a + 1) number) refl low

-- the labels of the statements have their addresses
abbrev pub HasNumbers : Values → ℕ → ℕ → Type 0
HasNumbers values b number = (k : ℕ) → k ≤ number → values (label_text (suc k)) ≡ Some (0x10000 + (b + 4 * k))

branch_to : (values : Values) (choice : Choice) (b a j d : ℕ) → values (label_text (suc j)) ≡ Some (0x10000 + (b + 4 * j))
    → 4 * j ≡ 4 * a + d → b + 4 * j < 2 ^ 20 → d < 2 ^ 12
    → aimed (jump.Branch cond.Lt choice.first choice.second) (pos d) ≡ Ok (instr.Branch cond.Lt choice.first choice.second (pos d))
    → HasPieces values (0x10000 + (b + 4 * a)) (Near (jump.Branch cond.Lt choice.first choice.second) (label_text (suc j)))
branch_to values choice b a j d found apart small short reach =
    let ahead : 0x10000 + (b + 4 * j) ≡ 0x10000 + (b + 4 * a) + d = omega arith in
    let distance : distance_of (pos (0x10000 + (b + 4 * j))) (0x10000 + (b + 4 * a)) ≡ pos d =
    ap (λ (v : ℕ). distance_of (pos v) (0x10000 + (b + 4 * a))) ahead ∙ distance_ahead (0x10000 + (b + 4 * a)) d (omega arith) (omega arith) in
    has_near values (0x10000 + (b + 4 * a)) (jump.Branch cond.Lt choice.first choice.second) (label_text (suc j)) (0x10000 + (b + 4 * j))
    (instr.Branch cond.Lt choice.first choice.second (pos d)) found
    (ap (aimed (jump.Branch cond.Lt choice.first choice.second)) distance ∙ reach)

branch_pieces : (values : Values) (choice : Choice) (b number a : ℕ) → HasNumbers values b number → b + 4 * number < 2 ^ 20 → Lands number a
    → HasPieces values (0x10000 + (b + 4 * a)) (Near (jump.Branch cond.Lt choice.first choice.second) (label_text (branch_label number (suc a))))
unfolding aimed is_distance
branch_pieces values choice b number a has small (inl h) =
    let low = h.1 in
    subst (λ (i : ℕ). HasPieces values (0x10000 + (b + 4 * a)) (Near (jump.Branch cond.Lt choice.first choice.second) (label_text i))) (sym h.0)
    (branch_to values choice b a (a + 2) 8 (has (a + 2) low) (omega arith) (omega arith) (omega arith) refl)
branch_pieces values choice b number a has small (inr h) =
    let low = h.1 in
    subst (λ (i : ℕ). HasPieces values (0x10000 + (b + 4 * a)) (Near (jump.Branch cond.Lt choice.first choice.second) (label_text i))) (sym h.0)
    (branch_to values choice b a (a + 1) 4 (has (a + 1) low) (omega arith) (omega arith) (omega arith) refl)

statement_pieces : (values : Values) (operation : Operation) (choice : Choice) (b number a : ℕ) → HasNumbers values b number → b + 4 * number < 2 ^ 20
    → a < number → HasPieces values (0x10000 + (b + 4 * a)) (stands_for operation choice (branch_label number (suc a)))
statement_pieces values Add choice b number a has small low = has_single values _ _
statement_pieces values Sub choice b number a has small low = has_single values _ _
statement_pieces values Xor choice b number a has small low = has_single values _ _
statement_pieces values Or choice b number a has small low = has_single values _ _
statement_pieces values Sltu choice b number a has small low = has_single values _ _
statement_pieces values Sll choice b number a has small low = has_single values _ _
statement_pieces values Addi choice b number a has small low = has_single values _ _
statement_pieces values Sw choice b number a has small low = has_single values _ _
statement_pieces values Lw choice b number a has small low = has_single values _ _
statement_pieces values Blt choice b number a has small low = branch_pieces values choice b number a has small (lands number a low)

-- each is one instruction
record IsOne (item : SourceItem) : Type 0 where
  code : is_code item ≡ true
  four : size_of item ≡ 4

statement_one : (operation : Operation) (choice : Choice) (i : ℕ) → IsOne (stands_for operation choice i)
statement_one Add choice i = record { code = refl; four = refl }
statement_one Sub choice i = record { code = refl; four = refl }
statement_one Xor choice i = record { code = refl; four = refl }
statement_one Or choice i = record { code = refl; four = refl }
statement_one Sltu choice i = record { code = refl; four = refl }
statement_one Sll choice i = record { code = refl; four = refl }
statement_one Addi choice i = record { code = refl; four = refl }
statement_one Sw choice i = record { code = refl; four = refl }
statement_one Lw choice i = record { code = refl; four = refl }
statement_one Blt choice i = record { code = refl; four = refl }

-- the line of the next label
pub label_goes : (values : Values) (final : List LabelView) (b a : ℕ) (rest : List Entry) → a < 2 ^ 20 → b % 4 ≡ 0 → b + 4 * a < 2 ^ 20
    → Goes values final rest (text_at (b + 4 * a)) (labels_before b (suc a))
    → Goes values final (label_entry (suc a) ∷ rest) (text_at (b + 4 * a)) (labels_before b a)
unfolding section_address
label_goes values final b a rest low even small after =
    goes_on values final (label_entry (suc a)) rest (text_at (b + 4 * a)) (labels_before b a) (labels_before b (suc a))
    (label_is_entry (suc a) (omega arith))
    (fresh_label (labels_before b a) (text_at (b + 4 * a)) (label_text (suc a)) (next_fresh b a (omega arith)))
    (fits_text (b + 4 * a) Nothing (omega arith) (omega arith)) (has_nothing values (0x10000 + (b + 4 * a)))
    (rw (after_nothing (b + 4 * a)) after)

instruction_goes : (values : Values) (final : List LabelView) (operation : Operation) (choice : Choice) (number b a : ℕ) (rest : List Entry)
    → IsChoice choice → HasNumbers values b number → b + 4 * number < 2 ^ 20 - 4 → b % 4 ≡ 0 → a < number
    → Goes values final rest (text_at (b + 4 * suc a)) (labels_before b (suc a))
    → Goes values final
    (indented (instruction_text operation choice (branch_label number (suc a))) (stands_for operation choice (branch_label number (suc a))) ∷ rest)
    (text_at (b + 4 * a)) (labels_before b (suc a))
unfolding section_address
instruction_goes values final operation choice number b a rest c has small even low after =
    let i = branch_label number (suc a) in
    let item = stands_for operation choice (branch_label number (suc a)) in
    let one = statement_one operation choice (branch_label number (suc a)) in
    let four = one.four in
    let place : place_after (text_at (b + 4 * a)) (stands_for operation choice (branch_label number (suc a))) ≡ text_at (b + 4 * suc a) =
    after_code (b + 4 * a) (stands_for operation choice (branch_label number (suc a))) one.code
    ∙ ap (λ (t : ℕ). text_at t) (omega arith) in
    goes_on values final _ rest (text_at (b + 4 * a)) (labels_before b (suc a)) (labels_before b (suc a))
    (statement_entry operation choice (branch_label number (suc a)) c (omega arith)) refl
    (fits_text (b + 4 * a) (stands_for operation choice (branch_label number (suc a))) (omega arith) (omega arith))
    (statement_pieces values operation choice b number a has (omega arith) low)
    (rw place after)

statement_goes : (values : Values) (final : List LabelView) (number b a : ℕ) (rest : List Entry)
    → HasNumbers values b number → b + 4 * number < 2 ^ 20 - 4 → b % 4 ≡ 0 → a < number
    → Goes values final rest (text_at (b + 4 * suc a)) (labels_before b (suc a))
    → Goes values final (statement_lines number (suc a) ++ rest) (text_at (b + 4 * a)) (labels_before b a)
statement_goes values final number b a rest has small even low after =
    let x = state_after_draws (8 + 5 * (suc a - 1)) number in
    label_goes values final b a _ (omega arith) even (omega arith)
    (instruction_goes values final (choice_of (state_after_draws (8 + 5 * (suc a - 1)) number)).operation
    (choice_of (state_after_draws (8 + 5 * (suc a - 1)) number))
    number b a rest (choice_fits (state_after_draws (8 + 5 * (suc a - 1)) number)) has small even low after)

-- the statements from the i-th on, and what follows them
pub statements_go : (values : Values) (final : List LabelView) (number b m i a : ℕ) (rest : List Entry)
    → HasNumbers values b number → b + 4 * number < 2 ^ 20 - 4 → b % 4 ≡ 0 → i ≡ suc a → a + m ≡ number
    → Goes values final rest (text_at (b + 4 * number)) (labels_before b number)
    → Goes values final (flat_map (statement_lines number) (range_with_len i m) ++ rest) (text_at (b + 4 * a)) (labels_before b a)
statements_go values final number b zero i a rest has small even next e after =
    let ends : number ≡ a = omega arith in
    subst (λ (k : ℕ). Goes values final rest (text_at (b + 4 * k)) (labels_before b k)) ends after
statements_go values final number b (suc m) i a rest has small even next e after =
    let others = statements_go values final number b m (i + 1) (suc a) rest has small even (omega arith) (omega arith) after in
    let this = statement_goes values final number b a _ has small even (omega arith) others in
    rw append_assoc (subst (λ (j : ℕ). Goes values final (statement_lines number j ++ (flat_map (statement_lines number) (range_with_len (i + 1) m) ++ rest))
    (text_at (b + 4 * a)) (labels_before b a)) (sym next) this)
