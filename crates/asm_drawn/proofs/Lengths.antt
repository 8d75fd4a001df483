-- The text of a drawn program is no longer than a source may be.
use Rattle.std.proofs.Common.{◌≡◌, ℕ, ◌+◌, ◌*◌, ◌-◌, ◌<◌, ◌≤◌, List, [], ◌∷◌, ◌++◌, length, ◌∙◌, ap, arith, suc, zero, length-append, append_assoc, append-nil, lit≤, lit<}
use Rattle.std.specs.Prelude.{codes, decimal}
use Rattle.std.specs.Fmt.{digits}
use Rattle.std.specs.List.{flat_map, range_with_len}
use Rattle.std.proofs.lemmas.Fmt.{length-decimal-le}
use Rattle.cf_gen.specs.Draws.{state_after_draws, drawn_below}
use Rattle.cf_gen.specs.declared.choice.Operation.{Operation}
use Rattle.cf_gen.specs.declared.choice.Operation.TheVariants.{Add, Sub, Xor, Or, Sltu, Sll, Addi, Sw, Lw, Blt}
use Rattle.cf_gen.specs.declared.choice.Choice.{Choice}
use Rattle.cf_gen.specs.Statements.{choice_of, register_operand, label_text, two_registers, three_registers, register_and_word, instruction_text}
use Rattle.cf_gen.specs.Program.{statement, label_line, load_line, opening_text, branch_label, drawn_statement, numbered_statement, statements_text, last_lines, closing_text, program_text}
use Rattle.asm_drawn.proofs.Statements.{IsChoice, choice_fits, three_is, word_is}

two_digits : (n : ℕ) → n < 100 → length (decimal n) ≤ 2
two_digits n low = length-decimal-le 2 n (lit< tt) (omega arith) (omega arith)

three_digits : (n : ℕ) → n < 1000 → length (decimal n) ≤ 3
three_digits n low = length-decimal-le 3 n (lit< tt) (omega arith) (omega arith)

five_digits : (n : ℕ) → n < 100000 → length (decimal n) ≤ 5
five_digits n low = length-decimal-le 5 n (lit< tt) (omega arith) (omega arith)

joined_two : (x y : List ℕ) → length (x ++ 44 ∷ 32 ∷ (y ++ [])) ≡ length x + length y + 2
joined_two x y = omega (arith, length-append x (44 ∷ 32 ∷ (y ++ [])), length-append {A = ℕ} y [])

joined_three : (x y z : List ℕ) → length ((x ++ codes ", " ++ y) ++ codes ", " ++ z) ≡ length x + length y + length z + 4
joined_three x y z =
    let same : length ((x ++ codes ", " ++ y) ++ codes ", " ++ z) ≡ length (x ++ 44 ∷ 32 ∷ (y ++ 44 ∷ 32 ∷ (z ++ []))) =
    ap (λ (l : List ℕ). length l) (three_is x y z) in
    same ∙ (omega (arith, length-append x (44 ∷ 32 ∷ (y ++ 44 ∷ 32 ∷ (z ++ []))), joined_two y z))

joined_word : (x number base : List ℕ) → length (x ++ codes ", " ++ number ++ base) ≡ length x + length number + length base + 2
joined_word x number base =
    let same : length (x ++ codes ", " ++ number ++ base) ≡ length (x ++ 44 ∷ 32 ∷ ((number ++ base) ++ [])) =
    ap (λ (l : List ℕ). length l) (word_is x number base) in
    same ∙ (omega (arith, joined_two x (number ++ base), length-append number base))

three_bound : (x y z : List ℕ) (a b c n : ℕ) → length x ≤ a → length y ≤ b → length z ≤ c → a + b + c + 4 ≤ n
    → length ((x ++ codes ", " ++ y) ++ codes ", " ++ z) ≤ n
three_bound x y z a b c n h k l m = omega (arith, joined_three x y z)

word_bound : (x number base : List ℕ) (a b c n : ℕ) → length x ≤ a → length number ≤ b → length base ≤ c → a + b + c + 2 ≤ n
    → length (x ++ codes ", " ++ number ++ base) ≤ n
word_bound x number base a b c n h k l m = omega (arith, joined_word x number base)

register_length : (r : ℕ) → r < 32 → length (register_operand r) ≤ 3
register_length r low = let l = two_digits r (omega arith) in omega arith

label_length : (i : ℕ) → i < 100000 → length (label_text i) ≤ 6
label_length i low = let l = five_digits i low in omega arith

three_registers_length : (choice : Choice) → IsChoice choice → length (three_registers choice) ≤ 13
three_registers_length choice c =
    three_bound (register_operand choice.first) (register_operand choice.second) (register_operand choice.third) 3 3 3 13
    (register_length choice.first c.first) (register_length choice.second c.second) (register_length choice.third c.third) (lit≤ tt)

word_length : (choice : Choice) → IsChoice choice → length (register_and_word choice) ≤ 12
word_length choice c =
    let offset = c.offset in
    word_bound (register_operand choice.first) (decimal (4 * choice.offset)) (codes "(x7)") 3 3 4 12
    (register_length choice.first c.first) (three_digits (4 * choice.offset) (omega arith)) (lit≤ tt) (lit≤ tt)

addi_length : (choice : Choice) → IsChoice choice → length (two_registers choice ++ codes ", " ++ decimal choice.offset) ≤ 12
addi_length choice c =
    let offset = c.offset in
    three_bound (register_operand choice.first) (register_operand choice.second) (decimal choice.offset) 3 3 2 12
    (register_length choice.first c.first) (register_length choice.second c.second) (two_digits choice.offset (omega arith)) (lit≤ tt)

blt_length : (choice : Choice) (i : ℕ) → IsChoice choice → i < 100000 → length (two_registers choice ++ codes ", " ++ label_text i) ≤ 16
blt_length choice i c low =
    three_bound (register_operand choice.first) (register_operand choice.second) (label_text i) 3 3 6 16
    (register_length choice.first c.first) (register_length choice.second c.second) (label_length i low) (lit≤ tt)

within : (front back : List ℕ) (n most : ℕ) → length back ≤ n → length front + n ≤ most → length (front ++ back) ≤ most
within front back n most h k = omega (arith, length-append front back)

instruction_length : (operation : Operation) (choice : Choice) (i : ℕ) → IsChoice choice → i < 100000
    → length (instruction_text operation choice i) ≤ 20
unfolding instruction_text
instruction_length Add choice i c low = within (codes "add ") (three_registers choice) 13 20 (three_registers_length choice c) (lit≤ tt)
instruction_length Sub choice i c low = within (codes "sub ") (three_registers choice) 13 20 (three_registers_length choice c) (lit≤ tt)
instruction_length Xor choice i c low = within (codes "xor ") (three_registers choice) 13 20 (three_registers_length choice c) (lit≤ tt)
instruction_length Or choice i c low = within (codes "or ") (three_registers choice) 13 20 (three_registers_length choice c) (lit≤ tt)
instruction_length Sltu choice i c low = within (codes "sltu ") (three_registers choice) 13 20 (three_registers_length choice c) (lit≤ tt)
instruction_length Sll choice i c low = within (codes "sll ") (three_registers choice) 13 20 (three_registers_length choice c) (lit≤ tt)
instruction_length Addi choice i c low =
    within (codes "addi ") (two_registers choice ++ codes ", " ++ decimal choice.offset) 12 20 (addi_length choice c) (lit≤ tt)
instruction_length Sw choice i c low = within (codes "sw ") (register_and_word choice) 12 20 (word_length choice c) (lit≤ tt)
instruction_length Lw choice i c low = within (codes "lw ") (register_and_word choice) 12 20 (word_length choice c) (lit≤ tt)
instruction_length Blt choice i c low =
    within (codes "blt ") (two_registers choice ++ codes ", " ++ label_text i) 16 20 (blt_length choice i c low) (lit≤ tt)

two_lines : (name text : List ℕ) → length name ≤ 6 → length text ≤ 20
    → length ((name ++ 58 ∷ 10 ∷ []) ++ 32 ∷ 32 ∷ 32 ∷ 32 ∷ (text ++ 10 ∷ [])) ≤ 33
two_lines name text h k =
    omega (
      arith,
      length-append (name ++ 58 ∷ 10 ∷ []) (32 ∷ 32 ∷ 32 ∷ 32 ∷ (text ++ 10 ∷ [])),
      length-append name (58 ∷ 10 ∷ []),
      length-append text (10 ∷ []),
    )

statement_length : (number i : ℕ) → number ≤ 30000 → i ≤ 30000 → length (numbered_statement number i) ≤ 33
unfolding drawn_statement
statement_length number i most low =
    let x = state_after_draws (8 + 5 * (i - 1)) number in
    two_lines (label_text i) _ (label_length i (omega arith))
    (instruction_length (choice_of (state_after_draws (8 + 5 * (i - 1)) number)).operation (choice_of (state_after_draws (8 + 5 * (i - 1)) number))
    (branch_label number i) (choice_fits (state_after_draws (8 + 5 * (i - 1)) number)) (omega arith))

statements_length : (number m a : ℕ) → number ≤ 30000 → a + m ≤ 30001
    → length (flat_map (numbered_statement number) (range_with_len a m)) ≤ 33 * m
statements_length number zero a most low = omega arith
statements_length number (suc m) a most low =
    let this = statement_length number a most (omega arith) in
    let rest = statements_length number m (a + 1) most (omega arith) in
    omega (arith, length-append (numbered_statement number a) (flat_map (numbered_statement number) (range_with_len (a + 1) m)))

load_text_is : (x v : List ℕ) → codes "li " ++ x ++ codes ", " ++ v ≡ 108 ∷ 105 ∷ 32 ∷ (x ++ 44 ∷ 32 ∷ (v ++ []))
load_text_is x v = simp (append_assoc, append-nil)

load_text_length : (x v : List ℕ) → length x ≤ 3 → length v ≤ 5 → length ((codes "li " ++ x ++ codes ", " ++ v) ++ 10 ∷ []) ≤ 14
load_text_length x v h k =
    let same : length ((codes "li " ++ x ++ codes ", " ++ v) ++ 10 ∷ []) ≡ length ((108 ∷ 105 ∷ 32 ∷ (x ++ 44 ∷ 32 ∷ (v ++ []))) ++ 10 ∷ []) =
    ap (λ (l : List ℕ). length (l ++ 10 ∷ [])) (load_text_is x v) in
    rw same (within (108 ∷ 105 ∷ 32 ∷ []) ((x ++ 44 ∷ 32 ∷ (v ++ [])) ++ 10 ∷ []) 11 14
    (omega (arith, length-append (x ++ 44 ∷ 32 ∷ (v ++ [])) (10 ∷ []), joined_two x v)) (lit≤ tt))

load_length : (x r : ℕ) → r < 32 → length (load_line x r) ≤ 18
unfolding load_line
load_length x r low =
    within (codes "    ") ((codes "li " ++ register_operand r ++ codes ", " ++ decimal (drawn_below 65536 (state_after_draws (r - 8) x))) ++ 10 ∷ []) 14 18
    (load_text_length (register_operand r) (decimal (drawn_below 65536 (state_after_draws (r - 8) x))) (register_length r low)
    (five_digits (drawn_below 65536 (state_after_draws (r - 8) x)) (omega arith)))
    (lit≤ tt)

loads_length : (x m a : ℕ) → a + m ≤ 32 → length (flat_map (load_line x) (range_with_len a m)) ≤ 18 * m
loads_length x zero a low = omega arith
loads_length x (suc m) a low =
    let this = load_length x a (omega arith) in
    let rest = loads_length x m (a + 1) (omega arith) in
    omega (arith, length-append (load_line x a) (flat_map (load_line x) (range_with_len (a + 1) m)))

opening_length : (x : ℕ) → length (opening_text x) ≤ 300
unfolding opening_text
opening_length x =
    within (statement (codes ".text") ++ statement (codes ".globl _start") ++ label_line (codes "_start") ++ statement (codes "la x7, buf"))
    (flat_map (load_line x) (range_with_len 8 8)) 144 300 (loads_length x 8 8 (omega arith)) (lit≤ tt)

closing_bound : (name rest : List ℕ) → length name ≤ 6 → length rest ≤ 1900 → length ((name ++ 58 ∷ 10 ∷ []) ++ rest) ≤ 2000
closing_bound name rest h k = omega (arith, length-append (name ++ 58 ∷ 10 ∷ []) rest, length-append name (58 ∷ 10 ∷ []))

ending_length : length last_lines ≤ 1900
unfolding last_lines digits
ending_length = lit≤ tt

closing_length : (number : ℕ) → number ≤ 30000 → length (closing_text number) ≤ 2000
unfolding closing_text
closing_length number most = closing_bound (label_text (number + 1)) last_lines (label_length (number + 1) (omega arith)) ending_length

pub text_fits : (number : ℕ) → number ≤ 30000 → length (program_text number) ≤ 1048576
unfolding program_text
text_fits number most =
    let first = opening_length number in
    let middle = statements_length number number 1 most (omega arith) in
    let last = closing_length number most in
    omega (
      arith,
      length-append (opening_text number ++ statements_text number) (closing_text number),
      length-append (opening_text number) (statements_text number),
    )
