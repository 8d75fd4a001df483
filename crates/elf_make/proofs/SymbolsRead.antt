-- The symbols that are read from a table that was written, with their names.
use Rattle.std.proofs.Common.{◌≡◌, ◌≢◌, ℕ, ◌+◌, ◌^◌, ◌<◌, ◌≤◌, Bool, true, false, List, [], ◌∷◌, ◌++◌, length, drop, replicate, get_or, refl, sym, ap, ◌∙◌, subst, cond, arith, append_assoc, length-append, All}
use Rattle.std.specs.Prelude.{◌==◌, map}
use Rattle.std.specs.List.{before_first, position_or_len}
use Rattle.std.proofs.lemmas.Bool.Decides.{nat_tests}
use Rattle.std.proofs.lemmas.List.{get_or-append-add}
use Rattle.std.proofs.lemmas.List.Elements.{All-cons, All-nil, All-head, All-tail, All-append}
use Rattle.std.proofs.lemmas.Grind.{flat_map-append}
use Rattle.std.proofs.Math.Seq.{take-append_seam}
use Rattle.elf_view.specs.declared.headers.SymbolEntry.{SymbolEntry}
use Rattle.elf_view.specs.Fields.{word, entries}
use Rattle.elf_view.specs.Headers.{symbol_entry}
use Rattle.elf_view.specs.Symbols.{NamedSymbol, symbol_of}
use Rattle.rv_asm.specs.Labels.{LabelView}
use Rattle.rv_asm.specs.Small.{HasNoNul, joined_names}
use Rattle.elf_make.specs.declared.binding.SymbolBinding.{SymbolBinding}
use Rattle.elf_make.specs.declared.binding.SymbolBinding.TheVariants.{Local, Global}
use Rattle.elf_make.specs.Fields.{halves, words}
use Rattle.elf_make.specs.Symbols.{is_bound, bound, terminated, terminated_names, locals_first, entry, entries_from}
use Rattle.elf_make.specs.Viewed.{label_symbol}
use Rattle.elf_make.proofs.Located.{after-part, word-in, word-is}

-- the value of a label is an address
abbrev pub IsAddress : LabelView → Type 0
IsAddress label = label.value < 2 ^ 32

abbrev IsNoNul : ℕ → Type 0
IsNoNul byte = byte ≢ 0

-- the entries that are read
abbrev pub entries_read : ℕ → List LabelView → List SymbolEntry
entries_read name [] = []
entries_read name (l ∷ ls) =
    record { name = name; value = l.value; size = 0 } ∷ entries_read (name + length (terminated l.name)) ls

abbrev entry_with : ℕ → ℕ → ℕ → SymbolEntry
entry_with name value size = record { name = name; value = value; size = size }

entry-is : (name : ℕ) (l : LabelView) (rest : List ℕ) → name < 2 ^ 32 → l.value < 2 ^ 32
    → symbol_entry (entry name l ++ rest) 0 ≡ entry_with name l.value 0
unfolding halves words word
entry-is name l rest h k =
    ap (λ (n : ℕ). entry_with n (word (entry name l ++ rest) 4) 0) (word-is name h)
    ∙ ap (λ (v : ℕ). entry_with name v 0) (word-is l.value k)

same-entry : (n₁ n₂ v₁ v₂ s₁ s₂ : ℕ) → n₁ ≡ n₂ → v₁ ≡ v₂ → s₁ ≡ s₂ → entry_with n₁ v₁ s₁ ≡ entry_with n₂ v₂ s₂
same-entry n₁ n₂ v₁ v₂ s₁ s₂ n v s = rw (n, v, s) refl

pub entry-in : (file part : List ℕ) (at : ℕ) → drop at file ≡ part → symbol_entry file at ≡ symbol_entry part 0
entry-in file part at e =
    same-entry _ _ _ _ _ _ (word-in file part at 0 at e (omega arith)) (word-in file part at 4 (at + 4) e refl) (word-in file part at 8 (at + 8) e refl)

length-entry : (name : ℕ) (l : LabelView) → length (entry name l) ≡ 16
unfolding halves words
length-entry name l = refl

pub entries-are : (labels : List LabelView) (file rest : List ℕ) (at name : ℕ) → drop at file ≡ entries_from name labels ++ rest
    → All IsAddress labels → name + length (terminated_names labels) < 2 ^ 32
    → entries symbol_entry 16 file at (length labels) ≡ entries_read name labels
entries-are [] file rest at name e h n = refl
entries-are (l ∷ ls) file rest at name e h n =
    let next = name + length (terminated l.name) in
    let grouped = e ∙ append_assoc (entry name l) (entries_from next ls) rest in
    let names = length-append (terminated l.name) (terminated_names ls) in
    let first = entry-in file (entry name l ++ (entries_from next ls ++ rest)) at grouped ∙ entry-is name l (entries_from next ls ++ rest) (omega arith)
    (All-head IsAddress l ls h) in
    let after = after-part file (entry name l) (entries_from next ls ++ rest) at (at + 16) grouped (ap (λ (k : ℕ). at + k) (sym (length-entry name l))) in
    let others = entries-are ls file rest (at + 16) next after (All-tail IsAddress l ls h) (omega arith) in
    ap (λ (x : SymbolEntry). x ∷ entries symbol_entry 16 file (at + 16) (length ls)) first
    ∙ ap (λ (xs : List SymbolEntry). entry_with name l.value 0 ∷ xs) others

-- the first entry, which is empty
pub none-is : (rest : List ℕ) → symbol_entry (replicate 16 0 ++ rest) 0 ≡ entry_with 0 0 0
unfolding word
none-is rest = refl

-- a name up to its NUL
name-ends : (name rest : List ℕ) → HasNoNul name → position_or_len (λ byte. byte == 0) (name ++ 0 ∷ rest) ≡ length name
name-ends [] rest h = refl
name-ends (b ∷ bs) rest h =
    let other : (b == 0) ≡ false = let no : b ≢ 0 = All-head IsNoNul b bs h in grind (arith, nat_tests) in
    let more = name-ends bs rest (All-tail IsNoNul b bs h) in
    rw other (omega (arith, more))

pub name-is : (name rest : List ℕ) → HasNoNul name → before_first (λ byte. byte == 0) (name ++ 0 ∷ rest) ≡ name
name-is name rest h = rw (name-ends name rest h) (take-append_seam name (0 ∷ rest))

front-no-nul : (name others : List ℕ) → HasNoNul (name ++ others) → HasNoNul name
front-no-nul [] others h = All-nil IsNoNul
front-no-nul (b ∷ bs) others h = All-cons IsNoNul b bs (All-head IsNoNul b (bs ++ others) h) (front-no-nul bs others (All-tail IsNoNul b (bs ++ others) h))

back-no-nul : (name others : List ℕ) → HasNoNul (name ++ others) → HasNoNul others
back-no-nul [] others h = h
back-no-nul (b ∷ bs) others h = back-no-nul bs others (All-tail IsNoNul b (bs ++ others) h)

abbrev symbol_with : List ℕ → ℕ → ℕ → NamedSymbol
symbol_with name value size = record { name = name; value = value; size = size }

pub symbols-are : (labels : List LabelView) (names : List ℕ) (at : ℕ) → drop at names ≡ terminated_names labels → HasNoNul (joined_names labels)
    → map (symbol_of names) (entries_read at labels) ≡ map label_symbol labels
symbols-are [] names at e h = refl
symbols-are (l ∷ ls) names at e h =
    let grouped = e ∙ append_assoc l.name (0 ∷ []) (terminated_names ls) in
    let name = ap (λ (t : List ℕ). before_first (λ byte. byte == 0) t) grouped ∙ name-is l.name (terminated_names ls)
    (front-no-nul l.name (joined_names ls) h) in
    let after = after-part names (terminated l.name) (terminated_names ls) at (at + length (terminated l.name)) e refl in
    let others = symbols-are ls names (at + length (terminated l.name)) after (back-no-nul l.name (joined_names ls) h) in
    ap (λ (n : List ℕ). symbol_with n l.value 0 ∷ map (symbol_of names) (entries_read (at + length (terminated l.name)) ls)) name
    ∙ ap (λ (s : List NamedSymbol). symbol_with l.name l.value 0 ∷ s) others

abbrev pub IsNameBelow : ℕ → SymbolEntry → Type 0
IsNameBelow size e = e.name < size

-- each name begins before the end of all names
pub names-begin : (labels : List LabelView) (name size : ℕ) → name + length (terminated_names labels) ≤ size
    → All (IsNameBelow size) (entries_read name labels)
names-begin [] name size h = All-nil (IsNameBelow size)
names-begin (l ∷ ls) name size h =
    let names = length-append (terminated l.name) (terminated_names ls) in
    let nul = length-append l.name (0 ∷ []) in
    All-cons (IsNameBelow size) (entry_with name l.value 0) (entries_read (name + length (terminated l.name)) ls) (omega arith)
    (names-begin ls (name + length (terminated l.name)) size (omega arith))

-- the last byte of the names is NUL
pub names-end : (labels : List LabelView) → get_or (0 ∷ terminated_names labels) (length (terminated_names labels)) 0 ≡ 0
names-end [] = refl
names-end (l ∷ ls) =
    let whole : (0 ∷ terminated_names (l ∷ ls)) ≡ (0 ∷ l.name) ++ (0 ∷ terminated_names ls) = ap (λ (n : List ℕ). 0 ∷ n)
    (append_assoc l.name (0 ∷ []) (terminated_names ls)) in
    let count : length (terminated_names (l ∷ ls)) ≡ length (0 ∷ l.name) + length (terminated_names ls) =
    omega (arith, length-append (terminated l.name) (terminated_names ls), length-append l.name (0 ∷ [])) in
    ap (λ (n : List ℕ). get_or n (length (terminated_names (l ∷ ls))) 0) whole
    ∙ ap (λ (k : ℕ). get_or ((0 ∷ l.name) ++ (0 ∷ terminated_names ls)) k 0) count
    ∙ get_or-append-add (0 ∷ l.name) (0 ∷ terminated_names ls) (length (terminated_names ls)) 0
    ∙ names-end ls

-- what holds for the labels holds for them in another order
either-no-nul : (b : Bool) (x : LabelView) (xs : List LabelView) → HasNoNul x.name → HasNoNul (joined_names xs) → HasNoNul (joined_names (cond b (x ∷ xs) xs))
either-no-nul true x xs h k = All-append IsNoNul x.name (joined_names xs) h k
either-no-nul false x xs h k = k

bound-no-nul : (g : SymbolBinding) (labels : List LabelView) → HasNoNul (joined_names labels) → HasNoNul (joined_names (bound g labels))
bound-no-nul g [] h = h
bound-no-nul g (l ∷ ls) h =
    either-no-nul (is_bound g l) l (bound g ls) (front-no-nul l.name (joined_names ls) h) (bound-no-nul g ls (back-no-nul l.name (joined_names ls) h))

pub order-no-nul : (labels : List LabelView) → HasNoNul (joined_names labels) → HasNoNul (joined_names (locals_first labels))
unfolding locals_first
order-no-nul labels h =
    subst HasNoNul (sym (flat_map-append (λ (l : LabelView). l.name) (bound Local labels) (bound Global labels)))
    (All-append IsNoNul (joined_names (bound Local labels)) (joined_names (bound Global labels)) (bound-no-nul Local labels h) (bound-no-nul Global labels h))
