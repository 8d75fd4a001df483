-- The symbols of the file and their names (Tool Interface Standard, Executable and Linking Format Specification,
-- "Symbol Table" and "String Table").
use Rattle.std.specs.Prelude.{ℕ, ◌+◌, ◌^◌, nat_lt, Bool, not, List, [], ◌∷◌, ◌++◌, filter, length, codes, replicate, if◌then◌else◌}
use Rattle.std.specs.List.{flat_map, list_all}
use Rattle.rv_asm.specs.Labels.{LabelView}
use Rattle.elf_make.specs.declared.binding.SymbolBinding.{SymbolBinding}
use Rattle.elf_make.specs.declared.binding.SymbolBinding.TheVariants.{Local, Global}
use Rattle.elf_make.specs.Fields.{halves, words}

-- a name with its terminating NUL
abbrev pub terminated : List ℕ → List ℕ
terminated name = name ++ 0 ∷ []

-- the label has this binding: it is global if it is exported
abbrev pub is_bound : SymbolBinding → LabelView → Bool
is_bound Local label = not label.global
is_bound Global label = label.global

-- the labels of this binding
abbrev pub bound : SymbolBinding → List LabelView → List LabelView
bound binding labels = filter (is_bound binding) labels

-- the order of the symbols: local labels first, then the exported ones
unfoldable pub locals_first : List LabelView → List LabelView
locals_first labels = bound Local labels ++ bound Global labels

-- the names of labels, each with its NUL
abbrev pub terminated_names : List LabelView → List ℕ
terminated_names labels = flat_map (λ label. terminated label.name) labels

-- the names of the symbols; the first, of the null symbol, is empty
unfoldable pub symbol_names : List LabelView → List ℕ
symbol_names labels = 0 ∷ terminated_names (locals_first labels)

-- the entry of a label whose name begins at an index: name, value, no size, whether it is local or global (STB_LOCAL,
-- STB_GLOBAL), and its section
abbrev pub entry : ℕ → LabelView → List ℕ
entry name label =
    words (name ∷ label.value ∷ 0 ∷ []) ++ (if label.global then 16 else 0) ∷ 0 ∷ []
    ++ halves ((if label.in_text then 1 else 2) ∷ [])

-- the entries of labels; the name of the first begins at an index
abbrev pub entries_from : ℕ → List LabelView → List ℕ
entries_from name [] = []
entries_from name (label ∷ labels) =
    entry name label ++ entries_from (name + length (terminated label.name)) labels

-- the symbol table: the null symbol, then the labels
unfoldable pub symbol_table : List LabelView → List ℕ
symbol_table labels = replicate 16 0 ++ entries_from 1 (locals_first labels)

-- the values of labels are addresses of 32 bits
abbrev pub are_addresses : List LabelView → Bool
are_addresses labels = list_all (λ label. nat_lt label.value (2 ^ 32)) labels

-- the names of the sections
abbrev pub section_names : List ℕ
section_names =
    0 ∷ flat_map terminated
    (codes ".text" ∷ codes ".data" ∷ codes ".symtab" ∷ codes ".strtab" ∷ codes ".shstrtab" ∷ [])
