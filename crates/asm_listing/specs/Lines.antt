-- The lines of a listing: the words of a program with their addresses, their instructions and the labels before them (a
-- format of this project, with the instructions as in the RISC-V Assembly Programmer's Manual).
use Rattle.std.specs.Prelude.{◌≡◌, ◌≤◌, ℕ, ◌+◌, ◌-◌, ◌%◌, ◌^◌, ◌==◌, ◌&&◌, not, nat_le, List, [], ◌∷◌, ◌++◌, codes, length, take, drop, Option, Some, None, if◌then◌else◌, Bool, map}
use Rattle.std.specs.List.{flat_map}
use Rattle.std.specs.Int.{w32, from_le_bytes}
use Rattle.rv_inst.specs.declared.instruction.Instr.{Instr}
use Rattle.rv_inst.specs.Decoding.{decoded_m}
use Rattle.rv_text.specs.Writing.{text_of}
use Rattle.elf_view.specs.Symbols.{NamedSymbol, shown_lazy}
use Rattle.elf_view.specs.declared.symbols.LazySymbol.{LazySymbol}
use Rattle.texts.specs.Hexadecimal.{hex8}
use Rattle.texts.specs.Lines.{newline, line}

-- the text of an instruction at an address, or the word itself if it is not an instruction
unfoldable pub word_text : ℕ → ℕ → Option Instr → List ℕ
word_text pc word (Some i) = text_of i pc
word_text pc word None = codes ".word 0x" ++ hex8 word

-- the line of a word: address, word, text
unfoldable pub word_line : ℕ → ℕ → List ℕ
word_line pc word =
    hex8 pc ++ codes " " ++ hex8 word ++ codes " " ++ word_text pc word (decoded_m word) ++ newline

-- the symbol is a label at the address: it has the value, and a name
abbrev pub is_label_at : ℕ → NamedSymbol → Bool
is_label_at pc symbol = (symbol.value == pc) && not (length symbol.name == 0)

-- the line of a symbol that is a label at the address
unfoldable pub symbol_line : ℕ → NamedSymbol → List ℕ
symbol_line pc symbol = if is_label_at pc symbol then symbol.name ++ line (codes ":") else []

-- the lines of all labels at the address
abbrev pub label_lines : List NamedSymbol → ℕ → List ℕ
label_lines symbols pc = flat_map (symbol_line pc) symbols

-- a word and its labels, if the address is a multiple of 4 and there are at least four bytes from there on
unfoldable pub listed_at : List NamedSymbol → ℕ → List ℕ → List ℕ
listed_at symbols pc bytes =
    if (pc % 4 == 0) && nat_le 4 (length bytes)
    then label_lines symbols pc ++ word_line pc (from_le_bytes w32 (take 4 bytes)) else []

-- the lines of bytes from an address on, each at its own address; after the last address comes 0
abbrev pub listed_from : List NamedSymbol → ℕ → List ℕ → List ℕ
listed_from symbols pc [] = []
listed_from symbols pc (byte ∷ bytes) =
    listed_at symbols pc (byte ∷ bytes) ++ listed_from symbols ((pc + 1) % 2 ^ 32) bytes

-- the same with symbols whose names are looked up only when they are written
abbrev pub labelled_lines : List LazySymbol → ℕ → List ℕ → List ℕ
labelled_lines symbols pc bytes = listed_from (map shown_lazy symbols) pc bytes

-- how many bytes come before the next address that is a multiple of 4
abbrev pub skipped : ℕ → ℕ
skipped pc = (4 - pc % 4) % 4

-- bytes begin with a word, followed by these
pub record IsFirstWord (bytes : List ℕ) (word : ℕ) (after : List ℕ) : Type 0 where
  pub enough : 4 ≤ length bytes
  pub word_is : word ≡ from_le_bytes w32 (take 4 bytes)
  pub after_is : after ≡ drop 4 bytes
