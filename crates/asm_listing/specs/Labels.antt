-- Symbols in the order of their values.
use Rattle.std.specs.Prelude.{◌≡◌, ℕ, List, Bool, ◌==◌, filter}
use Rattle.std.specs.List.Sorted.{IsNonDecreasingBy}
use Rattle.elf_view.specs.Symbols.{NamedSymbol}
use Rattle.elf_view.specs.declared.symbols.LazySymbol.{LazySymbol}
use Rattle.asm_listing.specs.Lines.{label_lines}

-- the values of the symbols do not decrease
abbrev pub Ascend : List LazySymbol → Type 0
Ascend symbols = IsNonDecreasingBy (λ (symbol : LazySymbol). symbol.value) symbols

-- the symbol has this value
abbrev pub has_value : ℕ → LazySymbol → Bool
has_value value symbol = symbol.value == value

-- these are the symbols with this value, of all symbols of a file
pub record AreOfValue (value : ℕ) (symbols : List LazySymbol) : Type 0 where
  pub all : List LazySymbol
  pub are : symbols ≡ filter (has_value value) all

-- the labels give the same lines as the symbols at each address
pub record HaveLines (symbols labels : List NamedSymbol) : Type 0 where
  pub at : (pc : ℕ) → label_lines labels pc ≡ label_lines symbols pc
