-- What can be read from a file that was written: the object's bytes, labels and entry.
use Rattle.std.specs.Prelude.{◌≡◌, ℕ, List, [], ◌∷◌, map, length, true, false, None}
use Rattle.elf_view.specs.Headers.{file_header}
use Rattle.elf_view.specs.Executables.{IsElf}
use Rattle.elf_view.specs.Refusal.{file_refusal}
use Rattle.elf_view.specs.Segments.{LoadSegment, segments_of}
use Rattle.elf_view.specs.Symbols.{NamedSymbol, symbols_of}
use Rattle.rv_asm.specs.declared.object.Object.{Object}
use Rattle.rv_asm.specs.Labels.{LabelView}
use Rattle.elf_make.specs.Sizes.{text_offset, data_offset}
use Rattle.elf_make.specs.Symbols.{locals_first}
use Rattle.elf_make.specs.Files.{sizes_of}

-- the text at 0x10000, which is executable and not writable
abbrev pub text_segment : Object → LoadSegment
text_segment o = record {
  vaddr = 0x10000;
  offset = text_offset;
  bytes = o.text_bytes;
  memsz = length o.text_bytes;
  write = false;
  exec = true;
}

-- the data at 0x200000, which is writable and not executable
abbrev pub data_segment : Object → LoadSegment
data_segment o = record {
  vaddr = 0x200000;
  offset = data_offset (sizes_of o);
  bytes = o.data_bytes;
  memsz = length o.data_bytes;
  write = true;
  exec = false;
}

-- the first symbol, the null symbol
abbrev pub no_symbol : NamedSymbol
no_symbol = record { name = []; value = 0; size = 0 }

-- the symbol of a label
abbrev pub label_symbol : LabelView → NamedSymbol
label_symbol label = record { name = label.name; value = label.value; size = 0 }

-- the file is an executable that has the object's text and data, its labels and its entry
pub record IsView (o : Object) (file : List ℕ) : Type 0 where
  pub is_elf : IsElf file
  pub accepted : file_refusal file ≡ None
  pub entry : (file_header file).entry ≡ o.entry
  pub segments : segments_of file ≡ text_segment o ∷ data_segment o ∷ []
  pub symbols : symbols_of file ≡ no_symbol ∷ map label_symbol (locals_first o.labels)
