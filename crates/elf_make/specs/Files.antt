-- The file of an object, part by part (Tool Interface Standard, Executable and Linking Format Specification, "File
-- Format").
use Rattle.std.specs.Prelude.{ℕ, List, ◌++◌, length}
use Rattle.rv_asm.specs.declared.object.Object.{Object}
use Rattle.rv_asm.specs.Labels.{LabelView}
use Rattle.elf_make.specs.declared.binding.SymbolBinding.TheVariants.{Local}
use Rattle.elf_make.specs.declared.sizes.Sizes.{Sizes}
use Rattle.elf_make.specs.Sizes.{zeros_after, section_names_end}
use Rattle.elf_make.specs.Headers.{file_header_bytes, program_headers_bytes, section_headers_bytes}
use Rattle.elf_make.specs.Symbols.{bound, symbol_names, symbol_table, section_names}

-- the sizes of its parts
abbrev pub sizes_of : Object → Sizes
sizes_of o = record {
  text_len = length o.text_bytes;
  data_len = length o.data_bytes;
  locals = length (bound Local o.labels);
  labels = length o.labels;
  names_len = length (symbol_names o.labels);
}

-- the headers, which come first
unfoldable pub front : Sizes → (entry : ℕ) → List ℕ
front s entry = file_header_bytes s entry ++ program_headers_bytes s

-- text and data, each with zeros after it
unfoldable pub section_contents : (text data_bytes : List ℕ) → List ℕ
section_contents text data_bytes =
    text ++ zeros_after (length text) ++ data_bytes ++ zeros_after (length data_bytes)

-- the symbols and all names, with zeros after them
unfoldable pub tables : List LabelView → Sizes → List ℕ
tables labels s =
    symbol_table labels ++ symbol_names labels ++ section_names ++ zeros_after (section_names_end s)

-- the whole file
unfoldable pub elf_file : Object → List ℕ
elf_file o =
    front (sizes_of o) o.entry ++ section_contents o.text_bytes o.data_bytes
    ++ tables o.labels (sizes_of o) ++ section_headers_bytes (sizes_of o)
