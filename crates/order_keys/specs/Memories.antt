-- The changes of a memory as bytes.
use Rattle.std.specs.Prelude.{ℕ, List}
use Rattle.mem_changes.specs.declared.changes.Change.{Change}
use Rattle.mem_changes.specs.MemoryChanges.{MemoryChanges}
use Rattle.order_keys.specs.Unpacked.{Unpacked, as_read}
use Rattle.order_keys.specs.Numbers.{packed_byte, unpacked_byte, packed_word, unpacked_word}
use Rattle.order_keys.specs.Compounds.{packed_pair, unpacked_pair, packed_triple, unpacked_triple}
use Rattle.order_keys.specs.Lists.{packed_list, unpacked_list}

-- the address of a byte, and what it is now
unfoldable pub packed_change : Change → List ℕ
packed_change c = packed_pair packed_word packed_byte (c.addr, c.byte)

abbrev pub change_at : ℕ × ℕ → Change
change_at x = record { addr = x.0; byte = x.1 }

unfoldable pub unpacked_change : List ℕ → Unpacked Change
unpacked_change bs = as_read change_at (unpacked_pair unpacked_word unpacked_byte bs)

-- the bytes that differ, those of the code that differ, and the program break
unfoldable pub packed_changes : MemoryChanges → List ℕ
packed_changes c = packed_triple (packed_list packed_change) (packed_list packed_change) packed_word (c.bytes, c.code, c.program_break)

abbrev pub changes_of : List Change × List Change × ℕ → MemoryChanges
changes_of x = record { bytes = x.0; code = x.1; program_break = x.2 }

unfoldable pub unpacked_changes : List ℕ → Unpacked MemoryChanges
unpacked_changes bs = as_read changes_of (unpacked_triple (unpacked_list unpacked_change) (unpacked_list unpacked_change) unpacked_word bs)
