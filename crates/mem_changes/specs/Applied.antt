-- A memory with its changes made.
use Rattle.std.specs.Prelude.{ℕ, suc, List, [], ◌∷◌, map, ◌==◌, if◌then◌else◌}
use Rattle.mem_regions.specs.Area.{Area}
use Rattle.mem_regions.specs.Memory.{Memory}
use Rattle.mem_changes.specs.declared.changes.Change.{Change}
use Rattle.mem_changes.specs.MemoryChanges.{MemoryChanges}

-- the byte at an address after the changes are made, one after another
abbrev pub byte_after : List Change → ℕ → ℕ → ℕ
byte_after [] addr byte = byte
byte_after (c ∷ changes) addr byte = byte_after changes addr (if c.addr == addr then c.byte else byte)

-- the bytes of the addresses from this one on
abbrev pub bytes_after : List Change → ℕ → List ℕ → List ℕ
bytes_after changes addr [] = []
bytes_after changes addr (byte ∷ bytes) = byte_after changes addr byte ∷ bytes_after changes (suc addr) bytes

-- a region with its bytes and its code changed
abbrev pub area_after : MemoryChanges → Area → Area
area_after k a = record a { bytes = bytes_after k.bytes a.base a.bytes; code = bytes_after k.code a.base a.code }

-- the memory with the changes made
unfoldable pub memory_after : MemoryChanges → Memory → Memory
memory_after k m = record { areas = map (area_after k) m.areas; program_break = k.program_break }
