-- How the changes are made and undone, byte by byte, and what a write adds to them.
use Rattle.std.specs.Prelude.{ℕ, suc, ◌+◌, List, [], ◌∷◌, ◌++◌, filter, nat_le, nat_lt, ◌==◌, if◌then◌else◌}
use Rattle.mem_regions.specs.Memory.{Memory}
use Rattle.mem_regions.specs.Writing.{memory_with}
use Rattle.mem_changes.specs.declared.changes.Change.{Change}
use Rattle.mem_changes.specs.Images.{byte_at}

-- each changed byte is written
abbrev pub all_written : List Change → Memory → Memory
all_written [] m = m
all_written (c ∷ changes) m = all_written changes (memory_with m c.addr 1 (c.byte ∷ []))

-- each changed byte is again the one that was loaded
abbrev pub all_restored : Memory → List Change → Memory → Memory
all_restored loaded [] m = m
all_restored loaded (c ∷ changes) m = all_restored loaded changes (memory_with m c.addr 1 (byte_at loaded c.addr ∷ []))

-- a byte as a change of the one that was loaded, if it is different
abbrev pub difference : ℕ → ℕ → ℕ → List Change
difference addr byte loaded = if byte == loaded then [] else (record { addr = addr; byte = byte }) ∷ []

-- the same for the bytes from an address on
abbrev pub differences : ℕ → List ℕ → List ℕ → List Change
differences addr [] loaded = []
differences addr (byte ∷ bytes) [] = []
differences addr (byte ∷ bytes) (old ∷ loaded) = difference addr byte old ++ differences (suc addr) bytes loaded

-- the changes below an address, and those from one on
abbrev pub below : ℕ → List Change → List Change
below addr changes = filter (λ c. nat_lt c.addr addr) changes

abbrev pub from : ℕ → List Change → List Change
from addr changes = filter (λ c. nat_le addr c.addr) changes

-- the changes after these bytes are written from the address on
abbrev pub rewritten : List Change → ℕ → ℕ → List ℕ → List ℕ → List Change
rewritten changes addr len bytes loaded = (below addr changes ++ differences addr bytes loaded) ++ from (addr + len) changes
