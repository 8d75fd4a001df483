-- The properties of a memory that has just been loaded.
use Rattle.std.specs.Prelude.{◌≡◌, ℕ, ◌+◌, List, [], ◌∷◌, Bool, ◌&&◌, nat_le, nat_lt, if◌then◌else◌, Option, Some, None, IsTrue}
use Rattle.std.specs.List.{list_any, AllByRecursion}
use Rattle.mem_regions.specs.Area.{Area}
use Rattle.mem_regions.specs.Memory.{Memory}
use Rattle.mem_regions.specs.Access.{bounds_of}
use Rattle.mem_regions.specs.Ranges.{lies_in, writable_of}
use Rattle.mem_regions.specs.declared.part.Part.{Part}
use Rattle.mem_changes.specs.Differing.{runs_at}

-- two regions have no byte in common
abbrev pub IsApart : Area → Area → Type 0
IsApart a b = (addr : ℕ) → IsTrue (lies_in addr 1 a) → IsTrue (lies_in addr 1 b) → ⊥

abbrev pub ShareNoByte : List Area → Type 0
ShareNoByte [] = Unit {0}
ShareNoByte (a ∷ areas) = AllByRecursion (IsApart a) areas × ShareNoByte areas

-- the code is a copy of the bytes, if instructions are fetched from the region
abbrev pub HasCode : Area → Type 0
HasCode a = a.code ≡ (if a.exec then a.bytes else [])

-- no two regions share a byte, no code is older than the bytes, and nothing is in the heap
pub record IsAsLoaded (m : Memory) : Type 0 where
  pub apart : ShareNoByte m.areas
  pub code : AllByRecursion HasCode m.areas
  pub no_heap : m.program_break ≡ 0x7f000000

-- instructions are fetched from the part at this address
abbrev pub part_runs : ℕ → Part → Bool
part_runs addr p = p.exec && (nat_le p.base addr && nat_lt addr (p.base + p.size))

-- the parts say where instructions are fetched in the memory
abbrev pub TellsRunning : List Part → Memory → Type 0
TellsRunning parts m = (addr : ℕ) → list_any (part_runs addr) parts ≡ runs_at (bounds_of m) addr

-- the byte that was found, or 0
abbrev pub first_byte : Option (List ℕ) → ℕ
first_byte None = 0
first_byte (Some []) = 0
first_byte (Some (byte ∷ bytes)) = byte

-- the byte at the address, if a program may write it
unfoldable pub byte_at : Memory → ℕ → ℕ
byte_at m addr = first_byte (writable_of m addr 1)
