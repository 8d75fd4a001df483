-- The bytes of a range of memory, which must be in one region, and the numbers that loads read (RISC-V Unprivileged ISA
-- Manual, "RV32I Base Integer Instruction Set", load and store instructions).
use Rattle.std.specs.Prelude.{ℕ, ◌-◌, List, take, drop, find, Bool, true, if◌then◌else◌, Option, Some, None, Result, Ok, Err}
use Rattle.std.specs.Option.{option_map}
use Rattle.mem_regions.specs.Area.{Area}
use Rattle.mem_regions.specs.Memory.{Memory}
use Rattle.mem_regions.specs.Access.{area_bounds, bounds_of, holds, permits_in, is_permitted, is_aligned}
use Rattle.mem_regions.specs.Bytes.{le_number}
use Rattle.mem_regions.specs.declared.access.MemErr.{MemErr}
use Rattle.mem_regions.specs.declared.access.MemErr.TheVariants.{Misaligned, NoAccess}

-- the range is in the region
abbrev pub lies_in : ℕ → ℕ → Area → Bool
lies_in addr len a = holds addr len (area_bounds a)

-- the region permits the access to the range
abbrev pub permits_area : ℕ → ℕ → Bool → Area → Bool
permits_area addr len write a = permits_in addr len write (area_bounds a)

-- the range is in the region, and the region may be written
abbrev pub writes_in : ℕ → ℕ → Area → Bool
writes_in addr len = permits_area addr len true

-- the bytes of the range in the region
abbrev pub bytes_in : ℕ → ℕ → Area → List ℕ
bytes_in addr len a = take len (drop (addr - a.base) a.bytes)

-- the bytes of the range, if it is in one region: the first, since an empty range may be in two that touch
unfoldable pub range_of : Memory → ℕ → ℕ → Option (List ℕ)
range_of m addr len = option_map (bytes_in addr len) (find (lies_in addr len) m.areas)

-- the bytes of the range, if it is in one region that may be written
unfoldable pub writable_of : Memory → ℕ → ℕ → Option (List ℕ)
writable_of m addr len = option_map (bytes_in addr len) (find (writes_in addr len) m.areas)

-- the range is in one region that may be written
unfoldable pub can_write : Memory → ℕ → ℕ → Bool
can_write m addr len = is_permitted (bounds_of m) addr len true

-- the number of the bytes that were found
abbrev pub number_found : Option (List ℕ) → Result ℕ MemErr
number_found None = Err NoAccess
number_found (Some bytes) = Ok (le_number bytes)

-- the little-endian number at the address, not sign-extended, if the load is permitted
unfoldable pub load_at : Memory → ℕ → ℕ → Result ℕ MemErr
load_at m addr width = if is_aligned addr width then number_found (range_of m addr width) else Err Misaligned
