-- The instruction word at an address: it comes from the code of one executable region, which stores do not change
-- (RISC-V Unprivileged ISA Manual, "Zifencei" Extension for Instruction-Fetch Fence).
use Rattle.std.specs.Prelude.{ℕ, ◌-◌, ◌&&◌, take, drop, find, map, Bool, if◌then◌else◌, Option, Some, None, Result, Ok, Err}
use Rattle.mem_regions.specs.Area.{Area}
use Rattle.mem_regions.specs.Memory.{Memory}
use Rattle.mem_regions.specs.Access.{area_bounds, holds, is_aligned}
use Rattle.mem_regions.specs.Bytes.{le_number}
use Rattle.mem_regions.specs.declared.access.MemErr.{MemErr}
use Rattle.mem_regions.specs.declared.access.MemErr.TheVariants.{Misaligned, NoAccess}

-- the word is in the region, and the region is executable
abbrev pub fetches_in : ℕ → Area → Bool
fetches_in pc a = holds pc 4 (area_bounds a) && a.exec

-- the word of the region's code at the address
abbrev pub word_in : ℕ → Area → ℕ
word_in pc a = le_number (take 4 (drop (pc - a.base) a.code))

-- the word of the region that was found
abbrev pub word_found : ℕ → Option Area → Result ℕ MemErr
word_found pc None = Err NoAccess
word_found pc (Some a) = Ok (word_in pc a)

-- the word at the address, if it is aligned and in one executable region
unfoldable pub fetch_at : Memory → ℕ → Result ℕ MemErr
fetch_at m pc = if is_aligned pc 4 then word_found pc (find (fetches_in pc) m.areas) else Err Misaligned

-- the region, whose code is now a copy of its bytes
abbrev pub synced_area : Area → Area
synced_area a = record a { code = if a.exec then a.bytes else a.code }

-- memory when each executable region's code is a copy of its bytes again
unfoldable pub synced : Memory → Memory
synced m = record m { areas = map synced_area m.areas }
