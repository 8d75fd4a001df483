-- Which accesses memory permits (RISC-V Unprivileged ISA Manual, "RV32I Base Integer Instruction Set", load and store
-- instructions).
use Rattle.std.specs.Prelude.{◌≡◌, ◌⊎◌, ℕ, ◌+◌, ◌%◌, List, length, map, Bool, not, ◌&&◌, ◌||◌, ◌==◌, nat_le, if◌then◌else◌, Result, Ok, Err}
use Rattle.std.specs.List.{list_any}
use Rattle.mem_regions.specs.Area.{Area}
use Rattle.mem_regions.specs.Memory.{Memory}
use Rattle.mem_regions.specs.declared.access.MemErr.{MemErr}
use Rattle.mem_regions.specs.declared.access.MemErr.TheVariants.{Misaligned, NoAccess}

-- what decides on an access: a region's base, its length, and what a program may do to it
pub record Bounds : Type 0 where
  pub base : ℕ
  pub size : ℕ
  pub write : Bool
  pub exec : Bool

-- the bounds of one region
abbrev pub area_bounds : Area → Bounds
area_bounds a = record { base = a.base; size = length a.bytes; write = a.write; exec = a.exec }

-- the bounds of all regions, in order
unfoldable pub bounds_of : Memory → List Bounds
bounds_of m = map area_bounds m.areas

-- the range is in the region; a range of length 0 is in it from its base to its end, both included
abbrev pub holds : ℕ → ℕ → Bounds → Bool
holds addr len b = nat_le b.base addr && nat_le (addr + len) (b.base + b.size)

-- the range is in the region, and the region may be written if the access is a store
abbrev pub permits_in : ℕ → ℕ → Bool → Bounds → Bool
permits_in addr len write b = holds addr len b && (not write || b.write)

-- the address is a multiple of the width
abbrev pub is_aligned : ℕ → ℕ → Bool
is_aligned addr width = addr % width == 0

-- an access is of 1, 2 or 4 bytes
abbrev pub IsWidth : ℕ → Type 0
IsWidth width = (width ≡ 1) ⊎ (width ≡ 2) ⊎ (width ≡ 4)

-- all bytes of the range are in one region that permits the access
unfoldable pub is_permitted : List Bounds → ℕ → ℕ → Bool → Bool
is_permitted bs addr len write = list_any (permits_in addr len write) bs

-- the answer to an access
unfoldable pub permits_at : List Bounds → ℕ → ℕ → Bool → Result (Unit {0}) MemErr
permits_at bs addr width write = if is_aligned addr width then (if is_permitted bs addr width write then Ok tt else Err NoAccess) else Err Misaligned

-- the answer without its value: permitted, or why not
abbrev pub permission_told : {A : Type 0} → Result A MemErr → Result (Unit {0}) MemErr
permission_told (Ok x) = Ok tt
permission_told (Err e) = Err e
