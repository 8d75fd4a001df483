-- Memory after a write: other bytes in one range of one region, and everything else as it was (RISC-V Unprivileged ISA
-- Manual, "RV32I Base Integer Instruction Set", load and store instructions).
use Rattle.std.specs.Prelude.{ℕ, ◌+◌, ◌-◌, List, [], ◌∷◌, ◌++◌, length, take, drop, Bool, if◌then◌else◌}
use Rattle.mem_regions.specs.Area.{Area}
use Rattle.mem_regions.specs.Memory.{Memory}
use Rattle.mem_regions.specs.Access.{is_aligned}
use Rattle.mem_regions.specs.Ranges.{writes_in}
use Rattle.mem_regions.specs.Bytes.{le_bytes}

-- the bytes, overwritten with others from an index on; those that would be beyond the end are dropped
abbrev pub overwritten : List ℕ → ℕ → List ℕ → List ℕ
overwritten bytes at w = take (length bytes) (take at bytes ++ w ++ drop (at + length w) bytes)

-- the region with these bytes from the address on; its code is unchanged
abbrev pub area_with : ℕ → List ℕ → Area → Area
area_with addr w a = record a { bytes = overwritten a.bytes (addr - a.base) w }

-- the list with a change of the first element that passes the test
abbrev pub first_changed : {A : Type 0} → (A → Bool) → (A → A) → List A → List A
first_changed p change [] = []
first_changed p change (x ∷ xs) = if p x then change x ∷ xs else x ∷ first_changed p change xs

-- memory with these bytes in the range, if it is in one region that may be written
unfoldable pub memory_with : Memory → ℕ → ℕ → List ℕ → Memory
memory_with m addr len w = record m { areas = first_changed (writes_in addr len) (area_with addr w) m.areas }

-- memory after a store of the low bytes of the number
unfoldable pub stored : Memory → ℕ → ℕ → ℕ → Memory
stored m addr width n = if is_aligned addr width then memory_with m addr width (le_bytes width n) else m
