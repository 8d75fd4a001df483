-- Offsets into a region.
use Rattle.std.proofs.Common.{◌≡◌, ℕ, ◌+◌, ◌-◌, ◌%◌, ◌<◌, ◌≤◌, ◌^◌, arith}

-- the offset of an address at or above the base is its distance from the base
pub offset_after : (addr base : ℕ) → base ≤ addr → addr < 2 ^ 32 → (addr + (2 ^ 32 - base)) % 2 ^ 32 ≡ addr - base
offset_after addr base b f = omega arith

-- the offset of an address below the base is so large that no region reaches there
pub offset_before : (addr base : ℕ) → addr < base → base < 2 ^ 32 → (addr + (2 ^ 32 - base)) % 2 ^ 32 ≡ addr + 2 ^ 32 - base
offset_before addr base b f = omega arith

pub ruleset offsets = (offset_after, offset_before)
