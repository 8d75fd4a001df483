-- Which changes describe a memory: each changes something, and they are in order. So a memory has only one list of
-- them.
use Rattle.std.specs.Prelude.{◌≡◌, ◌≢◌, ℕ, ◌<◌, ◌≤◌, List, [], ◌∷◌, Bool, ◌&&◌, Some, IsTrue}
use Rattle.std.specs.List.{list_any, AllByRecursion}
use Rattle.mem_regions.specs.Memory.{Memory}
use Rattle.mem_regions.specs.Access.{Bounds, bounds_of, holds}
use Rattle.mem_regions.specs.Ranges.{writable_of}
use Rattle.mem_changes.specs.declared.changes.Change.{Change}
use Rattle.mem_changes.specs.MemoryChanges.{MemoryChanges}
use Rattle.mem_changes.specs.Applied.{memory_after}

-- the change is of a byte that a program may write, and that was different
pub record IsChange (m : Memory) (c : Change) : Type 0 where
  pub loaded : ℕ
  pub was : writable_of m c.addr 1 ≡ Some (loaded ∷ [])
  pub differs : loaded ≢ c.byte

-- the addresses ascend
abbrev pub AddressesRise : List Change → Type 0
AddressesRise [] = Unit {0}
AddressesRise (c ∷ changes) = AllByRecursion (λ d. c.addr < d.addr) changes × AddressesRise changes

-- instructions are fetched from the byte's region
abbrev pub runs_in : ℕ → Bounds → Bool
runs_in addr b = b.exec && holds addr 1 b

unfoldable pub runs_at : List Bounds → ℕ → Bool
runs_at bounds addr = list_any (runs_in addr) bounds

-- the lists say how another memory differs from this one
pub record AreChanges (m : Memory) (k : MemoryChanges) : Type 0 where
  pub ascend : AddressesRise k.bytes
  pub differ : AllByRecursion (IsChange m) k.bytes
  pub code_ascends : AddressesRise k.code
  pub code_differs : AllByRecursion (IsChange m) k.code
  pub code_runs : AllByRecursion (λ c. IsTrue (runs_at (bounds_of m) c.addr)) k.code
  pub break_from : 0x7f000000 ≤ k.program_break
  pub break_to : k.program_break ≤ 0x7f080000

-- the second memory is the first with these changes made
pub record AreChangesOf (m other : Memory) (k : MemoryChanges) : Type 0 where
  pub lists : AreChanges m k
  pub makes : other ≡ memory_after k m
