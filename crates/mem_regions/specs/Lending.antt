-- Memory after a range that was borrowed for writing has been returned with other bytes.
use Rattle.std.specs.Prelude.{ℕ, List, [], slice_set, slice_get, unwrap_or, false, Option, Some, None}
use Rattle.std.specs.Borrow.{Lends, LendsIf, MutBor, Fml, Array, u8}
use Rattle.mem_regions.specs.Area.{Area}
use Rattle.mem_regions.specs.Memory.{Memory}
use Rattle.mem_regions.specs.Writing.{area_with, memory_with}
use Rattle.mem_regions.specs.contracts.region.Region.{the_row as region_row}
use Rattle.mem_regions.specs.contracts.regions.Regions.{the_row as regions_row}

-- the bytes that are borrowed, as they are now
abbrev pub lent_bytes : Option (MutBor (List ℕ)) → Option (List ℕ)
lent_bytes None = None
lent_bytes (Some bytes) = Some bytes.now

-- the region is returned with the bytes from the address on
abbrev pub LendsRange : MutBor Area → ℕ → MutBor (List ℕ) → Fml
LendsRange a addr r = Lends region_row (Array u8 0) a r (λ w. area_with addr w a.now)

-- used for a region that does not exist
abbrev pub no_area : Area
no_area = record { base = 0; write = false; exec = false; bytes = []; code = [] }

-- the region at an index
abbrev pub area_at : Memory → ℕ → Area
area_at m place = unwrap_or (slice_get m.areas place) no_area

-- memory with the bytes from the address on in the region at an index
abbrev pub memory_at : Memory → ℕ → ℕ → List ℕ → Memory
memory_at m place addr w = record m { areas = slice_set m.areas place (area_with addr w (area_at m place)) }

-- memory is returned with the bytes in the region at an index
abbrev pub LendsAt : MutBor Memory → ℕ → ℕ → MutBor (List ℕ) → Fml
LendsAt m place addr r = Lends regions_row (Array u8 0) m r (λ w. memory_at m.now place addr w)

-- memory is returned with the bytes in the range
abbrev pub LendsWritable : MutBor Memory → ℕ → ℕ → MutBor (List ℕ) → Fml
LendsWritable m addr len r = Lends regions_row (Array u8 0) m r (λ w. memory_with m.now addr len w)

-- memory is returned with the bytes in the range if it was borrowed, and otherwise unchanged
abbrev pub LendsPart : MutBor Memory → ℕ → ℕ → Option (MutBor (List ℕ)) → Fml
LendsPart m addr len r = LendsIf regions_row (Array u8 0) m r (λ w. memory_with m.now addr len w) m.now
