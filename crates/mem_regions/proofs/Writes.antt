-- Where a range is written: the first region that permits it, by its index.
use Rattle.std.proofs.Common.{◌≡◌, ◌∙◌, ℕ, ◌<◌, List, Bool, true, false, Option, Some, None, IsTrue, length, refl, ap, sym}
use Rattle.std.specs.Prelude.{position, is_some}
use Rattle.std.specs.List.{list_any}
use Rattle.std.specs.Option.{option_map}
use Rattle.std.proofs.Common.{arith}
use Rattle.std.proofs.lemmas.Bool.Decides.{nat_tests}
use Rattle.mem_regions.specs.Area.{Area}
use Rattle.mem_regions.specs.Memory.{Memory}
use Rattle.mem_regions.specs.Access.{area_bounds, bounds_of, permits_in, is_permitted}
use Rattle.mem_regions.specs.Ranges.{lies_in, permits_area, writes_in, bytes_in, can_write, writable_of}
use Rattle.mem_regions.specs.Writing.{area_with, memory_with}
use Rattle.mem_regions.specs.Lending.{no_area, area_at, memory_at}
use Rattle.mem_regions.proofs.Finding.{list_any-map}
use Rattle.mem_regions.proofs.Places.{place_of, none_of}

-- a range that may be written in a region is in that region
pub writes-lies : (addr len : ℕ) (a : Area) → writes_in addr len a ≡ true → IsTrue (lies_in addr len a)
writes-lies addr len a e = grind (arith, nat_tests)

-- an access is permitted by bounds if it is permitted by the regions that have them
pub permitted-areas : (m : Memory) (addr len : ℕ) (write : Bool) → is_permitted (bounds_of m) addr len write ≡ list_any (permits_area addr len write) m.areas
unfolding is_permitted bounds_of
permitted-areas m addr len write = list_any-map (permits_in addr len write) area_bounds m.areas

pub ruleset permitting = (permitted-areas)

-- the index of a write is one of memory's regions
pub place_below : (m : Memory) (addr len i : ℕ) → Some i ≡ position (writes_in addr len) m.areas → i < length m.areas
place_below m addr len i e = (place_of (writes_in addr len) m.areas i no_area e).below

-- the range is in the region at its index
pub place_holds : (m : Memory) (addr len i : ℕ) → Some i ≡ position (writes_in addr len) m.areas → IsTrue (lies_in addr len (area_at m i))
place_holds m addr len i e = writes-lies addr len (area_at m i) (place_of (writes_in addr len) m.areas i no_area e).passes

-- a write that has an index is permitted
pub place_permits : (m : Memory) (addr len i : ℕ) → Some i ≡ position (writes_in addr len) m.areas → is_permitted (bounds_of m) addr len true ≡ true
place_permits m addr len i e = permitted-areas m addr len true ∙ (place_of (writes_in addr len) m.areas i no_area e).any

-- a write that has no index is not
pub no_place_permits : (m : Memory) (addr len : ℕ) → None ≡ position (writes_in addr len) m.areas → is_permitted (bounds_of m) addr len true ≡ false
no_place_permits m addr len e = permitted-areas m addr len true ∙ (none_of (writes_in addr len) m.areas e).any

-- a write changes the region at its index
pub memory_with-place : (m : Memory) (addr len : ℕ) (w : List ℕ) (i : ℕ) → Some i ≡ position (writes_in addr len) m.areas →
    memory_with m addr len w ≡ memory_at m i addr w
unfolding memory_with
memory_with-place m addr len w i e = ap (λ (areas : List Area). let n : Memory = record m { areas = areas } in
    n) ((place_of (writes_in addr len) m.areas i no_area e).changed (area_with addr w))

-- a write that has no index changes nothing
pub memory_with-none : (m : Memory) (addr len : ℕ) (w : List ℕ) → None ≡ position (writes_in addr len) m.areas → memory_with m addr len w ≡ m
unfolding memory_with
memory_with-none m addr len w e = ap (λ (areas : List Area). let n : Memory = record m { areas = areas } in
    n) ((none_of (writes_in addr len) m.areas e).changed (area_with addr w))

-- the bytes that a write replaces are those of the region at its index
pub writable_of-place : (m : Memory) (addr len i : ℕ) → Some i ≡ position (writes_in addr len) m.areas →
    writable_of m addr len ≡ Some (bytes_in addr len (area_at m i))
unfolding writable_of
writable_of-place m addr len i e = ap (option_map (bytes_in addr len)) (place_of (writes_in addr len) m.areas i no_area e).found

-- if there is no index, there are no such bytes
pub writable_of-none : (m : Memory) (addr len : ℕ) → None ≡ position (writes_in addr len) m.areas → writable_of m addr len ≡ None
unfolding writable_of
writable_of-none m addr len e = ap (option_map (bytes_in addr len)) (none_of (writes_in addr len) m.areas e).found

pub ruleset missing = (writable_of-none)

pub ruleset storing = (place_below, place_holds, place_permits, no_place_permits, memory_with-place, memory_with-none, writable_of-place)

-- the cases where there is an index, or none
can_step : (m : Memory) (addr len : ℕ) (place : Option ℕ) → place ≡ position (writes_in addr len) m.areas →
    is_some place ≡ is_permitted (bounds_of m) addr len true
can_step m addr len None e = sym (no_place_permits m addr len e)
can_step m addr len (Some i) e = sym (place_permits m addr len i e)

-- a range can be written if it has an index
pub is_some-can_write : (m : Memory) (addr len : ℕ) → is_some (position (writes_in addr len) m.areas) ≡ can_write m addr len
unfolding can_write
is_some-can_write m addr len = can_step m addr len (position (writes_in addr len) m.areas) refl

pub ruleset finding_a_place = (is_some-can_write)

-- a range that can be written has an index
pub writes_somewhere : (m : Memory) (addr len : ℕ) → IsTrue (can_write m addr len) → None ≡ position (writes_in addr len) m.areas → ⊥
unfolding can_write
writes_somewhere m addr len can none = let off = no_place_permits m addr len none in cc

pub ruleset having_a_place = (writes_somewhere)
