-- How a store of any bytes affects the changes.
use Rattle.std.proofs.Common.{◌≡◌, ℕ, ◌+◌, ◌<◌, ◌≤◌, List, true, Option, Some, None, length, find, refl, ap, sym, ◌∙◌, arith, length-drop}
use Rattle.std.specs.Prelude.{nat_lt, nat_le}
use Rattle.std.specs.Option.{option_map}
use Rattle.std.proofs.lemmas.Bool.Decides.{nat_tests}
use Rattle.std.proofs.lemmas.List.{length-take}
use Rattle.mem_regions.specs.Area.{Area}
use Rattle.mem_regions.specs.Memory.{Memory}
use Rattle.mem_regions.specs.Ranges.{lies_in, writes_in, bytes_in, writable_of}
use Rattle.mem_regions.specs.Writing.{memory_with}
use Rattle.mem_changes.specs.MemoryChanges.{MemoryChanges}
use Rattle.mem_changes.specs.Applied.{memory_after}
use Rattle.mem_changes.specs.Differing.{AreChanges, AreChangesOf}
use Rattle.mem_changes.specs.Images.{IsAsLoaded}
use Rattle.mem_changes.specs.Steps.{rewritten}
use Rattle.mem_changes.proofs.Written.{found_passes, writes-lies}
use Rattle.mem_changes.proofs.Updated.{store_made, store_none, rewritten_lists}

-- a range in a writable region has all its bytes there
range_length : (m : Memory) (x n : ℕ) (olds : List ℕ) → writable_of m x n ≡ Some olds → length olds ≡ n
unfolding writable_of
range_length m x n olds e = go (find (writes_in x n) m.areas) refl e where
  go : (r : Option Area) → find (writes_in x n) m.areas ≡ r → option_map (bytes_in x n) r ≡ Some olds → length olds ≡ n
  go None h k = absurd (cc)
  go (Some a) h k =
      let lies : lies_in x n a ≡ true = writes-lies x n a (found_passes (writes_in x n) m.areas a h) in
      let low : a.base ≤ x = grind (arith, nat_tests) in
      let high : x + n ≤ a.base + length a.bytes = grind (arith, nat_tests) in
      let bytes : bytes_in x n a ≡ olds = cc in
      ap length (sym bytes) ∙ simp (length-take, length-drop) (omega arith)

-- a store of some bytes, where writing is permitted
pub stored_changes : (m : Memory) (k : MemoryChanges) (x n : ℕ) (w olds : List ℕ) → IsAsLoaded m → AreChanges m k → length w ≡ n → 0 < n →
    writable_of m x n ≡ Some olds → AreChangesOf m (memory_with (memory_after k m) x n w) (record k { bytes = rewritten k.bytes x n w olds })
stored_changes m k x n w olds is lists e some found =
    let f : length olds ≡ n = range_length m x n olds found in
    record { lists = rewritten_lists m k x n w olds is.apart lists e f found; makes = store_made m k x n w olds is.apart e f some found }

-- and where it is not permitted
pub unstored_changes : (m : Memory) (k : MemoryChanges) (x n : ℕ) (w : List ℕ) → AreChanges m k → writable_of m x n ≡ None →
    AreChangesOf m (memory_with (memory_after k m) x n w) k
unstored_changes m k x n w lists none = record { lists = lists; makes = store_none m k x n w none }
