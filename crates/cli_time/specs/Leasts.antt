-- The first minimum of some times.
use Rattle.std.specs.Prelude.{◌<◌, ◌≤◌, ℕ, List, length, slice_index}

-- no time is below the one at this place, and those before it are above it
pub record IsFirstLeast (times : List ℕ) (place : ℕ) : Type 0 where
  pub within : place < length times
  pub least : (k : ℕ) → k < length times → slice_index times place ≤ slice_index times k
  pub first : (k : ℕ) → k < place → slice_index times place < slice_index times k
