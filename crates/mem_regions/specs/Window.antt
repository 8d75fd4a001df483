-- A region that is tried before all others: an access in it is in none before it.
use Rattle.std.specs.Prelude.{◌≡◌, ℕ, ◌+◌, ◌≤◌, ◌<◌, ◌^◌, List, Bool, true, nat_le, ◌&&◌, ◌||◌, Some, IsTrue, position}
use Rattle.mem_regions.specs.Access.{Bounds, holds, permits_in}
use Rattle.mem_regions.specs.declared.window.Window.{Window}

-- the two regions share no address
abbrev pub are_apart : Bounds → Bounds → Bool
are_apart b c = nat_le (b.base + b.size) c.base || nat_le (c.base + c.size) b.base

-- the range is in the window
abbrev pub lies_within : ℕ → ℕ → Window → Bool
lies_within addr len w = nat_le w.base addr && nat_le (addr + len) (w.base + w.size)

-- of all regions, the one at the window's index is the first that holds a range of at least one byte in the window, and
-- the first in which it may be written
pub record IsWindowOf (bs : List Bounds) (w : Window) : Type 0 where
  pub ends : w.base + w.size ≤ 2 ^ 32
  pub loads : (addr len : ℕ) → 0 < len → IsTrue (lies_within addr len w) → position (holds addr len) bs ≡ Some w.place
  pub stores : (addr len : ℕ) → 0 < len → IsTrue (lies_within addr len w) → position (permits_in addr len true) bs ≡ Some w.place
