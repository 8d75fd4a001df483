-- One region of memory: where it is, what a program may do to it, its bytes, and its code as it is fetched.
use Rattle.std.specs.Prelude.{ℕ, List, Bool}

-- the code is a copy of the bytes, made when the region was loaded or its code was last synchronized; a region that is
-- not executable has none
pub record Area : Type 0 where
  pub base : ℕ
  pub write : Bool
  pub exec : Bool
  pub bytes : List ℕ
  pub code : List ℕ
