-- What is fetched from memory: its code, which only FENCE.I changes.
use Rattle.std.specs.Prelude.{ℕ, List, length, map, Bool}
use Rattle.mem_regions.specs.Area.{Area}
use Rattle.mem_regions.specs.Memory.{Memory}

-- where a region begins, how long it is, whether code can be fetched from it, and its code
pub record Text : Type 0 where
  pub base : ℕ
  pub size : ℕ
  pub exec : Bool
  pub code : List ℕ

abbrev pub area_text : Area → Text
area_text a = record { base = a.base; size = length a.bytes; exec = a.exec; code = a.code }

-- the code of all regions, in order
unfoldable pub code_of : Memory → List Text
code_of m = map area_text m.areas
