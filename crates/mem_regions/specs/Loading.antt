-- The memory that is made from the parts of a program: a region for each part of a size above 0 (Tool Interface
-- Standard, "Executable and Linking Format", program loading).
use Rattle.std.specs.Prelude.{ℕ, ◌+◌, ◌-◌, ◌≤◌, List, [], ◌++◌, length, take, drop, replicate, filter, map, Bool, if◌then◌else◌, nat_lt}
use Rattle.mem_regions.specs.Area.{Area}
use Rattle.mem_regions.specs.Memory.{Memory}
use Rattle.mem_regions.specs.declared.part.Part.{Part}

-- the part's bytes are in the file, and their number is at most its size
pub record LiesIn (file : List ℕ) (p : Part) : Type 0 where
  pub in_file : p.start + p.len ≤ length file
  pub in_size : p.len ≤ p.size

-- the part's bytes of the file, then zeros
abbrev pub image_of : List ℕ → Part → List ℕ
image_of file p = take p.len (drop p.start file) ++ replicate (p.size - p.len) 0

-- the region of a part; its code is a copy of its bytes if it is executable
abbrev pub area_of : List ℕ → Part → Area
area_of file p = record { base = p.base; write = p.write; exec = p.exec; bytes = image_of file p; code = if p.exec then image_of file p else [] }

-- the part's size is above 0
abbrev pub has_room : Part → Bool
has_room p = nat_lt 0 p.size

-- a region for each part of a size above 0, in order
unfoldable pub areas_of : List ℕ → List Part → List Area
areas_of file parts = map (area_of file) (filter has_room parts)

-- the memory as a program finds it, with nothing in its heap
unfoldable pub loaded : List ℕ → List Part → Memory
loaded file parts = record { areas = areas_of file parts; program_break = 0x7f000000 }
