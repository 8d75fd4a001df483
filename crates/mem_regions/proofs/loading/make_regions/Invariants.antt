use Rattle.std.proofs.Common.{◌≡◌, take}
use Rattle.mem_regions.specs.Loading.{areas_of}
use Rattle.mem_regions.proofs.loading.make_regions.Given as goal

-- the regions of the parts so far
abbrev pub invariant-loop-part : goal.invariant-loop-part
invariant-loop-part l = l.list.items ≡ areas_of l.file (take l.part-index l.parts)
