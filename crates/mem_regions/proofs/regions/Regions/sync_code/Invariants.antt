use Rattle.std.proofs.Common.{◌≡◌}
use Rattle.mem_regions.specs.Fetching.{synced_area}
use Rattle.mem_regions.proofs.Mapped.{mapped_to}
use Rattle.mem_regions.proofs.regions.Regions.sync_code.Given as goal

-- the regions so far have their new code
abbrev pub invariant-loop-region : goal.invariant-loop-region
invariant-loop-region l = l.region-items ≡ mapped_to synced_area l.region-index l.initial.region-items
