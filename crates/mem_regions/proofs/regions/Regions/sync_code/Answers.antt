use Rattle.std.proofs.Common.{◌∙◌, ap, slice_set}
use Rattle.mem_regions.specs.Fetching.{synced_area}
use Rattle.mem_regions.proofs.Mapped.{mapped_to-next}
use Rattle.mem_regions.proofs.regions.Regions.sync_code.Goals as goal

pub loop-region-preserved : goal.loop-region-preserved
loop-region-preserved c = ap (slice_set c.loop-region.region-items c.loop-region.region-index) c.sync.ensures
    ∙ mapped_to-next synced_area _ _ _ c.region-item.result c.loop-region-test.true c.loop-region.invariant
