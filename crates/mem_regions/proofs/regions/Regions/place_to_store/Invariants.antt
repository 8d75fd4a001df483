use Rattle.std.proofs.Common.{◌≡◌, ◌+◌, drop}
use Rattle.std.specs.List.{position_or_len}
use Rattle.mem_regions.specs.Ranges.{writes_in}
use Rattle.mem_regions.proofs.regions.Regions.place_to_store.Given as goal

-- no region before this one permits the store: the first that does is the first from here on
abbrev pub invariant-loop-place : goal.invariant-loop-place
invariant-loop-place l = position_or_len (writes_in l.addr l.width) l.region-items ≡ l.place + position_or_len (writes_in l.addr l.width)
    (drop l.place l.region-items)
