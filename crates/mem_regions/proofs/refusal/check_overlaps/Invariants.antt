use Rattle.std.proofs.Common.{◌≡◌, take, drop}
use Rattle.mem_regions.specs.Refusal.{overlap_from}
use Rattle.mem_regions.proofs.refusal.check_overlaps.Given as goal

-- no part before this one overlaps any before it
abbrev pub invariant-loop-second : goal.invariant-loop-second
invariant-loop-second l = overlap_from (take l.second l.parts) (drop l.second l.parts) ≡ overlap_from (take 0 l.parts) l.parts
