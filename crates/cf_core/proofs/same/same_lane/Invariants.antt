use Rattle.std.proofs.Common.{◌≡◌, take}
use Rattle.cf_core.proofs.same.same_lane.Given as goal

-- the entries so far are the same
abbrev pub invariant-loop-entry : goal.invariant-loop-entry
invariant-loop-entry l = take l.entry l.ends.lane ≡ take l.entry l.other.lane
