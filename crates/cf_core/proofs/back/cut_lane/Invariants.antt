use Rattle.std.proofs.Common.{◌≡◌, ◌-◌, ◌≤◌, length, take}
use Rattle.cf_core.proofs.back.cut_lane.Given as goal

-- as many requests are taken out as were counted
abbrev pub invariant-loop-taken : goal.invariant-loop-taken
invariant-loop-taken l = record {
  lane : l.ends.lane ≡ take (length l.initial.ends.lane - l.taken) l.initial.ends.lane;
  rest : l.ends ≡ record l.initial.ends { lane = l.ends.lane };
  within : l.taken ≤ length l.initial.ends.lane;
}
