use Rattle.std.proofs.Common.{◌≡◌, take}
use Rattle.cf_core.proofs.processor.Processor.same_sidings.Given as goal

-- the sidings so far are the same
abbrev pub invariant-loop-k : goal.invariant-loop-k
invariant-loop-k l = take l.k l.self.state.sidings ≡ take l.k l.other.state.sidings
