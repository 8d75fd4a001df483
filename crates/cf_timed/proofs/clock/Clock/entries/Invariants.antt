use Rattle.std.proofs.Common.{◌≡◌, map}
use Rattle.std.specs.Prelude.{◌==◌, filter}
use Rattle.cf_layout.specs.Layout.{launch_stage}
use Rattle.cf_semantics.specs.moves.Candidates.{counted_from}
use Rattle.cf_index.specs.Sites.{way_in}
use Rattle.cf_timed.specs.Clocks.{time_at}
use Rattle.cf_timed.specs.Times.{greatest}
use Rattle.cf_timed.proofs.clock.Clock.entries.Given as goal

-- the maximum time of those so far
abbrev pub invariant-loop-k : goal.invariant-loop-k
invariant-loop-k l = l.most ≡ greatest (map (time_at l.self) (map way_in (filter (λ k. launch_stage l.self.plan k == l.i) (counted_from 0 l.k))))
