use Rattle.std.proofs.Common.{◌≡◌, map}
use Rattle.std.specs.Prelude.{◌==◌, filter}
use Rattle.cf_layout.specs.Layout.{launch_stage}
use Rattle.cf_semantics.specs.moves.Candidates.{counted_from}
use Rattle.cf_index.specs.Sites.{way_in}
use Rattle.cf_timed.specs.Clocks.{put_times}
use Rattle.cf_timed.proofs.clock.Clock.put_entries.Given as goal

-- those so far have the time, no site has a later one, and the layout is the same
abbrev pub invariant-loop-k : goal.invariant-loop-k
invariant-loop-k l = (l.self ≡ put_times l.fn.self l.time (map way_in (filter (λ k. launch_stage l.fn.self.plan k == l.i) (counted_from 0 l.k))))
    × (l.self.latest ≡ l.fn.self.latest) × (l.self.plan ≡ l.fn.self.plan)
