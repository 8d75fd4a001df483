use Rattle.std.proofs.Common.{◌≡◌, length}
use Rattle.cf_timed.specs.Clocks.{clocked}
use Rattle.cf_timed.specs.DueMoves.{AreDue, still_due}
use Rattle.cf_timed.proofs.clock.Clock.first_kept.Given as goal

-- what is kept is right, and none of those that are still due was left out
abbrev pub invariant-loop-mv : goal.invariant-loop-mv
invariant-loop-mv l = AreDue l.core.plan (clocked l.self l.core.state) l.kept × (still_due l.self l.kept ≡ still_due l.self l.fn.kept)

abbrev pub decreases-loop-mv : goal.decreases-loop-mv
decreases-loop-mv l = length l.kept.moves
