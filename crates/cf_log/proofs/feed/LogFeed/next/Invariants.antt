use Rattle.std.proofs.Common.{◌≡◌, ◌-◌, ◌++◌, ℕ, List, length}
use Rattle.std.specs.Prelude.{◌⊎◌, []}
use Rattle.rv_machine.specs.Streams.{GivesInput}
use Rattle.cf_log.specs.Cutting.{IsLogPiece}
use Rattle.cf_log.proofs.Holding.{Takes}
use Rattle.cf_log.proofs.feed.LogFeed.next.Given as goal

-- some bytes were taken, because no line feed was left
abbrev pub invariant-loop-self : goal.invariant-loop-self
invariant-loop-self g l =
    let left = g.S.Source.left in
    record {
      takes : Takes (left l.initial.log) (left l.log) l.initial.self.rest l.self.rest;
      still : g.S.Source.faults l.log ≡ g.S.Source.faults l.initial.log;
    }

abbrev pub decreases-loop-self : goal.decreases-loop-self
decreases-loop-self g l = 514 - length l.self.rest
