use Rattle.std.proofs.Common.{sym, ◌∙◌}
use Rattle.mem_regions.proofs.Parts.{overlap_here, overlap_after}
use Rattle.mem_regions.proofs.refusal.check_overlaps.Goals as goal

pub returns-in-Some : goal.returns-in-Some
returns-in-Some c = overlap_here c.args.parts.now c.loop-second.second _ c.in-Some.first c.loop-second-test.true c.loop-second.invariant c.in-Some.ensures.index

pub loop-second-preserved : goal.loop-second-preserved
loop-second-preserved c = overlap_after c.args.parts.now c.loop-second.second _ c.loop-second-test.true c.loop-second.invariant
    (sym c.first_to_overlap.ensures.index ∙ c.in_default.is)
