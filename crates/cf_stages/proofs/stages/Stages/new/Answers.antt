-- No bit is set.
use Rattle.cf_stages.proofs.Empty.{empty-are, filled}
use Rattle.cf_stages.proofs.stages.Stages.new.Goals as goal

pub invariant_of-result : goal.invariant_of-result
invariant_of-result c =
    empty-are _ _ c.args.count _ _ c.requires.few c.requires.most
    (filled c.args.count _ _ _ _ c.new-passengers.ensures.items c.new-passengers.ensures.len c.in_ok-resize.ensures.items)
    (filled c.args.count _ _ _ _ c.new-packets.ensures.items c.new-packets.ensures.len c.in_ok-resize-2.ensures.items)
