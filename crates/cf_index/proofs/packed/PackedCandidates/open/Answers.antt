use Rattle.std.proofs.Common.{refl}
use Rattle.cf_index.proofs.PackedWords.{offered}
use Rattle.cf_index.proofs.packed.PackedCandidates.open.Goals as goal

pub returns : goal.returns
returns c =
    offered c.args.held _ c.args.rule c.args.core.now.plan c.args.core.now.state c.unheld_issues-issues.result c.others-others.result
    c.slides_unless-slides.result c.unheld_issues-issues.ensures.bits c.others-others.ensures.bits c.slides_unless-slides.type_inv refl
    c.unheld_issues-issues.ensures.moves c.others-others.ensures.stages c.others-others.ensures.leaving c.slides_unless-slides.ensures
