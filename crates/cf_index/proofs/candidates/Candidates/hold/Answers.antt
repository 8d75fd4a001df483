use Rattle.std.proofs.Common.{◌∙◌, sym, ap}
use Rattle.cf_semantics.specs.moves.Candidates.{held_back}
use Rattle.cf_index.specs.Listed.{entering_moves, passing_moves, slides_of, leaving_moves}
use Rattle.cf_index.proofs.Parts.{length-slides_of}
use Rattle.cf_index.proofs.Held.{holds_others, holds_alone, others_after}
use Rattle.cf_index.proofs.candidates.Candidates.hold.Goals as goal

pub returns-then-len-count-gt0 : goal.returns-then-len-count-gt0
returns-then-len-count-gt0 c =
    let i = c.self.inside in
    holds_others (entering_moves i.entering) (entering_moves c.others-others.result) (passing_moves i.passing) (slides_of i.slides)
    (leaving_moves i.leaving) _ _ _ _
    c.others-others.ensures (others_after i.passing i.slides i.leaving) c.len.ensures.count c.len-2.ensures.count (c.count.ensures.numbers
    ∙ sym (length-slides_of i.slides)) c.len-3.ensures.count c.if-len-count-gt0.true
    ∙ ap held_back c.self.view_is

pub returns-else-len-count-gt0 : goal.returns-else-len-count-gt0
returns-else-len-count-gt0 c =
    let i = c.self.inside in
    sym c.self.view_is ∙ holds_alone (entering_moves i.entering) (entering_moves c.others-others.result) (passing_moves i.passing) (slides_of i.slides)
    (leaving_moves i.leaving) _ _ _ _
    c.others-others.ensures (others_after i.passing i.slides i.leaving) c.len.ensures.count c.len-2.ensures.count (c.count.ensures.numbers
    ∙ sym (length-slides_of i.slides)) c.len-3.ensures.count c.if-len-count-gt0.false
    ∙ ap held_back c.self.view_is
