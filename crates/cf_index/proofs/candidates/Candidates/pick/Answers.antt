use Rattle.std.proofs.Common.{◌∙◌, ◌++◌, sym}
use Rattle.cf_index.specs.Listed.{entering_moves, passing_moves, slides_of, leaving_moves}
use Rattle.cf_index.proofs.Parts.{here, beyond, of_slides, rest_below, length-slides_of}
use Rattle.cf_index.proofs.candidates.Candidates.pick.Goals as goal

pub get-requires-else-i-slides : goal.get-requires-else-i-slides
get-requires-else-i-slides c =
    let i = c.self.inside in
    rest_below (slides_of i.slides) (leaving_moves i.leaving) _ _ (c.count-slides.ensures.numbers ∙ sym (length-slides_of i.slides)) c.if-i-slides.false (
    rest_below (passing_moves i.passing) (slides_of i.slides ++ leaving_moves i.leaving) _ _ c.len-passing.ensures.count c.if-i-passing.false (
    rest_below (entering_moves i.entering) (passing_moves i.passing ++ (slides_of i.slides ++ leaving_moves i.leaving)) _ _ c.len-entering.ensures.count
    c.if-i-entering.false
    (rw (c.self.view_is) c.requires)))

pub returns-then-i-slides : goal.returns-then-i-slides
returns-then-i-slides c =
    let i = c.self.inside in
    rw (← c.self.view_is) (
    beyond (entering_moves i.entering) _ _ _ _ c.len-entering.ensures.count c.if-i-entering.false (
    beyond (passing_moves i.passing) _ _ _ _ c.len-passing.ensures.count c.if-i-passing.false (
    here (slides_of i.slides) _ _ _ (of_slides i.slides _ _ c.nth-place.ensures.number))))

pub returns-else-i-slides : goal.returns-else-i-slides
returns-else-i-slides c =
    let i = c.self.inside in
    rw (← c.self.view_is) (
    beyond (entering_moves i.entering) _ _ _ _ c.len-entering.ensures.count c.if-i-entering.false (
    beyond (passing_moves i.passing) _ _ _ _ c.len-passing.ensures.count c.if-i-passing.false (
    beyond (slides_of i.slides) _ _ _ _ (c.count-slides.ensures.numbers ∙ sym (length-slides_of i.slides)) c.if-i-slides.false
    c.get-else-i-slides.ensures)))
