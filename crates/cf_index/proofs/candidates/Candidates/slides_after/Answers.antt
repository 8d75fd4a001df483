use Rattle.std.proofs.Common.{◌≤◌, sym, subst, Some, arith}
use Rattle.std.proofs.lemmas.Bool.Decides.{nat_tests}
use Rattle.cf_bind.specs.declared.moves.Move.{Move}
use Rattle.cf_index.specs.PickedFrom.{IsPickedFrom, from_access}
use Rattle.cf_index.proofs.PickedFrom.{slid_on}
use Rattle.cf_index.proofs.candidates.Candidates.slides_after.Goals as goal

pub returns-in-Slide : goal.returns-in-Slide
returns-in-Slide c = λ rule held none.
    let plan = c.args.core.now.plan in
    let s = c.args.core.now.state in
    let few : c.count.result ≤ c.passed_slides.result = grind (arith, nat_tests, none) in
    subst (λ (mv : Move). IsPickedFrom rule held plan s (Some mv) (from_access plan s)) (sym c.in-Slide.is)
    (slid_on rule held plan s c.slides-word.result c.in-Slide.k c.in-Slide.c c.passed_slides.result c.count.result c.slides-word.ensures
    c.passed_slides.ensures.count c.count.ensures.numbers few)
