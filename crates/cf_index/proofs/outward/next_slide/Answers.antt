use Rattle.std.proofs.Common.{◌<◌, ◌∙◌, arith}
use Rattle.cf_index.specs.Order.{slide_place}
use Rattle.cf_index.proofs.Ranks.{early_slides, late_slides}
use Rattle.cf_index.proofs.outward.next_slide.Goals as goal

pub returns-then-last-lt-SLIDE-clause-first : goal.returns-then-last-lt-SLIDE-clause-first
returns-then-last-lt-SLIDE-clause-first c = λ other.
    c.first_slide.ensures.first ∙ early_slides c.args.core.now.plan c.args.core.now.state c.args.last c.slides.result (omega arith) c.slides.ensures

pub returns-else-last-lt-SLIDE-clause-first : goal.returns-else-last-lt-SLIDE-clause-first
returns-else-last-lt-SLIDE-clause-first c = λ other.
    let late : slide_place < c.args.last.kind = grind (arith, other) in
    late_slides c.args.core.now.plan c.args.core.now.state c.args.last late
