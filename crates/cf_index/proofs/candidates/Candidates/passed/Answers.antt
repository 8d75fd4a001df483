use Rattle.std.proofs.Common.{◌<◌, ◌∙◌, sym, ap, arith}
use Rattle.cf_bind.specs.declared.moves.Move.{Move}
use Rattle.cf_index.specs.Listed.{slides_of}
use Rattle.cf_index.specs.Order.{kind_place, passed_moves}
use Rattle.cf_index.proofs.PassedAll.{passed_entering, passed_passing, passed_sliding, passed_leaving}
use Rattle.cf_index.proofs.candidates.Candidates.passed.Goals as goal

pub returns-in-Issue : goal.returns-in-Issue
returns-in-Issue c =
    let i = c.self.inside in
    let before : kind_place c.args.last < 2 = grind arith in
    c.passed.ensures.count ∙ sym (passed_entering i.entering i.passing i.slides i.leaving c.args.last before) ∙ ap (passed_moves c.args.last) c.self.view_is

pub returns-in-Climb : goal.returns-in-Climb
returns-in-Climb c =
    let i = c.self.inside in
    let after : 1 < kind_place c.args.last = grind arith in
    let before : kind_place c.args.last < 8 = grind arith in
    let e = sym (ap (passed_moves c.args.last) c.self.view_is) ∙ passed_passing i.entering i.passing i.slides i.leaving c.args.last after before in
    omega (arith, e)

pub returns-in-Slide : goal.returns-in-Slide
returns-in-Slide c =
    let i = c.self.inside in
    let after : 7 < kind_place c.args.last = grind arith in
    let before : kind_place c.args.last < 9 = grind arith in
    let e = sym (ap (passed_moves c.args.last) c.self.view_is) ∙ passed_sliding i.entering i.passing i.slides i.leaving c.args.last after before in
    let same = ap (λ (mv : Move). passed_moves mv (slides_of i.slides)) c.in-Slide.is in
    omega (arith, e, same)

pub returns-in-Access : goal.returns-in-Access
returns-in-Access c =
    let i = c.self.inside in
    let after : 8 < kind_place c.args.last = grind arith in
    let e = sym (ap (passed_moves c.args.last) c.self.view_is) ∙ passed_leaving i.entering i.passing i.slides i.leaving c.args.last after in
    omega (arith, e)
