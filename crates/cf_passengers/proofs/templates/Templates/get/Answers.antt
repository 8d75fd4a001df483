-- The template in the place of the address is that of what is fetched there.
use Rattle.std.proofs.Common.{◌∙◌, List, IsTrue, subst, sym}
use Rattle.cf_passengers.specs.Templates.{AreTemplates, has_template}
use Rattle.cf_passengers.specs.declared.templates.Template.{Template}
use Rattle.cf_passengers.proofs.FromTemplates.{template-found}
use Rattle.cf_passengers.proofs.templates.Templates.get.Goals as goal

pub returns-then-has-clause-found : goal.returns-then-has-clause-found
returns-then-has-clause-found c = λ isa mem kept.
    let here = subst (AreTemplates isa mem) (sym c.self.view_is) kept in
    let has = subst (λ (ts : List Template). IsTrue (has_template ts c.args.pc)) (sym c.self.view_is) (sym c.has.ensures.has ∙ c.if-has.true) in
    template-found isa mem c.self.inside.places.items c.place_of.result c.args.pc c.index.result.now c.index.ensures c.place_of.ensures.place here has
    c.self.invariant c.ranges.pc.fits
