-- The template of the address is in its place.
use Rattle.std.proofs.Common.{◌∙◌, ℕ, IsTrue, ap, slice_set, subst, sym}
use Rattle.cf_passengers.specs.Issuing.{meant}
use Rattle.cf_passengers.specs.Templates.{AreTemplates, has_template, kept_for}
use Rattle.cf_passengers.proofs.FromTemplates.{kept-address, template-put, templates-with}
use Rattle.cf_passengers.proofs.templates.Templates.keep.Goals as goal

pub returns-in-Some-clause-has : goal.returns-in-Some-clause-has
returns-in-Some-clause-has c = λ yes.
    let is = sym c.in-Some.is ∙ c.kept.ensures in
    let address = kept-address c.args.pc (meant c.fetched.result) c.in-Some.template is in
    let put = template-put c.self.inside.places.items c.args.pc c.in-Some.template address c.self.invariant in
    subst (λ (k : ℕ). IsTrue (has_template (slice_set c.self.inside.places.items k c.in-Some.template) c.args.pc)) (sym c.place_of.ensures.place) put

pub returns-in-Some-clause-kept : goal.returns-in-Some-clause-kept
returns-in-Some-clause-kept c =
    let is = sym c.in-Some.is ∙ c.kept.ensures in
    let address = kept-address c.args.pc (meant c.fetched.result) c.in-Some.template is in
    let kept = subst (AreTemplates c.args.isa c.args.mem.now) (sym c.self.view_is) c.requires in
    templates-with c.args.isa c.args.mem.now c.self.inside.places.items c.place_of.result c.args.pc c.in-Some.template address
    (is ∙ ap (kept_for c.args.pc) c.fetched.ensures.fetched) kept
