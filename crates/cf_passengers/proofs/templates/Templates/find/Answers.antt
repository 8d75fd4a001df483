-- The template in the place of the address is its template.
use Rattle.std.proofs.Common.{◌∙◌, List, IsTrue, subst, sym}
use Rattle.cf_semantics.specs.moves.Instructions.{fetched}
use Rattle.cf_passengers.specs.Templates.{AreTemplates, has_template, kept_for}
use Rattle.cf_passengers.specs.declared.templates.Template.{Template}
use Rattle.cf_passengers.proofs.FromTemplates.{template-found, template-none}
use Rattle.cf_passengers.proofs.templates.Templates.find.Goals.{then-comes_to_have, else-comes_to_have}
use Rattle.cf_passengers.proofs.templates.Templates.find.Goals as goal

pub returns-clause-found : goal.returns-clause-found
returns-clause-found c =
    let isa = c.args.isa in
    let mem = c.args.mem.now in
    let pc = c.args.pc in
    let kept = subst (AreTemplates isa mem) (sym c.self.view_is) c.comes_to_have.ensures.kept in
    elim c.if-comes_to_have.branch [
      | then-comes_to_have w ↦
          let has = subst (λ (ts : List Template). IsTrue (has_template ts pc)) (sym c.self.view_is) (c.comes_to_have.ensures.has w.if-comes_to_have.true) in
          w.result-is ∙ template-found isa mem c.self.inside.places.items w.place_of.result pc w.index.result.now w.index.ensures w.place_of.ensures.place kept
          has c.self.invariant c.ranges.pc.fits
      | else-comes_to_have w ↦
          w.result-is ∙ template-none (kept_for pc (fetched isa mem pc)) (sym w.if-comes_to_have.false ∙ c.comes_to_have.ensures.found)
    ]
