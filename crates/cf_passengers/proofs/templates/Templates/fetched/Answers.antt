-- The instruction of the template is what is fetched at the address.
use Rattle.std.proofs.Common.{◌≡◌, Option, Some, subst, sym}
use Rattle.std.specs.Prelude.{IfSome}
use Rattle.cf_semantics.specs.moves.Instructions.{fetched}
use Rattle.cf_passengers.specs.Templates.{kept_for}
use Rattle.cf_passengers.specs.declared.templates.Template.{Template}
use Rattle.cf_passengers.proofs.FromTemplates.{kept-got}
use Rattle.cf_passengers.proofs.templates.Templates.fetched.Goals as goal

pub returns-in-Some : goal.returns-in-Some
returns-in-Some c =
    let there = fetched c.args.isa c.args.mem.now c.args.pc in
    let found = subst (λ (o : Option Template). IfSome o (λ t. Some t ≡ kept_for c.args.pc there)) c.in-Some.is
    (c.get.ensures.found c.args.isa c.args.mem.now c.requires) in
    sym (kept-got c.args.pc there c.in-Some.template found)
