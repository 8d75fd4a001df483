use Rattle.std.proofs.Common.{◌≡◌, Some, arith, rules, sym, ap, ◌∙◌}
use Rattle.rv_asm.specs.LabelTables.{index_of_name}
use Rattle.rv_asm.specs.Labels.{exported}
use Rattle.rv_asm.proofs.Found.{kept_exported, kept_names, place_within}
use Rattle.rv_asm.proofs.label_table.LabelTable.export.Goals as goal

pub index_mut-requires : goal.index_mut-requires
index_mut-requires c =
    let told : index_of_name c.self.inside.places c.args.name.now ≡ Some c.in-Some.place.now = search rules in
    let within = place_within _ (index_of_name c.self.inside.places) _ _ c.self.invariant told in
    omega (arith, c.self.inside.list.ok.0)

pub invariant_of-self : goal.invariant_of-self
invariant_of-self c =
    let told : index_of_name c.self.inside.places c.args.name.now ≡ Some c.in-Some.place.now = search rules in
    kept_names _ (index_of_name c.self.inside.places) _ _ c.index_mut.result.now c.self.invariant told c.index_mut.ensures.value

pub returns-in-Some : goal.returns-in-Some
returns-in-Some c =
    let told : index_of_name c.self.inside.places c.args.name.now ≡ Some c.in-Some.place.now = search rules in
    sym (ap (λ labels. exported labels c.args.name.now) (sym c.self.view_is)
    ∙ kept_exported _ (index_of_name c.self.inside.places) _ _ c.index_mut.result.now c.self.invariant told c.index_mut.ensures.value)
