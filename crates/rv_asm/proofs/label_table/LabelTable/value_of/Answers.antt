use Rattle.std.proofs.Common.{◌≡◌, Some, arith, rules, sym, ap, ◌∙◌}
use Rattle.rv_asm.specs.LabelTables.{index_of_name}
use Rattle.rv_asm.specs.Labels.{value_of_label}
use Rattle.rv_asm.proofs.Found.{kept_value, place_within}
use Rattle.rv_asm.proofs.label_table.LabelTable.value_of.Goals as goal

pub index-requires : goal.index-requires
index-requires c =
    let told : index_of_name c.self.inside.places c.args.name.now ≡ Some c.in-Some.place.now = search rules in
    let within = place_within _ (index_of_name c.self.inside.places) _ _ c.self.invariant told in
    omega (arith, c.self.inside.list.ok.0)

pub returns-in-Some : goal.returns-in-Some
returns-in-Some c =
    let told : index_of_name c.self.inside.places c.args.name.now ≡ Some c.in-Some.place.now = search rules in
    sym (ap (λ labels. value_of_label labels c.args.name.now) (sym c.self.view_is)
    ∙ kept_value _ (index_of_name c.self.inside.places) _ _ c.index.result.now c.self.invariant told c.index.ensures)
