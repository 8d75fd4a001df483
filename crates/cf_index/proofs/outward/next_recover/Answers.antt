use Rattle.std.proofs.Common.{◌≤◌, ◌∙◌, ◌∷◌, ◌++◌, [], List, ap, sym}
use Rattle.std.specs.Prelude.{filter, find}
use Rattle.std.proofs.lemmas.List.Elements.{filter-append}
use Rattle.cf_bind.specs.declared.moves.Move.{Move}
use Rattle.cf_bind.specs.declared.moves.Move.TheVariants.{Recover, Leave, Exit, Serve}
use Rattle.cf_semantics.specs.moves.Candidates.{at_stages}
use Rattle.cf_index.specs.Allowed.{is_allowed}
use Rattle.cf_index.specs.Ranks.{is_past}
use Rattle.cf_index.proofs.Filled.{stages_chosen}
use Rattle.cf_index.proofs.Ranks.{word_gone, word_here}
use Rattle.cf_index.proofs.Rows.{recover-stages}
use Rattle.cf_index.proofs.outward.next_recover.Goals as goal

pub returns-in-Some : goal.returns-in-Some
returns-in-Some c =
    let plan = c.args.core.now.plan in
    let s = c.args.core.now.state in
    let q = is_allowed plan s in
    let ends = Leave ∷ Exit ∷ Serve ∷ [] in
    let few : plan.stages ≤ 32 = c.know_stages.ensures.few in
    let chosen = stages_chosen plan s Recover c.args.masks.now.recover few (recover-stages plan s c.args.masks.now c.requires) in
    word_here c.args.last Recover c.args.masks.now.recover c.after.result c.in-Some.k (filter q ends) c.after.ensures (sym c.in-Some.is
    ∙ c.lowest.ensures.number)
    ∙ ap (λ (l : List Move). find (is_past c.args.last) (l ++ filter q ends)) chosen ∙ ap (find (is_past c.args.last))
    (sym (filter-append q (at_stages plan Recover) ends))

pub returns-in-None : goal.returns-in-None
returns-in-None c =
    let plan = c.args.core.now.plan in
    let s = c.args.core.now.state in
    let q = is_allowed plan s in
    let ends = Leave ∷ Exit ∷ Serve ∷ [] in
    let few : plan.stages ≤ 32 = c.know_stages.ensures.few in
    let chosen = stages_chosen plan s Recover c.args.masks.now.recover few (recover-stages plan s c.args.masks.now c.requires) in
    c.next_leave.ensures ∙ word_gone c.args.last Recover c.args.masks.now.recover c.after.result (filter q ends) c.after.ensures (sym c.in-None.is
    ∙ c.lowest.ensures.number)
    ∙ ap (λ (l : List Move). find (is_past c.args.last) (l ++ filter q ends)) chosen ∙ ap (find (is_past c.args.last))
    (sym (filter-append q (at_stages plan Recover) ends))
