use Rattle.std.proofs.Common.{◌∙◌, refl, sym, ap, Bool, false}
use Rattle.std.specs.Prelude.{not}
use Rattle.cf_index.specs.Allowed.{is_running}
use Rattle.cf_index.proofs.Rows.{lowest_rider}
use Rattle.cf_index.proofs.StartsOver.{none_taken, none_waiting}
use Rattle.cf_timed.proofs.soonest.issues_none.Goals as goal

pub returns-in-Running : goal.returns-in-Running
returns-in-Running c = λ rule held there.
    none_taken rule c.args.core.now.plan c.args.core.now.state held (not c.has_bit.result)
    (ap not (c.has_bit.ensures ∙ lowest_rider c.args.core.now.plan c.args.core.now.state c.masks-masks.result c.masks-masks.ensures
    c.layout-layout.ensures.facts.stages)) (ap (λ (b : Bool). not (not b)) there)

pub returns-in-Waiting : goal.returns-in-Waiting
returns-in-Waiting c = λ rule held there.
    none_waiting rule c.args.core.now.plan c.args.core.now.state held false (ap is_running (sym c.in-Waiting.is ∙ c.fetch.ensures)) refl
