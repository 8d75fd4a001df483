use Rattle.std.proofs.Common.{◌∙◌, Bool, ap}
use Rattle.std.specs.Prelude.{not}
use Rattle.cf_index.proofs.Rows.{lowest_rider}
use Rattle.cf_index.proofs.plainly.is_lowest_free.Goals as goal

pub returns : goal.returns
returns c =
    ap (λ (b : Bool). not b)
    (c.has_bit.ensures ∙ lowest_rider c.args.core.now.plan c.args.core.now.state c.masks-masks.result c.masks-masks.ensures (c.know_stages.ensures.cells))
