use Rattle.std.proofs.Common.{◌∙◌, Bool, ap, nat_eq, nat_lt}
use Rattle.std.specs.Prelude.{◌&&◌, ◌||◌, not}
use Rattle.cf_layout.specs.Words.{has_bit}
use Rattle.cf_index.proofs.LeftFalls.{left_falls}
use Rattle.cf_index.proofs.stage_kinds.FallKindStageKind.left_after.Goals as goal

pub returns : goal.returns
returns c = λ old a processor made.
    let w = c.args.left in
    let i = c.args._stage in
    left_falls c.args.core.now.plan old c.args.core.now.state c.open_masks-masks.result a w c.with_next.result i processor made c.requires
    c.open_masks-masks.ensures c.know_stages.ensures.cells
    (λ k. c.with_next.ensures i k made.lowest
    ∙ ap (λ (b : Bool). (has_bit w k && not (nat_lt k i)) || (nat_eq k i && b)) (c.resting.ensures k))
