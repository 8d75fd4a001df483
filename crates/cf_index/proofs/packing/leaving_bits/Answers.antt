use Rattle.std.proofs.Common.{◌∙◌, ◌+◌, ◌*◌, ◌≤◌, Bool, false, true, ℕ, ap, arith}
use mir.Val.{bool_byte}
use Rattle.cf_index.specs.Packed.{packed_from}
use Rattle.cf_index.proofs.PackedWords.{few_recovers, idle_joined, leaving_joined}
use Rattle.cf_index.proofs.Rows.{recover-stages}
use Rattle.cf_index.proofs.packing.leaving_bits.Goals as goal

flag_small : (b : Bool) → bool_byte b ≤ 1
flag_small true = omega arith
flag_small false = omega arith

pub eight_then-requires-clause-stages : goal.eight_then-requires-clause-stages
eight_then-requires-clause-stages c =
    few_recovers c.args.core.now.plan c.args.core.now.state c.open_masks-masks.result c.open_masks-masks.ensures c.requires.few

pub returns-then-idle-clause-moves : goal.returns-then-idle-clause-moves
returns-then-idle-clause-moves c =
    idle_joined c.args.core.now.plan c.args.core.now.state c.end_bits-ends.result (c.requires.idle c.if-idle.true) c.end_bits-ends.ensures.moves

pub returns-else-idle-clause-moves : goal.returns-else-idle-clause-moves
returns-else-idle-clause-moves c =
    let plan = c.args.core.now.plan in
    let s = c.args.core.now.state in
    let m = c.open_masks-masks.result in
    let few : plan.stages ≤ 32 = omega (arith, c.requires.few) in
    ap (packed_from 52 12) (c.flag_then.ensures ∙ ap (λ (w : ℕ). bool_byte c.may_access-access.result + 2 * w) c.eight_then.ensures)
    ∙ leaving_joined plan s c.may_access-access.result m.recover c.end_bits-ends.result few
    (few_recovers plan s m c.open_masks-masks.ensures c.requires.few) c.may_access-access.ensures (recover-stages plan s m c.open_masks-masks.ensures)
    c.end_bits-ends.ensures.moves

pub returns-else-idle-clause-bits : goal.returns-else-idle-clause-bits
returns-else-idle-clause-bits c =
    let small = few_recovers c.args.core.now.plan c.args.core.now.state c.open_masks-masks.result c.open_masks-masks.ensures c.requires.few in
    let flag = flag_small c.may_access-access.result in
    let ends = c.end_bits-ends.ensures.bits in
    let eight = c.eight_then.ensures in
    let all = c.flag_then.ensures in
    omega (arith, small, flag, ends, eight, all)
