use Rattle.std.proofs.Common.{◌≡◌, ◌∙◌, ◌≤◌, Bool, false, true, length, nat_lt, ap, arith}
use Rattle.std.specs.Prelude.{nat_eq, not}
use Rattle.std.proofs.lemmas.Bool.Decides.{nat_tests}
use Rattle.cf_index.proofs.Rows.{emit_allowed}
use Rattle.cf_index.proofs.pipe_ends.emits_among.Goals as goal

pub returns-then-lane_len-ne0 : goal.returns-then-lane_len-ne0
returns-then-lane_len-ne0 c =
    let plan = c.args.core.now.plan in
    let s = c.args.core.now.state in
    let some : 1 ≤ plan.stages = c.know_stages.ensures.some in
    let count = c.lane_len.ensures.count in
    let other = c.if-lane_len-ne0.true in
    let asked : nat_lt 0 (length s.lane) ≡ true = grind (arith, nat_tests) in
    let allowed = emit_allowed plan s c.args.masks.now c.requires.on c.requires.masks (c.know_stages.ensures.cells) some in
    ap (λ (b : Bool). not b) c.has_top.ensures ∙ rw asked at allowed

pub returns-else-lane_len-ne0 : goal.returns-else-lane_len-ne0
returns-else-lane_len-ne0 c =
    let plan = c.args.core.now.plan in
    let s = c.args.core.now.state in
    let some : 1 ≤ plan.stages = c.know_stages.ensures.some in
    let count = c.lane_len.ensures.count in
    let none = c.if-lane_len-ne0.false in
    let asked : nat_lt 0 (length s.lane) ≡ false = grind (arith, nat_tests) in
    let off : not (nat_eq c.lane_len.result 0) ≡ false = grind (arith, nat_tests) in
    let allowed = emit_allowed plan s c.args.masks.now c.requires.on c.requires.masks (c.know_stages.ensures.cells) some in
    off ∙ rw asked at allowed
